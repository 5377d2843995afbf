-- The laws, each proved from its lemmas.
use Rattle.tree_defs.proofs.Prelude.{◌≡◌, Some, ap, ◌∙◌, Topology, after, leaf, Address, LeadsToLeaf, subtree}
use Rattle.tree_defs.specs.Laws.{LeafAddressesLeadToLeaves, PrefixesComeBefore, CompleteTreesHaveAllAddresses, CompleteTreesHaveDeepLeaves, OneShapeIsOneTopology, WellFormedAtEachInnerNode, EmptyTreesAreWellFormed, PushesKeepWellFormed, PopsKeepWellFormed, NothingIsPoppedFromAnEmptyRoot, RootsHaveAnEntryForEachPacket, EmptyTreesHoldNothing, PushesAddOne, PopsTakeOne, PushesKeepTheTopology, PopsKeepTheTopology, PopsLeadToLeaves, PushesAddThePacket, PopsTakeThePacket, PushesPutAtTheLeaf, PopsTakeAtTheLeaf}
use Rattle.tree_defs.proofs.TopologyLaws.{leaf_at, leads_to, after-append, after-is, within_complete, address_of_complete, deep_leaf, leaf_of_complete}
use Rattle.tree_defs.proofs.Shapes.{topology_of-same, same_shape, topology_of-empty, topology_of-push, topology_of-pop, pop-path}
use Rattle.tree_defs.proofs.WellFormedLaws.{IsWellFormed-empty, IsWellFormed-push, IsWellFormed-pop, pop-none, length-root, size-empty, size-push, size-pop}
use Rattle.tree_defs.proofs.NodeWellFormed.{well_formed_at, well_formed_of}
use Rattle.tree_defs.proofs.PacketLaws.{packets-empty, packets-push, packets-pop, values-push, values-pop, queue_at-push, queue_at-push_elsewhere, queue_at-pop, queue_at-pop_elsewhere}

pub leaf_addresses_lead_to_leaves-holds : LeafAddressesLeadToLeaves
leaf_addresses_lead_to_leaves-holds t a = (λ l. stands t a l, λ p. leads_to t a tt p)
  where
    stands : (t : Topology) (a : Address) → LeadsToLeaf t a → subtree t a ≡ Some (leaf tt)
    stands t a l = let at : (u : Unit {0}) × (subtree t a ≡ Some (leaf u)) = leaf_at t a l in at.1

pub prefixes_come_before-holds : PrefixesComeBefore
prefixes_come_before-holds a b c = (after-is a b c, λ e. ap (after a) e ∙ after-append a c)

pub complete_trees_have_all_addresses-holds : CompleteTreesHaveAllAddresses
complete_trees_have_all_addresses-holds arities a = (within_complete arities a, address_of_complete arities a)

pub complete_trees_have_deep_leaves-holds : CompleteTreesHaveDeepLeaves
complete_trees_have_deep_leaves-holds arities a = (deep_leaf arities a, λ h. leaf_of_complete arities a h.0 h.1)

pub one_shape_is_one_topology-holds : OneShapeIsOneTopology
one_shape_is_one_topology-holds t u = (topology_of-same t u, same_shape t u)

pub well_formed_at_each_inner_node-holds : WellFormedAtEachInnerNode
well_formed_at_each_inner_node-holds t = (well_formed_at t, well_formed_of t)

pub empty_trees_are_well_formed-holds : EmptyTreesAreWellFormed
empty_trees_are_well_formed-holds t = IsWellFormed-empty t

pub pushes_keep_well_formed-holds : PushesKeepWellFormed
pushes_keep_well_formed-holds t digits ranks item l w = IsWellFormed-push t digits ranks item l w

pub pops_keep_well_formed-holds : PopsKeepWellFormed
pops_keep_well_formed-holds t r p w = IsWellFormed-pop t r p w

pub nothing_is_popped_from_an_empty_root-holds : NothingIsPoppedFromAnEmptyRoot
nothing_is_popped_from_an_empty_root-holds t w = pop-none t w

pub roots_have_an_entry_for_each_packet-holds : RootsHaveAnEntryForEachPacket
roots_have_an_entry_for_each_packet-holds t w = length-root t w

pub empty_trees_hold_nothing-holds : EmptyTreesHoldNothing
empty_trees_hold_nothing-holds t = (size-empty t, packets-empty t, topology_of-empty t)

pub pushes_add_one-holds : PushesAddOne
pushes_add_one-holds t digits ranks item l = size-push t digits ranks item l

pub pops_take_one-holds : PopsTakeOne
pops_take_one-holds t r p = size-pop t r p

pub pushes_keep_the_topology-holds : PushesKeepTheTopology
pushes_keep_the_topology-holds t digits ranks item = topology_of-push t digits ranks item

pub pops_keep_the_topology-holds : PopsKeepTheTopology
pops_keep_the_topology-holds t r p = topology_of-pop t r p

pub pops_lead_to_leaves-holds : PopsLeadToLeaves
pops_lead_to_leaves-holds t r p = pop-path t r p

pub pushes_add_the_packet-holds : PushesAddThePacket
pushes_add_the_packet-holds t digits ranks item l = (packets-push t digits ranks item l, values-push t digits ranks item l)

pub pops_take_the_packet-holds : PopsTakeThePacket
pops_take_the_packet-holds t r p = (packets-pop t r p, values-pop t r p)

pub pushes_put_at_the_leaf-holds : PushesPutAtTheLeaf
pushes_put_at_the_leaf-holds t digits ranks item l = record { here = queue_at-push t digits ranks item l; elsewhere = λ a n. queue_at-push_elsewhere t digits ranks item a l n }

pub pops_take_at_the_leaf-holds : PopsTakeAtTheLeaf
pops_take_at_the_leaf-holds t r p = record { here = queue_at-pop t r p; elsewhere = λ a n. queue_at-pop_elsewhere t r a p n }
