use Rattle.tree_graph.proofs.Prelude.{arith, ℕ, length, ap, sym, subst, ◌∙◌, topology, lists, IsWithin, HasRoom}
use Rattle.tree_graph.proofs.MarkLemmas.{length-lists}
use Rattle.tree_graph.proofs.NodesOnce.{room-root}
use Rattle.tree_graph.proofs.WholeTree.{shallow-root, grown-whole, sound, all-there, all-once}
use Rattle.tree_graph.proofs.preorder.Preorder.new.Goals as goal

pub grow-requires-clause-shallow : goal.grow-requires-clause-shallow
grow-requires-clause-shallow c =
    subst (λ (n : ℕ). IsWithin (lists c.args.graph.now) c.args.root 64 n) (sym (ap length c.new-address.ensures.items))
    (shallow-root (lists c.args.graph.now) c.args.root c.requires.forest (λ a within. c.requires.shallow a (omega (arith, within, length-lists c.args.graph.now))))

pub grow-requires-clause-room : goal.grow-requires-clause-room
grow-requires-clause-room c =
    subst (λ (n : ℕ). HasRoom (lists c.args.graph.now) c.args.root n (length c.args.graph.now)) (sym (ap length c.new-places.ensures.items))
    (subst (λ (n : ℕ). HasRoom (lists c.args.graph.now) c.args.root 0 n) (length-lists c.args.graph.now) (room-root (lists c.args.graph.now) c.args.root c.requires.forest))

pub invariant_of-result : goal.invariant_of-result
invariant_of-result c =
    sound (lists c.args.graph.now) c.args.root c.grow.new.places.items (topology c.in_ok-topo.topo) c.requires.forest
    (shallow-root (lists c.args.graph.now) c.args.root c.requires.forest (λ a within. c.requires.shallow a (omega (arith, within, length-lists c.args.graph.now))))
    (omega (arith, c.requires.small, length-lists c.args.graph.now))
    (grown-whole (lists c.args.graph.now) c.args.root _ _ c.new-places.result.items c.new-address.result.items c.new-places.ensures.items c.new-address.ensures.items c.in_ok-topo.ensures.grown)

pub returns-clause-count : goal.returns-clause-count
returns-clause-count c =
    all-there (lists c.args.graph.now) c.args.root c.grow.new.places.items (topology c.in_ok-topo.topo) c.requires.forest
    (grown-whole (lists c.args.graph.now) c.args.root _ _ c.new-places.result.items c.new-address.result.items c.new-places.ensures.items c.new-address.ensures.items c.in_ok-topo.ensures.grown) ∙ length-lists c.args.graph.now

pub returns-clause-once : goal.returns-clause-once
returns-clause-once c = λ a within.
    all-once (lists c.args.graph.now) c.args.root c.grow.new.places.items (topology c.in_ok-topo.topo) c.requires.forest
    (grown-whole (lists c.args.graph.now) c.args.root _ _ c.new-places.result.items c.new-address.result.items c.new-places.ensures.items c.new-address.ensures.items c.in_ok-topo.ensures.grown) a (omega (arith, within, length-lists c.args.graph.now))
