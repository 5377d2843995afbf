-- The path from the root.
use Rattle.sched_core.proofs.Prelude.{arith, ◌≡◌, ap, ◌∙◌, sym, ℕ, List, subst, Some, [], Option, ◌≤◌, ◌<◌, get_or, slice_get-get_or, slice_get, unwrap_or, Packet, IsAccepted, IsClassReady, IsNumber, Node, Policy, no_marks, max_rank, number_at, address_at, class_ready, IsKnown, class_of, visits_from, Tree, LeadsToLeaf, nodes, part_at, ArePathNodes, AreWays, tree_for, class_for, IsReady, PacketPath, PathNode}
use Rattle.policy_defs.specs.Policy.{Class}
use Rattle.sched_core.specs.declared.path_node.ClassPath.{ClassPath}
use Rattle.sched_core.specs.PathNodes.{IsClassPath}
use Rattle.sched_core.proofs.TreeParts.{root-part, part-known}
use Rattle.sched_core.proofs.Filling.{leaf-numbered}

-- ---- the entries for a packet's class
module _ (policy : Policy) (p : Packet) (known : IsKnown policy p) where
  prepared : IsAccepted policy → IsClassReady policy.tree (class_of policy p)
  prepared accepted = class_ready (IsClassReady policy.tree) (record { marks = no_marks; leaf = [] }) policy.classes p.class accepted.classes known.class

  class-there : slice_get policy.classes p.class ≡ Some (class_of policy p)
  class-there =
      let no_class : Class = record { marks = no_marks; leaf = [] } in
      let there : slice_get policy.classes p.class ≡ Some (get_or policy.classes p.class no_class) = slice_get-get_or policy.classes p.class no_class known.class in
      there ∙ ap Some (sym (ap (λ (o : Option Class). unwrap_or o no_class) there))

  pub path-there : (paths : List ClassPath) (k : ClassPath) → AreWays policy paths → k ≡ get_or paths p.class k → IsClassPath policy (class_of policy p) k
  path-there paths k h is = h.each p.class (class_of policy p) k class-there (slice_get-get_or paths p.class k (omega (arith, known.class, h.count)) ∙ ap Some (sym is))

  pub leaf-leads : IsAccepted policy → (k : ClassPath) → IsClassPath policy (class_of policy p) k → k.leaf < nodes policy.tree × LeadsToLeaf policy.tree (address_at policy.tree k.leaf)
  leaf-leads accepted k path =
      let leads : LeadsToLeaf policy.tree (class_of policy p).leaf = (prepared accepted).leaf_address in
      let n : IsNumber policy.tree (class_of policy p).leaf (number_at policy.tree (class_of policy p).leaf) = leaf-numbered policy.tree (class_of policy p).leaf leads in
      (omega (arith, path.leaf, n.within), subst (LeadsToLeaf policy.tree) (sym (ap (address_at policy.tree) path.leaf ∙ n.address)) leads)

  pub leaf-address : IsAccepted policy → (k : ClassPath) → IsClassPath policy (class_of policy p) k → address_at policy.tree k.leaf ≡ (class_of policy p).leaf
  leaf-address accepted k path = ap (address_at policy.tree) path.leaf ∙ (leaf-numbered policy.tree (class_of policy p).leaf (prepared accepted).leaf_address).address

pub ready : (e : PacketPath) → IsAccepted e.policy.now.policy → IsKnown e.policy.now.policy e.packet.now → e.moment ≤ max_rank
    → (k : ClassPath) → IsClassPath e.policy.now.policy (class_for e) k → e.path_nodes.now ≡ k.nodes.items → IsReady e
ready e accepted known moment k path path_nodes =
    let prepared : IsClassReady (tree_for e) (class_for e) = prepared e.policy.now.policy e.packet.now known accepted in
    record {
      accepted = accepted;
      leads = prepared.leaf_address;
      path_nodes = subst (λ (ss : List PathNode). ArePathNodes (tree_for e) (class_for e) ss) (sym path_nodes) path.nodes;
      marks = prepared.marks;
      len = known.len;
      moment = moment;
    }

-- ---- from the root, the path is the whole one
pub whole-way : (tree : Tree Node) (c : Class) (p : Packet) (moment : ℕ) → visits_from (part_at tree []) [] c.leaf c p moment ≡ visits_from tree [] c.leaf c p moment
whole-way tree c p moment = ap (λ (t : Tree Node). visits_from t [] c.leaf c p moment) (part-known tree [] tree (root-part tree))
