-- A node or leaf that may be an orphan.
use Rattle.policy_rules.proofs.Prelude.{◌∙◌, ap, List, ◌≡◌, sym, false, Bool, true, not, Some, inl, inr, ◌&&◌, ◌⊎◌, option_map_or, bytes_eq, sense_of, Sense, Attrs, Statement, Leaf, Node, root, is_orphan, Name, is_once, node_name}
use Rattle.policy_text_defs.specs.declared.queueing.Queueing.{Queueing}

-- a node or leaf that isn't the root and was counted
pub orphan-counted : (all : List Name) (s : Sense) (a : Name) (differs once : Bool) → node_name s ≡ Some a → differs ≡ not (bytes_eq a root) → once ≡ is_once all a → differs ≡ true
    → not once ≡ is_orphan all s
orphan-counted all s a differs once named told counted was_true =
    ap not counted
    ∙ ap (λ b. b && not (is_once all a)) (sym (sym told ∙ was_true))
    ∙ sym (ap (λ o. option_map_or (λ n. not (bytes_eq n root) && not (is_once all n)) o false) named)

pub named : (s : Statement) (a : Name) → ((u : Name) × (m : Attrs) × (q : Queueing) × (ns : List Name) × (s ≡ Leaf a u m q ns)) ⊎ ((u : Name) × (m : Attrs) × (q : Queueing) × (ns : List Name) × (s ≡ Node a u m q ns)) → node_name (sense_of s) ≡ Some a
named s a (inl (u, m, q, ns, is)) = ap (λ t. node_name (sense_of t)) is
named s a (inr (u, m, q, ns, is)) = ap (λ t. node_name (sense_of t)) is
