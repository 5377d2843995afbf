-- Properties of the node with number 0, which is the root.
use Rattle.library_tests.proofs.Prelude.{arith, ◌≡◌, ◌∙◌, sym, ap, refl, subst, false, ℕ, List, None, Some, [], ◌<◌, Option, IsSomeAnd, is_some, Node, node_at, Program, Span, Address, Tree, inner, leaf, nodes}
use Rattle.policy_defs.specs.declared.limits.Limits.{Limits}
use Rattle.policy_defs.specs.Policy.{no_limits}
use Rattle.policy_core.specs.Numbering.{address_at}

-- the node with number 0 is the root
pub has_a_node : (tree : Tree Node) → 0 < nodes tree
has_a_node (leaf n) = omega arith
has_a_node (inner n ts) = omega arith

root_first : (tree : Tree Node) → address_at tree 0 ≡ []
root_first (leaf n) = refl
root_first (inner n ts) = refl

-- if P holds of the node with number 0, it holds of the root
pub at_root : (tree : Tree Node) (P : Node → Type 0) → IsSomeAnd (node_at tree (address_at tree 0)) P → IsSomeAnd (node_at tree []) P
at_root tree P some = subst (λ (a : Address). IsSomeAnd (node_at tree a) P) (root_first tree) some

pub none_is : {X : Type 0} (o : Option X) → is_some o ≡ false → o ≡ None
none_is None e = refl
none_is (Some x) e = cc

-- if the node with number 0 has no limits, the root has none
pub unlimited_root : (tree : Tree Node) (x : Limits) → IsSomeAnd (node_at tree (address_at tree 0)) (λ n. x ≡ n.limits) → x ≡ no_limits → IsSomeAnd (node_at tree []) (λ n. n.limits ≡ no_limits)
unlimited_root tree x some none_of = by_node (node_at tree []) (at_root tree (λ n. x ≡ n.limits) some)
  where
    by_node : (o : Option Node) → IsSomeAnd o (λ n. x ≡ n.limits) → IsSomeAnd o (λ n. n.limits ≡ no_limits)
    by_node None s = absurd s
    by_node (Some n) e = sym e ∙ none_of

-- the root's program is that of the node with number 0
pub of_root : (tree : Tree Node) (p : Program) (spans : Program → List Span) → IsSomeAnd (node_at tree (address_at tree 0)) (λ n. p ≡ n.program) → spans p ≡ [] → IsSomeAnd (node_at tree []) (λ n. spans n.program ≡ [])
of_root tree p spans some none_of = by_node (node_at tree []) (at_root tree (λ n. p ≡ n.program) some)
  where
    by_node : (o : Option Node) → IsSomeAnd o (λ n. p ≡ n.program) → IsSomeAnd o (λ n. spans n.program ≡ [])
    by_node None s = absurd s
    by_node (Some n) e = sym (ap spans e) ∙ none_of

-- limits of which there is none
pub none_are : (x : Limits) → is_some x.packets ≡ false → is_some x.bytes ≡ false → is_some x.per_flow ≡ false → x ≡ no_limits
none_are x packets bytes per_flow =
    ap (λ (o : Option ℕ). record { packets = o; bytes = x.bytes; per_flow = x.per_flow }) (none_is x.packets packets)
    ∙ ap (λ (o : Option ℕ). record { packets = None; bytes = o; per_flow = x.per_flow }) (none_is x.bytes bytes)
    ∙ ap (λ (o : Option ℕ). record { packets = None; bytes = None; per_flow = o }) (none_is x.per_flow per_flow)
