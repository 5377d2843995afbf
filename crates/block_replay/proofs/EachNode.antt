-- A policy is calm exactly if it is calm at each of its nodes.
use Rattle.block_replay.proofs.Prelude.{refl, ◌≡◌, [], ℕ, ◌∙◌, sym, ◌∷◌, List, Some, ap, subst, suc, zero, true, inl, inr, length, codes, and_parts, and_from, or_cases, list_any, Node, same_name-is, same_name-refl, same_name, IsIn, contains_of, in_of, Address, Tree, Trees, inner, leaf, none, more, subtree, subtree_in, DifferBehind, UsesSteady, CalmAtEachNode, is_spread, all_differ, digits_behind, has_steady_nodes, is_steady, steady, are_spread, have_steady_nodes}
use Rattle.block_replay.proofs.SpreadDigits.{or_later, differ-children, children-differ}

-- ---- names
named_in : (name : List ℕ) (names : List (List ℕ)) → list_any (same_name name) names ≡ true → IsIn name names
named_in name [] e = cc
named_in name (x ∷ names) e = elim (or_cases (same_name name x) (list_any (same_name name) names) e) [
  | inl k ↦ inl (sym (same_name-is name x k))
  | inr k ↦ inr (named_in name names k)
]

in_named : (name : List ℕ) (names : List (List ℕ)) → IsIn name names → list_any (same_name name) names ≡ true
in_named name [] i = absurd i
in_named name (x ∷ names) (inl e) = rw (same (sym e)) refl
  where
    same : name ≡ x → same_name name x ≡ true
    same e = ap (same_name name) (sym e) ∙ same_name-refl name
in_named name (x ∷ names) (inr i) = or_later (same_name name x) (list_any (same_name name) names) (in_named name names i)

fifo_name : (name : List ℕ) → same_name name (codes "fifo") ≡ true → name ≡ codes "fifo"
fifo_name name e = same_name-is name (codes "fifo") e

name_fifo : (name : List ℕ) → name ≡ codes "fifo" → same_name name (codes "fifo") ≡ true
name_fifo name e = ap (same_name name) (sym e) ∙ same_name-refl name

-- ---- nodes
some_node : (t u : Tree Node) → Some t ≡ Some u → t ≡ u
some_node t u e = cc

mutual
  steady-each : (t : Tree Node) → has_steady_nodes t ≡ true → (a : Address) (u : Tree Node) → subtree t a ≡ Some u → UsesSteady u
  steady-each (leaf n) d [] u e = subst UsesSteady (some_node (leaf n) u e) (fifo_name n.using d)
  steady-each (leaf n) d (i ∷ a) u e = cc
  steady-each (inner n ts) d [] u e = subst UsesSteady (some_node (inner n ts) u e) (contains_of n.using steady (named_in n.using steady (and_parts (is_steady n.using) (have_steady_nodes ts) d).0))
  steady-each (inner n ts) d (i ∷ a) u e = steady-each_below ts (and_parts (is_steady n.using) (have_steady_nodes ts) d).1 i a u e

  steady-each_below : (ts : Trees Node) → have_steady_nodes ts ≡ true → (i : ℕ) (a : Address) (u : Tree Node) → subtree_in ts i a ≡ Some u → UsesSteady u
  steady-each_below none d i a u e = cc
  steady-each_below (more t ts) d zero a u e = steady-each t (and_parts (has_steady_nodes t) (have_steady_nodes ts) d).0 a u e
  steady-each_below (more t ts) d (suc i) a u e = steady-each_below ts (and_parts (has_steady_nodes t) (have_steady_nodes ts) d).1 i a u e

mutual
  each-steady : (t : Tree Node) → ((a : Address) (u : Tree Node) → subtree t a ≡ Some u → UsesSteady u) → has_steady_nodes t ≡ true
  each-steady (leaf n) h = name_fifo n.using (h [] (leaf n) refl)
  each-steady (inner n ts) h =
      and_from (is_steady n.using) (have_steady_nodes ts) (in_named n.using steady (in_of n.using steady (h [] (inner n ts) refl))) (each-steady_below ts (λ i a. h (i ∷ a)))

  each-steady_below : (ts : Trees Node) → ((i : ℕ) (a : Address) (u : Tree Node) → subtree_in ts i a ≡ Some u → UsesSteady u) → have_steady_nodes ts ≡ true
  each-steady_below none h = refl
  each-steady_below (more t ts) h = and_from (has_steady_nodes t) (have_steady_nodes ts) (each-steady t (h zero)) (each-steady_below ts (λ i. h (suc i)))

-- ---- images
same_image : (e f : Address) (ts us : Trees Address) → Some (inner e ts) ≡ Some (inner f us) → e ≡ f
same_image e f ts us k = cc

same_children : (e f : Address) (ts us : Trees Address) → Some (inner e ts) ≡ Some (inner f us) → ts ≡ us
same_children e f ts us k = cc

mutual
  spread-each : (m : Tree Address) → is_spread m ≡ true → (a : Address) (e : Address) (us : Trees Address) → subtree m a ≡ Some (inner e us) → DifferBehind (length e) us
  spread-each (leaf f) d [] e us k = cc
  spread-each (leaf f) d (i ∷ a) e us k = cc
  spread-each (inner f ts) d [] e us k =
      subst (λ (z : Address). DifferBehind (length z) us) (same_image f e ts us k) (subst (DifferBehind (length f)) (same_children f e ts us k) (differ-children (length f) ts (and_parts (all_differ (digits_behind (length f) ts)) (are_spread ts) d).0))
  spread-each (inner f ts) d (i ∷ a) e us k = spread-each_below ts (and_parts (all_differ (digits_behind (length f) ts)) (are_spread ts) d).1 i a e us k

  spread-each_below : (ts : Trees Address) → are_spread ts ≡ true → (i : ℕ) (a : Address) (e : Address) (us : Trees Address) → subtree_in ts i a ≡ Some (inner e us) → DifferBehind (length e) us
  spread-each_below none d i a e us k = cc
  spread-each_below (more t ts) d zero a e us k = spread-each t (and_parts (is_spread t) (are_spread ts) d).0 a e us k
  spread-each_below (more t ts) d (suc i) a e us k = spread-each_below ts (and_parts (is_spread t) (are_spread ts) d).1 i a e us k

mutual
  each-spread : (m : Tree Address) → ((a : Address) (e : Address) (us : Trees Address) → subtree m a ≡ Some (inner e us) → DifferBehind (length e) us) → is_spread m ≡ true
  each-spread (leaf f) h = refl
  each-spread (inner f ts) h = and_from (all_differ (digits_behind (length f) ts)) (are_spread ts) (children-differ (length f) ts (h [] f ts refl)) (each-spread_below ts (λ i a. h (i ∷ a)))

  each-spread_below : (ts : Trees Address) → ((i : ℕ) (a : Address) (e : Address) (us : Trees Address) → subtree_in ts i a ≡ Some (inner e us) → DifferBehind (length e) us) → are_spread ts ≡ true
  each-spread_below none h = refl
  each-spread_below (more t ts) h = and_from (is_spread t) (are_spread ts) (each-spread t (h zero)) (each-spread_below ts (λ i. h (suc i)))

pub calm_at_each_node : CalmAtEachNode
calm_at_each_node tree images = (
  λ d. record {
    steady = steady-each tree (and_parts (has_steady_nodes tree) (is_spread images) d).0;
    spread = spread-each images (and_parts (has_steady_nodes tree) (is_spread images) d).1;
  },
  λ h. and_from (has_steady_nodes tree) (is_spread images) (each-steady tree h.steady) (each-spread images h.spread),
)
