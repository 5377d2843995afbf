-- One step down a topology along an address, and the test of a prefix.
use Rattle.mapcheck_core.proofs.Prelude.{◌≡◌, sym, List, ℕ, subst, ◌∙◌, ap, [], refl, map, arith, ◌∷◌, None, inr, ◌<◌, false, length, true, ◌≤◌, inl, get_or, suc, zero, ltb, Global, Vec, eqb, cases_Bool, ltb-true, ltb-false, starts_with, topology, Topo, Topology, Address, trees_of, subtree, subtree_in, is_prefix}
use Rattle.tree_core.specs.declared.topo.Topo.TheViews as views
use Rattle.tree_core.proofs.NewTrees.{topology_inner}
use Rattle.tree_core.proofs.AddressSteps.{rest, rest-is}

child_at : (xs : List Topo) (i : ℕ) (x : Topo) (a : Address) → i < length xs → x ≡ get_or xs i x → subtree_in (trees_of (map topology xs)) i a ≡ subtree (topology x) a
child_at [] i x a l e = absurd (omega arith)
child_at (y ∷ xs) zero x a l e = ap (λ (z : Topo). subtree (topology z) a) (sym e)
child_at (y ∷ xs) (suc i) x a l e = child_at xs i x a (omega arith) e

child_past : (xs : List Topo) (i : ℕ) (a : Address) → length xs ≤ i → subtree_in (trees_of (map topology xs)) i a ≡ None
child_past [] i a l = refl
child_past (y ∷ xs) zero a l = absurd (omega arith)
child_past (y ∷ xs) (suc i) a l = child_past xs i a (omega arith)

step_at : (t : Topo) (v : Vec Topo Global) (x : Topo) (address : Address) → t ≡ views.Inner v → 1 ≤ length address → get_or address 0 0 < length v.items → x ≡ get_or v.items (get_or address 0 0) x → subtree (topology t) address ≡ subtree (topology x) (rest address)
step_at t v x [] p n l e = absurd (omega arith)
step_at t v x (i ∷ a) p n l e = ap (λ (z : Topology). subtree z (i ∷ a)) (topology_inner t v p) ∙ child_at v.items i x a l e ∙ ap (subtree (topology x)) (sym (rest-is (i ∷ a)))

step_past : (t : Topo) (v : Vec Topo Global) (address : Address) → t ≡ views.Inner v → 1 ≤ length address → length v.items ≤ get_or address 0 0 → subtree (topology t) address ≡ None
step_past t v [] p n l = absurd (omega arith)
step_past t v (i ∷ a) p n l = ap (λ (z : Topology). subtree z (i ∷ a)) (topology_inner t v p) ∙ child_past v.items i a l

pub next_step : (t : Topo) (v : Vec Topo Global) (xs : List Topo) (x : Topo) (address : Address) → t ≡ views.Inner v → xs ≡ v.items → 1 ≤ length address → true ≡ ltb (get_or address 0 0) (length xs) → x ≡ get_or xs (get_or address 0 0) x → subtree (topology t) address ≡ subtree (topology x) (rest address)
next_step t v xs x address p q n l e = step_at t v x address p n (subst (λ (z : List Topo). get_or address 0 0 < length z) q (ltb-true _ _ (sym l))) (subst (λ (z : List Topo). x ≡ get_or z (get_or address 0 0) x) q e)

pub no_step : (t : Topo) (v : Vec Topo Global) (xs : List Topo) (address : Address) → t ≡ views.Inner v → xs ≡ v.items → 1 ≤ length address → false ≡ ltb (get_or address 0 0) (length xs) → subtree (topology t) address ≡ None
no_step t v xs address p q n l = step_past t v address p n (subst (λ (z : List Topo). length z ≤ get_or address 0 0) q (ltb-false _ _ (sym l)))

pub prefix_is : (a b : Address) → starts_with eqb b a ≡ is_prefix a b
prefix_is [] b = refl
prefix_is (x ∷ a) [] = refl
prefix_is (x ∷ a) (y ∷ b) =
    elim (cases_Bool (eqb x y)) [
      | inl t ↦ rw t (prefix_is a b)
      | inr t ↦ rw t refl
    ]
