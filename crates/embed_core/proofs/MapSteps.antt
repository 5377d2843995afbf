-- One step down a map, and whether there is room.
use Rattle.embed_core.proofs.Prelude.{◌≡◌, length, arith, sym, ◌∙◌, ap, List, subst, ℕ, ◌<◌, [], refl, ◌≤◌, get_or, ◌∷◌, drop, suc, zero, take, ◌-◌, None, eqb, false, true, eq-eqb, ◌↔◌, take_all, option_map, image_at, HasHeight, branch, trees_of, Address, Tree, root_of, subtree_in, subtree}

pub child-at : (ks : List (Tree Address)) (i : ℕ) (k : Tree Address) (b : Address) → i < length ks → k ≡ get_or ks i k → subtree_in (trees_of ks) i b ≡ subtree k b
child-at [] i k b l e = absurd (omega arith)
child-at (j ∷ ks) zero k b l e = ap (λ (z : Tree Address). subtree z b) (sym e)
child-at (j ∷ ks) (suc i) k b l e = child-at ks i k b (omega arith) e

no-child-at : (ks : List (Tree Address)) (i : ℕ) (b : Address) → length ks ≤ i → subtree_in (trees_of ks) i b ≡ None
no-child-at [] i b l = refl
no-child-at (j ∷ ks) zero b l = absurd (omega arith)
no-child-at (j ∷ ks) (suc i) b l = no-child-at ks i b (omega arith)

pub image-down : (e : Address) (ks : List (Tree Address)) (m k : Tree Address) (b : Address) → branch e (trees_of ks) ≡ m → 1 ≤ length b → get_or b 0 0 < length ks → k ≡ get_or ks (get_or b 0 0) k
    → image_at m b ≡ image_at k (take (length b - 1) (drop 1 b))
image-down e ks m k [] p n l f = absurd (omega arith)
image-down e [] m k (i ∷ b) p n l f = absurd (omega arith)
image-down e (j ∷ ks) m k (i ∷ b) p n l f =
    let t : take (length (i ∷ b) - 1) b ≡ b = take_all (length (i ∷ b) - 1) b (omega arith) in
    ap (λ (z : Tree Address). image_at z (i ∷ b)) (sym p) ∙ ap (option_map root_of) (child-at (j ∷ ks) i k b l f) ∙ ap (image_at k) (sym t)

pub image-out : (e : Address) (ks : List (Tree Address)) (m : Tree Address) (b : Address) → branch e (trees_of ks) ≡ m → 1 ≤ length b → length ks ≤ get_or b 0 0 → image_at m b ≡ None
image-out e ks m [] p n l = absurd (omega arith)
image-out e [] m (i ∷ b) p n l = ap (λ (z : Tree Address). image_at z (i ∷ b)) (sym p)
image-out e (j ∷ ks) m (i ∷ b) p n l =
    ap (λ (z : Tree Address). image_at z (i ∷ b)) (sym p) ∙ rw (no-child-at (j ∷ ks) i b l) refl

pub inner-height : (n h : ℕ) (ks : List (Tree ℕ)) (m : Tree ℕ) → branch n (trees_of ks) ≡ m → 0 < length ks → HasHeight h m ↔ (n ≤ h)
inner-height n h [] m p l = absurd (omega arith)
inner-height n h (k ∷ ks) m p l = (λ r. (subst (HasHeight h) (sym p) r), λ r. subst (HasHeight h) p r)

pub some_child : {X : Type 0} (xs : List X) (n : ℕ) → n ≡ length xs → false ≡ eqb n 0 → 0 < length xs
some_child [] n e f = let g : eqb n 0 ≡ true = eq-eqb n 0 e in cc
some_child (x ∷ xs) n e f = omega arith
