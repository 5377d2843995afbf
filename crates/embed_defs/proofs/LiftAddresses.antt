-- Addresses that pass others, and a push along an address with a given prefix.
use Rattle.embed_defs.proofs.Prelude.{[], ℕ, ◌≡◌, refl, ◌∷◌, ap, ◌∙◌, sym, length, List, Some, ◌++◌, None, inl, inr, eqb, eq-eqb, replicate, true, cases_Bool, eqb-true, put, after, Family, below, push_along, digit_beyond}
use Rattle.tree_defs.specs.Tree.{Address}
use Rattle.embed_defs.proofs.Addresses.{some_of_cond}

pub digit_beyond-sum : (e f c : Address) → digit_beyond (e ++ f) (e ++ c) ≡ digit_beyond f c
digit_beyond-sum [] f c = refl
digit_beyond-sum (x ∷ e) f c = rw (eq-eqb x x refl) (digit_beyond-sum e f c)

-- if an address passes b, no address apart from it is at or above b
pub none_above : (e f b c : Address) (x : ℕ) → digit_beyond e b ≡ Some x → after f b ≡ Some c → after f e ≡ None → ⊥
none_above [] f b c x p q r = cc
none_above (x ∷ e) [] b c d p q r = cc
none_above (x ∷ e) (y ∷ f) [] c d p q r = cc
none_above (x ∷ e) (y ∷ f) (z ∷ b) c d p q r =
    let p' : (eqb x z ≡ true) × (digit_beyond e b ≡ Some d) = some_of_cond _ _ d p in
    let q' : (eqb y z ≡ true) × (after f b ≡ Some c) = some_of_cond _ _ c q in
    none_above e f b c d p'.1 q'.1 (rw (eq-eqb y x (eqb-true y z q'.0 ∙ sym (eqb-true x z p'.0))) at r)

-- and the address itself isn't at or above b
pub not_after : (e b : Address) (x : ℕ) → digit_beyond e b ≡ Some x → after e b ≡ None
not_after [] b x p = cc
not_after (x ∷ e) [] d p = refl
not_after (x ∷ e) (z ∷ b) d p =
    let p' : (eqb x z ≡ true) × (digit_beyond e b ≡ Some d) = some_of_cond _ _ d p in
    rw p'.0 (not_after e b d p'.1)

-- a push along an address that begins with e, with the same rank at each node along e
module _ (a : Address) (rank : ℕ) (ranks : List ℕ) (item : ℕ) where
  pub push_after : (e b c : Address) (F : Family) → after e b ≡ Some c
      → push_along (e ++ a) (replicate (length e) rank ++ ranks) item F b ≡ push_along a ranks item (λ d. F (e ++ d)) c
  push_after [] b c F p = let e : b ≡ c = cc in rw e refl
  push_after (x ∷ e) [] c F p = cc
  push_after (x ∷ e) (y ∷ b) c F p =
      let p' : (eqb x y ≡ true) × (after e b ≡ Some c) = some_of_cond _ _ c p in
      rw p'.0 (push_after e b c (below F x) p'.1)

  pub push_at_transit : (e b : Address) (x : ℕ) (F : Family) → digit_beyond e b ≡ Some x
      → push_along (e ++ a) (replicate (length e) rank ++ ranks) item F b ≡ put (F b) rank x
  push_at_transit [] b x F p = cc
  push_at_transit (x ∷ e) [] d F p = let q : x ≡ d = cc in rw q refl
  push_at_transit (x ∷ e) (y ∷ b) d F p =
      let p' : (eqb x y ≡ true) × (digit_beyond e b ≡ Some d) = some_of_cond _ _ d p in
      let xy : x ≡ y = eqb-true x y p'.0 in
      rw p'.0 (push_at_transit e b d (below F x) p'.1 ∙ ap (λ (z : ℕ). put (F (z ∷ b)) rank d) xy)

  pub push_elsewhere : (e b : Address) (F : Family) → digit_beyond e b ≡ None → after e b ≡ None
      → push_along (e ++ a) (replicate (length e) rank ++ ranks) item F b ≡ F b
  push_elsewhere [] b F p q = cc
  push_elsewhere (x ∷ e) [] F p q = cc
  push_elsewhere (x ∷ e) (y ∷ b) F p q =
      elim (cases_Bool (eqb x y)) [
        | inl t ↦ rw t (push_elsewhere e b (below F x) (rw t at p) (rw t at q) ∙ ap (λ (z : ℕ). F (z ∷ b)) (eqb-true x y t))
        | inr t ↦ rw t refl
      ]
