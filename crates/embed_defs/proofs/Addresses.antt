-- Prefixes of addresses.
use Rattle.embed_defs.proofs.Prelude.{[], ◌≡◌, refl, ◌∷◌, ◌∙◌, sym, Some, ◌++◌, None, Option, eqb, eq-eqb, true, cond, Bool, false, eqb-true, after}
use Rattle.tree_defs.specs.Tree.{Address}

pub some_of_cond : {A : Type 0} (t : Bool) (o : Option A) (v : A) → cond t o None ≡ Some v → (t ≡ true) × (o ≡ Some v)
some_of_cond true o v p = (refl, p)
some_of_cond false o v p = cc

pub none_unless : {A : Type 0} (o : Option A) → ((x : A) → o ≡ Some x → ⊥) → o ≡ None
none_unless None f = refl
none_unless (Some x) f = absurd (f x refl)

pub after-sum : (e f c : Address) → after (e ++ f) (e ++ c) ≡ after f c
after-sum [] f c = refl
after-sum (x ∷ e) f c = rw (eq-eqb x x refl) (after-sum e f c)

-- of two prefixes of one address, one is a prefix of the other
pub one_prefix : (e f b c d : Address) → after e b ≡ Some c → after f b ≡ Some d → after e f ≡ None → after f e ≡ None → ⊥
one_prefix [] f b c d p q r s = cc
one_prefix (x ∷ e) [] b c d p q r s = cc
one_prefix (x ∷ e) (y ∷ f) [] c d p q r s = cc
one_prefix (x ∷ e) (y ∷ f) (z ∷ b) c d p q r s =
    let p' : (eqb x z ≡ true) × (after e b ≡ Some c) = some_of_cond _ _ c p in
    let q' : (eqb y z ≡ true) × (after f b ≡ Some d) = some_of_cond _ _ d q in
    let xz : x ≡ z = eqb-true x z p'.0 in
    let yz : y ≡ z = eqb-true y z q'.0 in
    one_prefix e f b c d p'.1 q'.1 (rw (eq-eqb x y (xz ∙ sym yz)) at r) (rw (eq-eqb y x (yz ∙ sym xz)) at s)
