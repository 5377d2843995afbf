-- The variable of a word.
use Rattle.policy_rules.proofs.Prelude.{◌∙◌, ap, List, ◌≡◌, sym, ℕ, [], ◌∷◌, refl, false, Bool, length, true, not, Some, ◌+◌, arith, inl, inr, None, cond, position, suc, ◌≢◌, nat_lt, is_some, codes, unwrap_or, cases_Bool, lt-ltb, nat_tests, bytes_eq-Decides, list_any, position_or_len, bytes_eq, Name, has, place, aim_of, variable_of}
use Rattle.rank_defs.specs.declared.expression.Var.TheVariants as var
use Rattle.rank_defs.specs.declared.transaction.Aim.TheVariants as aim

shifted : (b : Bool) (m n : ℕ) → b ≡ nat_lt m n → b ≡ nat_lt (1 + m) (suc n)
shifted b m n is = grind (arith, nat_tests)

first_case : {X : Type 0} (p : X → Bool) (x : X) (xs : List X) (b : Bool) → p x ≡ b → list_any p xs ≡ nat_lt (position_or_len p xs) (length xs) → list_any p (x ∷ xs) ≡ nat_lt (position_or_len p (x ∷ xs)) (length (x ∷ xs))
first_case p x xs true is later = rw is (sym (lt-ltb 0 (suc (length xs)) (omega arith)))
first_case p x xs false is later = rw is (shifted (list_any p xs) (position_or_len p xs) (length xs) later)

first : {X : Type 0} (p : X → Bool) (xs : List X) → list_any p xs ≡ nat_lt (position_or_len p xs) (length xs)
first p [] = refl
first p (x ∷ xs) = first_case p x xs (p x) refl (first p xs)

told : (b : Bool) (n : ℕ) → b ≡ is_some (cond b (Some n) None)
told true n = refl
told false n = refl

-- an element passes exactly if there is a first index
pub any_position : {X : Type 0} (p : X → Bool) (xs : List X) → list_any p xs ≡ is_some (position p xs)
any_position p xs = first p xs ∙ told (nat_lt (position_or_len p xs) (length xs)) (position_or_len p xs)

differs : (a b : List ℕ) → a ≢ b → bytes_eq a b ≡ false
differs a b other = elim (cases_Bool (bytes_eq a b)) [
  | inl same ↦ absurd (other ((bytes_eq-Decides a b).0 same))
  | inr not ↦ not
]

module _ (keeps eaches : List Name) (w : Name) where
  pub aim_kept : (i : ℕ) → bytes_eq w (codes "rank") ≡ false → position (bytes_eq w) keeps ≡ Some i → aim.Keep i ≡ aim_of keeps eaches w
  aim_kept i other at =
      let here : has keeps w ≡ true = any_position (bytes_eq w) keeps ∙ ap is_some at in
      let there : place keeps w ≡ i = ap (λ o. unwrap_or o 0) at in
      rw (other, here, there) refl

  pub aim_each : (i : ℕ) → bytes_eq w (codes "rank") ≡ false → position (bytes_eq w) keeps ≡ None → i ≡ place eaches w → aim.Each i ≡ aim_of keeps eaches w
  aim_each i other none at =
      let here : has keeps w ≡ false = any_position (bytes_eq w) keeps ∙ ap is_some none in
      rw (other, here) (ap aim.Each at)

  module _ (len : w ≢ codes "len") (now : w ≢ codes "now") (prio : w ≢ codes "prio") (weight : w ≢ codes "weight") (slack : w ≢ codes "slack") (rank : w ≢ codes "rank") where
    pub variable_kept : (i : ℕ) → position (bytes_eq w) keeps ≡ Some i → var.Keep i ≡ variable_of keeps eaches w
    variable_kept i at =
        let here : has keeps w ≡ true = any_position (bytes_eq w) keeps ∙ ap is_some at in
        let there : place keeps w ≡ i = ap (λ o. unwrap_or o 0) at in
        rw (differs w (codes "len") len, differs w (codes "now") now, differs w (codes "prio") prio, differs w (codes "weight") weight, differs w (codes "slack") slack, differs w (codes "rank") rank, here, there) refl

    pub variable_each : (i : ℕ) → position (bytes_eq w) keeps ≡ None → i ≡ place eaches w → var.Each i ≡ variable_of keeps eaches w
    variable_each i none at =
        let here : has keeps w ≡ false = any_position (bytes_eq w) keeps ∙ ap is_some none in
        rw (differs w (codes "len") len, differs w (codes "now") now, differs w (codes "prio") prio, differs w (codes "weight") weight, differs w (codes "slack") slack, differs w (codes "rank") rank, here) (ap var.Each at)
