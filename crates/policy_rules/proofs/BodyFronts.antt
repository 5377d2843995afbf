-- The leading lines that belong to a body.
use Rattle.policy_rules.proofs.Prelude.{◌∙◌, ap, List, ◌≡◌, sym, ℕ, [], ◌∷◌, refl, take, false, Bool, length, true, not, Some, arith, None, ◌≤◌, cond, map, position, nat_lt, ltb-false, length-map, take-map, take_all, position_or_len, prefix_len}
use Rattle.std.specs.List.{take_while}

not_not : (b : Bool) → not (not b) ≡ b
not_not true = refl
not_not false = refl

prefix_len-same : {X : Type 0} (p q : X → Bool) → ((x : X) → p x ≡ q x) → (xs : List X) → prefix_len p xs ≡ prefix_len q xs
prefix_len-same p q same [] = refl
prefix_len-same p q same (x ∷ xs) = rw (same x, prefix_len-same p q same xs) refl

prefix_len-map : {X Y : Type 0} (q : Y → Bool) (f : X → Y) (xs : List X) → prefix_len q (map f xs) ≡ prefix_len (λ x. q (f x)) xs
prefix_len-map q f [] = refl
prefix_len-map q f (x ∷ xs) = rw (prefix_len-map q f xs) refl

module _ {X Y : Type 0} (q : Y → Bool) (f : X → Y) (xs : List X) where
  same_place : position_or_len (λ x. not (q (f x))) xs ≡ prefix_len q (map f xs)
  same_place = prefix_len-same (λ x. not (not (q (f x)))) (λ x. q (f x)) (λ x. not_not (q (f x))) xs ∙ sym (prefix_len-map q f xs)

  pub front_some : (i : ℕ) → position (λ x. not (q (f x))) xs ≡ Some i → map f (take i xs) ≡ take_while q (map f xs)
  front_some i at = sym (take-map f i xs) ∙ ap (λ n. take n (map f xs)) (here (nat_lt (position_or_len (λ x. not (q (f x))) xs) (length xs)) at ∙ same_place)
    where
      here : (b : Bool) → cond b (Some (position_or_len (λ x. not (q (f x))) xs)) None ≡ Some i → i ≡ position_or_len (λ x. not (q (f x))) xs
      here true e = cc
      here false e = absurd cc

  pub front_none : position (λ x. not (q (f x))) xs ≡ None → map f xs ≡ take_while q (map f xs)
  front_none none = sym (take_all (prefix_len q (map f xs)) (map f xs) (omega (arith, same_place, length-map xs f, long (nat_lt (position_or_len (λ x. not (q (f x))) xs) (length xs)) refl none)))
    where
      long : (b : Bool) → nat_lt (position_or_len (λ x. not (q (f x))) xs) (length xs) ≡ b → cond b (Some (position_or_len (λ x. not (q (f x))) xs)) None ≡ None → length xs ≤ position_or_len (λ x. not (q (f x))) xs
      long true is e = absurd cc
      long false is e = ltb-false _ _ is
