-- Conditions of versions 1 and 2 hold exactly if their tests do.
use Rattle.std.specs.Prelude.{◌≡◌, ℕ, ◌+◌, Bool, true, false, not, cond, nat_lt, refl, List, [], ◌∷◌, ◌&&◌, ◌||◌, Option, Some, None, length, map, position}
use Rattle.std.specs.List.{list_all, list_any, position_or_len}
use Rattle.std.proofs.Common.{sym, ◌∙◌, ap}
use Rattle.std.proofs.lemmas.List.{length-map}
use Rattle.std.proofs.Math.Bool.{or-false}
use Rattle.std.proofs.lemmas.List.Folds.{list_all-map}
use Rattle.packet_defs.specs.declared.extra.Header.{Header}
use Rattle.packet_defs.specs.Condition.{Condition, in_range, value_of, is_present_and, meets, class_of}
use Rattle.packet_defs.specs.Condition as condition
use Rattle.packet_defs.specs.Test.{Range, Test, is_in, is_among, passes, belongs, class_among}
use Rattle.packet_defs.specs.ClassicTests.{test_of, alternatives_of, ClassicClassesAreKept}

pub one_range : (r : Range) (o : Option ℕ) → is_present_and (is_among (r ∷ [])) o ≡ is_present_and (λ v. is_in v r) o
one_range r None = refl
one_range r (Some v) = or-false (is_in v r)

-- a condition as a test
pub test-meets : (header : Header) (n : ℕ) (c : Condition) → passes header n (test_of c) ≡ meets header.fields n c
test-meets header n (in_range field low high) = one_range (record { low = low; high = high }) (value_of field header.fields n)
test-meets header n (condition.source address bits) = refl
test-meets header n (condition.target address bits) = refl
test-meets header n condition.ipv4 = refl
test-meets header n condition.ipv6 = refl

-- the conditions of a class as its alternatives
pub belongs-meets : (header : Header) (n : ℕ) (cs : List Condition) → belongs header n (alternatives_of cs) ≡ list_all (meets header.fields n) cs
belongs-meets header n [] = refl
belongs-meets header n (c ∷ cs) =
    or-false (list_all (passes header n) (map test_of (c ∷ cs)))
    ∙ list_all-map (passes header n) test_of (c ∷ cs)
    ∙ (λ i. list_all (λ w. test-meets header n w i) (c ∷ cs))

position_or_len-map : {X Y : Type 0} (f : X → Y) (t : Y → Bool) (xs : List X) → position_or_len t (map f xs) ≡ position_or_len (λ x. t (f x)) xs
position_or_len-map f t [] = refl
position_or_len-map f t (x ∷ xs) = ap (λ n. cond (not (t (f x))) (1 + n) 0) (position_or_len-map f t xs)

pub position-map : {X Y : Type 0} (f : X → Y) (t : Y → Bool) (xs : List X) → position (λ x. t (f x)) xs ≡ position t (map f xs)
position-map f t xs =
    ap (λ n. cond (nat_lt n (length xs)) (Some n) None) (sym (position_or_len-map f t xs))
    ∙ ap (λ n. cond (nat_lt (position_or_len t (map f xs)) n) (Some (position_or_len t (map f xs))) None) (sym (length-map xs f))

pub classic-kept : ClassicClassesAreKept
classic-kept classes header n =
    sym (position-map alternatives_of (belongs header n) classes)
    ∙ (λ i. position (λ cs. belongs-meets header n cs i) classes)
