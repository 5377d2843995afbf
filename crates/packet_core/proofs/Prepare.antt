-- The prepared classes of a policy.
use Rattle.packet_core.proofs.Prelude.{◌∙◌, sym, ap, arith, length, ◌<◌, ◌≤◌, ◌&&◌, get_or, map, List, ℕ, ◌≡◌, refl, position, Bool, true, [], ◌∷◌, Header, belongs, class_among, range_of, tests_of, classes_of, passes_all, test_of, Class, Written, AreBounds, AreRules, AreSame, AreTested, numbers_of, is_met, one_passes, all_pass, passes, list_all-map, list_all}
use Rattle.std.specs.Prelude.{◌||◌}
use Rattle.std.specs.List.{list_any}
use Rattle.std.proofs.Math.Bool.{or-false}
use Rattle.packet_core.specs.declared.bounds.Bounds.{Bounds}
use Rattle.policy_text_defs.specs.declared.test.Range.{Range}
use Rattle.packet_defs.specs.Test.{Test, is_in}
use Rattle.packet_core.specs.declared.bounds.Prepared.{Prepared}
use Rattle.packet_core.specs.declared.rules.Rules.{Rules}
use Rattle.packet_core.specs.declared.rules.Alternatives.{Alternatives}
use Rattle.packet_core.proofs.FirstClass.{class_among-classes}
use Rattle.packet_core.proofs.WithinBounds.{same-position}

class_is : (conditions : List (List (List Written))) (given : List Class) (header : Header) (n : ℕ) → map (λ (c : Class). c.conditions) given ≡ conditions
    → position (λ (c : Class). belongs header n (tests_of c.conditions)) given ≡ class_among (classes_of conditions) header n
class_is conditions given header n are = class_among-classes header n given ∙ ap (λ (cs : List (List (List Written))). class_among (classes_of cs) header n) are

pub are-same : (conditions : List (List (List Written))) (given : List Class) (classes : List Prepared) → map (λ (c : Class). c.conditions) given ≡ conditions → AreBounds classes given → AreSame conditions classes
are-same conditions given classes are so = λ header n.
    same-position (is_met (numbers_of header.fields n)) (λ (c : Class). belongs header n (tests_of c.conditions)) classes given (so header n) ∙ class_is conditions given header n are

pub are-tested : (conditions : List (List (List Written))) (given : List Class) (classes : List Alternatives) → map (λ (c : Class). c.conditions) given ≡ conditions → AreRules classes given → AreTested conditions classes
are-tested conditions given classes are so = λ header n.
    same-position (λ (c : Alternatives). one_passes header n c.all.items) (λ (c : Class). belongs header n (tests_of c.conditions)) classes given (so header n) ∙ class_is conditions given header n are

-- there is none, or one is true
one_of : List Bool → Bool
one_of [] = true
one_of (b ∷ bs) = list_any (λ x. x) (b ∷ bs)

any-map : {X : Type 0} (f : X → Bool) (xs : List X) → list_any f xs ≡ list_any (λ x. x) (map f xs)
any-map f [] = refl
any-map f (x ∷ xs) = ap (λ b. f x || b) (any-map f xs)

one_passes-of : (header : Header) (n : ℕ) (all : List Rules) → one_passes header n all ≡ one_of (map (all_pass header n) all)
unfolding one_of
one_passes-of header n [] = refl
one_passes-of header n (x ∷ xs) = any-map (all_pass header n) (x ∷ xs)

all-tests : (header : Header) (n : ℕ) (alternatives : List (List Written)) → map (list_all (passes header n)) (tests_of alternatives) ≡ map (passes_all header n) alternatives
all-tests header n [] = refl
all-tests header n (x ∷ xs) = ap (λ b. b ∷ map (list_all (passes header n)) (tests_of xs)) (list_all-map (passes header n) test_of x) ∙ ap (λ (bs : List Bool). passes_all header n x ∷ bs) (all-tests header n xs)

belongs-of : (header : Header) (n : ℕ) (all : List (List Test)) → belongs header n all ≡ one_of (map (list_all (passes header n)) all)
unfolding one_of
belongs-of header n [] = refl
belongs-of header n (x ∷ xs) = any-map (list_all (passes header n)) (x ∷ xs)

-- a class's prepared alternatives pass exactly if its alternatives do
pub same-alternatives : (header : Header) (n : ℕ) (all : List Rules) (alternatives : List (List Written)) → map (all_pass header n) all ≡ map (passes_all header n) alternatives
    → one_passes header n all ≡ belongs header n (tests_of alternatives)
same-alternatives header n all alternatives so =
    one_passes-of header n all ∙ ap one_of (so ∙ sym (all-tests header n alternatives)) ∙ sym (belongs-of header n (tests_of alternatives))

-- a packet belongs to a class with alternatives if it passes all tests of one
pub belongs-some : (header : Header) (n : ℕ) (alternatives : List (List Written)) → 0 < length alternatives → list_any (passes_all header n) alternatives ≡ belongs header n (tests_of alternatives)
belongs-some header n [] some = absurd (omega (arith, some))
belongs-some header n (x ∷ xs) some =
    any-map (passes_all header n) (x ∷ xs)
    ∙ ap (list_any (λ b. b)) (sym (all-tests header n (x ∷ xs)))
    ∙ sym (any-map (list_all (passes header n)) (tests_of (x ∷ xs)))

pub one-in : (v : ℕ) (ranges : List Range) → list_any (λ r. is_in v (range_of r)) ranges ≡ list_any (is_in v) (map range_of ranges)
one-in v [] = refl
one-in v (r ∷ rs) = ap (λ b. is_in v (range_of r) || b) (one-in v rs)

pub passes-some : (header : Header) (n : ℕ) (all : List Rules) → 0 < length all → list_any (all_pass header n) all ≡ one_passes header n all
passes-some header n [] some = absurd (omega (arith, some))
passes-some header n (x ∷ xs) some = refl

-- a class with one alternative
pub belongs-one : (header : Header) (n : ℕ) (alternatives : List (List Written)) (d : List Written) → 0 < length alternatives → length alternatives ≤ 1
    → passes_all header n (get_or alternatives 0 d) ≡ belongs header n (tests_of alternatives)
belongs-one header n [] d some few = absurd (omega (arith, some))
belongs-one header n (x ∷ []) d some few = sym (list_all-map (passes header n) test_of x) ∙ sym (or-false (list_all (passes header n) (map test_of x)))
belongs-one header n (x ∷ y ∷ ys) d some few = absurd (omega (arith, few))

-- a class without alternatives
pub belongs-none : (header : Header) (n : ℕ) (f : Bounds → Bool) (first : Bool) (xs : List Bounds) (alternatives : List (List Written)) → first ≡ true → xs ≡ [] → alternatives ≡ [] → (first && list_all f xs) ≡ belongs header n (tests_of alternatives)
belongs-none header n f first xs alternatives all none nothing = rw (all, none, nothing) refl
