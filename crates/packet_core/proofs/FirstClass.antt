-- The first class to which a packet belongs, from its tests alone.
use Rattle.packet_core.proofs.Prelude.{◌∙◌, sym, ap, arith, length, map, List, ℕ, ◌≡◌, refl, false, position, true, ◌<◌, Bool, None, Some, [], ◌++◌, ◌∷◌, position_or_len, HasCatchAll, Class, position-map, Written, Header, belongs, class_among, tests_of, classes_of, GivesEach, length-map}
use Rattle.std.proofs.lemmas.Bool.{lt-ltb}
use Rattle.std.proofs.lemmas.List.Quantifiers.{position-Some}

pub class_among-classes : (header : Header) (n : ℕ) (classes : List Class)
    → position (λ (c : Class). belongs header n (tests_of c.conditions)) classes ≡ class_among (classes_of (map (λ c. c.conditions) classes)) header n
class_among-classes header n classes =
    position-map (λ (c : Class). c.conditions) (λ (cs : List (List Written)). belongs header n (tests_of cs)) classes
    ∙ position-map tests_of (belongs header n) (map (λ (c : Class). c.conditions) classes)

found-later : {X : Type 0} (t : X → Bool) (y : X) (ys : List X) → position_or_len t ys < length ys → position_or_len t (y ∷ ys) < length (y ∷ ys)
found-later t y ys inside = by_first (t y) refl
  where
    by_first : (b : Bool) → t y ≡ b → position_or_len t (y ∷ ys) < length (y ∷ ys)
    by_first true is = rw (is) (omega arith)
    by_first false is = rw (is) (omega arith)

-- if the last element passes, one is found
found-last : {X : Type 0} (t : X → Bool) (xs : List X) (x : X) → t x ≡ true → position_or_len t (xs ++ x ∷ []) < length (xs ++ x ∷ [])
found-last t [] x passes = rw (passes) (omega arith)
found-last t (y ∷ ys) x passes = found-later t y (ys ++ x ∷ []) (found-last t ys x passes)

-- if the last class has no tests, each packet belongs to some class
pub gives-each : (conditions : List (List (List Written))) → HasCatchAll conditions → GivesEach conditions
gives-each conditions last = λ header n none.
    let test : List (List Written) → Bool = λ cs. belongs header n (tests_of cs) in
    let all : List (List (List Written)) = last.0 ++ [] ∷ [] in
    let inside : position_or_len test all < length all = found-last test last.0 [] refl in
    let found : position test all ≡ Some (position_or_len test all) = rw (lt-ltb (position_or_len test all) (length all) inside) refl in
    let same : Some (position_or_len test all) ≡ None = sym found ∙ position-map tests_of (belongs header n) all ∙ ap (λ (cs : List (List (List Written))). class_among (classes_of cs) header n) (sym last.1) ∙ none in
    absurd cc

-- the class of a packet is one of the classes
pub class-below : (conditions : List (List (List Written))) (header : Header) (n r : ℕ) → class_among (classes_of conditions) header n ≡ Some r → r < length conditions
class-below conditions header n r is =
    omega (arith, (position-Some (belongs header n) (classes_of conditions) r [] is).0, length-map conditions tests_of)
