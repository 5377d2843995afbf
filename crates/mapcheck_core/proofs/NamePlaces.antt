-- The lines that name each node, and lists with one more element.
use Rattle.mapcheck_core.proofs.Prelude.{◌≡◌, sym, List, ℕ, ◌∙◌, ap, [], refl, map, arith, ◌∷◌, None, inr, ◌+◌, Some, ◌<◌, false, length, true, inl, ◌++◌, take, get_or, Bool, suc, zero, cond, not, ◌||◌, position, take-suc, cases_Bool, lt-ltb, map-append, bytes_eq-Decides, list_any, position_or_len, bytes_eq, MapLine, has, named, missing_node}
use Rattle.std.specs.Bool.{Decides}
use Rattle.std.proofs.lemmas.Bool.Decides.{same_from_decides}

before_end : {X : Type 0} (p : X → Bool) (xs : List X) (k : ℕ) (d : X) → k < length xs → p (get_or xs k d) ≡ true → position_or_len p xs < length xs
before_end p [] k d low found = absurd (omega arith)
before_end p (x ∷ xs) zero d low found = rw found (omega arith)
before_end p (x ∷ xs) (suc k) d low found =
    elim (cases_Bool (p x)) [
      | inl t ↦ rw t (omega arith)
      | inr f ↦ let later = before_end p xs k d (omega arith) found in rw f (omega arith)
    ]

some_none : (n : ℕ) → Some n ≡ None → ⊥
some_none n e = cc

-- if no index is found, no element passes
none-passes : {X : Type 0} (p : X → Bool) (xs : List X) (k : ℕ) (d : X) → position p xs ≡ None → k < length xs → p (get_or xs k d) ≡ false
none-passes p xs k d none low =
    elim (cases_Bool (p (get_or xs k d))) [
      | inl t ↦
          let found : position p xs ≡ Some (position_or_len p xs) = ap (λ b. cond b (Some (position_or_len p xs)) None) (lt-ltb (position_or_len p xs) (length xs) (before_end p xs k d low t)) in
          absurd (some_none (position_or_len p xs) (sym found ∙ none))
      | inr f ↦ f
    ]

-- if no node is missing, each name is given
pub name-given : (names : List (List ℕ)) (ms : List MapLine) (i : ℕ) (name : List ℕ) → missing_node names ms ≡ None → i < length names → name ≡ get_or names i name → has (named ms) name ≡ false → ⊥
name-given names ms i name given low is unnamed =
    let known = none-passes (λ (n : List ℕ). not (has (named ms) n)) names i name given low in
    let here : not (has (named ms) name) ≡ false = ap (λ (n : List ℕ). not (has (named ms) n)) is ∙ known in
    let wrong : true ≡ false = ap not (sym unnamed) ∙ here in
    cc

-- one more element of a map
pub mapped-more : {X Y : Type 0} (f : X → Y) (xs : List X) (i : ℕ) (x : X) (ys : List Y) (y : Y) → i < length xs → x ≡ get_or xs i x → ys ≡ map f (take i xs) → y ≡ f x → ys ++ y ∷ [] ≡ map f (take (i + 1) xs)
mapped-more {X} {Y} f xs i x ys y low is so_far told =
    let one : suc i ≡ i + 1 = omega arith in
    ap (λ (zs : List Y). zs ++ y ∷ []) so_far
    ∙ ap (λ (z : Y). map f (take i xs) ++ z ∷ []) (told ∙ ap f is)
    ∙ sym (map-append f (take i xs) (get_or xs i x ∷ []))
    ∙ ap (map f) (sym (take-suc xs i x low))
    ∙ ap (λ n. map f (take n xs)) one

-- ---- names in order
cond-or : (a b : Bool) → cond a true b ≡ (a || b)
cond-or true b = refl
cond-or false b = refl

or-swap : (a b c : Bool) → (a || (b || c)) ≡ (b || (a || c))
or-swap true true c = refl
or-swap true false c = refl
or-swap false true c = refl
or-swap false false c = refl

any-more : {X : Type 0} (p : X → Bool) (xs : List X) (i : ℕ) (d : X) → i < length xs → (p (get_or xs i d) || list_any p (take i xs)) ≡ list_any p (take (i + 1) xs)
any-more p [] i d low = absurd (omega arith)
any-more p (x ∷ xs) zero d low = refl
any-more p (x ∷ xs) (suc i) d low =
    let one : suc i + 1 ≡ suc (i + 1) = omega arith in
    or-swap (p (get_or xs i d)) (p x) (list_any p (take i xs))
    ∙ ap (λ b. p x || b) (any-more p xs i d (omega arith))
    ∙ ap (λ n. list_any p (take n (x ∷ xs))) (sym one)

same-either-way : (a b : List ℕ) → bytes_eq a b ≡ bytes_eq b a
same-either-way a b =
    let flipped : Decides (bytes_eq b a) (a ≡ b) = (λ e. sym ((bytes_eq-Decides b a).0 e), λ e. (bytes_eq-Decides b a).1 (sym e)) in
    same_from_decides (bytes_eq a b) (bytes_eq b a) (bytes_eq-Decides a b) flipped

-- one more name is known
pub has-more : (names : List (List ℕ)) (i : ℕ) (name q : List ℕ) (before after : Bool) → i < length names → name ≡ get_or names i name → before ≡ has (take i names) q → after ≡ cond (bytes_eq name q) true before → after ≡ has (take (i + 1) names) q
has-more names i name q before after low is so_far new =
    new
    ∙ cond-or (bytes_eq name q) before
    ∙ ap (λ b. b || before) (same-either-way name q)
    ∙ ap (λ b. bytes_eq q name || b) so_far
    ∙ ap (λ n. bytes_eq q n || has (take i names) q) is
    ∙ any-more (bytes_eq q) names i name low
