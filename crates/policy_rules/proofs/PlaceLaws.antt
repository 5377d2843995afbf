-- The indices of names.
use Rattle.policy_rules.proofs.Prelude.{◌∙◌, ap, List, ◌≡◌, sym, ℕ, [], ◌∷◌, refl, Bool, length, true, not, Some, ◌+◌, arith, ◌<◌, inl, inr, ◌||◌, None, get_or, true≢false, cond, map, position, ◌⊎◌, IsTrue, unwrap_or, cases_Bool, and_parts, cases_order, lt-ltb, list_any_at, passes_at_first, bytes_eq-Decides, list_any, position_or_len, list_all, IsDistinct, bytes_eq, Name, has, place}
use Rattle.std.proofs.lemmas.Map.Keys.{apart_from_distinct}

first-within : {X : Type 0} (p : X → Bool) (xs : List X) → list_any p xs ≡ true → position_or_len p xs < length xs
first-within p [] h = absurd (true≢false (sym h))
first-within p (x ∷ xs) h = elim (cases_Bool (p x)) [
  | inl here ↦ (let e : position_or_len p (x ∷ xs) ≡ 0 = ap (λ b. cond (not b) (1 + position_or_len p xs) 0) here in omega (arith, e))
  | inr other ↦ (let r : position_or_len p xs < length xs = first-within p xs (sym (ap (λ b. b || list_any p xs) other) ∙ h) in
      let e : position_or_len p (x ∷ xs) ≡ 1 + position_or_len p xs = ap (λ b. cond (not b) (1 + position_or_len p xs) 0) other in omega (arith, r, e))
]

-- a known name is found at its index
pub found : (names : List Name) (a : Name) → has names a ≡ true → position (bytes_eq a) names ≡ Some (place names a)
found names a h = some ∙ ap Some (sym (ap (λ o. unwrap_or o 0) some))
  where
    some : position (bytes_eq a) names ≡ Some (position_or_len (bytes_eq a) names)
    some = ap (λ b. cond b (Some (position_or_len (bytes_eq a) names)) None) (lt-ltb _ _ (first-within (bytes_eq a) names h))

place-first : (names : List Name) (a : Name) → has names a ≡ true → place names a ≡ position_or_len (bytes_eq a) names
place-first names a h = ap (λ b. unwrap_or (cond b (Some (position_or_len (bytes_eq a) names)) None) 0) (lt-ltb _ _ (first-within (bytes_eq a) names h))

pub place-within : (names : List Name) (a : Name) → has names a ≡ true → place names a < length names
place-within names a h = omega (arith, place-first names a h, first-within (bytes_eq a) names h)

pub at-place : (names : List Name) (a d : Name) → has names a ≡ true → get_or names (place names a) d ≡ a
at-place names a d h = ap (λ k. get_or names k d) (place-first names a h) ∙ sym ((bytes_eq-Decides a _).0 (passes_at_first (bytes_eq a) names d (first-within (bytes_eq a) names h)))

same-name : (a b : Name) → a ≡ b → bytes_eq a b ≡ true
same-name a b e = (bytes_eq-Decides a b).1 e

-- a name at an index is among the names
pub has-at : (names : List Name) (k : ℕ) (d : Name) → k < length names → has names (get_or names k d) ≡ true
has-at names k d l = list_any_at (bytes_eq (get_or names k d)) names k d l (same-name (get_or names k d) (get_or names k d) refl)

-- among distinct names, each has its own index
pub place-at : (names : List Name) (k : ℕ) (d : Name) → IsDistinct bytes_eq names → k < length names → place names (get_or names k d) ≡ k
place-at names k d distinct l = by (place names (get_or names k d)) refl (cases_order (place names (get_or names k d)) k)
  where
    there : has names (get_or names k d) ≡ true
    there = has-at names k d l

    same : (j : ℕ) → place names (get_or names k d) ≡ j → get_or names j d ≡ get_or names k d
    same j is = ap (λ i. get_or names i d) (sym is) ∙ at-place names (get_or names k d) d there

    by : (j : ℕ) → place names (get_or names k d) ≡ j → (place names (get_or names k d) ≡ k) ⊎ ((place names (get_or names k d) < k) ⊎ (k < place names (get_or names k d))) → place names (get_or names k d) ≡ k
    by j is (inl e) = e
    by j is (inr (inl below)) = absurd (true≢false (sym (same-name _ _ (same j is)) ∙ apart_from_distinct bytes_eq names j k d distinct (omega (arith, is, below)) l))
    by j is (inr (inr above)) =
        absurd (true≢false (sym (same-name _ _ (sym (same j is))) ∙ apart_from_distinct bytes_eq names k j d distinct (omega (arith, is, above)) (omega (arith, is, place-within names (get_or names k d) there))))

-- the names at the indices of known names are these names
pub at-places : (names : List Name) (d : Name) (ns : List Name) → list_all (has names) ns ≡ true → map (λ i. get_or names i d) (map (place names) ns) ≡ ns
at-places names d [] known = refl
at-places names d (n ∷ ns) known =
    let parts : IsTrue (has names n) × IsTrue (list_all (has names) ns) = and_parts (has names n) (list_all (has names) ns) known in
    ap (λ a. a ∷ map (λ i. get_or names i d) (map (place names) ns)) (at-place names n d parts.0) ∙ ap (λ l. n ∷ l) (at-places names d ns parts.1)
