-- One more name among those that a map finds.
use Rattle.policy_rules.proofs.Prelude.{◌∙◌, ap, List, ◌≡◌, sym, ℕ, [], ◌∷◌, refl, ◌++◌, false, Bool, length, subst, true, not, Some, ◌+◌, arith, ◌||◌, None, ◌≤◌, Option, cond, map, position, nat_lt, is_some, Bor, eqb, nat_tests, length-append, length-map, position_or_len_push, prefix_len-le-length, bytes_eq-Decides, UpdatesBy, BTreeMap, nat_list_eq_equiv, slice_cmp, list_any, position_or_len, nat_cmp, bytes_eq, has, ArePlaces, texts}
use Rattle.std.proofs.lemmas.Grind.{common_steps}
use Rattle.std.proofs.lemmas.Map.Text.{btree_map_updates_str}

-- the index of the first match is unchanged by mapping
position_or_len-map : {X Y : Type 0} (f : X → Y) (t : Y → Bool) (xs : List X) → position_or_len t (map f xs) ≡ position_or_len (λ x. t (f x)) xs
position_or_len-map f t [] = refl
position_or_len-map f t (x ∷ xs) = ap (λ n. cond (not (t (f x))) (1 + n) 0) (position_or_len-map f t xs)

pub position-map : {X Y : Type 0} (f : X → Y) (t : Y → Bool) (xs : List X) → position (λ x. t (f x)) xs ≡ position t (map f xs)
position-map f t xs =
    ap (λ n. cond (nat_lt n (length xs)) (Some n) None) (sym (position_or_len-map f t xs))
    ∙ ap (λ n. cond (nat_lt (position_or_len t (map f xs)) n) (Some (position_or_len t (map f xs))) None) (sym (length-map xs f))

-- an element passes exactly if the first one that passes is before the end
pub any-first : {X : Type 0} (p : X → Bool) (xs : List X) → nat_lt (position_or_len p xs) (length xs) ≡ list_any p xs
any-first p [] = refl
any-first p (x ∷ xs) = by (p x) (any-first p xs)
  where
    by : (b : Bool) → nat_lt (position_or_len p xs) (length xs) ≡ list_any p xs → nat_lt (cond (not b) (1 + position_or_len p xs) 0) (length (x ∷ xs)) ≡ (b || list_any p xs)
    by true rest = grind (arith, nat_tests)
    by false rest = grind (arith, nat_tests)

-- a name that has an index is among the names
pub has-place : (q : List ℕ) (names : List (List ℕ)) → is_some (position (bytes_eq q) names) ≡ has names q
has-place q names = some (nat_lt (position_or_len (bytes_eq q) names) (length names)) (position_or_len (bytes_eq q) names) ∙ any-first (bytes_eq q) names
  where
    some : (b : Bool) (n : ℕ) → is_some (cond b (Some n) None) ≡ b
    some true n = refl
    some false n = refl

-- the index of the first match, if there is one
abbrev place_at : ℕ → ℕ → Option ℕ
place_at n l = cond (nat_lt n l) (Some n) None

-- one more element passes or doesn't, and if it passes, none before it does
with_last : (passes : Bool) (n l : ℕ) → n ≤ l → (passes ≡ true → nat_lt n l ≡ false) → place_at (cond (eqb n l) (l + cond passes 0 1) n) (l + 1) ≡ cond passes (Some l) (place_at n l)
with_last true n l le none = let none' : nat_lt n l ≡ false = none refl in grind (arith, nat_tests, common_steps)
with_last false n l le none = grind (arith, nat_tests, common_steps)

-- the index of a new name is the number of names before it, and the others keep theirs
pub position-push : (names : List (List ℕ)) (x q : List ℕ) → has names x ≡ false → position (bytes_eq q) (names ++ x ∷ []) ≡ cond (bytes_eq x q) (Some (length names)) (position (bytes_eq q) names)
position-push names x q new =
    rw (length-append names (x ∷ []), position_or_len_push (bytes_eq q) names x)
    (with_last (bytes_eq q x) (position_or_len (bytes_eq q) names) (length names) (prefix_len-le-length (λ y. not (bytes_eq q y)) names) none)
    ∙ ap (λ b. cond b (Some (length names)) (position (bytes_eq q) names)) (nat_list_eq_equiv.symm q x)
  where
    none : bytes_eq q x ≡ true → nat_lt (position_or_len (bytes_eq q) names) (length names) ≡ false
    none same = any-first (bytes_eq q) names ∙ subst (λ y. has names y ≡ false) (sym ((bytes_eq-Decides q x).0 same)) new

pub texts-push : (names : List (Bor (List ℕ))) (x : Bor (List ℕ)) → texts (names ++ x ∷ []) ≡ texts names ++ x.now ∷ []
texts-push [] x = refl
texts-push (k ∷ ks) x = ap (λ l. k.now ∷ l) (texts-push ks x)

-- the map finds one more name at the end
pub ArePlaces-push : (m n : BTreeMap (Bor (List ℕ)) ℕ) (names : List (Bor (List ℕ))) (x : Bor (List ℕ)) → ArePlaces m (texts names) → has (texts names) x.now ≡ false
    → UpdatesBy (λ a b. slice_cmp nat_cmp a.now b.now) (λ k. slice_cmp nat_cmp x.now k.now) m n (Some (length names)) → ArePlaces n (texts (names ++ x ∷ []))
ArePlaces-push m n names x places new updates q =
    btree_map_updates_str x.now m n (Some (length names)) updates q
    ∙ rw (places q, ← length-map names (λ k. k.now)) refl
    ∙ sym (position-push (texts names) x.now q new)
    ∙ ap (position (bytes_eq q)) (sym (texts-push names x))
