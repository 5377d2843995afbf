-- Indices of names.
use Rattle.policy_core.proofs.Prelude.{List, ◌≡◌, ℕ, ap, sym, subst, [], ◌∙◌, arith, length, ◌<◌, ◌∷◌, refl, get_or, suc, true, Some, map, zero, None, Bool, Contains, position, and_parts, length-map, Contains-append_right, list_all, IsDistinct, bytes_eq, has-at, found, place-at, Name, has, place}
use Rattle.std.proofs.Math.ListN.{get_or-map}

-- a name in the list has an index
pub not-found : (names : List Name) (a : Name) → position (bytes_eq a) names ≡ None → has names a ≡ true → ⊥
not-found names a none h = none-some (sym (found names a h) ∙ none)
  where
    none-some : {n : ℕ} → Some n ≡ None → ⊥
    none-some e = cc

pub all-at : (p : Name → Bool) (xs : List Name) (k : ℕ) (x : Name) → list_all p xs ≡ true → k < length xs → x ≡ get_or xs k x → p x ≡ true
all-at p [] k x h l is = absurd (omega arith)
all-at p (y ∷ ys) zero x h l is = subst (λ (z : Name). p z ≡ true) (sym is) (and_parts (p y) (list_all p ys) h).0
all-at p (y ∷ ys) (suc k) x h l is = all-at p ys k x (and_parts (p y) (list_all p ys) h).1 (omega arith) is

pub has-there : (names : List Name) (k : ℕ) (a : Name) → k < length names → get_or names k a ≡ a → has names a ≡ true
has-there names k a l is = subst (λ (n : Name). has names n ≡ true) is (has-at names k a l)

-- if names are distinct, the name at an index has that index
pub only-place : (names : List Name) (k : ℕ) (a : Name) → IsDistinct bytes_eq names → k < length names → get_or names k a ≡ a → place names a ≡ k
only-place names k a distinct l is = ap (place names) (sym is) ∙ place-at names k a distinct l

pub Contains-map : {X Y : Type 0} (f : X → Y) (xs : List X) (x : X) → Contains xs x → Contains (map f xs) (f x)
Contains-map f xs x h = (let l : h.0 < length xs = h.1 in (h.0, omega (arith, l, length-map xs f), get_or-map f xs h.0 x ∙ ap f h.2))

map_back : {X Y : Type 0} (f : X → Y) (xs : List X) (y : Y) (k : ℕ) → k < length xs → get_or (map f xs) k y ≡ y → (x : X) × Contains xs x × (f x ≡ y)
map_back f [] y k l e = absurd (omega arith)
map_back f (z ∷ zs) y zero l e = (z, (0, omega arith, refl), e)
map_back {X} f (z ∷ zs) y (suc k) l e = (let r : (x : X) × Contains zs x × (f x ≡ y) = map_back f zs y k (omega arith) e in (r.0, Contains-append_right (z ∷ []) zs r.0 r.1, r.2))

pub Contains-map_back : {X Y : Type 0} (f : X → Y) (xs : List X) (y : Y) → Contains (map f xs) y → (x : X) × Contains xs x × (f x ≡ y)
Contains-map_back f xs y h = (let l : h.0 < length (map f xs) = h.1 in map_back f xs y h.0 (omega (arith, l, length-map xs f)) h.2)
