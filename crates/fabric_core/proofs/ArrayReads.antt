-- The items of an array at the addresses below a node.
use Rattle.fabric_core.proofs.Prelude.{ℕ, arith, ◌≡◌, List, ◌+◌, [], get_or, ◌<◌, ◌∷◌, ◌*◌, ◌≤◌, refl, inl, inr, ltb, mul-le-mul_left, cases_Bool, le-ltb, lt-ltb, mul-add-lt, Address, nodes, read}

pub read-below : {A : Type 0} (ar : List ℕ) (items : List A) (none : A) (d begin width place x : ℕ) (b : Address) → x < d
    → read (d ∷ ar) items none begin width place (x ∷ b) ≡ read ar items none (begin + width) (width * d) (place * d + x) b
read-below ar items none d begin width place x b l = rw (lt-ltb x d l) refl

pub read-outside : {A : Type 0} (ar : List ℕ) (items : List A) (none : A) (d begin width place x : ℕ) (b : Address) → d ≤ x
    → read (d ∷ ar) items none begin width place (x ∷ b) ≡ none
read-outside ar items none d begin width place x b l = rw (le-ltb x d l) refl

pub read-root : {A : Type 0} (ar : List ℕ) (items : List A) (none : A) (begin width place : ℕ) → read ar items none begin width place [] ≡ get_or items (begin + place) none
read-root [] items none begin width place = refl
read-root (d ∷ ar) items none begin width place = refl

pub read-none : {A : Type 0} (ar : List ℕ) (items : List A) (none : A) (begin width place : ℕ) (b : Address) → ((j : ℕ) → get_or items j none ≡ none) → read ar items none begin width place b ≡ none
read-none [] items none begin width place [] f = f (begin + place)
read-none [] items none begin width place (x ∷ b) f = refl
read-none (d ∷ ar) items none begin width place [] f = f (begin + place)
read-none (d ∷ ar) items none begin width place (x ∷ b) f =
    elim (cases_Bool (ltb x d)) [
      | inl t ↦ rw t (read-none ar items none (begin + width) (width * d) (place * d + x) b f)
      | inr t ↦ rw t refl
    ]

-- reads below a level's nodes don't depend on the array before that level
pub read-same : {A : Type 0} (ar : List ℕ) (xs ys : List A) (none : A) (begin width place : ℕ) (b : Address) → ((j : ℕ) → begin ≤ j → get_or xs j none ≡ get_or ys j none)
    → read ar xs none begin width place b ≡ read ar ys none begin width place b
read-same [] xs ys none begin width place [] f = f (begin + place) (omega arith)
read-same [] xs ys none begin width place (x ∷ b) f = refl
read-same (d ∷ ar) xs ys none begin width place [] f = f (begin + place) (omega arith)
read-same (d ∷ ar) xs ys none begin width place (x ∷ b) f =
    elim (cases_Bool (ltb x d)) [
      | inl t ↦ rw t (read-same ar xs ys none (begin + width) (width * d) (place * d + x) b (λ j l. f j (omega arith)))
      | inr t ↦ rw t refl
    ]

-- a child's index is within its level
pub child_place : (place d x width : ℕ) → place < width → x < d → place * d + x < width * d
child_place place d x width l m = omega (arith, mul-add-lt place d x width l m)

-- the nodes below the next level are among those below this one
pub next_nodes : (ar : List ℕ) (d begin width : ℕ) → begin + width * nodes (d ∷ ar) ≡ (begin + width) + (width * d) * nodes ar
next_nodes ar d begin width = omega arith

pub some_nodes : (ar : List ℕ) → 1 ≤ nodes ar
some_nodes [] = omega arith
some_nodes (d ∷ ar) = omega arith

-- an array with all nodes below a node's level includes the node
pub place_within : (ar : List ℕ) (begin width place n : ℕ) → place < width → begin + width * nodes ar ≤ n → begin + place < n
place_within ar begin width place n l m = omega (arith, l, m, mul-le-mul_left width (some_nodes ar))
