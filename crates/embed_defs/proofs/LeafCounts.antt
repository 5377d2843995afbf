-- The leaves of a target, counted from the root down.
use Rattle.embed_defs.proofs.Prelude.{[], ℕ, ◌≡◌, ◌∷◌, arith, suc, length, List, ◌≤◌, zero, ◌+◌, ◌<◌, drop, ◌*◌, get_or, mul-le-mul_left, drop_more, AllByRecursion, IsArity, leaves}

abbrev pub AreNarrow : List ℕ → Type 0
AreNarrow = AllByRecursion IsArity

pub some_leaves : (ds : List ℕ) → AreNarrow ds → 1 ≤ leaves ds
some_leaves [] n = omega arith
some_leaves (d ∷ ds) n =
    let rest : 1 ≤ leaves ds = some_leaves ds n.1 in
    omega (arith, mul-le-mul_left d rest, n.0.0)

pub narrow_at : (ds : List ℕ) (i d : ℕ) → AreNarrow ds → i < length ds → IsArity (get_or ds i d)
narrow_at [] i d n l = absurd (omega arith)
narrow_at (e ∷ ds) zero d n l = n.0
narrow_at (e ∷ ds) (suc i) d n l = narrow_at ds i d n.1 (omega arith)

pub narrow_below : (i : ℕ) (ds : List ℕ) → AreNarrow ds → AreNarrow (drop i ds)
narrow_below zero ds n = n
narrow_below (suc i) [] n = tt
narrow_below (suc i) (d ∷ ds) n = narrow_below i ds n.1

-- the leaves below one level, computed from those below the next
pub next_leaves : (ds : List ℕ) (i d : ℕ) → i < length ds → leaves (drop i ds) ≡ get_or ds i d * leaves (drop (i + 1) ds)
next_leaves ds i d l = rw (drop_more ds i d l)

-- multiplying the count by this level's arity leaves the leaves below the next level
pub counted_next : (ds : List ℕ) (i count : ℕ) → i < length ds → count * leaves (drop i ds) ≡ leaves ds → (count * get_or ds i 0) * leaves (drop (i + 1) ds) ≡ leaves ds
counted_next ds i count l counted =
    let same : count * (get_or ds i 0 * leaves (drop (i + 1) ds)) ≡ leaves ds = rw (← next_leaves ds i 0 l) counted in
    omega (arith, same)

pub too_many : (ds : List ℕ) (i count most : ℕ) → AreNarrow ds → i < length ds → count * leaves (drop i ds) ≡ leaves ds → most < count * get_or ds i 0 → most < leaves ds
too_many ds i count most n l counted many =
    let rest : 1 ≤ leaves (drop (i + 1) ds) = some_leaves (drop (i + 1) ds) (narrow_below (i + 1) ds n) in
    omega (arith, mul-le-mul_left (count * get_or ds i 0) rest, counted_next ds i count l counted, many)

-- a level has no more nodes than the tree has leaves
pub few_wide : (ds : List ℕ) (i width : ℕ) → AreNarrow ds → width * leaves (drop i ds) ≡ leaves ds → width ≤ leaves ds
few_wide ds i width n e = omega (arith, e, mul-le-mul_left width (some_leaves (drop i ds) (narrow_below i ds n)))
