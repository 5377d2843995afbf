-- Some height is enough for any subtrees.
use Rattle.embed_defs.proofs.Prelude.{[], ℕ, ◌∷◌, arith, suc, List, ◌≤◌, ◌+◌, ◌*◌, mul-le-mul_left, sum_by-cons, sum_by, inner, leaf, more, none, Tree, Trees, root_of, nodes, nodes_below, AreWide, Arities, leaves_below, AreLower, HoldNeeds, HoldsNeeds, needs_at, FitsBelow, enough}
use Rattle.embed_defs.proofs.Levels.{ArePositive, leaves-le}

pub wide-positive : (a : Arities) → AreWide a → ArePositive a
wide-positive a b h = omega (arith, b h)

pub lower-more : (h k : ℕ) (ns : List ℕ) → h ≤ k → AreLower h ns → AreLower k ns
lower-more h k [] l w = tt
lower-more h k (n ∷ ns) l w = (omega (arith, w.0), lower-more h k ns l w.1)

enough-lower : (ns : List ℕ) → AreLower (enough ns) ns
enough-lower [] = tt
enough-lower (n ∷ ns) = (omega arith, lower-more (enough ns) (suc (n + enough ns)) ns (omega arith) (enough-lower ns))

enough-room : (a : Arities) (ns : List ℕ) → AreWide a → sum_by (leaves_below a) ns ≤ leaves_below a (enough ns)
enough-room a [] b = omega arith
enough-room a (n ∷ ns) b =
    let p : ArePositive a = wide-positive a b in
    let x : leaves_below a n ≤ leaves_below a (n + enough ns) = leaves-le a n (n + enough ns) p (omega arith) in
    let y : leaves_below a (enough ns) ≤ leaves_below a (n + enough ns) = leaves-le a (enough ns) (n + enough ns) p (omega arith) in
    let m : leaves_below a (n + enough ns) * 2 ≤ leaves_below a (n + enough ns) * a (n + enough ns) = mul-le-mul_left (leaves_below a (n + enough ns)) (b (n + enough ns)) in
    omega (arith, x, y, m, enough-room a ns b, sum_by-cons (leaves_below a) n ns)

pub enough-fits : (a : Arities) (ns : List ℕ) → AreWide a → FitsBelow a ns (enough ns)
enough-fits a ns b = record { below = enough-lower ns; room = enough-room a ns b }

-- a need is less than the number of nodes
mutual
  pub need-nodes : (a : Arities) (m : Tree ℕ) → AreWide a → HoldsNeeds a m → root_of m + 1 ≤ nodes m
  need-nodes a (leaf n) b h = omega (arith, h)
  need-nodes a (inner n ts) b h = omega (arith, h.0.least (enough (needs_at ts)) (enough-fits a (needs_at ts) b), enough-nodes a ts b h.1)

  pub enough-nodes : (a : Arities) (ts : Trees ℕ) → AreWide a → HoldNeeds a ts → enough (needs_at ts) ≤ nodes_below ts
  enough-nodes a none b h = omega arith
  enough-nodes a (more t ts) b h = omega (arith, need-nodes a t b h.0, enough-nodes a ts b h.1)
