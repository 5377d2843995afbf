-- A complete tree in which a tree is placed is at least as high as the need.
use Rattle.embed_defs.proofs.Prelude.{[], ℕ, ◌≡◌, refl, ◌∷◌, arith, length, List, ◌≤◌, ◌-◌, ◌≢◌, sum_by-cons, sum_by, IsWithin, inner, leaf, more, none, Tree, Trees, root_of, SameShape, SameShapes, Arities, down_from, leaves_below, AreLower, HoldNeeds, HoldsNeeds, needs_at, Placement, IsPlaced, Placements, ArePlaced, IsApartFrom}
use Rattle.tree_defs.specs.Tree.{Address}
use Rattle.embed_defs.proofs.Levels.{ArePositive, leaves-le, address-short}
use Rattle.embed_defs.proofs.PrefixFree.{IsApart, AreApart}
use Rattle.embed_defs.proofs.KraftInequality.{weight, AreAddressesIn, kraft}

-- a placement below a node of height h: each leaf's image is a leaf's address
abbrev mutual
  pub LiesWithin : Arities → ℕ → Placement → Type 0
  LiesWithin a h (leaf e) = h ≡ 0
  LiesWithin a h (inner e ps) = LieWithin a h ps

  pub LieWithin : Arities → ℕ → Placements → Type 0
  LieWithin a h none = Unit {0}
  LieWithin a h (more p ps) = IsWithin (down_from a h) (root_of p) × LiesWithin a (h - length (root_of p)) p × LieWithin a h ps

abbrev roots : Placements → List Address
roots none = []
roots (more p ps) = root_of p ∷ roots ps

apart_roots : (e : Address) (ps : Placements) → IsApartFrom e ps → IsApart e (roots ps)
apart_roots e none h = tt
apart_roots e (more p ps) h = (h.0, h.1, apart_roots e ps h.2)

are_apart : (ps : Placements) → ArePlaced ps → AreApart (roots ps)
are_apart none h = tt
are_apart (more p ps) h = (apart_roots (root_of p) ps h.1, are_apart ps h.3)

long : (e : Address) → e ≢ [] → 1 ≤ length e
long [] n = absurd (n refl)
long (x ∷ e) n = omega arith

are_addresses : (a : Arities) (h : ℕ) (ps : Placements) → LieWithin a h ps → AreAddressesIn a h (roots ps)
are_addresses a h none w = tt
are_addresses a h (more p ps) w = (w.0, are_addresses a h ps w.2)

mutual
  pub need_least : (a : Arities) (m : Tree ℕ) (p : Placement) (h : ℕ) → ArePositive a → HoldsNeeds a m → SameShape m p → IsPlaced p → LiesWithin a h p → root_of m ≤ h
  need_least a (leaf n) p h o d s i w = omega (arith, d)
  need_least a (inner n ts) (leaf e) h o d s i w = absurd s
  need_least a (inner n ts) (inner e ps) h o d s i w =
      let k : AreLower h (needs_at ts) × (sum_by (leaves_below a) (needs_at ts) ≤ weight a h (roots ps)) = needs_least a ts ps h o d.1 s i w in
      d.0.least h (record { below = k.0; room = omega (arith, k.1, kraft h a (roots ps) (are_addresses a h ps w) (are_apart ps i)) })

  needs_least : (a : Arities) (ts : Trees ℕ) (ps : Placements) (h : ℕ) → ArePositive a → HoldNeeds a ts → SameShapes ts ps → ArePlaced ps → LieWithin a h ps
      → AreLower h (needs_at ts) × (sum_by (leaves_below a) (needs_at ts) ≤ weight a h (roots ps))
  needs_least a none ps h o d s i w = (tt, omega arith)
  needs_least a (more t ts) none h o d s i w = absurd s
  needs_least a (more t ts) (more p ps) h o d s i w =
      let l : root_of t ≤ h - length (root_of p) = need_least a t p (h - length (root_of p)) o d.0 s.0 i.2 w.1 in
      let k : AreLower h (needs_at ts) × (sum_by (leaves_below a) (needs_at ts) ≤ weight a h (roots ps)) = needs_least a ts ps h o d.1 s.1 i.3 w.2 in
      let first : leaves_below a (root_of t) ≤ leaves_below a (h - length (root_of p)) = leaves-le a (root_of t) (h - length (root_of p)) o l in
      ((omega (arith, l, long (root_of p) i.0, address-short a h (root_of p) w.0), k.0), omega (arith, first, k.1, sum_by-cons (leaves_below a) (root_of t) (needs_at ts)))
