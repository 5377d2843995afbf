-- The canonical images are a good map.
use Rattle.embed_defs.proofs.Prelude.{[], ℕ, ◌≡◌, refl, ap, ◌∙◌, arith, suc, length, List, ◌++◌, ◌+◌, ◌-◌, None, length-append, same_shape, topology_of-same, after-append, after, inner, leaf, more, none, Tree, Trees, root_of, SameShape, SameShapes, Child, canonical, image_part, children, canonicals, AreDeep, IsDeep, AreNested, IsNested, Arities, CanonicalMapsAreGood, IsPlaced, ArePlaced, IsApartFrom}
use Rattle.tree_defs.specs.Tree.{Address}
use Rattle.embed_defs.proofs.Addresses.{after-sum}
use Rattle.embed_defs.proofs.Levels.{ArePositive}
use Rattle.embed_defs.proofs.EnoughHeights.{wide-positive}
use Rattle.embed_defs.proofs.Blocks.{length-part}
use Rattle.embed_defs.proofs.CanonicalPlaced.{parts, child_parts, IsRoomy, AreRoomy, needs-roomy, parts-good, root-parts}

root-canonical : (a : Arities) (h : ℕ) (e : Address) (t : Tree ℕ) → root_of (canonical a h e t) ≡ e
root-canonical a h e (leaf n) = refl
root-canonical a h e (inner n ts) = refl

mutual
  canonical-shape : (a : Arities) (h : ℕ) (e : Address) (t : Tree ℕ) → SameShape t (canonical a h e t)
  canonical-shape a h e (leaf n) = tt
  canonical-shape a h e (inner n ts) = canonicals-shape a h e (children ts 0) ts 0

  canonicals-shape : (a : Arities) (h : ℕ) (e : Address) (xs : List Child) (ts : Trees ℕ) (i : ℕ) → SameShapes ts (canonicals a h e xs ts i)
  canonicals-shape a h e xs none i = tt
  canonicals-shape a h e xs (more t ts) i = (canonical-shape a (root_of t) (e ++ image_part a h xs (i, root_of t)) t, canonicals-shape a h e xs ts (suc i))

mutual
  canonical-deep : (a : Arities) (h H : ℕ) (e : Address) (m : Tree ℕ) → IsRoomy a h m → length e + h ≡ H → IsDeep H (canonical a h e m)
  canonical-deep a h H e (leaf n) w q = omega (arith, w, q)
  canonical-deep a h H e (inner n ts) w q = canonicals-deep a h H e (children ts 0) ts 0 w.1 q

  canonicals-deep : (a : Arities) (h H : ℕ) (e : Address) (xs : List Child) (ts : Trees ℕ) (i : ℕ) → AreRoomy a h ts → length e + h ≡ H → AreDeep H e (canonicals a h e xs ts i)
  canonicals-deep a h H e xs none i w q = tt
  canonicals-deep a h H e xs (more t ts) i w q =
      let l : length (e ++ image_part a h xs (i, root_of t)) ≡ length e + (h - root_of t) = length-append e (image_part a h xs (i, root_of t)) ∙ ap (λ (z : ℕ). length e + z) (length-part a h xs (i, root_of t)) in
      let g : root_of (canonical a (root_of t) (e ++ image_part a h xs (i, root_of t)) t) ≡ e ++ image_part a h xs (i, root_of t) = root-canonical a (root_of t) (e ++ image_part a h xs (i, root_of t)) t in (
        rw g (omega (arith, l, w.0)),
        rw g (omega (arith, l, q)),
        canonical-deep a (root_of t) H (e ++ image_part a h xs (i, root_of t)) t w.1 (omega (arith, l, w.0, q)),
        canonicals-deep a h H e xs ts (suc i) w.2 q,
      )

apart-whole : (a : Arities) (h : ℕ) (e p : Address) (xs : List Child) (ts : Trees ℕ) (i : ℕ) → IsApartFrom p (child_parts a h xs ts i) → IsApartFrom (e ++ p) (canonicals a h e xs ts i)
apart-whole a h e p xs none i w = tt
apart-whole a h e p xs (more t ts) i w =
    let x : Address = image_part a h xs (i, root_of t) in
    let g : root_of (canonical a (root_of t) (e ++ x) t) ≡ e ++ x = root-canonical a (root_of t) (e ++ x) t in
    let l : root_of (parts a (root_of t) x t) ≡ x = root-parts a (root_of t) x t in
    let q : after p x ≡ None = rw l at w.0 in
    let r : after x p ≡ None = rw l at w.1 in
    rw g (after-sum e p x ∙ q, after-sum e x p ∙ r, apart-whole a h e p xs ts (suc i) w.2)

mutual
  canonical-nested : (a : Arities) (h : ℕ) (e f : Address) (m : Tree ℕ) → IsPlaced (parts a h f m) → IsNested (canonical a h e m)
  canonical-nested a h e f (leaf n) w = tt
  canonical-nested a h e f (inner n ts) w = canonicals-nested a h e (children ts 0) ts 0 w

  canonicals-nested : (a : Arities) (h : ℕ) (e : Address) (xs : List Child) (ts : Trees ℕ) (i : ℕ) → ArePlaced (child_parts a h xs ts i) → AreNested e (canonicals a h e xs ts i)
  canonicals-nested a h e xs none i w = tt
  canonicals-nested a h e xs (more t ts) i w =
      let x : Address = image_part a h xs (i, root_of t) in
      let g : root_of (canonical a (root_of t) (e ++ x) t) ≡ e ++ x = root-canonical a (root_of t) (e ++ x) t in
      let l : root_of (parts a (root_of t) x t) ≡ x = root-parts a (root_of t) x t in
      let q : IsApartFrom x (child_parts a h xs ts (suc i)) = rw l at w.1 in
      rw g ((x, after-append e x), apart-whole a h e x xs ts (suc i) q, canonical-nested a (root_of t) (e ++ x) x t w.2, canonicals-nested a h e xs ts (suc i) w.3)

pub canonical_maps_are_good : CanonicalMapsAreGood
canonical_maps_are_good a h t images w c l =
    let p : ArePositive a = wide-positive a w in
    let r : IsRoomy a h c.all = needs-roomy a c.all h p c.needs.needs l in
    let g : IsPlaced (parts a h [] c.all) = (parts-good a c.all h [] p r).0 in
    rw c.placed (
      same_shape t (canonical a h [] c.all) (topology_of-same t c.all c.needs.shape ∙ topology_of-same c.all (canonical a h [] c.all) (canonical-shape a h [] c.all)),
      record {
        root = root-canonical a h [] c.all;
        deep = canonical-deep a h h [] c.all r (omega arith);
        nested = canonical-nested a h [] [] c.all g;
      },
    )
