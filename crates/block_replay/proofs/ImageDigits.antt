-- If images are spread, each child of a node has its own first digit after the node's image.
use Rattle.block_replay.proofs.Prelude.{refl, ◌≡◌, [], ℕ, ◌∙◌, sym, ◌∷◌, List, Some, ap, suc, zero, true, length, drop, ◌≢◌, and_parts, slice_index, Placement, Placements, part, Address, Tree, Trees, inner, leaf, none, more, root_of, child, is_spread, all_differ, digits_behind, are_spread}
use Rattle.embed_defs.specs.Lifting.{relative, relatives}
use Rattle.block_replay.proofs.SpreadDigits.{differ-children}

-- no two children begin with the same digit
abbrev pub AreOwnDigits : Placements → Type 0
AreOwnDigits ps = (i j : ℕ) → part ps i ≢ [] → part ps j ≢ [] → slice_index (part ps i) 0 ≡ slice_index (part ps j) 0 → i ≡ j

abbrev mutual
  pub HasOwnDigits : Placement → Type 0
  HasOwnDigits (leaf e) = Unit {0}
  HasOwnDigits (inner e ps) = AreOwnDigits ps × HaveOwnDigits ps

  pub HaveOwnDigits : Placements → Type 0
  HaveOwnDigits none = Unit {0}
  HaveOwnDigits (more p ps) = HasOwnDigits p × HaveOwnDigits ps

-- the first digit of an image without its first n digits
first_dropped : (n : ℕ) (e : List ℕ) → slice_index (drop n e) 0 ≡ slice_index e n
first_dropped zero e = refl
first_dropped (suc n) [] = refl
first_dropped (suc n) (x ∷ e) = first_dropped n e

root_dropped : (n : ℕ) (m : Tree Address) → root_of (relative n m) ≡ drop n (root_of m)
root_dropped n (leaf e) = refl
root_dropped n (inner e ts) = refl

-- a part that isn't empty is the rest of a child's image
record IsChildsPart (n : ℕ) (ts : Trees Address) (i : ℕ) : Type 0 where
  image : Tree Address
  stands : child ts i ≡ Some image
  first : slice_index (part (relatives n ts) i) 0 ≡ slice_index (root_of image) n

childs_part : (n : ℕ) (ts : Trees Address) (i : ℕ) → part (relatives n ts) i ≢ [] → IsChildsPart n ts i
childs_part n none i ne = absurd (ne refl)
childs_part n (more t ts) zero ne = record { image = t; stands = refl; first = ap (λ (e : Address). slice_index e 0) (root_dropped n t) ∙ first_dropped n (root_of t) }
childs_part n (more t ts) (suc i) ne = let w : IsChildsPart n ts i = childs_part n ts i ne in record { image = w.image; stands = w.stands; first = w.first }

own_digits : (n : ℕ) (ts : Trees Address) → all_differ (digits_behind n ts) ≡ true → AreOwnDigits (relatives n ts)
own_digits n ts d i j long also e =
    let v : IsChildsPart n ts i = childs_part n ts i long in
    let w : IsChildsPart n ts j = childs_part n ts j also in
    differ-children n ts d i j v.image w.image v.stands w.stands (sym v.first ∙ e ∙ w.first)

mutual
  pub spread-own : (n : ℕ) (m : Tree Address) → is_spread m ≡ true → HasOwnDigits (relative n m)
  spread-own n (leaf e) d = tt
  spread-own n (inner e ts) d =
      let both : (all_differ (digits_behind (length e) ts) ≡ true) × (are_spread ts ≡ true) = and_parts (all_differ (digits_behind (length e) ts)) (are_spread ts) d in
      (own_digits (length e) ts both.0, spread-own_below (length e) ts both.1)

  pub spread-own_below : (n : ℕ) (ts : Trees Address) → are_spread ts ≡ true → HaveOwnDigits (relatives n ts)
  spread-own_below n none d = tt
  spread-own_below n (more t ts) d =
      let both : (is_spread t ≡ true) × (are_spread ts ≡ true) = and_parts (is_spread t) (are_spread ts) d in
      (spread-own n t both.0, spread-own_below n ts both.1)
