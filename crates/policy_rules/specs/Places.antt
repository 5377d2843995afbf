-- The index of each name in a list of names.
use Rattle.std.specs.Prelude.{◌≡◌, ℕ, List, map, position}
use Rattle.std.specs.Borrow.{Bor}
use Rattle.std.specs.BTreeMap.{BTreeMap, get_by}
use Rattle.std.specs.Cmp.Lexicographic.{slice_cmp}
use Rattle.std.specs.Ordering.{nat_cmp}
use Rattle.std.specs.Str.{bytes_eq}

-- the bytes of some texts
abbrev pub texts : List (Bor (List ℕ)) → List (List ℕ)
texts names = map (λ k. k.now) names

-- a map finds each of the names at its index, and no other name
abbrev pub ArePlaces : BTreeMap (Bor (List ℕ)) ℕ → List (List ℕ) → Type 0
ArePlaces places names = (q : List ℕ) → get_by (λ k. slice_cmp nat_cmp q k.now) places ≡ position (bytes_eq q) names
