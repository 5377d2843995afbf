-- Jain's index of fairness over the leaves: the square of the sum of the shares, over their number
-- times the sum of their squares.
use Rattle.std.specs.Prelude.{◌≡◌, refl, ℕ, ◌+◌, ◌*◌, ◌/◌, ◌==◌, ◌||◌, not, nat_le, max, Bool, if◌then◌else◌, List, [], ◌∷◌, length}
use Rattle.summary_core.specs.declared.counts.Counts.{Counts}
use Rattle.summary_core.specs.declared.group.Group.{Group}
use Rattle.summary_core.specs.declared.fairness.Fairness.{Fairness}
use Rattle.summary_core.specs.declared.fairness.Fairness.TheVariants.{Index, NoShares, TooLarge}

-- a leaf is counted if a packet came to it, even if it was dropped there
abbrev pub has_packets : Counts → Bool
has_packets c = not (c.arrived == 0) || not (c.dropped == 0)

-- a leaf's departed bytes by its weight, in thousandths of a byte, rounded down
abbrev pub share_of : Group → ℕ
share_of g = g.figures.counts.bytes * 1000 / max g.label.weight 1

abbrev pub shares : List Group → List ℕ
shares [] = []
shares (g ∷ gs) = if has_packets g.figures.counts then share_of g ∷ shares gs else shares gs

abbrev pub total : List ℕ → ℕ
total [] = 0
total (x ∷ xs) = x + total xs

abbrev pub squares : List ℕ → ℕ
squares [] = 0
squares (x ∷ xs) = x * x + squares xs

-- The index in millionths, rounded down, of a number of shares, their sum, and the sum of their
-- squares. A sum of 2^54 thousandths or more is too large, and so are 2^20 shares or more.
abbrev pub index_from : ℕ → ℕ → ℕ → Fairness
index_from count sum squares =
    if nat_le 18014398509481984 sum || nat_le 1048576 count then TooLarge
    else (if count * squares == 0 then NoShares else Index (sum * sum * 1000000 / (count * squares)))

abbrev pub index_of : List ℕ → Fairness
index_of xs = index_from (length xs) (total xs) (squares xs)

abbrev pub fairness_of : List Group → Fairness
fairness_of gs = index_of (shares gs)

-- equal shares have index 1
index-equal : index_of (5000 ∷ 5000 ∷ 5000 ∷ []) ≡ Index 1000000
index-equal = refl

-- of two leaves one has all, or twice as much as the other
index-one_of_two : index_of (5000 ∷ 0 ∷ []) ≡ Index 500000
index-one_of_two = refl

index-twice : index_of (2000 ∷ 1000 ∷ []) ≡ Index 900000
index-twice = refl

index-none : index_of (0 ∷ 0 ∷ []) ≡ NoShares
index-none = refl

index-large : index_of (18014398509481984 ∷ []) ≡ TooLarge
index-large = refl
