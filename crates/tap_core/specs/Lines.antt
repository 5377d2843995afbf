-- The line that a tap prints.
use Rattle.std.specs.Prelude.{ℕ, List, [], ◌∷◌, map, decimal, codes}
use Rattle.outside_core.specs.Report.{line_of}
use Rattle.tap_core.specs.declared.kinds.TapKind.{TapKind}
use Rattle.tap_core.specs.declared.kinds.TapKind.TheVariants.{Bytes, Order, First, Drops}

-- the word that names taps of this kind on the command line
abbrev pub name_of : TapKind → List ℕ
name_of Bytes = codes "bytes"
name_of Order = codes "order"
name_of (First limit) = codes "first"
name_of Drops = codes "drops"

-- the words of a line with this name and these numbers
abbrev pub words_of : List ℕ → List ℕ → List (List ℕ)
words_of name numbers = codes "tap" ∷ name ∷ map decimal numbers

-- the line of a tap in this state: its numbers; for `Order`, the count of late packets precedes the
-- greatest packet number
abbrev pub line : TapKind → List ℕ → List ℕ
line Order (greatest ∷ late ∷ []) = line_of (words_of (name_of Order) (late ∷ greatest ∷ []))
line kind state = line_of (words_of (name_of kind) state)
