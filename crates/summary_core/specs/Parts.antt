-- The parts of a run's packets.
use Rattle.std.specs.Prelude.{ℕ, zero, suc, Bool, if◌then◌else◌, List, [], ◌++◌}
use Rattle.summary_core.specs.Summing.{any_class, is_class, is_at_leaf}
use Rattle.summary_core.specs.declared.part.Part.{Part}
use Rattle.summary_core.specs.declared.part.Part.TheVariants as part
use Rattle.summary_core.specs.declared.part.Kind.{Kind}
use Rattle.summary_core.specs.declared.part.Kind.TheVariants as kind

-- whether a class belongs to a part; the table gives the index of each class's leaf
abbrev pub is_in : List ℕ → Part → ℕ → Bool
is_in table part.Whole c = any_class c
is_in table (part.Leaf l) c = is_at_leaf table l c
is_in table (part.Class d) c = is_class d c

abbrev pub part_at : Kind → ℕ → Part
part_at kind.Leaf i = part.Leaf i
part_at kind.Class i = part.Class i

-- the lists of those classes below a number that belong to a part, one class after another
abbrev pub joined : (ℕ → Bool) → (ℕ → List ℕ) → ℕ → List ℕ
joined member lists zero = []
joined member lists (suc n) = joined member lists n ++ (if member n then lists n else [])
