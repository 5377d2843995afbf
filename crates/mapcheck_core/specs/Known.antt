-- Names kept in order.
use Rattle.std.specs.Prelude.{ℕ, Bool, List}
use Rattle.std.specs.BTreeSet.{BTreeSet, contains_by}
use Rattle.std.specs.Cmp.Lexicographic.{slice_cmp}
use Rattle.std.specs.Ordering.{nat_cmp}
use denote.Ref.{Bor}

-- a name is among them
abbrev pub knows : BTreeSet (Bor (List ℕ)) → List ℕ → Bool
knows known name = contains_by (λ k. slice_cmp nat_cmp name k.now) known
