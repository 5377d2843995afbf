-- The bounds of an expression's values.
use Rattle.std.specs.Prelude.{Option}
use Rattle.std.specs.Option.{SomeIff}
use Rattle.rank_defs.specs.Formulas.{Formula}
use Rattle.rank_defs.specs.Programs.{Program}
use Rattle.rank_defs.specs.Ranges.{declared, range_of, parts_divide, ArePartsNarrow}
use Rattle.range_core.specs.declared.bounds.Bounds.{Bounds}

-- the expression's interval, and whether no divisor's interval contains 0
abbrev pub bounds_of : Program → Formula → Bounds
bounds_of p f = record { range = range_of (declared p) f; divides = parts_divide (declared p) f }

-- the bounds found for an expression: nothing exactly if the interval of a part is too wide
abbrev pub AreBoundsOf : Program → Formula → Option Bounds → Type 0
AreBoundsOf p f found = SomeIff found (ArePartsNarrow (declared p) f) (bounds_of p f)
