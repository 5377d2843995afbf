-- The least lines at fault.
use Rattle.std.specs.Prelude.{List}
use Rattle.rank_defs.specs.Checks.{Entry, Clashes, IsWide, MayDivideByZero, NoneAt, IsLeastLine}
use Rattle.range_core.specs.declared.lines.Lines.{Lines}

-- the least line with each fault; that of a divisor that may be 0 is guaranteed only if all
-- intervals are narrow
pub record AreLeast (es : List Entry) (lines : Lines) : Type 0 where
  pub clash : IsLeastLine Clashes es lines.clash
  pub wide : IsLeastLine IsWide es lines.wide
  pub zero : NoneAt IsWide es → IsLeastLine MayDivideByZero es lines.zero
