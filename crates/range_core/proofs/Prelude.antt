-- The names that the proofs of this crate take from outside, passed on from one place. Declares nothing.
pub use Rattle.std.proofs.Common.{map, rules, ◌≡◌, subst, take, FitsSigned, List, arith, sym, ℕ, [], add-one, ap, false, refl, ◌++◌, ◌∷◌, Option, Some, get_or, inl, length, suc, true, zero, ◌<◌, ◌↔◌, ◌∙◌}
pub use Rattle.std.proofs.lemmas.Int.{to_z-of_z, ints, clamps}
pub use Rattle.std.proofs.lemmas.List.{map-append, append-nil, append_assoc}
pub use Rattle.std.specs.Int.{w128, int_max, int_min}
pub use Rattle.std.specs.List.{AllByRecursion}
pub use Rattle.rank_defs.proofs.NarrowIntervals.{at_four, at_numbers, corners_fit, whole_proper}
pub use Rattle.rank_defs.proofs.SafeSteps.{always-tame}
pub use Rattle.rank_defs.specs.Checks.{entry, entries, Entry, IsWide, MayDivideByZero, AreChecked, Clashes, ClashesFirstAt, DividesByZeroFirstAt, IsLeastLine, IsWideFirstAt, lesser_line}
pub use Rattle.rank_defs.specs.Formulas.{formula_of}
pub use Rattle.rank_defs.specs.Programs.{program_of, assignment_of, assignments, Program}
pub use Rattle.rank_defs.specs.Ranges.{declared, holds_zero, parts_divide}
pub use Rattle.rank_defs.specs.Shapes.{IsShaped}
pub use Rattle.rank_defs.specs.declared.transaction.Transaction.{Transaction}
pub use Rattle.range_core.specs.LeastLines.{AreLeast}
