-- The names that the proofs of this crate take from outside, passed on from one place. Declares nothing.
pub use Rattle.std.proofs.Common.{refl, ℕ, arith, ◌≡◌, false, true, [], ◌∷◌, List, ◌≤◌, Bool, subst, ◌≢◌, ap, suc, zero, ◌++◌, ◌^◌, cond, rules, ◌∙◌, None, Option, Some, inl, inr, lit≤, map, sym, ◌&&◌, length, min, of_z, to_z, ◌*◌, ◌/◌, ◌<◌, ◌⊎◌}
pub use Rattle.std.proofs.lemmas.Int.{ints, clamps, by_lt_z, to_z-of_z}
pub use Rattle.std.specs.Int.{int_max, int_min, w128}
pub use Rattle.std.specs.Int.Signed.{clash_ℤ, le_z_yes, lt_z_yes}
pub use Rattle.std.specs.List.{AllByRecursion}
pub use Rattle.std.specs.Prelude.{pos, ℤ, ◌≤ℤ◌, negsuc, int_div, neg_ℤ, FitsSigned, slice_index, slice_set, unsigned_abs, ◌*ℤ◌, ◌==◌}
pub use Rattle.rank_defs.specs.Builtins.{fifo, rr, counter, lstf, same_name, set, shortest, stfq, strict}
pub use Rattle.rank_defs.specs.Checks.{IsCheckedAssignment, entry, AreChecked, Clashes, Entry, IsChecked, IsWide, MayDivideByZero, SomeAt, ClashesFirstAt, DividesByZeroFirstAt, IsLeastAt, IsLeastLine, IsSafe, IsWideFirstAt, NoneAt, entries, lesser_line}
pub use Rattle.rank_defs.specs.Formulas.{Formula, two, choice, number, variable, negation, depth_of, group}
pub use Rattle.rank_defs.specs.Programs.{Program, Assignment, max_rank, target, assignments, span, span_at}
pub use Rattle.rank_defs.specs.Ranges.{ArePartsNarrow, declared, range, IsNarrow, counts, range_of, sort_of, holds_zero, parts_divide, tells, AreOrdered, Sort, clash, range_of_two, IsProper, corners, hull_of, joined_range, may_divide, reach, sort_of_choice, sort_of_negation, sort_of_two, widest}
pub use Rattle.rank_defs.specs.Shapes.{IsShaped, AreWithin, IsEnvInRange, IsSpan, AreDeclared, IsAim, IsMemoryInRange, IsShapedAssignment, IsStateInRange}
pub use Rattle.rank_defs.specs.States.{Memory, State, memory_for, put_back, same_who, variable_in, SameState, first_state, firsts, same_flow}
pub use Rattle.rank_defs.specs.Steps.{pop_step, run, assigned, push_step, write, written, after_pop, after_push, clamped}
pub use Rattle.rank_defs.specs.Tame.{AreInside, IsInside, ArePartsIn, HasValueIn, IsAlwaysTame, IsSafePop, IsSafePush, IsTame, IsTameAssignment}
pub use Rattle.rank_defs.specs.Values.{nothing, truth, FitsWide, Value, num, value_of, apply, chosen, negated, quotient}
pub use Rattle.rank_defs.specs.declared.environment.Env.{Env}
pub use Rattle.rank_defs.specs.declared.environment.Who.{Who}
pub use Rattle.rank_defs.specs.declared.expression.Op.{Op}
pub use Rattle.rank_defs.specs.declared.expression.Op.TheVariants.{Add, Mul, Div, Less, Max, Min, Sub, And, Or}
pub use Rattle.rank_defs.specs.declared.expression.Var.TheVariants.{Len, Now, Prio, Slack, Weight}
pub use Rattle.rank_defs.specs.declared.range.Range.{Range}
pub use Rattle.rank_defs.specs.declared.transaction.Aim.{Aim}
