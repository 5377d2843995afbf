-- The names that the proofs of this crate take from outside, passed on from one place. Declares nothing.
pub use Rattle.std.proofs.Common.{◌≡◌, sym, rules, subst, ◌∙◌, List, ap, arith, [], length, ℕ, map, refl, ◌∷◌, Some, drop, IsSome, false, ◌<◌, ◌≢◌, Option, Vec, true, ◌≤◌, None, cond, suc, take, zero, ◌++◌, ◌+◌, get_or}
pub use Rattle.std.proofs.lemmas.List.{drop_more, length-append}
pub use Rattle.std.specs.BTreeMap.{BTreeMap, Updates, get, is_at}
pub use Rattle.std.specs.List.{AllByRecursion}
pub use Rattle.std.specs.Map.{lookup}
pub use Rattle.std.specs.Prelude.{slice_get, slice_set, option_map, pos}
pub use Rattle.std.specs.Vec.{with_items}
pub use Rattle.std.specs.declared.alloc.Global.{Global}
pub use Rattle.rank_defs.proofs.OtherStates.{same_who-is, by_same_who, same_who-other, same_who-refl}
pub use Rattle.rank_defs.proofs.SafeSteps.{first_state-in_range, assigned-in_range, safe_pop, safe_push}
pub use Rattle.rank_defs.proofs.SameStates.{in_range-same, same-sym}
pub use Rattle.rank_defs.proofs.Spans.{length-within, span_at-proper, variables-inside}
pub use Rattle.rank_defs.specs.Checks.{IsCheckedAssignment}
pub use Rattle.rank_defs.specs.Programs.{program_of, assignment_of, Program, max_rank}
pub use Rattle.rank_defs.specs.Shapes.{IsMemoryInRange, IsShapedAssignment, IsShaped}
pub use Rattle.rank_defs.specs.States.{Memory, SameState, memory_for, put_back, first_state, same_who, State, firsts, variable_in}
pub use Rattle.rank_defs.specs.Steps.{run, write, after_pop, after_push, assigned, clamped, push_rank}
pub use Rattle.rank_defs.specs.declared.environment.Env.{Env}
pub use Rattle.rank_defs.specs.declared.environment.FlowKey.{FlowKey}
pub use Rattle.rank_defs.specs.declared.environment.Who.{Who}
pub use Rattle.rank_defs.specs.declared.environment.Who.TheVariants.{Child, Flow}
pub use Rattle.rank_defs.specs.declared.transaction.Aim.TheVariants.{Keep}
pub use Rattle.rank_defs.specs.declared.transaction.Assign.{Assign}
pub use Rattle.rank_defs.specs.declared.transaction.Transaction.{Transaction}
pub use Rattle.rank_core.specs.FlowKeys.{has_key, key_of}
pub use Rattle.rank_core.specs.Flows.{numbers_at, items_of, place_of, numbers_of}
pub use Rattle.rank_core.specs.Forms.{IsForm, AreFair, AreKept, RunAs}
pub use Rattle.rank_core.specs.Node.{state_of, step_of, HasState, HasRoom, children_of, kept_or, kept}
pub use Rattle.rank_core.specs.Scope.{memory, run_of, memory_of}
pub use Rattle.rank_core.specs.Table.{program_named, row, assignment, program}
pub use Rattle.rank_core.specs.contracts.flows.OrderedKeyOrd.TheImpl.{cmp-value}
pub use Rattle.rank_core.specs.declared.flows.OrderedKey.{OrderedKey}
pub use Rattle.rank_core.specs.declared.node.NodeState.{NodeState}
