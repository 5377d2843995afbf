-- The names that the proofs of this crate take from outside, passed on from one place. Declares nothing.
pub use Rattle.std.proofs.Common.{ℕ, length, ◌≡◌, arith, List, ap, ◌≤◌, ◌∙◌, sym, [], ◌∷◌, refl, suc, ◌<◌, ◌+◌, subst, zero, Bool, Some, if◌then◌else◌, ◌++◌, Option, false, take, true, IfSome, None, ◌-◌, ◌==◌, get_or, inl, inr, leb, ◌*◌, ◌^◌, All, append-nil, append_assoc, cond, map, ◌/◌, Global, Vec, ap₂, drop, length-append, slice_index_or, slice_set, ◌%◌, ◌⊎◌, Err, IfOk, Ok, Result, ltb, rules, sum_by}
pub use Rattle.std.proofs.lemmas.Bool.{cond-false, cond-true, le-leb, cases_order, cases_lt, eq-eqb, eqb-true, lt-leb, ltb-true, eqb-false, le-ltb, leb-true, lt-ltb, ne_eqb}
pub use Rattle.std.proofs.lemmas.List.Sorted.{IsPermutation-trans, IsNonDecreasingBy-from_sort, IsPermutation-refl, length_permutation, sum_by-IsPermutation, IsPartitionPoint-from_clause, IsPartitionedBy-leb, IsPermutation-append, IsPermutation-append_comm, IsPermutation-append_left, IsPermutation-append_right, IsPermutation-cons, IsPermutation-middle, IsPermutation-sym}
pub use Rattle.std.proofs.lemmas.List.Sums.{sum_by-cons, sum_by-append, sum_by-le-sum_by}
pub use Rattle.std.specs.Int.{div_ceil}
pub use Rattle.std.specs.List.{AllByRecursion, AllWithin}
pub use Rattle.std.specs.Ordering.{nat_cmp, is_lt}
pub use Rattle.std.specs.Prelude.{slice_get, option_map, unwrap_or, codes, nat_le, replicate, ◌||◌}
pub use Rattle.sched_defs.specs.Events.{Outcome, outcomes, Arrive, Arrived, CanMake, Depart, Dropped, Event, departure, outcome}
pub use Rattle.sched_defs.specs.SourceState.{start, Leaver, SourceState, arrival_ranks, arrived, class_of, departed, dropped, is_full, leaver, leaving, left_from, left_with, pushed}
pub use Rattle.sched_defs.specs.declared.rate.LinkRate.{LinkRate}
pub use Rattle.summary_core.specs.Counting.{no_counts}
pub use Rattle.summary_core.specs.Fairness.{shares, squares, total, fairness_of, has_packets, index_from, share_of}
pub use Rattle.summary_core.specs.Figures.{AreFigures, HasPercentiles, AreGroups, counts_in, gathered, HasGroups}
pub use Rattle.summary_core.specs.Lists.{list_at}
pub use Rattle.summary_core.specs.OfRun.{delays_of, AreFiguresOf, AreGroupsOf, AreSame, AreSumsOf, part_delays}
pub use Rattle.summary_core.specs.Parts.{part_at, is_in, joined}
pub use Rattle.summary_core.specs.Percentiles.{ArePercentiles, nearest_rank, value_at}
pub use Rattle.summary_core.specs.Ranks.{listed, count_to, at_most, IsAtPercent, IsAtRank}
pub use Rattle.summary_core.specs.Summing.{ClassEvent, class_events, delay_of, delays_in, events_by, items_at, no_timestamps, Timestamps, any_class, counted, is_at_leaf, is_class, of_class, stamps_after, times_of}
pub use Rattle.summary_core.specs.Timestamps.{stamp_at, stamp_in, absent, in_slot}
pub use Rattle.summary_core.specs.declared.delays.Delays.{Delays}
pub use Rattle.summary_core.specs.declared.group.Figures.{Figures}
pub use Rattle.summary_core.specs.declared.group.Group.{Group}
pub use Rattle.summary_core.specs.declared.group.Groups.{Groups}
pub use Rattle.summary_core.specs.declared.group.Label.{Label}
pub use Rattle.summary_core.specs.declared.part.Kind.{Kind}
pub use Rattle.summary_core.specs.declared.part.Part.{Part}
pub use Rattle.summary_core.specs.declared.summary.Summary.{Summary}
