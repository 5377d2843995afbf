-- The names that the proofs of this crate take from outside, passed on from one place. Declares nothing.
pub use Rattle.std.proofs.Common.{ap, ◌∙◌, ◌≡◌, refl, List, inl, ℕ, Option, None, Some, sym, ◌∷◌, [], inr, subst, ◌++◌, map, arith, length, take, ◌+◌, Bool, append-nil, false, get_or, true, ◌<◌, ◌≤◌, ◌⊎◌, append_assoc, min, suc, sum_by, zero, ◌*◌, ◌-◌, ◌^◌}
pub use Rattle.std.proofs.lemmas.Result.{err_from_is_err_and}
pub use Rattle.std.specs.Prelude.{Err, Ok, Result, IfOk, IfSome, OnErr, OnOk, codes, IsSomeAnd, IsTrue, Vec, option_map}
pub use Rattle.outside_core.proofs.KeptLaws.{Begins-trans, sink-same}
pub use Rattle.outside_core.proofs.WrittenLaws.{appended_nothing, prefix_of_nothing, appended_in_turn}
pub use Rattle.outside_core.specs.Written.{Appended, AppendedPrefix}
pub use Rattle.outside_core.specs.declared.stop.Stop.{Stop}
pub use Rattle.policy_defs.specs.Accepted.{IsAccepted}
pub use Rattle.policy_defs.specs.Numbers.{number_at}
pub use Rattle.policy_defs.specs.Policy.{Policy, Node, node_at}
pub use Rattle.policy_rules.specs.Resolved.{Resolved, AreClassesOf, Declared, classes_in}
pub use Rattle.replay_app.proofs.AnswerLaws.{pace_ends, same_status, told-later, forward_ends, is_stop}
pub use Rattle.replay_app.proofs.FollowLaws.{exactly_told}
pub use Rattle.replay_app.specs.Answer.{IsTold, Answer, text_alone}
pub use Rattle.replay_app.specs.Policies.{policy_file_of, IsPolicy, PolicyFile}
pub use Rattle.replay_app.specs.Scripts.{ending_status}
pub use Rattle.replay_app.specs.Statuses.{run_status, status_code, IsOneOf, pace_statuses, forward_status}
pub use Rattle.replay_app.specs.declared.status.Status.{Status}
pub use Rattle.replay_app.specs.declared.status.Status.TheVariants.{LateStart}
pub use Rattle.sched_capture.specs.Answers.{RunAnswer, paced_answer, IsRefusal, IsRefusalPart, answer_of, answer_over}
pub use Rattle.sched_capture.specs.CapturePackets.{left_of, captures_of, there}
pub use Rattle.sched_defs.specs.Events.{Event, Outcome, outcomes, CanMake, after}
pub use Rattle.sched_defs.specs.Pace.{Pace}
pub use Rattle.sched_defs.specs.Packets.{Captured, AreThere, Left}
pub use Rattle.sched_defs.specs.SourceState.{start}
pub use Rattle.sched_defs.specs.declared.ending.Ending.{Ending}
pub use Rattle.sched_run.specs.Steps.{pace_of, CanEndSo}
pub use Rattle.size_core.specs.Laws.{Fits}
pub use Rattle.size_core.specs.declared.limits.Overflow.{Overflow}
pub use Rattle.size_core.specs.declared.size.Sizes.{Sizes}
pub use Rattle.summary_core.specs.declared.group.Label.{Label}
pub use Rattle.tree_defs.specs.Topology.{topology_of, Topology}
pub use Rattle.tree_defs.specs.Tree.{Tree, Address, LeadsBelow, LeadsToLeaf, Trees, inner, leaf, more, nodes, none}
pub use Rattle.study.specs.Files.{drive_files, IsSummedUp, target_of, with_target}
pub use Rattle.study.specs.Labels.{leaf_index, class_labels, held_labels, leaf_labels, leaf_table, all_leaf_labels, class_label, is_leaf_at, is_leaf_below, label_of, leaf_label}
pub use Rattle.study.specs.Places.{policy_in, laid_of, policy_file_in}
pub use Rattle.study.specs.Recorded.{HasRecordedPart, IsPartOf, IsRefusedRun, IsWholeRun, HasRecorded}
pub use Rattle.study.specs.SizeRuns.{shown, IsSized, size_status}
pub use Rattle.study.specs.SumRuns.{IsToldOr, ending_line, AreRunSums, AreSumsWritten, HasNames, IsSummed, IsTextOf, LacksRoom, render, sum_rate, IsResult, results}
pub use Rattle.study.specs.declared.sums.Form.{Form}
pub use Rattle.study.specs.declared.sums.Form.TheVariants.{Json, Text}
