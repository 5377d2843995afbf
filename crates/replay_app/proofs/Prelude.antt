-- The names that the proofs of this crate take from outside, passed on from one place. Declares nothing.
pub use Rattle.std.proofs.Common.{subst, sym, ℕ, List, ◌≡◌, refl, ap, ◌∙◌, [], ◌∷◌, Option, Some, None, arith, inr, length, ◌++◌, inl, map, ◌<◌, ◌≤◌, take, Bool, append-nil, false, get_or, suc, take_all, true, ◌+◌, ◌≢◌, ◌⊎◌, Vec, append_assoc, drop, ◌-◌}
pub use Rattle.std.proofs.lemmas.List.{get_or-map, length-map, map-append, take_more}
pub use Rattle.std.proofs.lemmas.List.Elements.{All-cons, All-nil}
pub use Rattle.std.proofs.lemmas.Result.{err_from_is_err_and, on_ok_weaker, on_err_weaker, IfOk-weaker}
pub use Rattle.std.specs.Prelude.{Err, Result, Ok, IfOk, IfSome, OnOk, OnErr, codes, String, if◌then◌else◌, is_ok, string_bytes}
pub use Rattle.std.specs.declared.alloc.Global.{Global}
pub use Rattle.embed_defs.proofs.LevelLaws.{heights_in_range-holds}
pub use Rattle.embed_defs.specs.Embedding.{HasEmbedding, IsEmbedding}
pub use Rattle.embed_defs.specs.Images.{image_map}
pub use Rattle.embed_defs.specs.Laws.{AreWide}
pub use Rattle.embed_defs.specs.Levels.{levels, Arities}
pub use Rattle.embed_defs.specs.Target.{IsInRange, IsArity}
pub use Rattle.embed_plan.proofs.PreorderAddresses.{count, listed}
pub use Rattle.embed_plan.specs.Preorder.{addresses}
pub use Rattle.events_core.specs.Script.{IsScript}
pub use Rattle.events_core.specs.declared.step.Step.{Step}
pub use Rattle.fabric_core.specs.declared.fabric.Fabric.{Ghosts}
pub use Rattle.mapcheck_core.specs.GivenMaps.{IsGivenFor, IsVerdict, IsWithinLimits, image_of, Breaks, outside, prefix, root}
pub use Rattle.mapcheck_core.specs.MapTexts.{Fits, IsMapAnswer}
pub use Rattle.mapcheck_core.specs.TreeTexts.{IsTreeText, IsTreeFault}
pub use Rattle.mapcheck_core.specs.declared.fault.MapFault.{MapFault}
pub use Rattle.mapcheck_core.specs.declared.given.Given.{Given}
pub use Rattle.outside_core.proofs.WrittenLaws.{appended_nothing, prefix_of_nothing, appended_in_turn, prefix_in_turn, prefix_of_longer}
pub use Rattle.outside_core.specs.Written.{Appended, AppendedPrefix}
pub use Rattle.outside_core.specs.declared.stop.Stop.{Stop}
pub use Rattle.policy_core.proofs.OfficeTree.{offices-alike}
pub use Rattle.policy_core.proofs.OnePolicy.{one-policy}
pub use Rattle.policy_core.proofs.SomePolicy.{a_policy}
pub use Rattle.policy_core.specs.Office.{office_lines, IsOffice, office_statements}
pub use Rattle.policy_defs.specs.Policy.{Policy, name_at}
pub use Rattle.policy_rules.specs.Accepted.{AreAccepted, IsFault}
pub use Rattle.policy_rules.specs.Codes.{line_of}
pub use Rattle.policy_rules.specs.Entries.{AreRising}
pub use Rattle.policy_rules.specs.Resolved.{Resolved, IsResolved}
pub use Rattle.policy_text_defs.specs.Ranges.{most_text}
pub use Rattle.policy_text_defs.specs.Sense.{Sense, numbered}
pub use Rattle.policy_text_defs.specs.declared.edition.Edition.{Edition}
pub use Rattle.policy_text_defs.specs.Text.{HasEntries, Fault, not_text, shaping, syntax_fault}
pub use Rattle.report_core.proofs.WholeTexts.{cut_end, cut_part, whole_end}
pub use Rattle.report_core.specs.declared.fault.FaultKind.{FaultKind}
pub use Rattle.sched_capture.specs.Answers.{paced_answer, shown_by, HaveWatched, answer_over}
pub use Rattle.sched_capture.specs.Placements.{laid_by}
pub use Rattle.sched_capture.specs.declared.departures.ForwardEnding.{ForwardEnding}
pub use Rattle.sched_defs.specs.Pace.{Link}
pub use Rattle.sched_defs.specs.SendTime.{plain_rate}
pub use Rattle.sched_defs.specs.declared.ending.Ending.{Ending}
pub use Rattle.sched_defs.specs.declared.ending.Ending.TheVariants.{BadCapture, PastLast, Whole}
pub use Rattle.sched_embedded.specs.Fabrics.{LeavesPart, Leaves, FabricRun, run_of, IsAsItWas}
pub use Rattle.sched_embedded.specs.Laid.{Laid}
pub use Rattle.sched_run.specs.Steps.{pace_of, CanEndSo}
pub use Rattle.tap_core.specs.Lists.{Shown, named_entries, entries, is_named, left_after}
pub use Rattle.tap_core.specs.Names.{none_named, named_with}
pub use Rattle.tap_core.specs.Watching.{Sight, sight_of, Watches}
pub use Rattle.tap_core.specs.declared.watch.Named.{Named}
pub use Rattle.target_core.specs.declared.target.Target.{Target}
pub use Rattle.tree_core.specs.Shape.{topology}
pub use Rattle.tree_defs.specs.Topology.{topology_of, Topology, complete}
pub use Rattle.tree_defs.specs.Tree.{Tree, Address, SameShape, nodes, inner, more, most_nodes, none}
pub use Rattle.replay_app.specs.Answer.{Answer, IsTold, IsLeft, IsDone, refusal, HoldsRun, Each, LeavesBoth}
pub use Rattle.replay_app.specs.Behind.{IsLeftOf, tap_list, UsesNoFabric}
pub use Rattle.replay_app.specs.Follows.{Follows, goes_on, stops}
pub use Rattle.replay_app.specs.Named.{pacing_form, command_form}
pub use Rattle.replay_app.specs.Output.{laid_run, IsOutput, forward_run, IsPaced, direct_run, watchers}
pub use Rattle.replay_app.specs.Policies.{policy_file_of, IsPolicyRefused, IsPolicy, IsTextRefused, PolicyFile, statements_refused, text_refused, entries_in, checked, senses_of}
pub use Rattle.replay_app.specs.Scripts.{IsScriptRefused, OfLines, ending_status, lines_behind, script_pace, AlongScript}
pub use Rattle.replay_app.specs.Soak.{soak_line, soak_target, IsSoaked, counted, soak_answer}
pub use Rattle.replay_app.specs.Stages.{watching_in, BehindPolicy, BehindRoom, BehindTarget, BehindTargetText, BehindWords}
pub use Rattle.replay_app.specs.Statuses.{status_code, IsOneOf, IsStop, forward_status, run_status, IsRefusal, forward_statuses, kind_status, pace_statuses, paced_statuses, run_statuses}
pub use Rattle.replay_app.specs.Targets.{IsPlacement, HasNoRoom, IsTargetOf, IsTargetRefused, IsPlanned, planned, plan_answer}
pub use Rattle.replay_app.specs.Via.{names_of, policy_edition, IsMapRefused, IsTreeRefused, unread, IsMapFile, pair_text, IsCarried, NamesNodes, Unbroken, map_refusal, pair_line}
pub use Rattle.replay_app.specs.Words.{Pacing, forward, link, replay, script, via, check, direct, no_form, plan, soak, pacing_words, AreTold, Form, named_in, texts}
pub use Rattle.replay_app.specs.declared.status.Status.{Status}
pub use Rattle.replay_app.specs.declared.status.Status.TheVariants.{Done, BadMap, BadPolicy, BadScript, BadTarget, BadTree, LateStart, NoForm, NoRoom, OtherLink, OverLimit}
