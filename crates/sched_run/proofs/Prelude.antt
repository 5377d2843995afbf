-- The names that the proofs of this crate take from outside, passed on from one place. Declares nothing.
pub use Rattle.std.proofs.Common.{get_or, ℕ, arith, None, ◌∙◌, ◌≡◌, refl, sym, List, subst, [], ◌+◌, ap, Some, ◌≤◌, Option, ◌++◌, ◌∷◌, length, append-nil, false, replicate, ◌<◌, Bool, append_assoc, ◌-◌, map, suc, true, if◌then◌else◌, zero, Ok, add-one, drop, ◌*◌, ◌^◌, length-append, max, ◌==◌, drop-cons, is_some, nat_lt, take}
pub use Rattle.std.proofs.lemmas.List.{map-append, replicate-append-replicate, take_all}
pub use Rattle.std.proofs.lemmas.Result.{err_from_is_err_and, on_err_weaker, on_ok_weaker, IfOk-weaker}
pub use Rattle.std.specs.Prelude.{IfSome, option_map, IfOk, OnErr, Result, Err, IfNone, IsNone, OnOk, sum_by, ◌↔◌}
pub use Rattle.events_core.specs.Steps.{counts_of, count_of}
pub use Rattle.outside_core.proofs.KeptLaws.{sink-then, sink-same}
pub use Rattle.outside_core.proofs.WrittenLaws.{appended_in_turn}
pub use Rattle.outside_core.specs.Kept.{KeepsSink}
pub use Rattle.outside_core.specs.Text.{IsCut}
pub use Rattle.outside_core.specs.Written.{Appended}
pub use Rattle.packet_defs.specs.declared.packet.Departed.{Departed}
pub use Rattle.packet_defs.specs.declared.packet.Packet.{Packet}
pub use Rattle.policy_defs.specs.Accepted.{IsAccepted}
pub use Rattle.policy_defs.specs.Policy.{Policy, Node, name_at, node_at}
pub use Rattle.report_core.proofs.TextLaws.{IsCut-append, IsCut-longer}
pub use Rattle.report_core.specs.Gathered.{CutsOff, Tells, text_of, Gathered}
pub use Rattle.sched_core.specs.Arrivals.{arrival_of, leaf_number, pushes_of}
pub use Rattle.sched_core.specs.Departures.{departed_packet, IsTaken, IsDeparture, KeepsTrace, next_departed}
pub use Rattle.sched_core.specs.Standing.{ForEachState, StandForOne}
pub use Rattle.sched_core.specs.declared.scheduler.Arrival.{Arrival}
pub use Rattle.sched_core.specs.declared.scheduler.Scheduler.{Ghosts}
pub use Rattle.sched_defs.proofs.Courses.{held_none, held_arrived, held_departed, size_departures}
pub use Rattle.sched_defs.proofs.Runs.{none_lost, outcomes-append, after-append, departures_count, CanMake-departures, empty_in-append, sound_after, AreDepartures, CanMake-joined, dropped_in-append, popped_in-append, pushed_in-append}
pub use Rattle.sched_defs.specs.Events.{Depart, Event, outcomes, after, Outcome, empty_in, CanArrive, CanMake, departure, dropped_in, pushed_in, Arrived, Dropped, asked_in, popped_in, step}
pub use Rattle.sched_defs.specs.Faults.{FaultAt}
pub use Rattle.sched_defs.specs.Link.{Sent, free_for, is_due, link_course, link_turn, send_all, send_until, sent_first, sent_nothing}
pub use Rattle.sched_defs.specs.Numbered.{IsHeldBelow, IsSendable, AreNumberedFrom}
pub use Rattle.sched_defs.specs.Packets.{Left, Came, Captured, IsOver, AreThere}
pub use Rattle.sched_defs.specs.Script.{Course, Step, behind, left_by, step_events, stop_at, Arrivals, Departures, Drain, Rest, at_end, course, ends_at_fault, stopped_or}
pub use Rattle.sched_defs.specs.Sound.{IsSound}
pub use Rattle.sched_defs.specs.SourceState.{SourceState, departed, leaver, Leaver, arrived, class_of, arrival_ranks, is_full, start, Held}
pub use Rattle.sched_defs.specs.declared.ending.Ending.{Ending}
pub use Rattle.sched_defs.specs.declared.ending.Ending.TheVariants.{Whole, BadCapture, PastLast}
pub use Rattle.tap_core.proofs.WatchLaws.{shows_both, shows_none}
pub use Rattle.tap_core.specs.Watching.{sight_of, AreNoMore, Sight, Shows}
pub use Rattle.tree_core.specs.Paths.{Way}
pub use Rattle.tree_defs.proofs.WellFormedLaws.{size-empty}
pub use Rattle.tree_defs.specs.SourceTree.{size}
pub use Rattle.tree_defs.specs.Topology.{topology_of, Topology}
pub use Rattle.tree_defs.specs.Tree.{nodes, Address, Tree, IsAddressOf, LeadsBelow, LeadsToLeaf, SameShape, Trees, depth, depth_below, inner, leaf, more, nodes_below, none, subtree_in}
pub use Rattle.sched_run.specs.Courses.{Courses, IsCourse, Agenda, link_agenda, script_agenda, CoursesAmid, CoursesFirst, Breaks, OnCourse, Runs, course_of}
pub use Rattle.sched_run.specs.Drawings.{HasLoadClasses, most_load}
pub use Rattle.sched_run.specs.Frames.{Continues, KeepsPackets, IsFurther}
pub use Rattle.sched_run.specs.RecordingKinds.{recording, any_bytes, IsCapturedAs, recording_any, recording_none, no_bytes, recording_one}
pub use Rattle.sched_run.specs.Links.{IsEarly, Sends, SendsAmid, SendsFirst, IsSent}
pub use Rattle.sched_run.specs.Load.{first_drawing, load_events, load_next, LeavesNothing, MakesLoad, departs, load_event, load_run, packet_of}
pub use Rattle.sched_run.specs.Played.{StopsIn, HasMade, Plays, line_of, AsksOnce, Departs, HasMadeSome, told}
pub use Rattle.sched_run.specs.Recording.{Recordings, AreJoined}
pub use Rattle.sched_run.specs.Shown.{shown_in, shown_of}
pub use Rattle.sched_run.specs.Stages.{Makes, Stage, event_of, arrivals_in, stage_of, Stops, FromEach, stage, AreNext, CanBegin, IsFresh, departures_in, packets_in, HasRoom, MakesLast, StopsLast, IsReady}
pub use Rattle.sched_run.specs.Totals.{AreTotals, totals_line, HasTotals}
pub use Rattle.sched_run.specs.Turns.{Arrives, StopsAmid, AreFirst, ArrivalsStop, Turns, CameUntil, IsTurn, WereFirst, CameOf}
pub use Rattle.sched_run.specs.declared.drawing.Drawing.{Drawing}
pub use Rattle.sched_run.specs.declared.tally.Tally.{Tally}
pub use Rattle.sched_run.specs.declared.tally.Totals.{Totals}
