-- The names that the proofs of this crate take from outside, passed on from one place. Declares nothing.
pub use Rattle.std.proofs.Common.{◌≡◌, List, Some, ℕ, None, Option, arith, sym, subst, ap, ◌∙◌, [], refl, ◌+◌, Result, ◌∷◌, Err, Ok, Bool, false, length, true, ◌≤◌, ◌++◌, ◌<◌, if◌then◌else◌, inr, map, ◌^◌, rules, true≢false, not, suc, ◌%◌, ◌==◌, append-nil, append_assoc, drop, eqb, is_some, leb, length-append, nat_lt, slice_get, zero, ◌&&◌, ◌*◌, ◌/◌, ◌||◌}
pub use Rattle.std.proofs.lemmas.List.{length-map, get_or-drop, map-append, nil_from_length}
pub use Rattle.std.proofs.lemmas.Option.{IfSome_then}
pub use Rattle.std.proofs.lemmas.Result.{on_err_weaker, on_ok_weaker, err_from_is_err_and, IfOk-weaker}
pub use Rattle.std.specs.List.{AllByRecursion, list_all}
pub use Rattle.std.specs.Prelude.{IfSome, OnErr, OnOk, option_map, IfOk, IfErr, unwrap_or, codes, ⊤}
pub use Rattle.forward_defs.specs.SingleLinkType.{other_link, behind_packet, first_link, of_link, of_one_link}
pub use Rattle.outside_core.proofs.KeptLaws.{sink-same, sink-then}
pub use Rattle.outside_core.proofs.WrittenLaws.{prefix_of_nothing, appended_in_turn, appended_nothing, prefix_in_turn, prefix_of_longer}
pub use Rattle.outside_core.specs.Written.{Appended, AppendedPrefix}
pub use Rattle.outside_core.specs.declared.read_error.ReadError.{ReadError}
pub use Rattle.outside_core.specs.declared.stop.Stop.{Stop}
pub use Rattle.packet_core.specs.Classifier.{policy_of}
pub use Rattle.packet_defs.specs.declared.fields.Fields.{Fields}
pub use Rattle.packet_defs.specs.declared.packet.Packet.{Packet}
pub use Rattle.pcap_core.specs.Captures.{Opens, Comes, IsAt, StopsAt, nothing_left, IsOneLess, fault_told}
pub use Rattle.pcap_core.specs.Rest.{rest_of, IsShort, TakesFront}
pub use Rattle.pcap_defs.specs.Contents.{FileContents, holds, no_capture, Contents, FaultAt, in_capture}
pub use Rattle.pcap_defs.specs.Fault.{pcap_ng, bad_magic, data_cut, header_cut, record_cut, record_long, too_many, version}
pub use Rattle.pcap_defs.specs.Header.{IsHeaderFault, header_len}
pub use Rattle.pcap_defs.specs.Packet.{CapturedPacket, packet_with}
pub use Rattle.pcap_defs.specs.Reading.{capture_of, Capture, packets, refused}
pub use Rattle.pcap_defs.specs.Record.{most_captured, AreSpellings, IsSpelling, Record, moment, most_records}
pub use Rattle.pcapng_defs.specs.NgContents.{in_file, in_ng_capture, behind_front, in_either}
pub use Rattle.policy_defs.specs.Accepted.{IsAccepted}
pub use Rattle.policy_defs.specs.Policy.{Policy, Class, Node}
pub use Rattle.policy_rules.specs.Resolved.{Resolved, AreClassesOf, Declared, IsResolved, classes_in}
pub use Rattle.report_core.proofs.TextLaws.{IsCut-longer, IsCut-append}
pub use Rattle.report_core.proofs.WholeTexts.{cut_part, cut_end, whole_end, whole_text}
pub use Rattle.report_core.specs.Gathered.{text_of}
pub use Rattle.sched_defs.proofs.Soundness.{sound_start}
pub use Rattle.sched_defs.specs.Events.{outcomes, Event, Departed, after, Arrived, CanMake, Dropped, Empty, Outcome, asked_in, pushed_in}
pub use Rattle.sched_defs.specs.Numbered.{IsSendable, IsHeldBelow, AreNumberedFrom}
pub use Rattle.sched_defs.specs.Packets.{Captured, Left, StaysKnown, captured_from, AreThere, Came, IsNextPacket, IsReadError, OneCame}
pub use Rattle.sched_defs.specs.Script.{Course}
pub use Rattle.sched_defs.specs.SourceState.{start, SourceState}
pub use Rattle.sched_defs.specs.declared.ending.Ending.{Ending}
pub use Rattle.sched_defs.specs.declared.rate.LinkRate.{LinkRate}
pub use Rattle.sched_embedded.specs.Fabrics.{LeavesPart, Leaves, run_of, FabricRun, HoldsAfter}
pub use Rattle.sched_embedded.specs.Laid.{Laid}
pub use Rattle.sched_run.proofs.StartLaws.{start_can_begin}
pub use Rattle.sched_run.proofs.StepLaws.{on_err_given}
pub use Rattle.sched_run.specs.Load.{load_run, MakesLoad, sum_of}
pub use Rattle.sched_run.specs.Played.{HasMade, HasMadeSome, StopsIn}
pub use Rattle.sched_run.specs.Recording.{Recordings, AreJoined}
pub use Rattle.sched_run.specs.Steps.{pace_of, CanEndSo, IsNoPastLast}
pub use Rattle.tap_core.specs.Watching.{Sight, Shows, Watches}
pub use Rattle.sched_capture.specs.Answers.{answer_of, answer_over, IsRefusal, IsRefusalPart, paced_answer, RunAnswer, HaveWatched, refusal_answer, shown_by}
pub use Rattle.sched_capture.specs.Arrivals.{Refuses, AreCaptured, AreCapturedIn, left_in, AreCapturedFrom}
pub use Rattle.sched_capture.specs.CapturePackets.{captured_by}
pub use Rattle.sched_capture.specs.Forwarding.{TellsRecords, CutsRecords, HoldsNothing, bytes_kept, is_late_now, keeping_of}
pub use Rattle.sched_capture.specs.Forwards.{forward_events, forward_over, forward_answer, sent_bytes, ForwardAnswer, ending_unless, forward_course, forward_ending, forward_of, forward_refusal, forward_through, refusal_ending}
pub use Rattle.sched_capture.specs.NextPacket.{IsNext, packet_told}
pub use Rattle.sched_capture.specs.Outside.{IsReported, KeepsOutside}
pub use Rattle.sched_capture.specs.Packets.{packet_of, class_given, packets_from}
pub use Rattle.sched_capture.specs.Placements.{paced_through, laid_in}
pub use Rattle.sched_capture.specs.SingleLinkType.{one_link_in, captures_of, link_in, link_of, EachFileOf, rest_of_link, IsFirst, ahead_in, there, with_ahead}
pub use Rattle.sched_capture.specs.declared.forwarding.Forwarding.{Forwarding}
