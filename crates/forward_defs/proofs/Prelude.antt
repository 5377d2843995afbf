-- The names that the proofs of this crate take from outside, passed on from one place. Declares nothing.
pub use Rattle.std.proofs.Common.{List, [], refl, ℕ, ◌∷◌, ◌≡◌, ap, ◌++◌, Bool, Option, false, if◌then◌else◌, sym, true, None, Some, subst, ◌∙◌, arith, true≢false, ◌+◌, length, ◌≤◌, append_assoc, map, nat_lt, ◌%◌, ◌/◌, ◌<◌, ◌==◌, ◌^◌, append-nil, ◌*◌, ◌||◌}
pub use Rattle.std.specs.List.{AllByRecursion}
pub use Rattle.packet_defs.specs.declared.packet.Packet.{Packet}
pub use Rattle.pcap_defs.specs.Contents.{FaultAt, Contents, holds}
pub use Rattle.pcap_defs.specs.Packet.{CapturedPacket, packet_with}
pub use Rattle.policy_defs.specs.Accepted.{IsAccepted}
pub use Rattle.policy_defs.specs.Policy.{Policy}
pub use Rattle.sched_defs.proofs.Runs.{outcomes-append, empty_in-append, CanMake-front, none_lost, pushed_in-append}
pub use Rattle.sched_defs.proofs.Soundness.{sound_arrived, sound_departed, sound_start, popped_is_held}
pub use Rattle.sched_defs.specs.Events.{Event, Arrive, Depart, outcomes, Outcome, Arrived, CanMake, Departed, Dropped, departure, Empty, after, empty_in, popped_in, outcome, pushed_in}
pub use Rattle.sched_defs.specs.Link.{link_course, Sent, link_turn}
pub use Rattle.sched_defs.specs.Packets.{Captured}
pub use Rattle.sched_defs.specs.Sound.{IsKnown, IsSound, IsAtItsLeaf}
pub use Rattle.sched_defs.specs.SourceState.{SourceState, Leaver, arrival_ranks, arrived, class_of, departed, is_full, leaver, start, dropped, leaving, left_from, left_with, pushed}
pub use Rattle.tree_defs.specs.SourceTree.{size, SourceTree, pop}
pub use Rattle.tree_defs.specs.Tree.{Address, Popping, option_bind}
pub use Rattle.forward_defs.specs.Forwarded.{sent_record, forward_bytes, sent_packet}
pub use Rattle.forward_defs.specs.Keeping.{Keeping, keeps, kept_behind, records_of, RecordsAreForwarded, keeps_nothing, record_for, record_of}
pub use Rattle.forward_defs.specs.Sendings.{up_to_late, Sending, has_late, is_late, late, sendings, sending_at}
