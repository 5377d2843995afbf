-- The names that the proofs of this crate take from outside, passed on from one place. Declares nothing.
pub use Rattle.std.proofs.Common.{◌≡◌, ℕ, List, sym, ◌∙◌, ap, arith, length, ◌+◌, Option, Some, subst, ◌<◌, ◌≤◌, None, ◌-◌, IfSome, ◌++◌, drop, refl, take, Bool, ◌≢◌, [], eqb, true, ⊎_elim, false, length-append, ◌&&◌, Err, Ok, Result, get_or, if◌then◌else◌, leb, slice_get, ◌*◌, ◌^◌, ◌∷◌, add-zero, append_assoc, get_or-drop, length-drop, length-take, ltb, min, not, ◌%◌}
pub use Rattle.std.proofs.Math.Seq.{take-append-add, take-append_seam}
pub use Rattle.std.proofs.lemmas.Bool.{cases_lt, cond-true, lt-ltb, and_parts, cond-false, cond_both, eq-eqb, eqb-true, le-ltb, ne_eqb, and_from, and_left, false_from_ne_true, leb-true, ltb-true, not_from_false, not_from_true}
pub use Rattle.std.proofs.lemmas.Grind.{common_steps}
pub use Rattle.std.proofs.lemmas.List.{length-take-le, drop-take, get_or_read, take-take}
pub use Rattle.std.specs.Prelude.{IsSomeAnd, IfErr, IfNone, IsErrAnd, is_some, unwrap_or}
pub use Rattle.pcap_core.proofs.Takes.{taken-first, passes-taken, taken-more, passes-kept, short-first}
pub use Rattle.pcap_core.proofs.Windows.{passes-more}
pub use Rattle.pcap_core.specs.Held.{held}
pub use Rattle.pcap_core.specs.Passed.{Passes, IsAll}
pub use Rattle.pcap_core.specs.Rest.{rest_of, TakesFront, Serves, IsShort, IsWhole, LeavesNothing}
pub use Rattle.pcap_defs.proofs.Numbers.{number_at-append}
pub use Rattle.pcap_defs.specs.Number.{long_at, short_at, number_at}
pub use Rattle.pcap_defs.specs.Packet.{CapturedPacket}
pub use Rattle.pcap_defs.specs.Record.{most_captured}
pub use Rattle.pcapng_defs.proofs.FaultCauses.{reads_faults}
pub use Rattle.pcapng_defs.proofs.Readings.{goes_block_by_block}
pub use Rattle.pcapng_defs.specs.Block.{Carried, block_gives, most_interfaces, ng_major, BlockKind, at_start, enhanced_at, kind_of, least_total, most_total, packet_at, past, simple_at, simple_len}
pub use Rattle.pcapng_defs.specs.Fault.{BlockFault, block_cut, block_end, interfaces, ng_version, packet_length, block_length, code, no_interface, order_magic, too_many_blocks}
pub use Rattle.pcapng_defs.specs.Interface.{unit_of, option_len, ends, gives, passes, unit_by, OptionFront, at_option, filled, option_front, unit_code, unit_len, usual_unit}
pub use Rattle.pcapng_defs.specs.Moment.{moment_in, units_a_second}
pub use Rattle.pcapng_defs.specs.NgCapture.{broken, front_of, Reading, at_front, behind, block_len, fits_kind, front_with, most_blocks, reading_of, ended, found, front_at, front_in, ng_capture_of, packets_in}
pub use Rattle.pcapng_defs.specs.declared.interface.Interface.{Interface}
pub use Rattle.pcapng_defs.specs.declared.interface.Unit.{Unit}
pub use Rattle.pcapng_core.specs.Blocks.{IsStart, HasRoom, IsEndFault, IsReadTo, ReadsTo}
pub use Rattle.pcapng_core.specs.Bodies.{front_len, body_said, captured_in, enhanced_body, packet_body, packet_told, simple_body}
pub use Rattle.pcapng_core.specs.Carries.{went, carried_of}
pub use Rattle.pcapng_core.specs.Faults.{fault_in, read_error_as}
pub use Rattle.pcapng_core.specs.Kinds.{kind_said}
pub use Rattle.pcapng_core.specs.Options.{FrontOf, IsUnitOf, StandsAt, SameUnit, front_said}
pub use Rattle.pcapng_core.specs.Readers.{carry_of, rest_left, GoesOn, IsOver, TakesBlock, is_live, packets_given}
pub use Rattle.pcapng_core.specs.declared.body.Body.{Body}
pub use Rattle.pcapng_core.specs.declared.body.Packet.{Packet}
pub use Rattle.pcapng_core.specs.declared.fault.NgFault.{NgFault}
pub use Rattle.pcapng_core.specs.declared.fault.NgFault.TheVariants.{Interfaces, NgVersion, PacketLength, BlockCut, BlockEnd, BlockLength, NoInterface, NoMemory, OrderMagic, ReadFault, TooManyBlocks}
pub use Rattle.pcapng_core.specs.declared.options.Step.TheVariants.{Gives, Ends}
pub use Rattle.pcapng_core.specs.declared.start.Kind.{Kind}
pub use Rattle.pcapng_core.specs.declared.start.Start.{Start}
