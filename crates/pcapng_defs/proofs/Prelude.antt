-- The names that the proofs of this crate take from outside, passed on from one place. Declares nothing.
pub use Rattle.std.proofs.Common.{List, refl, ℕ, ◌≡◌, ap, arith, length, ◌∙◌, ◌≤◌, Bool, None, Some, sym, ◌+◌, Option, [], eqb, ltb, subst, true, ◌&&◌, ◌++◌, ◌<◌, Err, Ok, Result, drop, leb, not, take, ◌-◌, ◌≢◌, false, length-append, length-drop, slice_get, suc, zero, ⊎_elim, ◌%◌, MatchOption, append_assoc, if◌then◌else◌, inl, inr, length-take, min, ◌*◌, ◌/◌, ◌==◌, ◌^◌, ◌∷◌, ◌⊎◌}
pub use Rattle.std.proofs.lemmas.Bool.{cond_both, ltb-false, eqb-false, not-false, and_left, and_parts, cond-false, cond-true, eqb-true, le-ltb, leb-true, ne_eqb, and_cases, and_from, and_right, eq-eqb, leb-false, lt-ltb, not_from_true, false_from_ne_true, le-leb, lt-leb, ltb-true, not-true, not_from_false, true≢false}
pub use Rattle.std.proofs.lemmas.List.{length-take-le, nil_from_length, take-append-drop, take-append-le, append-nil, drop-append-le, drop_all, take_all}
pub use Rattle.std.specs.Bool.{⊤}
pub use Rattle.std.specs.List.{AllByRecursion}
pub use Rattle.pcap_defs.proofs.Numbers.{number_at-append}
pub use Rattle.pcap_defs.specs.Number.{long_at, short_at}
pub use Rattle.pcap_defs.specs.Packet.{CapturedPacket}
pub use Rattle.pcap_defs.specs.Record.{most_captured}
pub use Rattle.rank_defs.specs.Programs.{max_rank}
pub use Rattle.pcapng_defs.specs.Block.{Carried, BlockKind, block_gives, kind_of, at_start, enhanced, enhanced_at, interface, least_total, most_interfaces, most_total, ng_major, other, section, simple, simple_at, simple_len, packet_at, section_type}
pub use Rattle.pcapng_defs.specs.Fault.{BlockFault, block_cut, block_end, code, block_length, interfaces, ng_version, no_interface, order_magic, packet_length, place, too_many_blocks}
pub use Rattle.pcapng_defs.specs.Laws.{IsBounded, AlikeFilesHoldTheSame, BlocksStand, FaultsAreNumbered, FaultsStand, FrontsTellFormats, GoesBlockByBlock, GoesOnBehindBlocks, IsHeaderFront, IsNumbered, PacketsAreBounded, PacketsAreFew, UnitsGoOptionByOption}
pub use Rattle.pcapng_defs.specs.NgCapture.{BlockFront, found, broken, most_blocks, nothing, block_len, fits_kind, front_at, front_in, front_with, order_at, Reading, at_front, front_of, packets_in, reading_of, behind, ng_capture_of, order_in, order_number}
pub use Rattle.pcapng_defs.specs.NgContents.{in_either, in_ng_capture, behind_front, block_fault_at, contents_read}
pub use Rattle.pcapng_defs.specs.WholeBlock.{IsWholeBlock, IsBlock, ReadsBlocks}
pub use Rattle.pcapng_defs.specs.declared.interface.Interface.{Interface}
