-- The names that the proofs of this crate take from outside, passed on from one place. Declares nothing.
pub use Rattle.std.proofs.Common.{◌≡◌, ap, arith, [], ◌<◌, ◌∙◌, List, None, sym, ℕ, ◌++◌, Option, Some, length, refl, ◌+◌, ◌-◌, append_assoc, false, ◌≤◌, length-append, subst, take, drop, Bool, append-nil, length-drop, vec_len, ◌∷◌, Err, Ok, min, true, ◌%◌, ◌^◌}
pub use Rattle.std.proofs.lemmas.List.{drop-append-le, drop-take, drop_at, length-take, take-append-drop, with_items_is, drop-drop, length-replicate, length-take-le, nil_from_length, take-append-le, take-take}
pub use Rattle.std.specs.Option.{option_map_or}
pub use Rattle.std.specs.Prelude.{IfSome, All, map, option_map}
pub use Rattle.outside_core.specs.Files.{EndsWhereEmpty, Takes}
pub use Rattle.pcap_defs.proofs.ReadingLaws.{capture_of-fault, capture_of-header, records_left-fault, records_left-nothing, records_left-record, reads_captures}
pub use Rattle.pcap_defs.specs.Fault.{Fault, bad_magic, data_cut, header_cut, pcap_ng, record_cut, record_long, too_many, version}
pub use Rattle.pcap_defs.specs.Header.{IsHeaderFault, IsHeader}
pub use Rattle.pcap_defs.specs.Reading.{capture_of, records_left, with_first, broken, found, front_of, packets, refused}
pub use Rattle.pcap_defs.specs.Record.{most_records, Record, IsRecordFault, IsSpelling, AreSpellings, captured_len, moment, most_captured, record_len}
pub use Rattle.pcap_defs.specs.declared.head.Head.{Head}
pub use Rattle.pcap_core.specs.Frames.{IsFrameOf, IsFrontFault}
pub use Rattle.pcap_core.specs.Held.{held, bytes_taken}
pub use Rattle.pcap_core.specs.Left.{head_read, contents_in}
pub use Rattle.pcap_core.specs.Passed.{Passes, IsAll}
pub use Rattle.pcap_core.specs.Pieces.{TakesHeader, TakesRecord, TakesPreface}
pub use Rattle.pcap_core.specs.Readers.{head_of, records_given, rest_left, is_big, captured_of}
pub use Rattle.pcap_core.specs.Rest.{TakesFront, rest_of, IsWhole, Serves, IsShort, LeavesNothing}
pub use Rattle.pcap_core.specs.declared.frame.LinkedFrame.{LinkedFrame}
