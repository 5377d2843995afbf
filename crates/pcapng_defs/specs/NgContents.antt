-- The contents of a file as a pcapng capture, and as a capture of either format, in the terms
-- shared by all formats.
use Rattle.std.specs.Prelude.{◌≡◌, refl, ℕ, Some, option_map, List, []}
use Rattle.pcap_defs.specs.Fault.{pcap_ng, bad_magic}
use Rattle.pcap_defs.specs.Reading.{Capture, refused, capture_of}
use Rattle.pcap_defs.specs.Contents.{FaultAt, Contents, FileContents, no_capture, holds, in_capture}
use Rattle.pcapng_defs.specs.Fault.{BlockFault, block_cut, order_magic, code, place}
use Rattle.pcapng_defs.specs.Block.{at_start}
use Rattle.pcapng_defs.specs.NgCapture.{BlockFront, nothing, broken, front_of, Reading, ended, ng_capture_of}

abbrev pub block_fault_at : BlockFault → FaultAt
block_fault_at fault = record { code = code fault; place = place fault }

-- the contents of a reading
abbrev pub contents_read : Reading → Contents
contents_read r = record { packets = r.packets; fault = option_map block_fault_at r.fault }

-- the contents of a file with this front and this reading
abbrev pub behind_front : BlockFront → Reading → FileContents
behind_front (broken fault) r = no_capture (block_fault_at fault)
behind_front _ r = holds (contents_read r)

-- the contents of a pcapng file; it is no capture if its first block is at fault
abbrev pub in_ng_capture : List ℕ → FileContents
in_ng_capture file = behind_front (front_of at_start file) (ng_capture_of file)

-- the contents of this classic capture, or these blocks if it is rejected as pcapng
abbrev pub in_either : Capture → FileContents → FileContents
in_either (refused pcap_ng) blocks = blocks
in_either capture blocks = in_capture capture

-- the contents of a file of either format
abbrev pub in_file : List ℕ → FileContents
in_file file = in_either (capture_of file) (in_ng_capture file)

behind_front-refused : behind_front (broken (order_magic 1)) (ended at_start (Some (order_magic 1))) ≡ no_capture (record { code = 13; place = 1 })
behind_front-refused = refl

behind_front-cut : behind_front nothing (ended at_start (Some (block_cut 4))) ≡ holds (record { packets = []; fault = Some (record { code = 11; place = 4 }) })
behind_front-cut = refl

in_either-blocks : in_either (refused pcap_ng) (no_capture (record { code = 13; place = 1 })) ≡ no_capture (record { code = 13; place = 1 })
in_either-blocks = refl

in_either-refused : in_either (refused bad_magic) (no_capture (record { code = 13; place = 1 })) ≡ no_capture (record { code = 2; place = 0 })
in_either-refused = refl
