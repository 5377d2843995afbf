-- The pieces that a reader takes from the front of the remaining bytes of a capture.
use Rattle.std.specs.Prelude.{ℕ, Bool, Option, List}
use Rattle.pcap_core.specs.Rest.{TakesFront}
use Rattle.pcap_defs.specs.declared.head.Head.{Head}
use Rattle.pcap_defs.specs.Header.{IsHeader}
use Rattle.pcap_defs.specs.Record.{Record, IsSpelling}
use Rattle.pcap_core.specs.declared.header.RecordHeader.{RecordHeader}
use Rattle.pcap_core.specs.declared.frame.Frame.{Frame}
use Rattle.pcap_core.specs.Frames.{IsPreface, IsFrameOf, IsNextFrame}

-- the remaining bytes were a header with these values, and then the bytes left now
abbrev pub TakesHeader : Head → Option (List ℕ) → Option (List ℕ) → Type 0
TakesHeader head old new = (header : List ℕ) × IsHeader head header × TakesFront old new header

-- the remaining bytes were a record header with these values, and then the bytes left now
abbrev pub TakesPreface : Head → RecordHeader → Option (List ℕ) → Option (List ℕ) → Type 0
TakesPreface head p old new = (front : List ℕ) × IsPreface head p front × TakesFront old new front

-- the remaining bytes were the spelling of the record, and then the bytes left now
abbrev pub TakesRecord : Bool → Record → Option (List ℕ) → Option (List ℕ) → Type 0
TakesRecord big r old new = (spelling : List ℕ) × IsSpelling big r spelling × TakesFront old new spelling

-- The remaining bytes were the spelling of a record with this frame and these captured bytes, and then
-- the bytes left now. The frame is the next after `count` others.
pub record TakesNext (big nano : Bool) (count : ℕ) (frame : Frame) (captured : List ℕ) (old new : Option (List ℕ)) : Type 0 where
  pub found : (r : Record) × IsFrameOf nano r frame captured × TakesRecord big r old new
  pub next : IsNextFrame count frame captured
