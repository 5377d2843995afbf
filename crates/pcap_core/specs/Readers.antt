-- The state of a reader of captures.
use Rattle.std.specs.Prelude.{◌≡◌, ◌≤◌, ◌+◌, ◌↔◌, ℕ, Bool, true, false, Option, None, List, [], length, Result, IfOk, IfErr, IfSome, IsErr, IsOk, IsSome, IsTrue, MatchResult, if◌then◌else◌}
use Rattle.std.specs.Option.{option_map_or}
use Rattle.pcap_defs.specs.declared.head.Head.{Head}
use Rattle.pcap_core.specs.Held.{held, bytes_taken}
use Rattle.pcap_defs.specs.Fault.{Fault}
use Rattle.pcap_defs.specs.Record.{IsRecordFault}
use Rattle.pcap_core.specs.declared.fault.CaptureFault.{CaptureFault}
use Rattle.pcap_core.specs.Faults.{fault_in}
use Rattle.pcap_core.specs.Limits.{most_held}
use Rattle.pcap_core.specs.Rest.{rest_of, HasEnded}
use Rattle.pcap_core.specs.declared.reader.Reader.{Reader}

-- the header values, once the header is read
abbrev pub head_of : Reader → Option Head
head_of reader = reader.head

-- whether its numbers are big-endian, and whether its fractions count nanoseconds
abbrev pub is_big : Reader → Bool
is_big reader = option_map_or (λ (head : Head). head.big) (head_of reader) false

abbrev pub is_nano : Reader → Bool
is_nano reader = option_map_or (λ (head : Head). head.nano) (head_of reader) false

-- the number of records returned or skipped
abbrev pub records_given : Reader → ℕ
records_given reader = reader.records

-- the bytes that were read but not consumed
abbrev pub bytes_held : Reader → List ℕ
bytes_held reader = held reader.window

-- the captured bytes of the record read last, where the buffer for them has these contents
abbrev pub captured_of : Reader → List ℕ → List ℕ
captured_of reader copied = bytes_taken reader.window copied

-- no call has returned an error
abbrev pub is_live : Reader → Bool
is_live reader = reader.live

-- no byte was consumed
pub record IsFresh (reader : Reader) : Type 0 where
  pub no_head : head_of reader ≡ None
  pub none_given : records_given reader ≡ 0
  pub live : is_live reader ≡ true

-- the header was read, and no call has returned an error
pub record IsReady (reader : Reader) : Type 0 where
  pub started : IsSome (head_of reader)
  pub live : IsTrue (is_live reader)

-- the remaining bytes of the capture, if the rest of the file is known to the contract
abbrev pub rest_left : Reader → Option (List ℕ) → Option (List ℕ)
rest_left reader left = rest_of (bytes_held reader) left

-- A call that reads or skips a record after `n` records says that there is none exactly if nothing is
-- left. A fault that it returns is that of the remaining bytes, and if these have one, it fails.
pub record StopsRightly {X : Type 0} (came : X → Bool) (big : Bool) (n : ℕ) (result : Result X CaptureFault) (old new : Option (List ℕ)) : Type 0 where
  pub ended : IfOk result (λ x. came x ≡ false → HasEnded old new)
  pub ends : IfSome old (λ left. left ≡ [] → MatchResult result (λ x. came x ≡ false) (λ e. fault_in e ≡ None))
  pub fault : IfErr result (λ e. IfSome (fault_in e) (λ fault. IfSome old (λ left. IsRecordFault big n left fault)))
  pub refused : IfSome old (λ left. (fault : Fault) → IsRecordFault big n left fault → IsErr result)

-- The reader counts the record if there was one, keeps the header, and is live unless the call failed.
pub record Counts {X : Type 0} (came : X → Bool) (result : Result X CaptureFault) (old new : Reader) : Type 0 where
  pub given : IfOk result (λ x. records_given new ≡ records_given old + (if came x then 1 else 0))
  pub head : head_of new ≡ head_of old
  pub live : IsTrue (is_live new) ↔ IsOk result
  pub bounded : length (bytes_held new) ≤ most_held
