-- The options of an interface, and the unit that they give (draft-ietf-opsawg-pcapng, 3.5 and 4.2).
use Rattle.std.specs.Prelude.{ℕ, zero, suc, nat_lt, ◌+◌, ◌-◌, ◌*◌, ◌/◌, ◌%◌, ◌==◌, ◌&&◌, Bool, if◌then◌else◌, List, length, take, drop}
use Rattle.pcap_defs.specs.Number.{number_at, long_at, short_at}
use Rattle.pcapng_defs.specs.declared.interface.Interface.{Interface}
use Rattle.pcapng_defs.specs.declared.interface.Unit.{Unit}
use Rattle.pcapng_defs.specs.declared.interface.Unit.TheVariants.{Decimal, Binary}

-- the unit of an interface without an option for it: microseconds
abbrev pub usual_unit : Unit
usual_unit = Decimal 6

-- the unit for an option value of one byte: 10^-v seconds, or 2^-v seconds if the high bit is set;
-- v is the low seven bits
abbrev pub unit_by : ℕ → Unit
unit_by value = if nat_lt value 128 then Decimal value else Binary (value % 128)

-- this many bytes, padded to a multiple of four
abbrev pub filled : ℕ → ℕ
filled n = (n + 3) / 4 * 4

-- the length of an option before its value, in bytes
abbrev pub option_len : ℕ
option_len = 4

-- the code of the option that gives the unit, and the length of its value in bytes
abbrev pub unit_code : ℕ
unit_code = 9

abbrev pub unit_len : ℕ
unit_len = 1

-- the front of options: their end, the unit, or another option and the bytes after it
pub data OptionFront : Type 0 where
  ends : OptionFront
  gives : Unit → OptionFront
  passes : List ℕ → OptionFront

-- the front of these options; they end at code 0, at the last byte, or at the first option that
-- doesn't fit
unfoldable pub option_front : Bool → List ℕ → OptionFront
option_front big bytes =
    if nat_lt (length bytes) option_len then ends
    else if short_at big 0 bytes == 0 then ends
    else if nat_lt (length bytes) (option_len + filled (short_at big 2 bytes)) then ends
    else if short_at big 0 bytes == unit_code && short_at big 2 bytes == unit_len then gives (unit_by (number_at big 1 option_len bytes))
    else passes (drop (option_len + filled (short_at big 2 bytes)) bytes)

-- the unit at the front, or the one that the options after it give
abbrev pub at_option : (List ℕ → Unit) → OptionFront → Unit
at_option behind ends = usual_unit
at_option behind (gives unit) = unit
at_option behind (passes others) = behind others

-- the unit that the first `more` options give
unfoldable pub unit_from : ℕ → Bool → List ℕ → Unit
unit_from zero big bytes = usual_unit
unit_from (suc more) big bytes = at_option (λ others. unit_from more big others) (option_front big bytes)

-- the unit that options give; there are no more options than bytes
abbrev pub unit_of : Bool → List ℕ → Unit
unit_of big bytes = unit_from (length bytes) big bytes

-- the interface that a block of this total length describes
abbrev pub interface_at : Bool → ℕ → List ℕ → Interface
interface_at big total block = record {
  link = short_at big 8 block;
  snapshot = long_at big 12 block;
  unit = unit_of big (take (total - 20) (drop 16 block));
}
