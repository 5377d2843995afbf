-- The timestamp of a packet, counted in units of its interface (draft-ietf-opsawg-pcapng, 4.2,
-- if_tsresol).
use Rattle.std.specs.Prelude.{ℕ, ◌*◌, ◌/◌, ◌^◌, min}
use Rattle.rank_defs.specs.Programs.{max_rank}
use Rattle.pcapng_defs.specs.declared.interface.Unit.{Unit}
use Rattle.pcapng_defs.specs.declared.interface.Unit.TheVariants.{Decimal, Binary}

-- the number of units in a second
abbrev pub units_a_second : Unit → ℕ
units_a_second (Decimal v) = 10 ^ v
units_a_second (Binary v) = 2 ^ v

-- the timestamp in nanoseconds of this many units, rounded down and limited to the greatest rank
abbrev pub moment_in : Unit → ℕ → ℕ
moment_in unit time = min (time * 10 ^ 9 / units_a_second unit) max_rank
