-- The ranges of a test as they are written.
use Rattle.std.specs.Prelude.{ℕ, List, map}
use Rattle.policy_text_defs.specs.declared.test.Range.{Range as Written}
use Rattle.packet_defs.specs.Test.{Range}
use Rattle.packet_core.specs.Tests.{range_of}

-- the least and the greatest value
abbrev pub low : Written → ℕ
low r = r.low

abbrev pub high : Written → ℕ
high r = r.high

-- the values in the ranges
abbrev pub values : List Written → List Range
values ranges = map range_of ranges
