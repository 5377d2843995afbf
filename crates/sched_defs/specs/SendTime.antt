-- How long a link takes to send a packet.
use Rattle.std.specs.Prelude.{◌≡◌, refl, ℕ, ◌+◌, ◌*◌, ◌≤◌, map, [], ◌∷◌}
use Rattle.std.proofs.Common.{arith}
use Rattle.std.specs.Int.{div_ceil}
use Rattle.sched_defs.specs.declared.rate.LinkRate.{LinkRate}

-- nanoseconds in a second
abbrev pub second : ℕ
second = 1000000000

-- the greatest rate, in bytes per second
abbrev pub most_rate : ℕ
most_rate = 1000000000000

-- the greatest overhead of a packet, in bytes
abbrev pub most_overhead : ℕ
most_overhead = 65535

-- a number of bytes per second
abbrev pub IsByteRate : ℕ → Type 0
IsByteRate bytes = (1 ≤ bytes) × (bytes ≤ most_rate)

pub record IsRate (rate : LinkRate) : Type 0 where
  pub bytes : IsByteRate rate.bytes
  pub overhead : rate.overhead ≤ most_overhead

-- a link that takes the bytes of each packet and no others
abbrev pub plain_rate : ℕ → LinkRate
plain_rate bytes = record { bytes = bytes; overhead = 0 }

-- the nanoseconds that a link takes for a packet of `len` bytes and the overhead, rounded up
abbrev pub send_time : ℕ → LinkRate → ℕ
send_time len rate = div_ceil ((len + rate.overhead) * second) rate.bytes

-- the least number of nanoseconds in which a packet of `len` bytes and the overhead can be sent
pub record IsLeastTime (len : ℕ) (rate : LinkRate) (time : ℕ) : Type 0 where
  pub enough : (len + rate.overhead) * second ≤ time * rate.bytes
  pub least : (other : ℕ) → (len + rate.overhead) * second ≤ other * rate.bytes → time ≤ other

abbrev pub SendTimeIsLeast : Type 0
SendTimeIsLeast = (len : ℕ) (rate : LinkRate) → IsRate rate → IsLeastTime len rate (send_time len rate)

-- rounded up, unless the bytes take whole nanoseconds; a rate is in bytes, not bits
a_byte_at_three_a_second : send_time 1 (plain_rate 3) ≡ 333333334
a_byte_at_three_a_second = refl

three_bytes_at_three_a_second : send_time 3 (plain_rate 3) ≡ 1000000000
three_bytes_at_three_a_second = refl

-- the overhead counts like bytes of the packet, and an empty packet takes it too
with_two_bytes_each : map (λ len. send_time len (record { bytes = 3; overhead = 2 })) (0 ∷ 1 ∷ 4 ∷ []) ≡ 666666667 ∷ 1000000000 ∷ 2000000000 ∷ []
with_two_bytes_each = refl

-- the least Ethernet frame, without its check sequence, at 10 Gbit/s: 67.2 ns
a_small_frame : send_time 60 (record { bytes = 1250000000; overhead = 24 }) ≡ 68
a_small_frame = refl

-- at the highest rate 1,000 bytes take a nanosecond
bytes_at_the_highest_rate : map (λ len. send_time len (plain_rate most_rate)) (0 ∷ 1 ∷ 1000 ∷ 1001 ∷ []) ≡ 0 ∷ 1 ∷ 1 ∷ 2 ∷ []
bytes_at_the_highest_rate = refl

-- the lowest and the highest rate are valid, and no rate beyond them is
the_ends_are_rates : IsByteRate 1 × IsByteRate 1000000000000
the_ends_are_rates = ((omega arith, omega arith), (omega arith, omega arith))

zero_is_no_rate : IsByteRate 0 → ⊥
zero_is_no_rate rate = omega (arith, rate.0)

one_more_is_no_rate : IsByteRate 1000000000001 → ⊥
one_more_is_no_rate rate = omega (arith, rate.1)
