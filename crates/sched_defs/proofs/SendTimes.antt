-- The send time is the least that suffices.
use Rattle.sched_defs.proofs.Prelude.{◌≡◌, arith, ◌+◌, ◌<◌, ◌*◌, send_time, SendTimeIsLeast}
use Rattle.std.proofs.Math.Nat.{lt_of_mul-lt-mul_right}
use Rattle.std.proofs.lemmas.Grind.{div_ceil_times}

pub send_time-least : SendTimeIsLeast
send_time-least len rate is =
    let bounds = div_ceil_times ((len + rate.overhead) * 1000000000) rate.bytes is.bytes.0 in
    record {
      enough = bounds.0;
      least = λ other enough.
          let more : (other + 1) * rate.bytes ≡ other * rate.bytes + rate.bytes = grind arith in
          let below : send_time len rate * rate.bytes < (other + 1) * rate.bytes = rw more (omega (arith, bounds.1, enough)) in
          let close = lt_of_mul-lt-mul_right rate.bytes below in
          omega arith;
    }
