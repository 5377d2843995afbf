use Rattle.size_core.proofs.Prelude.{◌≡◌, ◌∙◌, sym, ap, arith, ◌<◌, ◌≤◌, false, nat_lt, ◌^◌, lt-leb, nat_tests, is_wide}
use Rattle.std.proofs.Math.Nat.{pow-le-pow_right}
use Rattle.size_core.proofs.queues.is_wide.Goals as goal

pub returns-else-bits-lt64 : goal.returns-else-bits-lt64
returns-else-bits-lt64 c =
    let up : 2 ^ 64 ≤ 2 ^ c.in-Some.bits = pow-le-pow_right (omega arith) c.if-bits-lt64.false in
    let below : c.args.rank < 2 ^ c.in-Some.bits = omega (arith, c.ranges.rank.fits, up) in
    let no : nat_lt c.in-Some.bits 64 ≡ false = grind (arith, nat_tests, c.if-bits-lt64.false) in
    no ∙ sym (lt-leb (2 ^ c.in-Some.bits) c.args.rank below) ∙ ap (λ o. is_wide o c.args.rank) (sym c.in-Some.is)
