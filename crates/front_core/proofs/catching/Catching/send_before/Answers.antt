use Rattle.std.proofs.Common.{arith, rules}
use Rattle.front_core.proofs.CatchLaws.{front_of_piece}
use Rattle.front_core.proofs.catching.Catching.send_before.Goals as goal

pub returns-clause-appended : goal.returns-clause-appended
returns-clause-appended g c =
    front_of_piece _ _ _ c.args.piece.now c.bytes_to.result.now c.count_before-most.result c.in_ok-count.count c.bytes_to.ensures.value
    (omega (arith, c.in_ok-count.ensures.bound, c.bytes_to.ensures.count)) (search rules) c.in_ok-count.ensures.appended
