use Rattle.size_core.proofs.Prelude.{◌∙◌, sym, ap, List, ◌+◌, ◌-◌, ◌^◌, min, drop_of_length-le, sum_by, queue_bits, NodeSize}
use Rattle.std.proofs.Math.Nat.{add-zero, min-eq_left}
use Rattle.size_core.proofs.memory.memory_of.Goals as goal

pub returns : goal.returns
returns c =
    let ns = c.args.nodes.now in
    let i = c.loop-node.node-index in
    let bits = c.loop-node.bits in
    let f = queue_bits c.args.widths in
    sym
    (c.loop-node.invariant.same
    ∙ ap (λ (rest : List NodeSize). min (bits + sum_by f rest) (2 ^ 128 - 1)) (drop_of_length-le ns c.loop-node-test.false)
    ∙ ap (λ n. min n (2 ^ 128 - 1)) (add-zero bits)
    ∙ min-eq_left c.loop-node.invariant.fits)
