use Rattle.std.proofs.Common.{sym, arith}
use Rattle.block_replay.proofs.CalmNodes.{calm_from, isnt_calm, never_spills, one_more_calm, some_node}
use Rattle.block_replay.proofs.calmness.calm.Goals.{then-not-uses_steady-via-then-not-uses_steady, then-not-uses_steady-via-else-not-uses_steady+then-not-have_own_digits}
use Rattle.block_replay.proofs.calmness.calm.Goals as goal

pub returns-then-not-uses_steady-clause-value : goal.returns-then-not-uses_steady-clause-value
returns-then-not-uses_steady-clause-value c =
    isnt_calm c.args.policy.now.policy.tree c.args.map.now c.requires.map c.loop-node.node (λ at. elim c.then-not-uses_steady.branch [
      | then-not-uses_steady-via-then-not-uses_steady w ↦ (let t = c.uses_steady.ensures.steady.1 at.steady in let f = w.if-not-uses_steady.true in cc)
      | then-not-uses_steady-via-else-not-uses_steady+then-not-have_own_digits w ↦ (let t = w.have_own_digits.ensures.own.1 at.own in let f = w.if-not-have_own_digits.true in cc)
    ])

pub loop-node-preserved : goal.loop-node-preserved
loop-node-preserved c =
    one_more_calm c.args.policy.now.policy c.args.map.now c.loop-node.node c.loop-node.invariant
    (record { steady = c.uses_steady.ensures.steady.0 (let f = c.if-not-uses_steady.false in cc); own = c.have_own_digits.ensures.own.0 (let f = c.if-not-have_own_digits.false in cc) })
    c.have_own_digits.ensures.accepted c.uses_steady.ensures.built_in

pub returns-clause-value : goal.returns-clause-value
returns-clause-value c =
    sym (calm_from c.args.policy.now.policy.tree c.args.map.now c.requires.map (λ k l. c.loop-node.invariant.calm k (omega (arith, l, c.loop-node-test.false, c.count-node-end.ensures.count))))

pub returns-clause-law : goal.returns-clause-law
returns-clause-law c = λ t.
    let policy = c.args.policy.now.policy in
    let all = calm_from policy.tree c.args.map.now c.requires.map (λ k l. c.loop-node.invariant.calm k (omega (arith, l, c.loop-node-test.false, c.count-node-end.ensures.count))) in
    let some = some_node policy.tree in
    never_spills policy c.args.map.now c.requires.map (c.loop-node.invariant.accepted (omega (arith, some, c.loop-node-test.false, c.count-node-end.ensures.count)))
    (c.loop-node.invariant.built_in (omega (arith, some, c.loop-node-test.false, c.count-node-end.ensures.count))) all
