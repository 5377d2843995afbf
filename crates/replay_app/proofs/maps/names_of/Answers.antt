use Rattle.std.proofs.Common.{ℕ, List, [], ◌∷◌, ◌++◌, ap, ◌∙◌, arith}
use Rattle.replay_app.proofs.NodeNames.{named_more, named_all, few_names}
use Rattle.replay_app.proofs.maps.names_of.Goals as goal

pub loop-node-preserved : goal.loop-node-preserved
loop-node-preserved c =
    let names = c.loop-node.names in
    named_more c.args.policy.now.policy c.loop-node.node names c.push.new.self c.name.result.now (omega (arith, c.loop-node-test.true, c.count-node-end.ensures.count)) c.loop-node.invariant c.name.ensures.name
    (c.in_ok-push.ensures.ok ∙ ap (λ (name : List ℕ). names ++ name ∷ []) c.in_ok-new.ensures)

pub returns-clause-names : goal.returns-clause-names
returns-clause-names c = named_all c.args.policy.now.policy c.loop-node.node c.loop-node.names (omega (arith, c.loop-node-test.false, c.count-node-end.ensures.count)) c.loop-node.invariant

pub returns-clause-few : goal.returns-clause-few
returns-clause-few c = few_names c.args.policy.now.policy c.loop-node.names (omega (arith, c.count-node-end.ensures.limit, c.count-node-end.ensures.count))
    (named_all c.args.policy.now.policy c.loop-node.node c.loop-node.names (omega (arith, c.loop-node-test.false, c.count-node-end.ensures.count)) c.loop-node.invariant)
