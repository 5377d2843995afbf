use Rattle.std.proofs.Common.{◌∙◌, arith}
use Rattle.policy_core.proofs.PolicyParts.{count-is}
use Rattle.policy_core.proofs.policy.Policy.count.Goals as goal

pub returns : goal.returns
returns c = record {
  count = c.count.ensures.count ∙ count-is _ _ _ _ _ c.args.self.now c.self.view_is c.self.invariant;
  limit = omega (arith, c.count.ensures.count, c.self.invariant.few_nodes);
}
