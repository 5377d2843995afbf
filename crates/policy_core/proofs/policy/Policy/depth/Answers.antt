use Rattle.std.proofs.Common.{◌∙◌}
use Rattle.policy_core.proofs.PolicyParts.{levels-is}
use Rattle.policy_core.proofs.policy.Policy.depth.Goals as goal

pub returns-clause-levels : goal.returns-clause-levels
returns-clause-levels c = c.depth.ensures.levels ∙ levels-is _ _ _ _ _ c.args.self.now c.self.view_is c.self.invariant
