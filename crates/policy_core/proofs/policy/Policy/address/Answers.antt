use Rattle.std.proofs.Common.{◌∙◌}
use Rattle.policy_core.proofs.PolicyParts.{within, address-is}
use Rattle.policy_core.proofs.policy.Policy.address.Goals as goal

pub address-requires : goal.address-requires
address-requires c = record { there = within _ _ _ _ _ c.args.self.now c.self.view_is c.self.invariant c.args.node c.requires.there }

pub returns : goal.returns
returns c = record { address = c.address.ensures.address ∙ address-is _ _ _ _ _ c.args.self.now c.self.view_is c.self.invariant c.args.node c.requires.there }
