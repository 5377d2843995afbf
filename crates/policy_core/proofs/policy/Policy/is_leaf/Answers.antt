use Rattle.policy_core.proofs.PolicyParts.{within, leaf-is}
use Rattle.policy_core.proofs.policy.Policy.is_leaf.Goals as goal

pub is_leaf-requires : goal.is_leaf-requires
is_leaf-requires c = record { there = within _ _ _ _ _ c.args.self.now c.self.view_is c.self.invariant c.args.node c.requires.there }

pub returns : goal.returns
returns c = record { leaf = leaf-is _ _ _ _ _ c.args.self.now c.self.view_is c.self.invariant c.args.node c.is_leaf.result c.requires.there c.is_leaf.ensures.leaf_address }
