use Rattle.std.proofs.Common.{arith}
use Rattle.policy_core.proofs.PolicyParts.{within, count-is, child-there, child-address, child-is}
use Rattle.policy_core.proofs.policy.Policy.child.Goals as goal

pub child-requires-clause-there : goal.child-requires-clause-there
child-requires-clause-there c = within _ _ _ _ _ c.args.self.now c.self.view_is c.self.invariant c.args.node c.requires.there

pub child-requires-clause-child : goal.child-requires-clause-child
child-requires-clause-child c = child-there _ _ _ _ _ c.args.self.now c.self.view_is c.self.invariant c.args.node c.args.digit c.requires.there c.requires.child

pub returns-clause-child : goal.returns-clause-child
returns-clause-child c = child-is _ _ _ _ _ c.args.self.now c.self.view_is c.self.invariant c.args.node c.args.digit c.child.result c.requires.there c.child.ensures.within c.child.ensures.address

pub returns-clause-address : goal.returns-clause-address
returns-clause-address c = child-address _ _ _ _ _ c.args.self.now c.self.view_is c.self.invariant c.args.node c.args.digit c.child.result c.requires.there c.child.ensures.within c.child.ensures.address

pub returns-clause-within : goal.returns-clause-within
returns-clause-within c = omega (arith, c.child.ensures.within, count-is _ _ _ _ _ c.args.self.now c.self.view_is c.self.invariant)
