use Rattle.policy_core.proofs.Prelude.{subst, AreBuiltIn, Resolved}
use Rattle.policy_core.proofs.PolicyParts.{within, own-policy_node, using-is}
use Rattle.policy_core.proofs.policy.Policy.using.Goals as goal

pub policy_node_of-requires-clause-there : goal.policy_node_of-requires-clause-there
policy_node_of-requires-clause-there c = within _ _ _ _ _ c.args.self.now c.self.view_is c.self.invariant c.args.node c.requires.there

pub returns : goal.returns
returns c = record {
  using = using-is _ _ _ _ _ c.args.self.now c.self.view_is c.self.invariant c.args.node c.policy_node_of.result.now c.as_str.result.now c.requires.there (own-policy_node _ _ _ _ _ c.args.self.now c.self.view_is c.self.invariant c.args.node c.policy_node_of.result.now c.as_slice.result.now c.as_slice.ensures c.policy_node_of.ensures) c.as_str.ensures;
  built_in = subst (λ (r : Resolved). AreBuiltIn r.policy) c.self.view_is c.self.invariant.built_in;
}
