use Rattle.policy_core.proofs.PolicyParts.{within, own-policy_node, program-within, program-is}
use Rattle.policy_core.proofs.policy.Policy.checked.Goals as goal

pub policy_node_of-policy_node-requires-clause-there : goal.policy_node_of-policy_node-requires-clause-there
policy_node_of-policy_node-requires-clause-there c = within _ _ _ _ _ c.args.self.now c.self.view_is c.self.invariant c.args.node c.requires.there

pub bounds-as_slice-policy_node : goal.bounds-as_slice-policy_node
bounds-as_slice-policy_node c =
    program-within _ _ _ _ _ c.args.self.now c.self.view_is c.self.invariant c.args.node c.policy_node_of-policy_node.result.now c.as_slice-2.result.now c.requires.there
    (own-policy_node _ _ _ _ _ c.args.self.now c.self.view_is c.self.invariant c.args.node c.policy_node_of-policy_node.result.now c.as_slice.result.now c.as_slice.ensures c.policy_node_of-policy_node.ensures) c.as_slice-2.ensures

pub returns : goal.returns
returns c = record {
  program = program-is _ _ _ _ _ c.args.self.now c.self.view_is c.self.invariant c.args.node c.policy_node_of-policy_node.result.now c.index-as_slice-policy_node.result c.as_slice-2.result.now c.requires.there
      (own-policy_node _ _ _ _ _ c.args.self.now c.self.view_is c.self.invariant c.args.node c.policy_node_of-policy_node.result.now c.as_slice.result.now c.as_slice.ensures c.policy_node_of-policy_node.ensures) c.as_slice-2.ensures c.index-as_slice-policy_node.is;
}
