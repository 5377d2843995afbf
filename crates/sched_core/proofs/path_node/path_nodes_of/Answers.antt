use Rattle.sched_core.proofs.Prelude.{arith, ◌≡◌, ap, length, class_in}
use Rattle.policy_defs.specs.Policy.{Class}
use Rattle.sched_core.proofs.PathNodesMade.{path_nodes-begun, path_nodes-more, path_nodes-whole, root-number, IsReached, reached, node-within, path_node-made, last-marks, child-there, child-number, child-marks}
use Rattle.sched_core.proofs.path_node.path_nodes_of.Goals as goal

pub loop-digit-init : goal.loop-digit-init
loop-digit-init c = record {
  node = root-number c.args.policy.now.policy.tree;
  path_nodes = path_nodes-begun c.args.policy.now.policy.tree (class_in c.args.policy.now.policy.tree c.args.class.now) _ c.in_ok-path_nodes.ensures.items;
}

pub child-child-requires-clause-there : goal.child-child-requires-clause-there
child-child-requires-clause-there c = node-within (reached (class_in c.args.policy.now.policy.tree c.args.class.now) c.requires.leads c.address-digits.ensures.address (omega (arith, c.loop-digit-test.true)) c.loop-digit.invariant.node)

pub child-child-requires-clause-child : goal.child-child-requires-clause-child
child-child-requires-clause-child c = child-there (reached (class_in c.args.policy.now.policy.tree c.args.class.now) c.requires.leads c.address-digits.ensures.address (omega (arith, c.loop-digit-test.true)) c.loop-digit.invariant.node) c.address-digits.ensures.address c.loop-digit-test.true

pub path_node_at-requires : goal.path_node_at-requires
path_node_at-requires c = record { there = node-within (reached (class_in c.args.policy.now.policy.tree c.args.class.now) c.requires.leads c.address-digits.ensures.address (omega (arith, c.loop-digit-test.true)) c.loop-digit.invariant.node) }

pub loop-digit-preserved : goal.loop-digit-preserved
loop-digit-preserved c =
    let r : IsReached c.args.policy.now.policy.tree (class_in c.args.policy.now.policy.tree c.args.class.now) c.loop-digit.digit-index c.loop-digit.node
    = reached _ c.requires.leads c.address-digits.ensures.address (omega (arith, c.loop-digit-test.true)) c.loop-digit.invariant.node in
    record {
      node = child-number r c.address-digits.ensures.address c.loop-digit-test.true c.child-child.ensures.child;
      path_nodes = path_nodes-more _ _ c.loop-digit.path_nodes.items c.push.new.self.items c.loop-digit.digit-index _ c.loop-digit.invariant.path_nodes c.in_ok-push.ensures.items
          (path_node-made r c.path_node_at.ensures.node c.path_node_at.ensures.program c.path_node_at.ensures.group c.path_node_at.ensures.marks c.path_node_at.ensures.told c.path_node_at.ensures.push c.path_node_at.ensures.pop
          (child-marks r c.address-digits.ensures.address c.loop-digit-test.true _ c.child-child.ensures.address c.attrs.ensures.marks));
    }

pub path_node_at-requires-2 : goal.path_node_at-requires-2
path_node_at-requires-2 c = record { there = node-within (reached (class_in c.args.policy.now.policy.tree c.args.class.now) c.requires.leads c.address-digits.ensures.address (omega (arith, c.loop-digit.auto.digit-index-end)) c.loop-digit.invariant.node) }

pub returns : goal.returns
returns c =
    let class : Class = class_in c.args.policy.now.policy.tree c.args.class.now in
    let r : IsReached c.args.policy.now.policy.tree class c.loop-digit.digit-index c.loop-digit.node
    = reached class c.requires.leads c.address-digits.ensures.address (omega (arith, c.loop-digit.auto.digit-index-end)) c.loop-digit.invariant.node in
    let all : c.loop-digit.digit-index ≡ length class.leaf = omega (arith, c.loop-digit-test.false, c.loop-digit.auto.digit-index-end, ap length c.address-digits.ensures.address) in
    path_nodes-whole _ class c.push-2.new.self.items c.loop-digit.digit-index
    (path_nodes-more _ class c.loop-digit.path_nodes.items c.push-2.new.self.items c.loop-digit.digit-index _ c.loop-digit.invariant.path_nodes c.in_ok-push-2.ensures.items
    (path_node-made r c.path_node_at-2.ensures.node c.path_node_at-2.ensures.program c.path_node_at-2.ensures.group c.path_node_at-2.ensures.marks c.path_node_at-2.ensures.told c.path_node_at-2.ensures.push c.path_node_at-2.ensures.pop (last-marks r (omega (arith, all))))) all
