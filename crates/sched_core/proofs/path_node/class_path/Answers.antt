use Rattle.sched_core.proofs.Prelude.{ap, sym, address-undone, Policy}
use Rattle.policy_defs.specs.declared.limits.Limits.{Limits}
use Rattle.sched_core.proofs.Filling.{numbered-limits}
use Rattle.sched_core.proofs.GroupLaws.{numbered-group}
use Rattle.sched_core.proofs.path_node.class_path.Goals as goal

pub returns : goal.returns
returns c =
    let policy : Policy = c.args.policy.now.policy in
    record {
      leaf = sym (address-undone policy.tree c.args.class.now.leaf c.requires.there).number;
      limit = ap (λ (l : Limits). l.packets) (numbered-limits policy c.args.class.now.leaf c.limits.result c.limits.ensures.limits);
      group = numbered-group policy c.args.class.now.leaf c.group.result c.group.ensures.group;
      digits = c.address.ensures.address;
      nodes = c.in_ok-path_nodes_of.ensures;
    }
