use Rattle.sched_core.proofs.Prelude.{sym, subst, get_or, address_at, class_in, LeadsToLeaf}
use Rattle.sched_core.specs.PathNodes.{IsClassPath}
use Rattle.policy_core.specs.declared.parts.Class.{Class}
use Rattle.sched_core.proofs.PathNodesMade.{class-leads, paths-more}
use Rattle.sched_core.proofs.path_node.class_paths.Goals as goal

pub class_path-requires-clause-leads : goal.class_path-requires-clause-leads
class_path-requires-clause-leads c =
    let policy = c.args.policy.now.policy in
    let leads : LeadsToLeaf policy.tree (address_at policy.tree (get_or c.classes-classes.result.now c.loop-class.class-index c.class-item.result).leaf)
    = class-leads policy c.classes-classes.result.now c.classes-classes.ensures.classes c.classes-classes.ensures.accepted c.loop-class.class-index c.class-item.result c.loop-class-test.true in
    subst (λ (k : Class). LeadsToLeaf policy.tree (address_at policy.tree k.leaf)) (sym c.class-item.is) leads

pub loop-class-preserved : goal.loop-class-preserved
loop-class-preserved c =
    let policy = c.args.policy.now.policy in
    paths-more policy c.classes-classes.result.now c.classes-classes.ensures.classes c.loop-class.paths.items c.push.new.self.items c.loop-class.class-index c.class-item.result c.in_ok-class_path.field-0
    c.loop-class-test.true c.loop-class.invariant c.in_ok-push.ensures.items
    (subst (λ (k : Class). IsClassPath policy (class_in policy.tree k) c.in_ok-class_path.field-0) c.class-item.is c.in_ok-class_path.ensures)
