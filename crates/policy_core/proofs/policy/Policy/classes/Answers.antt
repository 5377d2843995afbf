use Rattle.policy_core.proofs.Prelude.{List, sym, subst, length, ◌<◌, ◌≤◌, AllByRecursion, most_classes, Resolved, nodes, HasCatchAll}
use Rattle.policy_core.specs.declared.parts.Class.{Class}
use Rattle.policy_core.proofs.PolicyParts.{leaves-there}
use Rattle.policy_core.proofs.policy.Policy.classes.Goals as goal

pub returns-clause-leaves : goal.returns-clause-leaves
returns-clause-leaves c =
    subst (λ (cs : List Class). AllByRecursion (λ x. x.leaf < nodes c.args.self.now.policy.tree) cs) (sym c.as_slice.ensures)
    (leaves-there _ _ _ _ _ c.args.self.now c.self.view_is c.self.invariant)

pub returns-clause-few : goal.returns-clause-few
returns-clause-few c = subst (λ (cs : List Class). length cs ≤ most_classes) (sym c.as_slice.ensures) c.self.invariant.few

pub returns-clause-catch_all : goal.returns-clause-catch_all
returns-clause-catch_all c = subst (λ (r : Resolved). HasCatchAll r.conditions) c.self.view_is c.self.invariant.catch_all
