use Rattle.policy_core.proofs.Prelude.{subst, ◌∙◌, ◌≤◌, Topology, IsBranched, depth, most_levels}
use Rattle.policy_core.proofs.PolicyParts.{topology-is, few-nodes}
use Rattle.policy_core.proofs.policy.Policy.topo.Goals as goal

pub returns-clause-topology : goal.returns-clause-topology
returns-clause-topology c = c.topo.ensures.topology ∙ topology-is _ _ _ _ _ c.args.self.now c.self.view_is c.self.invariant

pub returns-clause-branched : goal.returns-clause-branched
returns-clause-branched c = subst (λ (t : Topology). IsBranched t) (topology-is _ _ _ _ _ c.args.self.now c.self.view_is c.self.invariant) c.topo.ensures.branched

pub returns-clause-few : goal.returns-clause-few
returns-clause-few c = few-nodes _ _ _ _ _ c.args.self.now c.self.view_is c.self.invariant

pub returns-clause-levels : goal.returns-clause-levels
returns-clause-levels c = subst (λ (t : Topology). depth t ≤ most_levels) (topology-is _ _ _ _ _ c.args.self.now c.self.view_is c.self.invariant) c.topo.ensures.levels
