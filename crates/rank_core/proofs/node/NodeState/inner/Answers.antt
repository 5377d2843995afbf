use Rattle.rank_core.proofs.Prelude.{rules, first_state-in_range, in_range-same, program_of, first_state}
use Rattle.rank_core.proofs.node.NodeState.inner.Goals as goal

pub returns-clause-in_range : goal.returns-clause-in_range
returns-clause-in_range c =
    in_range-same (program_of c.args.transaction.now) (first_state (program_of c.args.transaction.now)) _ (search rules) (first_state-in_range (program_of c.args.transaction.now) c.requires)
