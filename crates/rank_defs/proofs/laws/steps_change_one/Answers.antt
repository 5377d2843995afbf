use Rattle.rank_defs.proofs.Runs.{pop_step-rank}
use Rattle.rank_defs.proofs.SameStates.{push_step-same, pop_step-same, after_push-same, after_pop-same}
use Rattle.rank_defs.proofs.laws.steps_change_one.Goals as goal

pub returns-clause-ranks : goal.returns-clause-ranks
returns-clause-ranks c = pop_step-rank

pub returns-clause-states : goal.returns-clause-states
returns-clause-states c =
    record { push = push_step-same; pop = pop_step-same; after_push = after_push-same; after_pop = after_pop-same }
