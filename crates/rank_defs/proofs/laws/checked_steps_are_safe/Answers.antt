use Rattle.rank_defs.proofs.SafeSteps.{always-tame, safe_push, safe_pop, first_state-in_range}
use Rattle.rank_defs.proofs.laws.checked_steps_are_safe.Goals as goal

pub returns-clause-tame : goal.returns-clause-tame
returns-clause-tame c = always-tame

pub returns-clause-pushes : goal.returns-clause-pushes
returns-clause-pushes c = safe_push

pub returns-clause-pops : goal.returns-clause-pops
returns-clause-pops c = safe_pop

pub returns-clause-start : goal.returns-clause-start
returns-clause-start c = first_state-in_range
