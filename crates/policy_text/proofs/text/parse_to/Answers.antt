use Rattle.policy_text.proofs.TextSteps.{told_of, told_gives, told_fails}
use Rattle.policy_text.proofs.text.parse_to.Goals as goal

pub returns-clause-accepts : goal.returns-clause-accepts
returns-clause-accepts c = λ es has. told_gives _ _ c.read.result es (told_of _ _ c.read.result c.read.ensures.statements c.read.ensures.cause) has

pub returns-clause-refuses : goal.returns-clause-refuses
returns-clause-refuses c = λ f cause. told_fails _ _ c.read.result f (told_of _ _ c.read.result c.read.ensures.statements c.read.ensures.cause) cause
