use Rattle.target_core.proofs.TextAnswers.{an_answer-holds}
use Rattle.target_core.proofs.laws.texts_have_an_answer.Goals as goal

pub returns : goal.returns
returns c = record { law = an_answer-holds }
