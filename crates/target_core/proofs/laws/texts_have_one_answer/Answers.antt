use Rattle.target_core.proofs.OneTarget.{one_answer-holds}
use Rattle.target_core.proofs.laws.texts_have_one_answer.Goals as goal

pub returns : goal.returns
returns c = record { law = one_answer-holds }
