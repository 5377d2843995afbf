use Rattle.replay_app.proofs.OneAnswer.{one-answer}
use Rattle.replay_app.proofs.laws.words_have_one_answer.Goals as goal

pub returns : goal.returns
returns c = record { one = one-answer }
