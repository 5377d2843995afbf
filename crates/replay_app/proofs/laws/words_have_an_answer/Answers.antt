use Rattle.replay_app.proofs.SomeAnswer.{some-answer}
use Rattle.replay_app.proofs.laws.words_have_an_answer.Goals as goal

pub returns : goal.returns
returns c = record { some = some-answer }
