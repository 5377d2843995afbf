use Rattle.block_replay.proofs.BlockAnswers.{some-block_answer}
use Rattle.block_replay.proofs.laws.block_words_have_an_answer.Goals as goal

pub returns : goal.returns
returns c = record { some = some-block_answer }
