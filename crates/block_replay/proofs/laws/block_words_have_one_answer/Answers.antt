use Rattle.block_replay.proofs.BlockAnswers.{one-block_answer}
use Rattle.block_replay.proofs.laws.block_words_have_one_answer.Goals as goal

pub returns : goal.returns
returns c = record { one = one-block_answer }
