use Rattle.text_core.proofs.Prelude.{Classic}
use Rattle.text_core.proofs.TokenLaws.{tokens_say}
use Rattle.text_core.proofs.law.tokens_say_the_line.Goals as goal

pub returns : goal.returns
returns c = tokens_say Classic
