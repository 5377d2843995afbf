use Rattle.text_core.proofs.FrontLaws.{longest_token_is_taken}
use Rattle.text_core.proofs.law.longest_token_is_taken.Goals as goal

pub returns : goal.returns
returns c = longest_token_is_taken
