use Rattle.text_core.proofs.RunLaws.{longest_run_is_taken}
use Rattle.text_core.proofs.law.longest_run_is_taken.Goals as goal

pub returns : goal.returns
returns c = longest_run_is_taken
