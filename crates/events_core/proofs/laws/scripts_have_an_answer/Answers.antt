use Rattle.events_core.proofs.ScriptAnswers.{an_answer}
use Rattle.events_core.proofs.laws.scripts_have_an_answer.Goals as goal

pub returns : goal.returns
returns c = record { law = an_answer }
