use Rattle.policy_core.proofs.TextAnswers.{an_answer}
use Rattle.policy_core.proofs.text_laws.policy_texts_have_an_answer.Goals as goal

pub returns : goal.returns
returns c = record { law = an_answer }
