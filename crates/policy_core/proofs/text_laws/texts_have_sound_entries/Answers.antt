use Rattle.policy_core.proofs.TextAnswers.{sound_entries}
use Rattle.policy_core.proofs.text_laws.texts_have_sound_entries.Goals as goal

pub returns : goal.returns
returns c = record { law = sound_entries }
