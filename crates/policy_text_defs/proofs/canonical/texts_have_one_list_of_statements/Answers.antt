use Rattle.policy_text_defs.proofs.Prelude.{Opening}
use Rattle.text_core.specs.Lines.{statements_of}
use Rattle.policy_text_defs.proofs.TextLaws.{Carries-one, Entries-one}
use Rattle.policy_text_defs.proofs.canonical.texts_have_one_list_of_statements.Goals as goal

pub returns-clause-line : goal.returns-clause-line
returns-clause-line c = Carries-one

pub returns-clause-text : goal.returns-clause-text
returns-clause-text c = λ latest text es fs one other. Entries-one (Opening latest) 1 (statements_of text) es fs one.entries other.entries
