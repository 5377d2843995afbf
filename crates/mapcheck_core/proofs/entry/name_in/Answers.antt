use Rattle.mapcheck_core.proofs.Prelude.{◌≡◌, ◌∙◌, true, false, rules}
use Rattle.policy_text_defs.specs.Words.{has_name}
use Rattle.mapcheck_core.proofs.LineForms.{not_named, still_named}
use Rattle.mapcheck_core.proofs.entry.name_in.Goals as goal

pub returns-then-not-has_name : goal.returns-then-not-has_name
returns-then-not-has_name c =
    let no : has_name c.args.edition c.args.word.now ≡ false = search rules in
    not_named c.args.edition c.args.word.now no

pub returns : goal.returns
returns c =
    let is : has_name c.args.edition c.args.word.now ≡ true = search rules in
    c.name_of.ensures ∙ still_named c.args.edition c.args.word.now is
