use Rattle.mapcheck_core.proofs.Prelude.{◌≡◌, sym, ◌∙◌, ap, true, Err, rules, err_from_is_err_and, codes, bytes_eq, glyphs_of}
use Rattle.text_core.specs.declared.refusal.Refusal.TheVariants as refusal
use Rattle.mapcheck_core.proofs.LineForms.{named_line, nameless_line, imageless_line}
use Rattle.mapcheck_core.proofs.entry.entry_named.Goals as goal

pub returns-in_default-clause-none : goal.returns-in_default-clause-none
returns-in_default-clause-none c = λ e. nameless_line c.args.edition c.args.line c.args.keyword.now c.args.word.now (glyphs_of c.args.items.now) (sym c.in_default.ensures)

pub returns-in_err-image-clause-none : goal.returns-in_err-image-clause-none
returns-in_err-image-clause-none c = λ e.
    let left = err_from_is_err_and c.from_residual.result c.from_residual.ensures.1 in
    let both = sym left.1 ∙ e in
    let none : left.0 ≡ refusal.NoForm = cc in
    imageless_line c.args.edition c.args.line c.args.keyword.now c.args.word.now (glyphs_of c.args.items.now) (c.image.ensures.none (c.in_err-image.was ∙ ap Err (sym left.2 ∙ none)))

pub returns-clause-ok : goal.returns-clause-ok
returns-clause-ok c =
    let key : bytes_eq c.args.keyword.now (codes "map") ≡ true = search rules in
    named_line c.args.edition c.args.line c.args.keyword.now c.args.word.now c.in-Some.name.now (glyphs_of c.args.items.now) c.in_ok-image.image key (sym c.in-Some.ensures) c.in_ok-image.ensures.ok
