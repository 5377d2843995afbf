use Rattle.mapcheck_core.proofs.Prelude.{sym, List, subst, glyphs_of, dialect_of, SaysIn, Item}
use Rattle.text_core.specs.declared.dialect.Dialect.{Dialect}
use Rattle.mapcheck_core.proofs.LineForms.{formless_line}
use Rattle.mapcheck_core.proofs.entry.read_entry.Goals as goal

pub returns-clause-none : goal.returns-clause-none
returns-clause-none c = λ e s g.
    let items = c.as_slice.result.now in
    let line = c.args.statement.now in
    let said : SaysIn c.dialect.result line (glyphs_of items) = subst (λ (is : List Item). SaysIn c.dialect.result line (glyphs_of is)) (sym c.as_slice.ensures) c.in_ok-items.ensures.said in
    let says : SaysIn (dialect_of c.args.edition) line (glyphs_of items) = subst (λ (d : Dialect). SaysIn d line (glyphs_of items)) c.dialect.ensures said in
    formless_line c.args.edition c.args.line line (glyphs_of items) says (c.entry_of.ensures.none e) s g
