use Rattle.std.specs.List.{list_any}
use Rattle.packet_core.proofs.Prelude.{◌∙◌, sym, ap, arith, length, List, all_pass}
use Rattle.std.proofs.lemmas.Bool.{eqb-false}
use Rattle.packet_core.specs.declared.rules.Rules.{Rules}
use Rattle.packet_core.proofs.Prepare.{passes-some}
use Rattle.packet_core.proofs.rules.one_passes.Goals as goal

pub returns : goal.returns
returns c =
    c.any_passes.ensures ∙ ap (λ (l : List Rules). list_any (all_pass c.args.header.now c.args.len) l) c.deref.ensures.value
    ∙ passes-some c.args.header.now c.args.len c.args.class.now.all.items (omega (arith, eqb-false _ 0 (sym c.if-is_empty.ensures), c.deref.ensures.len, ap (λ (l : List Rules). length l) c.deref.ensures.value))
