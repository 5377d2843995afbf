use Rattle.packet_core.proofs.Prelude.{◌∙◌, sym, ap, arith, List, Written, tests_of, belongs}
use Rattle.std.proofs.lemmas.Bool.{eqb-false}
use Rattle.packet_core.proofs.Prepare.{belongs-some}
use Rattle.packet_core.proofs.unprepared.belongs.Goals as goal

pub returns : goal.returns
returns c =
    c.one_passes.ensures
    ∙ belongs-some c.args.header.now c.args.len c.as_slice-alternatives.result.now (omega (arith, eqb-false _ 0 (sym c.if-is_empty.ensures)))
    ∙ ap (λ (l : List (List Written)). belongs c.args.header.now c.args.len (tests_of l)) c.as_slice-alternatives.ensures
