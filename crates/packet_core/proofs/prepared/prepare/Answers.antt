use Rattle.packet_core.proofs.Prelude.{◌∙◌, sym, ap, arith, length, nil_from_length, passes_all, numbers_of, holds}
use Rattle.std.proofs.lemmas.Bool.{eqb-true, eqb-false}
use Rattle.std.proofs.lemmas.Result.{IfOk-weaker}
use Rattle.std.proofs.lemmas.Option.{IfSome_then}
use Rattle.packet_core.proofs.Prepare.{belongs-one, belongs-none}
use Rattle.packet_core.proofs.prepared.prepare.Goals as goal

pub returns-then-is_empty : goal.returns-then-is_empty
returns-then-is_empty c = λ header n. belongs-none header n (holds (numbers_of header.fields n)) _ c.new.result.items c.args.alternatives.now
    (c.anything.ensures header.fields n) c.new.ensures.items (nil_from_length c.args.alternatives.now (eqb-true (length c.args.alternatives.now) 0 (sym c.is_empty.ensures ∙ c.if-is_empty.true)))

pub returns : goal.returns
returns c =
    IfOk-weaker c.prepare_tests.result _ _
    (λ some of. IfSome_then some of (λ class same header n.
    same header n ∙ ap (passes_all header n) (c.as_slice.ensures ∙ c.index-alternatives-0.is)
    ∙ belongs-one header n c.args.alternatives.now c.index-alternatives-0.result (omega (arith, eqb-false (length c.args.alternatives.now) 0 (sym c.is_empty.ensures ∙ c.if-is_empty.false))) c.if-alternatives-gt1.false))
    c.prepare_tests.ensures
