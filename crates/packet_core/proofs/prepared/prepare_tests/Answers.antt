use Rattle.packet_core.proofs.Prelude.{◌∙◌, sym, length, nil_from_length, Written, passes, test_of, numbers_of, holds}
use Rattle.std.proofs.lemmas.Bool.{eqb-true}
use Rattle.packet_core.proofs.WithinBounds.{met-none}
use Rattle.packet_core.proofs.prepared.prepare_tests.Goals as goal

pub returns-then-is_empty : goal.returns-then-is_empty
returns-then-is_empty c = λ header n. met-none (holds (numbers_of header.fields n)) (λ (t : Written). passes header n (test_of t)) _ c.new.result.items c.args.tests.now
    (c.anything.ensures header.fields n) c.new.ensures.items (nil_from_length c.args.tests.now (eqb-true (length c.args.tests.now) 0 (sym c.is_empty.ensures ∙ c.if-is_empty.true)))
