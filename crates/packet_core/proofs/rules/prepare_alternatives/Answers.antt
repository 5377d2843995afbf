use Rattle.packet_core.proofs.Prelude.{◌∙◌, ap, map, take_all, passes_all, all_pass}
use Rattle.packet_core.proofs.WithinBounds.{one_more}
use Rattle.packet_core.proofs.Prepare.{same-alternatives}
use Rattle.packet_core.proofs.rules.prepare_alternatives.Goals as goal

pub loop-tests-preserved : goal.loop-tests-preserved
loop-tests-preserved c = record {
  same = λ header n. ap (map (all_pass header n)) c.in_ok-push.ensures.items
      ∙ one_more (all_pass header n) (passes_all header n) c.loop-tests.all.items c.args.alternatives.now c.loop-tests.tests-index c.in_ok-prepare_tests.field-0 c.tests-item.result
      (c.loop-tests.invariant.same header n) c.loop-tests-test.true (c.in_ok-prepare_tests.ensures header n ∙ ap (passes_all header n) c.as_slice.ensures ∙ ap (passes_all header n) c.tests-item.is);
}

pub returns : goal.returns
returns c = λ header n. same-alternatives header n c.loop-tests.all.items c.args.alternatives.now
    (c.loop-tests.invariant.same header n ∙ ap (map (passes_all header n)) (take_all c.loop-tests.tests-index c.args.alternatives.now c.loop-tests-test.false))
