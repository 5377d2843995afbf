use Rattle.packet_core.proofs.Prelude.{◌∙◌, ap, map, take_all, Written, passes, passes_by, test_of}
use Rattle.packet_core.proofs.WithinBounds.{one_more, same-all}
use Rattle.packet_core.proofs.rules.prepare_tests.Goals as goal

pub loop-test-preserved : goal.loop-test-preserved
loop-test-preserved c = record {
  same = λ header n. ap (map (passes_by header n)) c.in_ok-push.ensures.items
      ∙ one_more (passes_by header n) (λ (t : Written). passes header n (test_of t)) c.loop-test.all.items c.args.tests.now c.loop-test.test-index c.in_ok-prepare_test.field-0 c.test-item.result
      (c.loop-test.invariant.same header n) c.loop-test-test.true (c.in_ok-prepare_test.ensures header n ∙ ap (λ (t : Written). passes header n (test_of t)) c.test-item.is);
}

pub returns : goal.returns
returns c = λ header n. same-all (passes_by header n) (λ (t : Written). passes header n (test_of t)) c.loop-test.all.items c.args.tests.now
    (c.loop-test.invariant.same header n ∙ ap (map (λ (t : Written). passes header n (test_of t))) (take_all c.loop-test.test-index c.args.tests.now c.loop-test-test.false))
