use Rattle.packet_core.proofs.Prelude.{◌∙◌, ap, map, take_all, Written, passes, test_of, numbers_of, holds}
use Rattle.packet_core.proofs.WithinBounds.{one_more, same-all}
use Rattle.packet_core.proofs.prepared.bounds_of.Goals as goal

pub loop-test-preserved : goal.loop-test-preserved
loop-test-preserved c = record {
  same = λ header n. ap (map (holds (numbers_of header.fields n))) c.in_ok-push.ensures.items
      ∙ one_more (holds (numbers_of header.fields n)) (λ (t : Written). passes header n (test_of t)) c.loop-test.all.items c.args.tests.now c.loop-test.test-index c.in-Some.bounds c.test-item.result
      (c.loop-test.invariant.same header n) c.loop-test-test.true (c.in-Some.ensures header n ∙ ap (λ (t : Written). passes header n (test_of t)) c.test-item.is);
}

pub returns : goal.returns
returns c = λ header n. same-all (holds (numbers_of header.fields n)) (λ (t : Written). passes header n (test_of t)) c.loop-test.all.items c.args.tests.now
    (c.loop-test.invariant.same header n ∙ ap (map (λ (t : Written). passes header n (test_of t))) (take_all c.loop-test.test-index c.args.tests.now c.loop-test-test.false))
