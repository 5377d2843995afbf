use Rattle.packet_core.proofs.Prelude.{◌∙◌, List, Written, ap, map, take_all, Class, belongs, tests_of, one_passes}
use Rattle.packet_core.specs.declared.rules.Alternatives.{Alternatives}
use Rattle.packet_core.proofs.WithinBounds.{one_more}
use Rattle.packet_core.proofs.rules.tested_classes.Goals as goal

pub loop-class-preserved : goal.loop-class-preserved
loop-class-preserved c = record {
  so = λ header n. ap (map (λ (a : Alternatives). one_passes header n a.all.items)) c.in_ok-push.ensures.items
      ∙ one_more (λ (a : Alternatives). one_passes header n a.all.items) (λ (p : Class). belongs header n (tests_of p.conditions)) c.loop-class.classes.items c.args.given.now c.loop-class.class-index c.in_ok-prepare_alternatives.field-0 c.class-item.result
      (c.loop-class.invariant.so header n) c.loop-class-test.true
      (c.in_ok-prepare_alternatives.ensures header n ∙ ap (λ (cs : List (List Written)). belongs header n (tests_of cs)) c.as_slice.ensures ∙ ap (λ (p : Class). belongs header n (tests_of p.conditions)) c.class-item.is);
}

pub returns : goal.returns
returns c = λ header n. c.loop-class.invariant.so header n ∙ ap (map (λ (p : Class). belongs header n (tests_of p.conditions))) (take_all c.loop-class.class-index c.args.given.now c.loop-class-test.false)
