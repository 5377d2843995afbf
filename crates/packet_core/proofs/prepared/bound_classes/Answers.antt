use Rattle.std.specs.Option.{IfSome}
use Rattle.packet_core.specs.declared.bounds.Prepared.{Prepared}
use Rattle.packet_core.proofs.Prelude.{◌∙◌, ◌≡◌, ℕ, List, Option, Header, Written, subst, ap, map, take_all, Class, belongs, tests_of, numbers_of, is_met}
use Rattle.packet_core.proofs.WithinBounds.{one_more}
use Rattle.packet_core.proofs.prepared.bound_classes.Goals as goal

pub loop-class-preserved : goal.loop-class-preserved
loop-class-preserved c = record {
  so = λ header n. ap (map (is_met (numbers_of header.fields n))) c.in_ok-push.ensures.items
      ∙ one_more (is_met (numbers_of header.fields n)) (λ (p : Class). belongs header n (tests_of p.conditions)) c.loop-class.classes.items c.args.given.now c.loop-class.class-index c.in-Some.prepared c.class-item.result
      (c.loop-class.invariant.so header n) c.loop-class-test.true
      ((subst (λ (o : Option Prepared). IfSome o (λ class. (h : Header) (m : ℕ) → is_met (numbers_of h.fields m) class ≡ belongs h m (tests_of c.as_slice.result.now))) c.in-Some.is c.in_ok-prepared.ensures) header n
      ∙ ap (λ (cs : List (List Written)). belongs header n (tests_of cs)) c.as_slice.ensures ∙ ap (λ (p : Class). belongs header n (tests_of p.conditions)) c.class-item.is);
}

pub returns : goal.returns
returns c = λ header n. c.loop-class.invariant.so header n ∙ ap (map (λ (p : Class). belongs header n (tests_of p.conditions))) (take_all c.loop-class.class-index c.args.given.now c.loop-class-test.false)
