use Rattle.std.specs.Option.{IfSome}
use Rattle.std.proofs.Common.{true≢false, Vec, Global}
use Rattle.packet_core.proofs.Prelude.{◌∙◌, sym, ap, arith, subst, length, List, Option, length-map, Written, classes_of, one_asks, AreBounds}
use Rattle.packet_core.specs.declared.bounds.Prepared.{Prepared}
use Rattle.packet_core.proofs.Prepare.{are-same, are-tested}
use Rattle.packet_core.proofs.FirstClass.{gives-each}
use Rattle.packet_core.proofs.classifier.Classifier.new.Goals as goal

pub invariant_of-result : goal.invariant_of-result
invariant_of-result c =
    let given = c.classes-given.result.now in
    let p = c.args.policy.now in
    record {
      same = λ _. are-same p.conditions given c.in-Some.classes.items c.classes-given.ensures.conditions
          (subst (λ (o : Option (Vec Prepared Global)). IfSome o (λ classes. AreBounds classes.items given)) c.in-Some.is c.in_ok-classes.ensures);
      tests = λ e. absurd (true≢false e);
      asked = λ e. ap (λ (cs : List (List (List Written))). one_asks (classes_of cs)) (sym c.classes-given.ensures.conditions) ∙ sym c.one_asks.ensures ∙ e;
      given = gives-each p.conditions c.classes-given.ensures.catch_all;
      count = ap length (sym c.classes-given.ensures.conditions) ∙ length-map given _ ∙ sym (length-map given _) ∙ ap length c.classes-given.ensures.classes;
      few = omega (arith, c.classes-given.ensures.few, sym (length-map given _) ∙ ap length c.classes-given.ensures.classes);
    }

pub invariant_of-result-in-None : goal.invariant_of-result-in-None
invariant_of-result-in-None c =
    let given = c.classes-given.result.now in
    let p = c.args.policy.now in
    record {
      same = λ e. absurd (true≢false (sym e));
      tests = λ _. are-tested p.conditions given c.in_ok-tested_classes-in-None.field-0.items c.classes-given.ensures.conditions c.in_ok-tested_classes-in-None.ensures;
      asked = λ e. ap (λ (cs : List (List (List Written))). one_asks (classes_of cs)) (sym c.classes-given.ensures.conditions) ∙ sym c.one_asks-in-None.ensures ∙ e;
      given = gives-each p.conditions c.classes-given.ensures.catch_all;
      count = ap length (sym c.classes-given.ensures.conditions) ∙ length-map given _ ∙ sym (length-map given _) ∙ ap length c.classes-given.ensures.classes;
      few = omega (arith, c.classes-given.ensures.few, sym (length-map given _) ∙ ap length c.classes-given.ensures.classes);
    }
