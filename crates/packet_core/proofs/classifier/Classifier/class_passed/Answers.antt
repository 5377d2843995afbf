use Rattle.packet_core.proofs.Prelude.{◌∙◌, ◌≡◌, sym, arith, length, ◌<◌, ap, Some, List, position, class_among, classes_of, one_passes}
use Rattle.packet_core.specs.declared.rules.Alternatives.{Alternatives}
use Rattle.packet_core.proofs.FirstClass.{class-below}
use Rattle.packet_core.proofs.classifier.Classifier.class_passed.Goals as goal

found : (c : goal.In-Some) → class_among (classes_of c.args.self.now.policy.now.conditions) c.args.header.now c.args.len ≡ Some c.in-Some.place
found c =
    sym (c.args.self.now.tests c.requires c.args.header.now c.args.len)
    ∙ ap (λ (l : List Alternatives). position (λ (a : Alternatives). one_passes c.args.header.now c.args.len a.all.items) l) (sym c.deref.ensures.value)
    ∙ sym c.place_passed.ensures
    ∙ c.in-Some.is

below : (c : goal.In-Some) → c.in-Some.place < length c.args.self.now.policy.now.policy.classes
below c = omega (arith, class-below c.args.self.now.policy.now.conditions c.args.header.now c.args.len c.in-Some.place (found c), c.args.self.now.count)

pub overflow_cast-result : goal.overflow_cast-result
overflow_cast-result c = omega (arith, below c, c.args.self.now.few)

pub unreachable-requires : goal.unreachable-requires
unreachable-requires c =
    c.args.self.now.given c.args.header.now c.args.len
    (sym (c.args.self.now.tests c.requires c.args.header.now c.args.len)
    ∙ ap (λ (l : List Alternatives). position (λ (a : Alternatives). one_passes c.args.header.now c.args.len a.all.items) l) (sym c.deref.ensures.value)
    ∙ sym c.place_passed.ensures
    ∙ c.in-None.is)

pub returns-clause-class : goal.returns-clause-class
returns-clause-class c = found c

pub returns-clause-there : goal.returns-clause-there
returns-clause-there c = below c
