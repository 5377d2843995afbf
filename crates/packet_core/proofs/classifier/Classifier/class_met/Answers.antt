use Rattle.packet_core.proofs.Prelude.{◌∙◌, ◌≡◌, sym, arith, length, ◌<◌, Some, position, ExtraFields, Header, class_among, classes_of, numbers_of, is_met, no_extra}
use Rattle.std.proofs.Common.{rules, tests}
use Rattle.std.proofs.lemmas.Iterator.{YieldsList-from_slice}
use Rattle.std.proofs.lemmas.Iterator.Search.{position_from_yields_List}
use Rattle.packet_core.proofs.FirstClass.{class-below}
use Rattle.packet_core.proofs.classifier.Classifier.class_met.Goals as goal

found : (c : goal.In-Some) (extra : ExtraFields) → class_among (classes_of c.args.self.now.policy.now.conditions) (record { fields = c.args.fields.now; extra = extra }) c.args.len ≡ Some c.in-Some.place
found c extra =
    let s = c.args.self.now in
    let first : c.position-met.result ≡ position (is_met c.numbers_of.result) c.deref.result.now =
    position_from_yields_List (is_met c.numbers_of.result) _ _ _ c.position-met.ensures.ran (YieldsList-from_slice c.deref.result.now cc) (λ x b q k. search (rules, tests)) in
    let met : c.position-met.result ≡ position (is_met (numbers_of c.args.fields.now c.args.len)) s.classes.items = rw (c.deref.ensures.value, c.numbers_of.ensures) at first in
    sym (s.same c.requires (record { fields = c.args.fields.now; extra = extra }) c.args.len) ∙ sym met ∙ c.in-Some.is

below : (c : goal.In-Some) → c.in-Some.place < length c.args.self.now.policy.now.policy.classes
below c =
    let s = c.args.self.now in
    omega (arith, class-below s.policy.now.conditions (record { fields = c.args.fields.now; extra = no_extra }) c.args.len c.in-Some.place (found c no_extra), s.count)

pub overflow_cast-result : goal.overflow_cast-result
overflow_cast-result c = omega (arith, below c, c.args.self.now.few)

pub unreachable-requires : goal.unreachable-requires
unreachable-requires c =
    let s = c.args.self.now in
    let header : Header = record { fields = c.args.fields.now; extra = no_extra } in
    let first : c.position-met.result ≡ position (is_met c.numbers_of.result) c.deref.result.now =
    position_from_yields_List (is_met c.numbers_of.result) _ _ _ c.position-met.ensures.ran (YieldsList-from_slice c.deref.result.now cc) (λ x b q k. search (rules, tests)) in
    let met : c.position-met.result ≡ position (is_met (numbers_of c.args.fields.now c.args.len)) s.classes.items = rw (c.deref.ensures.value, c.numbers_of.ensures) at first in
    s.given header c.args.len (sym (s.same c.requires header c.args.len) ∙ sym met ∙ c.in-None.is)

pub returns-clause-class : goal.returns-clause-class
returns-clause-class c = λ extra. found c extra

pub returns-clause-there : goal.returns-clause-there
returns-clause-there c = below c
