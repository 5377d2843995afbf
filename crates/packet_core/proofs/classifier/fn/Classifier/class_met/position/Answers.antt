use Rattle.packet_core.proofs.Prelude.{◌∙◌, ap, ◌≡◌, ◌&&◌, list_all, holds}
use Rattle.std.proofs.Common.{rules, tests}
use Rattle.std.proofs.lemmas.Iterator.{YieldsList-from_slice}
use Rattle.std.proofs.lemmas.Iterator.Search.{all_from_yields_List}
use Rattle.packet_core.proofs.classifier.fn.Classifier.class_met.position.Goals as goal

pub returns-then-holds : goal.returns-then-holds
returns-then-holds c =
    let numbers = c.captures.numbers.now in
    let all : c.all.result ≡ list_all (holds numbers) c.deref.result.now =
    all_from_yields_List (holds numbers) _ _ c.all.result c.all.ensures.ran (YieldsList-from_slice c.deref.result.now cc) (λ x b q k. search (rules, tests)) in
    all ∙ ap (list_all (holds numbers)) c.deref.ensures.value ∙ ap (λ b. b && list_all (holds numbers) c.args.class.now.others.items) c.if-holds.ensures
