use Rattle.policy_rules.proofs.Prelude.{◌∙◌, ap, sym, not, ◌&&◌, has}
use Rattle.policy_rules.proofs.TallyLaws.{once}
use Rattle.policy_rules.proofs.tally.Tally.is_once.Goals as goal

pub returns-then-contains : goal.returns-then-contains
returns-then-contains c = λ all t. ap not c.contains-then-contains.ensures ∙ ap (λ b. b && not (has c.args.self.now.again c.args.name.now)) (sym (sym c.contains.ensures ∙ c.if-contains.true)) ∙ once _ _ all c.args.name.now t

pub returns-else-contains : goal.returns-else-contains
returns-else-contains c = λ all t. c.if-contains.false ∙ ap (λ b. b && not (has c.args.self.now.again c.args.name.now)) (sym (sym c.contains.ensures ∙ c.if-contains.false)) ∙ once _ _ all c.args.name.now t
