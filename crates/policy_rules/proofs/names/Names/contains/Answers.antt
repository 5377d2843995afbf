use Rattle.policy_rules.proofs.Prelude.{◌∙◌, ap, List, ◌≡◌, ℕ, subst, is_some, has}
use Rattle.policy_rules.proofs.Texts.{has-place}
use Rattle.policy_rules.proofs.names.Names.contains.Goals as goal

pub returns : goal.returns
returns c =
    subst (λ (names : List (List ℕ)). c.contains_key.result ≡ has names c.args.name.now) c.self.view_is
    (c.contains_key.ensures ∙ ap is_some (c.self.invariant c.args.name.now) ∙ has-place c.args.name.now _)
