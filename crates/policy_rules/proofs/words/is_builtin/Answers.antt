use Rattle.policy_rules.proofs.Prelude.{List, ◌≡◌, ℕ, subst, rules, is_some, builtin}
use Rattle.policy_rules.proofs.words.is_builtin.Goals as goal

pub returns : goal.returns
returns c = subst (λ (word : List ℕ). c.is_among.result ≡ is_some (builtin word)) c.as_bytes.ensures.value (search rules)
