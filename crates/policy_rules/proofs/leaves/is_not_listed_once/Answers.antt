use Rattle.policy_rules.proofs.Prelude.{◌∙◌, ap, sym, not, inl, inr, sense_of, Statement, is_not_listed_once, is_once}
use Rattle.policy_rules.proofs.leaves.is_not_listed_once.Goals as goal

pub returns-in-Class : goal.returns-in-Class
returns-in-Class c = λ all t.
    ap not (c.is_once.ensures all t ∙ ap (is_once all) c.as_str.ensures)
    ∙ elim c.in-Class.is [
      | inl (a, cs, is) ↦ sym (ap (λ (s : Statement). is_not_listed_once all (sense_of s)) is)
      | inr (a, ts, is) ↦ sym (ap (λ (s : Statement). is_not_listed_once all (sense_of s)) is)
    ]
