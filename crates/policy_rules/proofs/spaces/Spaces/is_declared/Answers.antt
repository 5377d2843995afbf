use Rattle.policy_rules.proofs.Prelude.{◌∙◌, ap, List, Name, sym, inl, inr, sense_of, is_declared, has}
use Rattle.policy_rules.proofs.spaces.Spaces.is_declared.Goals as goal

pub returns-in-Class : goal.returns-in-Class
returns-in-Class c = λ earlier are kept. elim c.in-Class.is [
  | inl (a, cs, is) ↦ c.contains-in-Class.ensures ∙ ap (has c.args.self.now.classes) c.as_str-in-Class.ensures ∙ ap (λ (l : List Name). has l c.in-Class.name) are.classes_are ∙ sym (ap (λ s. is_declared earlier (sense_of s)) is)
  | inr (a, ts, is) ↦ c.contains-in-Class.ensures ∙ ap (has c.args.self.now.classes) c.as_str-in-Class.ensures ∙ ap (λ (l : List Name). has l c.in-Class.name) are.classes_are ∙ sym (ap (λ s. is_declared earlier (sense_of s)) is)
]

pub returns-in-Keep : goal.returns-in-Keep
returns-in-Keep c = λ earlier are kept. elim c.in-Keep.is [
  | inl (span, is) ↦ c.contains-in-Keep.ensures ∙ ap (has c.args.variables.now) c.as_str-in-Keep.ensures ∙ kept c.in-Keep.name ∙ sym (ap (λ s. is_declared earlier (sense_of s)) is)
  | inr (span, is) ↦ c.contains-in-Keep.ensures ∙ ap (has c.args.variables.now) c.as_str-in-Keep.ensures ∙ kept c.in-Keep.name ∙ sym (ap (λ s. is_declared earlier (sense_of s)) is)
]
