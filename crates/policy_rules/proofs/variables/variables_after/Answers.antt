use Rattle.policy_rules.proofs.Prelude.{◌∙◌, ap, refl, inl, inr, sense_of, is_transaction, with_name}
use Rattle.policy_text_defs.specs.Sense.{entry}
use Rattle.policy_rules.proofs.OpenVariables.{variables-opened, same_at, added_at}
use Rattle.policy_rules.proofs.variables.variables_after.Goals as goal

pub returns-in-Transaction : goal.returns-in-Transaction
returns-in-Transaction c = λ earlier line kept.
    variables-opened earlier (entry line (sense_of c.args.statement.now)) c.new.result (ap (λ s. is_transaction (entry line (sense_of s))) c.in-Transaction.is) c.new.ensures

pub returns-in-Keep : goal.returns-in-Keep
returns-in-Keep c = λ earlier line kept. elim c.in-Keep.is [
  | inl (span, is) ↦ added_at earlier line c.args.statement.now c.args.variables kept c.in-Keep.name c.add.new.self (c.in_ok-add-in-Keep.ensures.ok ∙ ap (with_name c.args.variables) c.as_str.ensures) _ is refl refl
  | inr (span, is) ↦ added_at earlier line c.args.statement.now c.args.variables kept c.in-Keep.name c.add.new.self (c.in_ok-add-in-Keep.ensures.ok ∙ ap (with_name c.args.variables) c.as_str.ensures) _ is refl refl
]

pub returns : goal.returns
returns c = λ earlier line kept. elim c.in-Version.is [
  | inl (v, is) ↦ same_at earlier line c.args.statement.now c.args.variables kept _ is refl refl
  | inr (inl (n, t, is)) ↦ same_at earlier line c.args.statement.now c.args.variables kept _ is refl refl
  | inr (inr (inl (n, t, is))) ↦ same_at earlier line c.args.statement.now c.args.variables kept _ is refl refl
  | inr (inr (inr (inl (n, a, cs, is)))) ↦ same_at earlier line c.args.statement.now c.args.variables kept _ is refl refl
  | inr (inr (inr (inr (inl (n, a, ts, is))))) ↦ same_at earlier line c.args.statement.now c.args.variables kept _ is refl refl
  | inr (inr (inr (inr (inr (inl (n, u, a, q, ns, is)))))) ↦ same_at earlier line c.args.statement.now c.args.variables kept _ is refl refl
  | inr (inr (inr (inr (inr (inr (n, u, a, q, ns, is)))))) ↦ same_at earlier line c.args.statement.now c.args.variables kept _ is refl refl
]
