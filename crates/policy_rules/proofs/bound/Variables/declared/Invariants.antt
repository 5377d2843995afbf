use Rattle.policy_rules.proofs.Prelude.{◌≡◌, take, entries_of, declared, each_name, keep_name}
use Rattle.policy_rules.proofs.bound.Variables.declared.Given as goal

abbrev pub invariant-loop-statement : goal.invariant-loop-statement
invariant-loop-statement l =
    (l.variables.keeps ≡ declared keep_name (take l.statement-index (entries_of l.body))) × (l.variables.eaches ≡ declared each_name (take l.statement-index (entries_of l.body)))
