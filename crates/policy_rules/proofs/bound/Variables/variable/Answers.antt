use Rattle.std.proofs.Common.{◌∙◌, sym, ap, unwrap_or}
use Rattle.policy_rules.proofs.WordVariables.{variable_kept, variable_each}
use Rattle.policy_rules.proofs.bound.Variables.variable.Goals as goal

pub returns-in-Some : goal.returns-in-Some
returns-in-Some c = variable_kept c.args.self.now.keeps c.args.self.now.eaches c.args.word.now c.in_default.not-len c.in_default.not-now c.in_default.not-prio c.in_default.not-weight c.in_default.not-slack c.in_default.not-rank c.in-Some.place (sym c.in-Some.ensures)

pub returns-in-None : goal.returns-in-None
returns-in-None c = variable_each c.args.self.now.keeps c.args.self.now.eaches c.args.word.now c.in_default.not-len c.in_default.not-now c.in_default.not-prio c.in_default.not-weight c.in_default.not-slack c.in_default.not-rank c.unwrap_or.result (sym c.in-None.ensures) (c.unwrap_or.ensures ∙ ap (λ o. unwrap_or o 0) c.place-in-None.ensures)
