use Rattle.std.proofs.Common.{◌∙◌, sym, ap, unwrap_or}
use Rattle.policy_rules.proofs.WordVariables.{aim_kept, aim_each}
use Rattle.policy_rules.proofs.bound.Variables.aim.Goals as goal

pub returns-in-Some : goal.returns-in-Some
returns-in-Some c = aim_kept c.args.self.now.keeps c.args.self.now.eaches c.args.name.now c.in-Some.place (sym c.eq.ensures ∙ c.if-eq.false) (sym c.in-Some.ensures)

pub returns-in-None : goal.returns-in-None
returns-in-None c = aim_each c.args.self.now.keeps c.args.self.now.eaches c.args.name.now c.unwrap_or.result (sym c.eq.ensures ∙ c.if-eq.false) (sym c.in-None.ensures) (c.unwrap_or.ensures ∙ ap (λ o. unwrap_or o 0) c.place-in-None.ensures)
