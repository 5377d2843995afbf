use Rattle.policy_rules.proofs.Prelude.{◌∙◌, ◌≡◌, sym, not, position, rules, tests, YieldsList-from_slice, position_from_yields_List, sense_of, is_body}
use Rattle.policy_rules.proofs.Lines.{Line, entry_of}
use Rattle.policy_rules.proofs.BodyFronts.{front_some, front_none}
use Rattle.policy_rules.proofs.bodies.body.Goals as goal

pub returns-in-Some : goal.returns-in-Some
returns-in-Some c =
    let at : c.position.result ≡ position (λ (l : Line). not (is_body (sense_of l.1))) c.args.lines.now = position_from_yields_List _ _ _ _ c.position.ensures.ran (YieldsList-from_slice c.args.lines.now cc) (λ x b q k. search (rules, tests)) in
    front_some (λ e. is_body e.1) entry_of c.args.lines.now c.in-Some.end (sym at ∙ c.in-Some.is)

pub returns-in-None : goal.returns-in-None
returns-in-None c =
    let at : c.position.result ≡ position (λ (l : Line). not (is_body (sense_of l.1))) c.args.lines.now = position_from_yields_List _ _ _ _ c.position.ensures.ran (YieldsList-from_slice c.args.lines.now cc) (λ x b q k. search (rules, tests)) in
    front_none (λ e. is_body e.1) entry_of c.args.lines.now (sym at ∙ c.in-None.is)
