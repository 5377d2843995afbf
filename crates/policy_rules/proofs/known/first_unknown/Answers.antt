use Rattle.policy_rules.proofs.Prelude.{◌∙◌, ap, List, sym, take, not, Entry, is_known, entries_of, AreVariables}
use Rattle.policy_rules.proofs.PassLemmas.{ends_here, goes_on}
use Rattle.policy_rules.proofs.known.first_unknown.Goals as goal

pub returns-then-not-is_known : goal.returns-then-not-is_known
returns-then-not-is_known c =
    let done : List Entry = take c.loop-line.line-index (entries_of c.args.lines.now) in
    ends_here (λ done. AreVariables done c.loop-line.variables) (λ done s. not (is_known (entries_of c.args.lines.now) done s)) c.args.lines.now c.loop-line.line-index c.loop-line-item.result
    c.requires.rising c.loop-line-test.true c.loop-line-item.is c.loop-line.invariant
    (ap not (sym (c.is_known.ensures (entries_of c.args.lines.now) done c.requires.spaces c.loop-line.invariant.keeps) ∙ c.if-not-is_known.true))

pub loop-line-preserved : goal.loop-line-preserved
loop-line-preserved c =
    let done : List Entry = take c.loop-line.line-index (entries_of c.args.lines.now) in
    goes_on (λ done. AreVariables done c.loop-line.variables) (λ done s. not (is_known (entries_of c.args.lines.now) done s)) c.args.lines.now c.loop-line.line-index c.loop-line-item.result
    c.requires.rising c.loop-line-test.true c.loop-line-item.is c.loop-line.invariant (λ done. AreVariables done c.in_ok-variables.variables)
    (ap not (sym (c.is_known.ensures (entries_of c.args.lines.now) done c.requires.spaces c.loop-line.invariant.keeps) ∙ c.if-not-is_known.false))
    (c.in_ok-variables.ensures done c.loop-line-item.result.0 c.loop-line.invariant.keeps)
