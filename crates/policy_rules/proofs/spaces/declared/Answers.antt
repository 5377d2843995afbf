use Rattle.policy_rules.proofs.Prelude.{◌∙◌, List, sym, take, Entry, is_declared, entries_of, AreVariables, AreSpaces}
use Rattle.policy_rules.proofs.PassLemmas.{ends_here, goes_on, none_fails}
use Rattle.policy_rules.proofs.spaces.declared.Goals as goal

pub returns-then-is_declared-clause-fault : goal.returns-then-is_declared-clause-fault
returns-then-is_declared-clause-fault c =
    let done : List Entry = take c.loop-line.line-index (entries_of c.args.lines.now) in (
      c.requires.placed,
      ends_here (λ done. AreSpaces done c.loop-line.spaces × AreVariables done c.loop-line.variables) is_declared c.args.lines.now c.loop-line.line-index c.loop-line-item.result
          c.requires.rising c.loop-line-test.true c.loop-line-item.is c.loop-line.invariant
          (sym (c.is_declared.ensures done c.loop-line.invariant.keeps.0 c.loop-line.invariant.keeps.1) ∙ c.if-is_declared.true),
    )

pub loop-line-preserved : goal.loop-line-preserved
loop-line-preserved c =
    let done : List Entry = take c.loop-line.line-index (entries_of c.args.lines.now) in
    goes_on (λ done. AreSpaces done c.loop-line.spaces × AreVariables done c.loop-line.variables) is_declared c.args.lines.now c.loop-line.line-index c.loop-line-item.result
    c.requires.rising c.loop-line-test.true c.loop-line-item.is c.loop-line.invariant _
    (sym (c.is_declared.ensures done c.loop-line.invariant.keeps.0 c.loop-line.invariant.keeps.1) ∙ c.if-is_declared.false) (
      c.in_ok-add.ensures done c.loop-line-item.result.0 c.loop-line.invariant.keeps.0 (sym (c.is_declared.ensures done c.loop-line.invariant.keeps.0 c.loop-line.invariant.keeps.1) ∙ c.if-is_declared.false),
      c.in_ok-variables.ensures done c.loop-line-item.result.0 c.loop-line.invariant.keeps.1,
    )

pub returns-clause-new : goal.returns-clause-new
returns-clause-new c = (c.requires.placed, none_fails (λ done. AreSpaces done c.loop-line.spaces × AreVariables done c.loop-line.variables) is_declared c.args.lines.now c.loop-line.line-index c.loop-line-test.false c.loop-line.invariant)
