use Rattle.text_core.proofs.Prelude.{List, sym, subst, Follow}
use Rattle.text_core.proofs.LineLaws.{Follow-Hold, Hold-whole, Hold-All, Hold-clean, Hold-count}
use Rattle.text_core.proofs.LineLemmas.{Follow-join}
use Rattle.text_core.proofs.line.lines.Goals as goal

pub loop-at-preserved : goal.loop-at-preserved
loop-at-preserved c =
    let P : List _ → Type 0 = λ ls. Follow c.args.text.now 0 ls c.line_from-next.result.1 in
    subst P (sym c.in_ok-push.ensures.ok) (Follow-join c.args.text.now 0 _ c.loop-at.at _ _ c.loop-at.invariant c.line_from-next.ensures.line)

pub returns-clause-texts : goal.returns-clause-texts
returns-clause-texts c = Hold-whole c.args.text.now c.loop-at.found c.loop-at.at (Follow-Hold c.args.text.now 0 c.loop-at.found c.loop-at.at c.loop-at.invariant) c.loop-at-test.false

pub returns-clause-clean : goal.returns-clause-clean
returns-clause-clean c = Hold-clean _ _ _ _ (Follow-Hold c.args.text.now 0 c.loop-at.found c.loop-at.at c.loop-at.invariant)

pub returns-clause-within : goal.returns-clause-within
returns-clause-within c = Hold-All _ _ _ _ (Follow-Hold c.args.text.now 0 c.loop-at.found c.loop-at.at c.loop-at.invariant)

pub returns-clause-count : goal.returns-clause-count
returns-clause-count c = Hold-count c.args.text.now c.loop-at.found c.loop-at.at (Follow-Hold c.args.text.now 0 c.loop-at.found c.loop-at.at c.loop-at.invariant)
