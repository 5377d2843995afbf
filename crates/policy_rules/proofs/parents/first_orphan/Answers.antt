use Rattle.policy_rules.proofs.Prelude.{◌∙◌, sym, true≢false, IsOrphan, entries_of, listed, children}
use Rattle.policy_rules.proofs.Lines.{least-line, fine-line}
use Rattle.policy_rules.proofs.parents.first_orphan.Goals as goal

pub returns-then-is_orphan : goal.returns-then-is_orphan
returns-then-is_orphan c =
    record {
      first = least-line (IsOrphan (entries_of c.args.lines.now)) c.args.lines.now c.loop-line.line-index c.loop-line-item.result c.requires.rising c.loop-line-test.true c.loop-line-item.is c.loop-line.invariant
          (sym (c.is_orphan.ensures (listed children (entries_of c.args.lines.now)) c.requires.tally) ∙ c.if-is_orphan.true);
    }

pub loop-line-preserved : goal.loop-line-preserved
loop-line-preserved c =
    fine-line (IsOrphan (entries_of c.args.lines.now)) c.args.lines.now c.loop-line.line-index c.loop-line-item.result c.loop-line-test.true c.loop-line-item.is c.loop-line.invariant
    (λ bad. true≢false (sym bad ∙ sym (c.is_orphan.ensures (listed children (entries_of c.args.lines.now)) c.requires.tally) ∙ c.if-is_orphan.false))
