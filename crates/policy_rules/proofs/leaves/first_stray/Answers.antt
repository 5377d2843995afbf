use Rattle.policy_rules.proofs.Prelude.{◌∙◌, sym, true≢false, IsNotListedOnce, entries_of, listed, leaf_classes}
use Rattle.policy_rules.proofs.Lines.{least-line, fine-line}
use Rattle.policy_rules.proofs.leaves.first_stray.Goals as goal

pub returns-then-is_not_listed_once : goal.returns-then-is_not_listed_once
returns-then-is_not_listed_once c =
    record {
      first = least-line (IsNotListedOnce (entries_of c.args.lines.now)) c.args.lines.now c.loop-line.line-index c.loop-line-item.result c.requires.rising c.loop-line-test.true c.loop-line-item.is c.loop-line.invariant
          (sym (c.is_not_listed_once.ensures (listed leaf_classes (entries_of c.args.lines.now)) c.requires.tally) ∙ c.if-is_not_listed_once.true);
    }

pub loop-line-preserved : goal.loop-line-preserved
loop-line-preserved c =
    fine-line (IsNotListedOnce (entries_of c.args.lines.now)) c.args.lines.now c.loop-line.line-index c.loop-line-item.result c.loop-line-test.true c.loop-line-item.is c.loop-line.invariant
    (λ bad. true≢false (sym bad ∙ sym (c.is_not_listed_once.ensures (listed leaf_classes (entries_of c.args.lines.now)) c.requires.tally) ∙ c.if-is_not_listed_once.false))
