use Rattle.policy_rules.proofs.Prelude.{◌∙◌, sym, true≢false, NeedsVersion2, entries_of}
use Rattle.policy_rules.proofs.Lines.{least-line, fine-line}
use Rattle.policy_rules.proofs.FirstVersion.{first-version}
use Rattle.policy_rules.proofs.limits.first_ahead.Goals as goal

pub returns-then-has_limit : goal.returns-then-has_limit
returns-then-has_limit c =
    record {
      first = least-line (NeedsVersion2 (entries_of c.args.lines.now)) c.args.lines.now c.loop-line.line-index c.loop-line-item.result c.requires.rising c.loop-line-test.true c.loop-line-item.is c.loop-line.invariant
          (first-version c.args.lines.now c.loop-line-item.result (sym c.version.ensures ∙ c.if-version-ne1.false) ∙ sym c.has_limit.ensures ∙ c.if-has_limit.true);
    }

pub loop-line-preserved : goal.loop-line-preserved
loop-line-preserved c =
    fine-line (NeedsVersion2 (entries_of c.args.lines.now)) c.args.lines.now c.loop-line.line-index c.loop-line-item.result c.loop-line-test.true c.loop-line-item.is c.loop-line.invariant
    (λ bad. true≢false (sym bad ∙ first-version c.args.lines.now c.loop-line-item.result (sym c.version.ensures ∙ c.if-version-ne1.false) ∙ sym c.has_limit.ensures ∙ c.if-has_limit.false))
