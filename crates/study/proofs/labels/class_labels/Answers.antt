use Rattle.study.proofs.LabelLaws.{one_more_class}
use Rattle.study.proofs.labels.class_labels.Goals as goal

pub loop-line-preserved : goal.loop-line-preserved
loop-line-preserved c =
    one_more_class c.entries-line-items.result.now c.loop-line.line-index c.line-item.result _ _ c.loop-line-test.true c.line-item.is c.loop-line.invariant c.in_ok-put_class.ensures
