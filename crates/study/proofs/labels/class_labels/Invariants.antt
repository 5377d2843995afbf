use Rattle.study.proofs.Prelude.{◌≡◌, take, held_labels}
use Rattle.study.proofs.labels.class_labels.Given as goal

abbrev pub invariant-loop-line : goal.invariant-loop-line
invariant-loop-line l = l.labels.items ≡ held_labels (take l.line-index l.line-items)
