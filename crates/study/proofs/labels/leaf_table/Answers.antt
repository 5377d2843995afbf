use Rattle.study.proofs.Prelude.{ap, ◌∙◌, map, leaf_index}
use Rattle.std.proofs.lemmas.List.{take_all}
use Rattle.study.proofs.LabelLaws.{table_of_classes}
use Rattle.study.proofs.labels.leaf_table.Goals as goal

pub returns-clause-table : goal.returns-clause-table
returns-clause-table c =
    let policy = c.args.policy.now.policy in
    let found = c.classes-class-items in
    c.loop-class.invariant
    ∙ ap (map (λ d. leaf_index policy.tree d.leaf)) (take_all c.loop-class.class-index found.result.now c.loop-class-test.false)
    ∙ table_of_classes policy found.result.now found.ensures.leaves found.ensures.classes
