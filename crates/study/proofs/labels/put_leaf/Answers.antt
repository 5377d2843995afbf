use Rattle.study.proofs.Prelude.{ap, ◌∙◌, List, sym, ◌++◌, append-nil, Label}
use Rattle.study.proofs.LabelLaws.{one_leaf_label, no_leaf_label}
use Rattle.study.proofs.labels.put_leaf.Goals as goal

pub returns-in_ok-push : goal.returns-in_ok-push
returns-in_ok-push c =
    let tree = c.args.policy.now.policy.tree in
    let there = c.is_leaf.ensures.leaf.0 (let t = c.if-is_leaf.true in cc) in
    let label = one_leaf_label tree c.args.node c.name.result.now c.attrs-weight.result there c.name.ensures.name c.attrs-weight.ensures.marks in
    c.in_ok-push.ensures.items ∙ ap (λ (ls : List Label). c.args.labels.now.items ++ ls) (rw c.in_ok-name.ensures label)

pub returns-else-is_leaf : goal.returns-else-is_leaf
returns-else-is_leaf c =
    let none = no_leaf_label c.args.policy.now.policy.tree c.args.node (λ there. (let t = c.is_leaf.ensures.leaf.1 there in let f = c.if-is_leaf.false in cc)) in
    sym (append-nil c.args.labels.now.items) ∙ ap (λ (ls : List Label). c.args.labels.now.items ++ ls) (sym none)
