use Rattle.block_replay.proofs.Prelude.{◌∙◌, sym, codes, bytes_eq-Decides, address-undone, address_at}
use Rattle.block_replay.proofs.CalmNodes.{leaf_steady, inner_steady}
use Rattle.block_replay.proofs.calmness.uses_steady.Goals as goal

pub returns-then-is_leaf-clause-steady : goal.returns-then-is_leaf-clause-steady
returns-then-is_leaf-clause-steady c =
    let tree = c.args.policy.now.policy.tree in
    let name = c.using-transaction.result.now in
    let e = leaf_steady tree (address_at tree c.args.node) name (c.is_leaf.ensures.leaf.0 c.if-is_leaf.true) c.using-transaction.ensures.using in
    let same = bytes_eq-Decides name (codes "fifo") in
    (λ t. e.0 (same.0 (sym c.eq.ensures ∙ t)), λ h. c.eq.ensures ∙ same.1 (e.1 h))

pub returns-else-is_leaf-clause-steady : goal.returns-else-is_leaf-clause-steady
returns-else-is_leaf-clause-steady c =
    let tree = c.args.policy.now.policy.tree in
    let a = address_at tree c.args.node in
    let name = c.using-transaction.result.now in
    let e = inner_steady tree a name (λ l. (let t = c.is_leaf.ensures.leaf.1 l in let f = c.if-is_leaf.false in cc)) (address-undone tree c.args.node c.requires.there).there c.using-transaction.ensures.using in
    (λ t. e.0 (sym c.is_steady.ensures ∙ t), λ h. c.is_steady.ensures ∙ e.1 h)
