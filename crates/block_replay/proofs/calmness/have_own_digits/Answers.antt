use Rattle.block_replay.proofs.Prelude.{refl, arith, address_at, topology}
use Rattle.block_replay.proofs.OwnDigits.{in_images, in_tree}
use Rattle.block_replay.proofs.Topologies.{tree_children}
use Rattle.block_replay.proofs.calmness.have_own_digits.Goals as goal

pub has_own_digit-requires-clause-child : goal.has_own_digit-requires-clause-child
has_own_digit-requires-clause-child c =
    let tree = c.args.policy.now.policy.tree in
    (tree_children tree (topology c.topo.result.now) (address_at tree c.args.node) c.address.result.now c.children_at-count.result c.topo.ensures.topology c.address.ensures.address c.children_at-count.ensures c.loop-index.index).0
    c.loop-index-test.true

pub returns-then-not-has_own_digit-clause-own : goal.returns-then-not-has_own_digit-clause-own
returns-then-not-has_own_digit-clause-own c =
    let tree = c.args.policy.now.policy.tree in
    let a = address_at tree c.args.node in
    let there = (tree_children tree (topology c.topo.result.now) a c.address.result.now c.children_at-count.result c.topo.ensures.topology c.address.ensures.address c.children_at-count.ensures c.loop-index.index).0
    c.loop-index-test.true in
    (λ e. (let f = e in cc), λ h. (let t = c.has_own_digit.ensures.1 (h c.loop-index.index (in_images tree c.args.map.now c.requires.map _ there)) in let f = c.if-not-has_own_digit.true in cc))

pub returns-clause-own : goal.returns-clause-own
returns-clause-own c =
    let tree = c.args.policy.now.policy.tree in
    let a = address_at tree c.args.node in (
      λ e i there j l.
          let w = (tree_children tree (topology c.topo.result.now) a c.address.result.now c.children_at-count.result c.topo.ensures.topology c.address.ensures.address c.children_at-count.ensures i).1
          (in_tree tree c.args.map.now c.requires.map _ there) in
          c.loop-index.invariant i (omega (arith, w, c.loop-index-test.false)) j l,
      λ h. refl,
    )
