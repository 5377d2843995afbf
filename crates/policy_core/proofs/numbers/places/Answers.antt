use Rattle.std.proofs.Common.{ℕ, ◌+◌, sym, subst, arith, set}
use Rattle.policy_core.proofs.InverseNumbers.{ArePlacesTo, node-within, places-more, places-all}
use Rattle.policy_core.proofs.numbers.places.Goals as goal

pub index_mut-requires : goal.index_mut-requires
index_mut-requires c = omega (arith, c.node.ensures.node, c.loop-number.invariant.len, c.loop-number.places.ok, node-within c.args.tree.now.rows c.loop-number.number c.requires.once (omega (arith, c.loop-number-test.true, c.count-number-end.ensures.count)))

pub loop-number-preserved : goal.loop-number-preserved
loop-number-preserved c =
    subst (λ (n : ℕ). ArePlacesTo c.args.tree.now.rows (c.loop-number.number + 1) (set c.loop-number.places.items n c.loop-number.number)) (sym c.node.ensures.node)
    (places-more c.args.tree.now.rows c.loop-number.number c.loop-number.places.items c.requires.once (omega (arith, c.loop-number-test.true, c.count-number-end.ensures.count)) c.loop-number.invariant)

pub returns : goal.returns
returns c = record { places = places-all c.args.tree.now.rows c.loop-number.number c.loop-number.places.items c.requires.once (omega (arith, c.loop-number-test.false, c.count-number-end.ensures.count)) c.loop-number.invariant }
