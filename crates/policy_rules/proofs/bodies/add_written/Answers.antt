use Rattle.policy_rules.proofs.WrittenPrograms.{begun_requires, begun_more}
use Rattle.policy_rules.proofs.bodies.add_written.Goals as goal

pub add_begun-requires : goal.add_begun-requires
add_begun-requires c = begun_requires c.args.lines.now c.loop-place.place c.index-lines-place.result c.loop-place-test.true c.index-lines-place.is c.requires.rising c.requires.few c.requires.valid

pub loop-place-preserved : goal.loop-place-preserved
loop-place-preserved c = begun_more c.args.lines.now c.loop-place.place c.index-lines-place.result c.loop-place-test.true c.index-lines-place.is _ _ _ c.loop-place.invariant c.in_ok-add_begun.ensures
