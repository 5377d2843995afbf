use Rattle.library_tests.proofs.Prelude.{leads-alike, topology}
use Rattle.library_tests.proofs.embed.lifts_to.Goals as goal

pub lift-requires-clause-leaf : goal.lift-requires-clause-leaf
lift-requires-clause-leaf c = leads-alike (topology c.args.topo.now) c.args.map.now c.args.taken.now.digits c.requires.shape c.requires.leaf
