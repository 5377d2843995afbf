use Rattle.tree_defs.specs.Tree.{nodes}
use Rattle.embed_core.proofs.map.Map.+pick_onto.Given as goal

abbrev pub decreases-pick_onto : goal.decreases-pick_onto
decreases-pick_onto l = nodes l.self.now
