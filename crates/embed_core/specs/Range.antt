-- The arities of a target by height, and the topologies that fit in its levels.
use Rattle.std.specs.Prelude.{ℕ}
use Rattle.tree_defs.specs.Topology.{Topology, complete}
use Rattle.embed_defs.specs.Levels.{Arities, levels}
use Rattle.embed_defs.specs.Target.{lowest}
use Rattle.target_core.specs.declared.target.Target.{Target}
use Rattle.embed_defs.specs.Embedding.{HasEmbedding}

abbrev pub levels_of : Target → Arities
levels_of t = levels t.arities t.above

-- the topology can be embedded in this number of the target's lowest levels
abbrev pub FitsInLevels : Target → Topology → ℕ → Type 0
FitsInLevels target t h = HasEmbedding t (complete (lowest target.arities target.above h))
