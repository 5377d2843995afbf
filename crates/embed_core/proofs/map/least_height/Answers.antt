use Rattle.embed_core.proofs.Prelude.{sym, topology, levels_of}
use Rattle.embed_defs.proofs.EmbeddingLaws.{needs_are_least_heights-holds}
use Rattle.embed_core.proofs.TargetArities.{wide, least_of_levels}
use Rattle.embed_core.proofs.map.least_height.Goals as goal

pub returns-clause-need : goal.returns-clause-need
returns-clause-need c = record { all = c.in_ok-needs.needs; needs = c.in_ok-needs.ensures.needs; root = sym c.need.ensures.need }

pub returns-clause-least : goal.returns-clause-least
returns-clause-least c =
    least_of_levels (topology c.args.topo.now) c.args.target.now c.need.result
    (needs_are_least_heights-holds (levels_of c.args.target.now) (topology c.args.topo.now) c.need.result (wide c.args.target.now c.requires.range)
    (record { all = c.in_ok-needs.needs; needs = c.in_ok-needs.ensures.needs; root = sym c.need.ensures.need }))
