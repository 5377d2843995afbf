use Rattle.std.proofs.Common.{sym, ◌∙◌}
use Rattle.policy_core.proofs.NumberedPlaces.{not-found}
use Rattle.policy_core.proofs.graphs.number.Goals as goal

pub unreachable-requires : goal.unreachable-requires
unreachable-requires c = not-found c.args.nodes.now c.args.name.now (sym c.place.ensures ∙ c.in-None.is) c.requires.declared
