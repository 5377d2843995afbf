use Rattle.embed_defs.proofs.CanonicalMaps.{canonical_maps_are_good as holds}
use Rattle.embed_defs.proofs.lift_laws.canonical_maps_are_good.Goals as goal

pub returns : goal.returns
returns c = record { law = holds }
