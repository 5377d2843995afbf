use Rattle.mapcheck_core.proofs.Prelude.{◌≡◌, false, true, topology}
use Rattle.mapcheck_core.proofs.MapLaws.{breaks_none}
use Rattle.mapcheck_core.proofs.Verdicts.{refused, accepted}
use Rattle.mapcheck_core.proofs.check.check_map.Goals as goal

pub returns-in-Some-clause-embedding : goal.returns-in-Some-clause-embedding
returns-in-Some-clause-embedding c = (λ (e : false ≡ true). absurd (cc), λ e. absurd (breaks_none (topology c.args.topo.now) (topology c.args.middle.now) c.args.given.now c.in-Some.fault c.in-Some.ensures e))

pub returns-in-Some-clause-fault : goal.returns-in-Some-clause-fault
returns-in-Some-clause-fault c = refused (topology c.args.topo.now) (topology c.args.middle.now) c.args.given.now c.in-Some.fault c.in-Some.ensures

pub returns-in-None-clause-fault : goal.returns-in-None-clause-fault
returns-in-None-clause-fault c = accepted (topology c.args.topo.now) (topology c.args.middle.now) c.args.given.now c.in-None.ensures
