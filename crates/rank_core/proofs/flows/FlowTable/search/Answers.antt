use Rattle.std.proofs.Common.{sym, Some, None}
use Rattle.rank_core.proofs.FlowMaps.{found_at}
use Rattle.rank_core.proofs.flows.FlowTable.search.Goals as goal

pub returns-in-Some-get_mut-clause-place : goal.returns-in-Some-get_mut-clause-place
returns-in-Some-get_mut-clause-place c = sym (found_at c.args.self.now.places c.args.flow (Some c.in-Some.found.now) c.key_of.ensures c.in-Some.ensures.value)

pub returns-in_default-clause-place : goal.returns-in_default-clause-place
returns-in_default-clause-place c = sym (found_at c.args.self.now.places c.args.flow (Some c.in-Some.found.now) c.key_of.ensures c.in-Some.ensures.value)

pub returns-in-None-clause-place : goal.returns-in-None-clause-place
returns-in-None-clause-place c = sym (found_at c.args.self.now.places c.args.flow None c.key_of.ensures c.in-None.ensures.value)
