use Rattle.sched_core.proofs.Prelude.{policy_of}
use Rattle.sched_core.proofs.RootWays.{path-there}
use Rattle.sched_core.proofs.node_states.NodeStates.path.Goals as goal

pub returns : goal.returns
returns c = record { path = path-there (policy_of c.args.self.now) c.args.packet.now c.requires.known c.args.self.now.paths.items c.index.result.now c.args.self.now.known c.index.ensures }
