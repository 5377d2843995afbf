use Rattle.std.proofs.Common.{◌≤◌, length}
use Rattle.outside_core.specs.Written.{AppendedBefore}
use Rattle.outside_core.proofs.sinks.write_all.Given as goal

abbrev pub invariant-loop-rest : goal.invariant-loop-rest
invariant-loop-rest g l =
    let k = g.K.Sink in
    record {
      so_far : AppendedBefore (k.written l.fn.sink) (k.written l.sink) l.bytes l.rest;
      later : k.faults l.fn.sink ≤ k.faults l.sink;
    }

abbrev pub decreases-loop-rest : goal.decreases-loop-rest
decreases-loop-rest g l = length l.rest
