use Rattle.std.proofs.Common.{◌≤◌, [], vec_len, ◌-◌}
use Rattle.outside_core.specs.Written.{Appended}
use Rattle.front_core.specs.Catching.{kept_of, told}
use Rattle.front_core.proofs.catching.Catching.release.Given as goal

abbrev pub invariant-loop-self : goal.invariant-loop-self
invariant-loop-self g l =
    let k = g.K.Sink in
    record {
      so_far : Appended (told (k.written l.fn.self.below) (kept_of l.fn.self)) (told (k.written l.self.below) (kept_of l.self)) [];
      later : k.faults l.fn.self.below ≤ k.faults l.self.below;
    }

abbrev pub decreases-loop-self : goal.decreases-loop-self
decreases-loop-self g l = vec_len l.self.held - l.self.sent
