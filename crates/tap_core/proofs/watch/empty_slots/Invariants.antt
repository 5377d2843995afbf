use Rattle.std.proofs.Common.{◌≡◌, None, replicate}
use Rattle.tap_core.proofs.watch.empty_slots.Given as goal

abbrev pub invariant-loop : goal.invariant-loop
invariant-loop l = l.slots.items ≡ replicate l.counter None
