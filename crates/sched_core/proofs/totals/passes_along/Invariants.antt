use Rattle.std.proofs.Common.{◌≡◌, drop}
use Rattle.std.specs.List.{list_any}
use Rattle.sched_defs.specs.SourceState.{way_to}
use Rattle.sched_core.specs.Totals.{ForTotals, passes_on}
use Rattle.sched_core.proofs.totals.passes_along.Given as goal

abbrev pub invariant-loop-level : goal.invariant-loop-level
invariant-loop-level l = ForTotals l.path l.nodes (λ policy leaf values.
    list_any (passes_on policy values l.packet) (way_to leaf) ≡ list_any (passes_on policy values l.packet) (drop l.level (way_to leaf)))
