use Rattle.std.proofs.Common.{◌≡◌, ◌++◌, drop}
use Rattle.summary_core.specs.Text.{groups_text}
use Rattle.summary_core.proofs.text.put_groups.Given as goal

abbrev pub invariant-loop-group : goal.invariant-loop-group
invariant-loop-group l = record { same : l.fn.into.items ++ groups_text l.kind l.groups ≡ l.into.items ++ groups_text l.kind (drop l.group-index l.groups) }
