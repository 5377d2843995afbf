use Rattle.std.proofs.Common.{◌≡◌, ◌++◌, drop}
use Rattle.summary_core.specs.Json.{more_json}
use Rattle.summary_core.proofs.json.put_more.Given as goal

abbrev pub invariant-loop-group : goal.invariant-loop-group
invariant-loop-group l = record { same : l.fn.into.items ++ more_json l.groups ≡ l.into.items ++ more_json (drop l.group-index l.groups) }
