use Rattle.std.proofs.Common.{◌≡◌, ◌++◌, drop}
use Rattle.size_core.specs.Json.{more_digits_json}
use Rattle.size_core.proofs.json.put_more_digits.Given as goal

abbrev pub invariant-loop-digit : goal.invariant-loop-digit
invariant-loop-digit l = record { same : l.fn.into.items ++ more_digits_json l.digits ≡ l.into.items ++ more_digits_json (drop l.digit-index l.digits) }
