use Rattle.range_core.proofs.Prelude.{map, take, entries, program_of, AreLeast}
use Rattle.range_core.proofs.lines.lines_of_all.Given as goal

abbrev pub invariant-loop-transaction : goal.invariant-loop-transaction
invariant-loop-transaction l =
    AreLeast (entries (map program_of (take l.transaction-index l.transactions))) l.lines
