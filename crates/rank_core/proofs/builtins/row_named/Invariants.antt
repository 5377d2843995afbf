use Rattle.rank_core.proofs.Prelude.{◌≡◌, map, drop, program_named, row}
use Rattle.rank_core.proofs.builtins.row_named.Given as goal

abbrev pub invariant-loop-row : goal.invariant-loop-row
invariant-loop-row l = program_named l.name (map row (drop l.row-index l.rows)) ≡ program_named l.name (map row l.rows)
