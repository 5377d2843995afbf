use Rattle.mapcheck_core.proofs.Prelude.{◌≡◌, [], map, take, drop, line_of_entry, named, repeated_line}
use Rattle.mapcheck_core.proofs.map_text.repeated_line.Given as goal

abbrev pub invariant-loop-place : goal.invariant-loop-place
invariant-loop-place l = repeated_line (named (map line_of_entry (take l.place l.entries))) (map line_of_entry (drop l.place l.entries)) ≡ repeated_line [] (map line_of_entry l.entries)
