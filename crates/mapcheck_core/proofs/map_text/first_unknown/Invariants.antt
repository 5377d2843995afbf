use Rattle.mapcheck_core.proofs.Prelude.{◌≡◌, List, ℕ, map, drop, knows, line_of_entry, has, unknown_line}
use Rattle.mapcheck_core.proofs.map_text.first_unknown.Given as goal

abbrev pub invariant-loop-entry : goal.invariant-loop-entry
invariant-loop-entry l = (names : List (List ℕ)) → ((name : List ℕ) → knows l.known name ≡ has names name) → unknown_line names (map line_of_entry (drop l.entry-index l.entries)) ≡ unknown_line names (map line_of_entry l.entries)
