use Rattle.mapcheck_core.proofs.Prelude.{◌≡◌, map, drop, line_of_entry, has, line_for, named}
use Rattle.mapcheck_core.proofs.map_text.entry_for.Given as goal

abbrev pub invariant-loop-entry : goal.invariant-loop-entry
invariant-loop-entry l = record { same_test : has (named (map line_of_entry (drop l.entry-index l.entries))) l.name ≡ has (named (map line_of_entry l.entries)) l.name; same_line : line_for (map line_of_entry (drop l.entry-index l.entries)) l.name ≡ line_for (map line_of_entry l.entries) l.name }
