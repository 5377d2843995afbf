use Rattle.mapcheck_core.proofs.Prelude.{◌≡◌, map, take, line_text, line_of_entry, MapGives, Give}
use Rattle.mapcheck_core.proofs.map_text.read_entries.Given as goal

abbrev pub invariant-loop-line : goal.invariant-loop-line
invariant-loop-line l = record { give : Give (MapGives l.edition) 1 (map (line_text l.text) (take l.line-index l.line-items)) (map line_of_entry l.entries); number : l.number ≡ l.line-index }
