use Rattle.mapcheck_core.proofs.Prelude.{◌≡◌, map, take, line_of_entry, line_for}
use Rattle.mapcheck_core.proofs.map_text.images_of.Given as goal

abbrev pub invariant-loop-name : goal.invariant-loop-name
invariant-loop-name l = record { images : l.images ≡ map (λ name. (line_for (map line_of_entry l.entries) name).image) (take l.name-index l.names); lines : l.lines ≡ map (λ name. (line_for (map line_of_entry l.entries) name).line) (take l.name-index l.names) }
