use Rattle.mapcheck_core.proofs.Prelude.{◌≡◌, map, take, line_text, AreRead}
use Rattle.mapcheck_core.proofs.tree_text.read_lines.Given as goal

abbrev pub invariant-loop-line : goal.invariant-loop-line
invariant-loop-line l = record { read : AreRead (map (line_text l.text) (take l.line-index l.line-items)) l.found l.place; number : l.number ≡ l.line-index }
