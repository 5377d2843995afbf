use Rattle.mapcheck_core.proofs.Prelude.{◌≡◌, List, ℕ, take, knows, has}
use Rattle.mapcheck_core.proofs.map_text.ordered.Given as goal

abbrev pub invariant-loop-name : goal.invariant-loop-name
invariant-loop-name l = (name : List ℕ) → knows l.known name ≡ has (take l.name-index l.names) name
