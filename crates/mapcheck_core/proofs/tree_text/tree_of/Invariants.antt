use Rattle.mapcheck_core.proofs.Prelude.{◌≡◌, [], map, drop, glyphs_of, topology, read_on}
use Rattle.mapcheck_core.proofs.StackLaws.{turned}
use Rattle.mapcheck_core.proofs.tree_text.tree_of.Given as goal

abbrev pub invariant-loop-item : goal.invariant-loop-item
invariant-loop-item l = read_on (glyphs_of (drop l.item-index l.items)) (map topology l.trees.items) (turned (map (λ v. map topology v.items) l.around.items) []) ≡ read_on (glyphs_of l.items) [] []
