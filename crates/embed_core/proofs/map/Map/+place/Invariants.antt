use Rattle.embed_core.proofs.Prelude.{◌≡◌, drop, ◌++◌, children, trees_of, nodes, levels_of}
use Rattle.embed_core.proofs.ChildImages.{images_from}
use Rattle.embed_core.proofs.map.Map.+place.Given as goal

abbrev pub decreases-place : goal.decreases-place
decreases-place l = nodes l.needs.now

abbrev pub invariant-loop-index : goal.invariant-loop-index
invariant-loop-index l =
    l.children.items ++ images_from (levels_of l.target) l.height l.image.items (children (trees_of l.siblings) 0) (drop l.index l.siblings) l.index
    ≡ images_from (levels_of l.target) l.height l.image.items (children (trees_of l.siblings) 0) l.siblings 0
