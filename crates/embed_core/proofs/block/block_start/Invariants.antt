use Rattle.embed_core.proofs.Prelude.{◌≡◌, length, ◌+◌, drop, children, start_of, value, down_from, IsWithin, trees_of, levels_of}
use Rattle.embed_core.proofs.block.block_start.Given as goal

abbrev pub invariant-loop-index : goal.invariant-loop-index
invariant-loop-index l = record {
  long : length l.start.items ≡ l.height;
  within : IsWithin (down_from (levels_of l.target) (length l.start.items)) l.start.items;
  counted : value (levels_of l.target) l.start.items + start_of (levels_of l.target) (children (trees_of (drop l.index l.siblings)) l.index) l.child ≡ start_of (levels_of l.target) (children (trees_of l.siblings) 0) l.child;
}
