use Rattle.embed_core.proofs.Prelude.{◌≡◌, length, ◌+◌, value, down_from, leaves_below, IsWithin, levels_of}
use Rattle.embed_core.proofs.block.skip_block.Given as goal

abbrev pub invariant-loop-level : goal.invariant-loop-level
invariant-loop-level l = record {
  within : IsWithin (down_from (levels_of l.target) (length l.digits)) l.digits;
  further : value (levels_of l.target) l.digits + leaves_below (levels_of l.target) l.level ≡ value (levels_of l.target) l.initial.digits + leaves_below (levels_of l.target) l.need;
}
