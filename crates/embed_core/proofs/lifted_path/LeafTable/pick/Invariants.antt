use Rattle.embed_core.proofs.Prelude.{◌≡◌, ◌+◌, ◌<◌, ◌≤◌, length, map, take, slice_index, AllByRecursion}
use Rattle.embed_core.proofs.lifted_path.LeafTable.pick.Given as goal

abbrev pub invariant-loop-step : goal.invariant-loop-step
invariant-loop-step l = record {
  whole : length l.depths ≡ length l.address + 1;
  within : AllByRecursion (λ depth. depth < length l.ranks) l.depths;
  short : length l.address ≤ l.fn.taken.room;
  digits : l.taken.digits ≡ take l.step l.address;
  ranks : l.taken.ranks ≡ map (slice_index l.ranks) (take l.step l.depths);
  room : l.taken.room ≡ l.fn.taken.room;
}
