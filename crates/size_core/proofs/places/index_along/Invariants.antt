use Rattle.size_core.proofs.Prelude.{◌≡◌, Grows, addresses, add_prefixes}
use Rattle.size_core.proofs.places.index_along.Given as goal

abbrev pub invariant-loop-length : goal.invariant-loop-length
invariant-loop-length l = record {
  added : addresses l.known.keys ≡ add_prefixes (addresses l.initial.known.keys) l.address l.length;
  grows : Grows l.initial.known.keys l.known.keys;
}
