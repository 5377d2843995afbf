use Rattle.packet_core.proofs.Prelude.{map, ℕ, ◌≡◌, take, Header, passes, test_of, numbers_of, holds}
use Rattle.packet_core.proofs.prepared.bounds_of.Given as goal

abbrev pub invariant-loop-test : goal.invariant-loop-test
invariant-loop-test l = record {
  same : (header : Header) (n : ℕ) → map (holds (numbers_of header.fields n)) l.all.items ≡ map (λ t. passes header n (test_of t)) (take l.test-index l.tests);
}
