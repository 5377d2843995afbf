use Rattle.packet_core.proofs.Prelude.{map, ℕ, ◌≡◌, take, Header, passes, passes_by, test_of}
use Rattle.packet_core.proofs.rules.prepare_tests.Given as goal

abbrev pub invariant-loop-test : goal.invariant-loop-test
invariant-loop-test l = record {
  same : (header : Header) (n : ℕ) → map (passes_by header n) l.all.items ≡ map (λ t. passes header n (test_of t)) (take l.test-index l.tests);
}
