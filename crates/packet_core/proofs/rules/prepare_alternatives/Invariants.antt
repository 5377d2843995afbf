use Rattle.packet_core.proofs.Prelude.{map, ℕ, ◌≡◌, take, Header, passes_all, all_pass}
use Rattle.packet_core.proofs.rules.prepare_alternatives.Given as goal

abbrev pub invariant-loop-tests : goal.invariant-loop-tests
invariant-loop-tests l = record {
  same : (header : Header) (n : ℕ) → map (all_pass header n) l.all.items ≡ map (passes_all header n) (take l.tests-index l.alternatives);
}
