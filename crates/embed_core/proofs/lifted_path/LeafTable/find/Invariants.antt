use Rattle.embed_core.proofs.Prelude.{◌≡◌, ℕ, ◌<◌, get_or}
use Rattle.embed_core.proofs.lifted_path.LeafTable.find.Given as goal

abbrev pub invariant-loop-level : goal.invariant-loop-level
invariant-loop-level l = (k : ℕ) → k < l.level → get_or l.own k 0 ≡ get_or l.image k 0
