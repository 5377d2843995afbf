use Rattle.summary_core.proofs.Prelude.{◌≡◌, list_at, is_in, joined, listed}
use Rattle.summary_core.proofs.summary.Summary.members.Given as goal

abbrev pub invariant-loop-class : goal.invariant-loop-class
invariant-loop-class l = record { found : listed (list_at l.self.delays.items) l.members.items ≡ joined (is_in l.self.table.items l.part) (list_at l.self.delays.items) l.class }
