use Rattle.sched_core.proofs.Prelude.{◌≡◌, None, nat_eq, ap₂, rules, get, or_stray}
use Rattle.sched_core.specs.Held.{held_at}
use Rattle.sched_core.proofs.held.Held.new.Goals as goal

pub returns : goal.returns
unfolding held_at
returns c = record { empty = λ n. let none : get nat_eq c.new-2.result n ≡ None = search rules in ap₂ or_stray (c.new.ensures.empty n) none }
