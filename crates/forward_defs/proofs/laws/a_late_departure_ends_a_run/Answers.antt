use Rattle.forward_defs.proofs.LateEvents.{up_to_late-first, up_to_late-whole}
use Rattle.forward_defs.proofs.laws.a_late_departure_ends_a_run.Goals as goal

pub returns : goal.returns
returns c = record { law = record { first = up_to_late-first; whole = up_to_late-whole } }
