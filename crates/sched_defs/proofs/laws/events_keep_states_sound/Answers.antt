use Rattle.sched_defs.proofs.Soundness.{sound_start, sound_arrived, sound_departed}
use Rattle.sched_defs.proofs.Runs.{sound_after}
use Rattle.sched_defs.proofs.laws.events_keep_states_sound.Goals as goal

pub returns-clause-start : goal.returns-clause-start
returns-clause-start c = sound_start

pub returns-clause-arrivals : goal.returns-clause-arrivals
returns-clause-arrivals c = sound_arrived

pub returns-clause-departures : goal.returns-clause-departures
returns-clause-departures c = sound_departed

pub returns-clause-events : goal.returns-clause-events
returns-clause-events c = sound_after
