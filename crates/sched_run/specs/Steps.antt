-- The steps of a script, and the pace of a run.
use Rattle.std.specs.Prelude.{◌≤◌, ℕ, map}
use Rattle.sched_defs.specs.SendTime.{IsRate}
use Rattle.events_core.specs.Script.{most_count}
use Rattle.events_core.specs.Steps.{counts_of}
use Rattle.events_core.specs.declared.step.Step as line
use Rattle.events_core.specs.declared.step.Step.TheVariants as line_step
use Rattle.sched_defs.specs.Script.{Step, Arrivals, Departures, Rest, Drain}
use Rattle.sched_defs.specs.declared.ending.Ending.{Ending}
use Rattle.sched_defs.specs.declared.ending.Ending.TheVariants.{PastLast}
use Rattle.sched_defs.specs.Pace.{Pace, Script, Link}
use Rattle.sched_run.specs.declared.pace.Pace as code
use Rattle.sched_run.specs.declared.pace.Pace.TheVariants as code_pace

abbrev pub step_of : line.Step → Step
step_of (line_step.Arrive n) = Arrivals n
step_of (line_step.Depart n) = Departures n
step_of line_step.Rest = Rest
step_of line_step.Drain = Drain

-- the number of arrivals or departures that a step asks for
abbrev pub asked_by : Step → ℕ
asked_by (Arrivals n) = n
asked_by (Departures n) = n
asked_by Rest = 0
asked_by Drain = 0

abbrev pub pace_of : code.Pace → Pace
pace_of (code_pace.Script steps) = Script (map step_of steps.now)
pace_of (code_pace.Link rate) = Link rate

-- only a script asks for a packet past the last
abbrev pub IsNoPastLast : Ending → Type 0
IsNoPastLast (PastLast event) = ⊥
IsNoPastLast ending = Unit {0}

abbrev pub CanEndSo : code.Pace → Ending → Type 0
CanEndSo (code_pace.Script steps) ending = Unit {0}
CanEndSo (code_pace.Link rate) ending = IsNoPastLast ending

-- the counts of a script's steps add up to at most the limit, and a rate is in range
abbrev pub IsBounded : code.Pace → Type 0
IsBounded (code_pace.Script steps) = counts_of steps.now ≤ most_count
IsBounded (code_pace.Link rate) = IsRate rate
