-- The form of each command with its file names.
use Rattle.std.specs.Prelude.{◌≤◌}
use Rattle.sched_defs.specs.SendTime.{IsByteRate}
use Rattle.tap_core.specs.Names.{none_named}
use Rattle.tap_core.specs.declared.watch.Named.{Named}
use Rattle.sched_run.specs.Drawings.{most_load}
use Rattle.replay_app.specs.Words.{Pacing, script, link, forward, Form, replay, check, plan, direct, soak, via}
use Rattle.replay_app.specs.declared.words.Pacing as code
use Rattle.replay_app.specs.declared.words.Pacing.TheVariants as code_pacing
use Rattle.replay_app.specs.declared.words.ReplayFiles.{ReplayFiles}
use Rattle.replay_app.specs.declared.words.DirectFiles.{DirectFiles}
use Rattle.replay_app.specs.declared.words.PlanFiles.{PlanFiles}
use Rattle.replay_app.specs.declared.words.ViaFiles.{ViaFiles}
use Rattle.replay_app.specs.declared.words.Command.{Command}
use Rattle.replay_app.specs.declared.words.Command.TheVariants.{Replay, Check, Plan, Direct, Soak, Via}

abbrev pub pacing_form : code.Pacing → Pacing
pacing_form (code_pacing.Script e named) = script e.now named
pacing_form (code_pacing.Link rate) = link rate
pacing_form (code_pacing.Forward rate) = forward rate

abbrev pub replay_form : ReplayFiles → Form
replay_form f = replay f.latest f.policy.now f.target.now f.capture.now (pacing_form f.pacing)

abbrev pub plan_form : PlanFiles → Form
plan_form f = plan f.latest f.policy.now f.target.now

abbrev pub direct_form : DirectFiles → Form
direct_form f = direct f.latest f.policy.now f.capture.now f.script.now

abbrev pub via_form : ViaFiles → Form
via_form f = via f.latest f.policy.now f.topology.now f.map.now f.target.now f.capture.now f.script.now

abbrev pub command_form : Command → Form
command_form (Replay f) = replay_form f
command_form (Check latest p) = check latest p.now
command_form (Plan f) = plan_form f
command_form (Direct f) = direct_form f
command_form (Soak load) = soak load
command_form (Via f) = via_form f

-- a link's rate is in range, and a load isn't too long
abbrev pub HasRate : code.Pacing → Type 0
HasRate (code_pacing.Script e named) = Unit {0}
HasRate (code_pacing.Link rate) = IsByteRate rate
HasRate (code_pacing.Forward rate) = IsByteRate rate

abbrev pub CanRun : Command → Type 0
CanRun (Replay f) = HasRate f.pacing
CanRun (Soak load) = load.count ≤ most_load
CanRun command = Unit {0}

-- the kinds of taps that watch a run
abbrev pub named_of : code.Pacing → Named
named_of (code_pacing.Script e named) = named
named_of (code_pacing.Link rate) = none_named
named_of (code_pacing.Forward rate) = none_named
