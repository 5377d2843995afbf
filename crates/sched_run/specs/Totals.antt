-- The totals of the last line.
use Rattle.std.specs.Prelude.{◌≡◌, ◌≤◌, ◌<◌, ◌^◌, nat_le, ℕ, ◌+◌, if◌then◌else◌, Some, None, List, codes}
use Rattle.outside_core.specs.Report.{end_line, fault_line}
use Rattle.sched_defs.specs.declared.ending.Ending.{Ending}
use Rattle.sched_defs.specs.declared.ending.Ending.TheVariants.{Whole, BadCapture, PastLast}
use Rattle.sched_defs.specs.Report.{past_last}
use Rattle.sched_run.specs.declared.tally.Tally.{Tally}
use Rattle.sched_run.specs.declared.tally.Totals.{Totals}

-- the last line with these totals
abbrev pub totals_line : Totals → Ending → List ℕ
totals_line t (Whole unsent) = end_line t.pushed t.popped t.empty t.held unsent t.dropped
totals_line t (BadCapture c p) = fault_line (codes "capture") c p
totals_line t (PastLast event) = fault_line (codes "script") past_last event

-- At most as many packets are queued now or dropped as were queued at first or arrived. There were
-- enough departures to pop the others.
pub record HasTotals (tally : Tally) (first held : ℕ) : Type 0 where
  pub few : first + tally.came < 2 ^ 63
  pub dropped : tally.dropped ≤ tally.came
  pub holds : held + tally.dropped ≤ first + tally.came
  pub popped : first + tally.came ≤ held + tally.dropped + tally.asked

-- The totals of a run that began with `first` packets queued and has `held` queued now. Each packet
-- that arrived was pushed or dropped. Each that was queued or pushed was popped or is still queued.
-- Each departure popped a packet or found none. Drops are shown from version 2 on.
pub record AreTotals (tally : Tally) (first held version : ℕ) (t : Totals) : Type 0 where
  pub came : t.pushed + tally.dropped ≡ tally.came
  pub passed : t.popped + held ≡ first + t.pushed
  pub asked : t.popped + t.empty ≡ tally.asked
  pub still : t.held ≡ held
  pub shown : t.dropped ≡ (if nat_le 2 version then Some tally.dropped else None)
