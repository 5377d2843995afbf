-- What outcomes add to a JSON report.
use Rattle.std.specs.Prelude.{◌≡◌, ◌+◌, ℕ, Option, IsTrue, List, []}
use Rattle.sched_defs.specs.declared.rate.LinkRate.{LinkRate}
use Rattle.sched_defs.specs.Events.{Outcome, pushed_in, popped_in, dropped_in, empty_in}
use Rattle.event_json.specs.Json.{capped, counts_in}
use Rattle.event_json.specs.declared.counts.Counts.{Counts}
use Rattle.event_json.specs.declared.json.JsonReport.{JsonReport}

-- a count grew by this number
abbrev pub GrowsBy : ℕ → ℕ → ℕ → Type 0
GrowsBy old more new = new ≡ capped (old + more)

-- each count grew by the number of outcomes of its kind
pub record CountsOutcomes (old : Counts) (os : List Outcome) (new : Counts) : Type 0 where
  pub arrived : GrowsBy old.arrived (pushed_in os) new.arrived
  pub departed : GrowsBy old.departed (popped_in os) new.departed
  pub dropped : GrowsBy old.dropped (dropped_in os) new.dropped
  pub empty : GrowsBy old.empty (empty_in os) new.empty

-- nothing was recorded, and no call has failed
pub record RecordsNothing (link : Option LinkRate) (r : JsonReport) : Type 0 where
  pub rate : r.rate ≡ link
  pub counts : r.counts ≡ counts_in []
  pub unwritten : r.report.unwritten ≡ []
  pub live : IsTrue r.report.live
