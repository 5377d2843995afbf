-- The text of a run whose JSON report is begun and finished.
use Rattle.event_json.proofs.Prelude.{[], ◌∙◌, ap, subst, ◌≡◌, List, arith, ℕ, ◌++◌, Option, Appended, AppendedPrefix, Policy, text_of, Outcome, dropped_in, empty_in, popped_in, pushed_in, LinkRate, capped, counts_in, json_end, json_from, json_text, CountsOutcomes, GrowsBy, RecordsNothing, AddsJson, CutsJson, Counts, JsonReport}
use Rattle.outside_core.specs.Kept.{Begins}
use Rattle.outside_core.proofs.WrittenLaws.{appended_in_turn}
use Rattle.outside_core.specs.Text.{IsCut}
use Rattle.report_core.proofs.TextLaws.{IsCut-append, IsCut-longer}
use Rattle.report_core.proofs.WholeTexts.{whole_text, cut_part}
use Rattle.sched_defs.specs.declared.ending.Ending.{Ending}

-- ---- counts
same_counts : (c d : Counts) → c.arrived ≡ d.arrived → c.departed ≡ d.departed → c.dropped ≡ d.dropped → c.empty ≡ d.empty → c ≡ d
same_counts c d arrived departed dropped empty =
    ap (λ (n : ℕ). let e : Counts = record { arrived = n; departed = c.departed; dropped = c.dropped; empty = c.empty } in e) arrived
    ∙ ap (λ (n : ℕ). let e : Counts = record { arrived = d.arrived; departed = n; dropped = c.dropped; empty = c.empty } in e) departed
    ∙ ap (λ (n : ℕ). let e : Counts = record { arrived = d.arrived; departed = d.departed; dropped = n; empty = c.empty } in e) dropped
    ∙ ap (λ (n : ℕ). let e : Counts = record { arrived = d.arrived; departed = d.departed; dropped = d.dropped; empty = n } in e) empty

from_none : (old new more : ℕ) → old ≡ 0 → GrowsBy old more new → new ≡ capped more
from_none old new more none grew = omega arith

-- the counts after these outcomes, if there were none before
pub counts_from_none : (old new : Counts) (os : List Outcome) → old ≡ counts_in [] → CountsOutcomes old os new → new ≡ counts_in os
counts_from_none old new os none grew = same_counts new (counts_in os)
    (from_none old.arrived new.arrived (pushed_in os) (ap (λ (c : Counts). c.arrived) none) grew.arrived)
    (from_none old.departed new.departed (popped_in os) (ap (λ (c : Counts). c.departed) none) grew.departed)
    (from_none old.dropped new.dropped (dropped_in os) (ap (λ (c : Counts). c.dropped) none) grew.dropped)
    (from_none old.empty new.empty (empty_in os) (ap (λ (c : Counts). c.empty) none) grew.empty)

-- ---- texts
module _ (link : Option LinkRate) (w v : JsonReport) (policy : Policy) (os : List Outcome) (ending : Ending) (nothing : RecordsNothing link w) where
  -- the text of the outcomes and of the last line is the text of the run
  same_text : v.counts ≡ counts_in os → json_from w.rate policy 1 os ++ json_end v.counts ending ≡ json_text link policy os ending
  same_text counts =
      ap (λ (rate : Option LinkRate). json_from rate policy 1 os ++ json_end v.counts ending) nothing.rate
      ∙ ap (λ (c : Counts). json_from link policy 1 os ++ json_end c ending) counts

  -- the run was recorded and its report finished
  pub whole_run : (a b c : Option (List ℕ)) → AddsJson w a policy 1 os v b → Appended (text_of b v.report) c (json_end v.counts ending)
      → Appended a c (json_text link policy os ending)
  whole_run a b c adds ends =
      subst (Appended a c) (same_text (counts_from_none w.counts v.counts os nothing.counts adds.counts))
      (whole_text a c w.report.unwritten (json_from w.rate policy 1 os ++ json_end v.counts ending) nothing.unwritten
      (appended_in_turn (text_of a w.report) (text_of b v.report) c (json_from w.rate policy 1 os) (json_end v.counts ending) adds.text ends))

  -- a write failed at the end
  pub cut_at_the_end : (a b c : Option (List ℕ)) → Begins a c → AddsJson w a policy 1 os v b → IsCut (text_of b v.report) (json_end v.counts ending) c
      → AppendedPrefix a c (json_text link policy os ending)
  cut_at_the_end a b c begins adds cut =
      subst (AppendedPrefix a c) (same_text (counts_from_none w.counts v.counts os nothing.counts adds.counts))
      (cut_part a c w.report.unwritten (json_from w.rate policy 1 os ++ json_end v.counts ending) nothing.unwritten begins
      (IsCut-append (text_of a w.report) (text_of b v.report) c (json_from w.rate policy 1 os) (json_end v.counts ending) adds.text cut))

  -- a write failed while outcomes were recorded
  pub cut_before_the_end : (a c : Option (List ℕ)) → Begins a c → CutsJson w a policy 1 os c → AppendedPrefix a c (json_text link policy os ending)
  cut_before_the_end a c begins cut =
      subst (λ (rate : Option LinkRate). AppendedPrefix a c (json_from rate policy 1 os ++ json_end (counts_in os) ending)) nothing.rate
      (cut_part a c w.report.unwritten (json_from w.rate policy 1 os ++ json_end (counts_in os) ending) nothing.unwritten begins
      (IsCut-longer (text_of a w.report) c (json_from w.rate policy 1 os) (json_end (counts_in os) ending) cut))
