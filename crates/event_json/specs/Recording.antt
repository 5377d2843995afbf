-- A JSON report as a recorder: each outcome is a line.
use Rattle.std.specs.Prelude.{◌≡◌, ◌≤◌, refl, ℕ, ◌+◌, Option, List, [], ◌∷◌, ◌++◌, length}
use Rattle.std.proofs.Common.{sym, ap, ◌∙◌, subst, arith, append_assoc, append-nil}
use Rattle.outside_core.specs.Written.{Appended}
use Rattle.outside_core.proofs.WrittenLaws.{appended_nothing, appended_in_turn}
use Rattle.outside_core.specs.Text.{IsCut}
use Rattle.report_core.specs.Gathered.{text_of}
use Rattle.report_core.proofs.TextLaws.{IsCut-append, IsCut-longer}
use Rattle.policy_defs.specs.Policy.{Policy}
use Rattle.sched_defs.specs.declared.rate.LinkRate.{LinkRate}
use Rattle.sched_defs.specs.Events.{Outcome, pushed_in, popped_in, dropped_in, empty_in}
use Rattle.sched_defs.proofs.Runs.{pushed_in-append, popped_in-append, dropped_in-append, empty_in-append}
use Rattle.sched_run.specs.Lines.{cut_unwritten}
use Rattle.sched_run.specs.Recording.{AreJoined}
use Rattle.event_json.specs.Json.{most_count, capped, AreCapped, json_line, json_from}
use Rattle.event_json.specs.JsonReports.{CountsOutcomes}
use Rattle.event_json.specs.declared.counts.Counts.{Counts}
use Rattle.event_json.specs.declared.json.JsonReport.{JsonReport}

-- the text grew by a line for each outcome, and each count by the number of outcomes of its kind
pub record AddsJson (w : JsonReport) (a : Option (List ℕ)) (policy : Policy) (event : ℕ) (os : List Outcome) (v : JsonReport) (b : Option (List ℕ)) : Type 0 where
  pub rate : v.rate ≡ w.rate
  pub text : Appended (text_of a w.report) (text_of b v.report) (json_from w.rate policy event os)
  pub counts : CountsOutcomes w.counts os v.counts

-- a prefix of the text and of a line for each outcome is written
abbrev pub CutsJson : JsonReport → Option (List ℕ) → Policy → ℕ → List Outcome → Option (List ℕ) → Type 0
CutsJson w a policy event os b = IsCut (text_of a w.report) (json_from w.rate policy event os) b

-- ---- joined lines
json_from-append : (rate : Option LinkRate) (policy : Policy) (event : ℕ) (os ps : List Outcome)
    → json_from rate policy event (os ++ ps) ≡ json_from rate policy event os ++ json_from rate policy (event + length os) ps
json_from-append rate policy event [] ps = let e : event + 0 ≡ event = omega arith in ap (λ n. json_from rate policy n ps) (sym e)
json_from-append rate policy event (o ∷ os) ps =
    let e : (event + 1) + length os ≡ event + length (o ∷ os) = omega arith in
    ap (λ ls. json_line rate policy event o ++ ls) (json_from-append rate policy (event + 1) os ps ∙ ap (λ n. json_from rate policy (event + 1) os ++ json_from rate policy n ps) e)
    ∙ sym (append_assoc (json_line rate policy event o) (json_from rate policy (event + 1) os) (json_from rate policy (event + length (o ∷ os)) ps))

-- later lines, written by a report with the same rate
later_lines : (w v : JsonReport) (policy : Policy) (event : ℕ) (os ps : List Outcome) → v.rate ≡ w.rate
    → json_from w.rate policy event os ++ json_from v.rate policy (event + length os) ps ≡ json_from w.rate policy event (os ++ ps)
later_lines w v policy event os ps same =
    ap (λ rate. json_from w.rate policy event os ++ json_from rate policy (event + length os) ps) same
    ∙ sym (json_from-append w.rate policy event os ps)

stays : (n : ℕ) → n ≤ most_count → n ≡ capped (n + 0)
stays n low = omega arith

counts_nothing : (c : Counts) → AreCapped c → CountsOutcomes c [] c
counts_nothing c low = record { arrived = stays c.arrived low.0; departed = stays c.departed low.1; dropped = stays c.dropped low.2; empty = stays c.empty low.3 }

grows_in_turn : (a b c m n all : ℕ) → all ≡ m + n → b ≡ capped (a + m) → c ≡ capped (b + n) → c ≡ capped (a + all)
grows_in_turn a b c m n all is first second = omega arith

counts_in_turn : (c d e : Counts) (os ps : List Outcome) → CountsOutcomes c os d → CountsOutcomes d ps e → CountsOutcomes c (os ++ ps) e
counts_in_turn c d e os ps first second = record {
  arrived = grows_in_turn c.arrived d.arrived e.arrived (pushed_in os) (pushed_in ps) (pushed_in (os ++ ps)) (pushed_in-append os ps) first.arrived second.arrived;
  departed = grows_in_turn c.departed d.departed e.departed (popped_in os) (popped_in ps) (popped_in (os ++ ps)) (popped_in-append os ps) first.departed second.departed;
  dropped = grows_in_turn c.dropped d.dropped e.dropped (dropped_in os) (dropped_in ps) (dropped_in (os ++ ps)) (dropped_in-append os ps) first.dropped second.dropped;
  empty = grows_in_turn c.empty d.empty e.empty (empty_in os) (empty_in ps) (empty_in (os ++ ps)) (empty_in-append os ps) first.empty second.empty;
}

pub json_lines_are_joined : AreJoined AddsJson CutsJson
json_lines_are_joined = record {
  none = λ policy event w a. record { rate = refl; text = appended_nothing (text_of a w.report); counts = counts_nothing w.counts w.counted };
  both = λ policy event os ps w v x a b c first second. record {
    rate = second.rate ∙ first.rate;
    text = subst (Appended (text_of a w.report) (text_of c x.report)) (later_lines w v policy event os ps first.rate)
        (appended_in_turn (text_of a w.report) (text_of b v.report) (text_of c x.report) _ _ first.text second.text);
    counts = counts_in_turn w.counts v.counts x.counts os ps first.counts second.counts;
  };
  written = λ policy event os w v a b all. subst (λ (l : List ℕ). IsCut (text_of a w.report) l b) (append-nil (json_from w.rate policy event os))
      (IsCut-append (text_of a w.report) (text_of b v.report) b (json_from w.rate policy event os) [] all.text (cut_unwritten b v.report.unwritten []));
  longer = λ policy event os ps w a b cut. subst (λ (l : List ℕ). IsCut (text_of a w.report) l b) (sym (json_from-append w.rate policy event os ps))
      (IsCut-longer (text_of a w.report) b _ _ cut);
  later = λ policy event os ps w v a b c first cut. subst (λ (l : List ℕ). IsCut (text_of a w.report) l c) (later_lines w v policy event os ps first.rate)
      (IsCut-append (text_of a w.report) (text_of b v.report) c _ _ first.text cut);
}
