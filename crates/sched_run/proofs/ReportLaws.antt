-- The report of a course, and its ending.
use Rattle.sched_run.proofs.Prelude.{ℕ, arith, None, ◌∙◌, ◌≡◌, refl, sym, List, subst, [], ◌+◌, ap, Some, Option, ◌++◌, length, append-nil, append_assoc, IfSome, appended_in_turn, IsCut, Appended, IsAccepted, Policy, IsCut-append, IsCut-longer, text_of, Gathered, ForEachState, Ghosts, outcomes-append, Event, outcomes, after, Outcome, IsHeldBelow, Left, Captured, AreThere, Course, IsSound, SourceState, Ending, Whole, BadCapture, PastLast, Shows, size, Courses, IsCourse, Agenda, Breaks, OnCourse, Runs, StopsIn, HasMade, told, Recordings, AreJoined, shown_in, Makes, Stage, event_of, FromEach, IsFresh, AreTotals, totals_line, StopsAmid, Totals}
use Rattle.sched_defs.specs.Report.{lines_from, last_line, course_report}
use Rattle.sched_run.specs.Lines.{adds_lines, cuts_lines, lines_from-append, lines_are_joined}
use Rattle.sched_run.proofs.JoinedEvents.{length-outcomes}
use Rattle.sched_run.proofs.TotalLaws.{IsTallied, tallied, held_then}

-- ---- lines
-- such a recorder writes a line for each outcome
pub record TellsLines (R : Recordings Gathered) : Type 0 where
  pub all : (policy : Policy) (event : ℕ) (os : List Outcome) (r r' : Gathered) (a b : Option (List ℕ)) → R.records r a policy event os r' b → adds_lines r a policy event os r' b
  pub part : (policy : Policy) (event : ℕ) (os : List Outcome) (r : Gathered) (a b : Option (List ℕ)) → R.cuts r a policy event os b → cuts_lines r a policy event os b

-- lines, which don't depend on captured bytes
abbrev pub heard_lines : (Captured → Type 0) → Recordings Gathered
heard_lines H = record {
  records = λ w a policy event os v b. (bytes : Captured) → H bytes → adds_lines w a policy event os v b;
  cuts = λ w a policy event os b. (bytes : Captured) → H bytes → cuts_lines w a policy event os b;
}

-- they are joined whatever is known of the captured bytes
pub lines_heard : (H : Captured → Type 0) → AreJoined {W = Gathered} (heard_lines H).records (heard_lines H).cuts
lines_heard H = record {
  none = λ policy event w a bytes h. lines_are_joined.none policy event w a;
  both = λ policy event os ps w v x a b c first second bytes h. lines_are_joined.both policy event os ps w v x a b c (first bytes h) (second bytes h);
  written = λ policy event os w v a b all bytes h. lines_are_joined.written policy event os w v a b (all bytes h);
  longer = λ policy event os ps w a b cut bytes h. lines_are_joined.longer policy event os ps w a b (cut bytes h);
  later = λ policy event os ps w v a b c first cut bytes h. lines_are_joined.later policy event os ps w v a b c (first bytes h) (cut bytes h);
}

tells_heard : (H : Captured → Type 0) (bytes : Captured) → H bytes → TellsLines (heard_lines H)
tells_heard H bytes h = record { all = λ policy event os r r' a b is. is bytes h; part = λ policy event os r a b is. is bytes h }

-- If P holds given any such captured bytes, it holds whenever the packets left are known to the
-- contract.
where_told : {C U : Type 0} (stands : C → U → SourceState → Type 0) (policy : Policy) (c : C) (u : U) (given : ℕ) (before : Option Left) (agenda : Agenda) (P : SourceState → Course → Type 0) (H : Captured → Type 0)
    → AreThere before H → ((bytes : Captured) → H bytes → OnCourse stands policy c u given before agenda P) → OnCourse stands policy c u given before agenda P
where_told stands policy c u given None agenda P H there holds = tt
where_told stands policy c u given (Some l) agenda P H there holds = holds there.0 there.1

-- the text of consecutive events
told-append : (policy : Policy) (event : ℕ) (es fs : List Event) (s : SourceState) → told policy event (es ++ fs) s ≡ told policy event es s ++ told policy (event + length es) fs (after policy es s)
told-append policy event es fs s =
    ap (lines_from policy event) (outcomes-append policy es fs s) ∙ lines_from-append policy event (outcomes policy es s) (outcomes policy fs (after policy es s))
    ∙ ap (λ n. lines_from policy event (outcomes policy es s) ++ lines_from policy (event + n) (outcomes policy fs (after policy es s))) (length-outcomes policy es s)

-- ---- the last line
-- the last line shows these totals
last_is : (policy : Policy) (os : List Outcome) (held : ℕ) (t : Totals) (e : Ending) → IsTallied policy os held t → last_line policy os held e ≡ totals_line t e
last_is policy os held t (Whole unsent) is = rw (is.same_pushed, is.same_popped, is.same_empty, is.same_held, is.same_dropped) refl
last_is policy os held t (BadCapture c p) is = refl
last_is policy os held t (PastLast event) is = refl

-- the last line after these events
abbrev last_of : Policy → List Event → SourceState → Ending → List ℕ
last_of policy events s e = last_line policy (outcomes policy events s) (size (after policy events s).tree) e

-- the lines of the events and the last line are the report
report_is : (policy : Policy) (events : List Event) (e : Ending) (run : Course) (s : SourceState) (t : Totals) → IsCourse events e run → IsTallied policy (outcomes policy events s) (size (after policy events s).tree) t →
    told policy 1 events s ++ totals_line t e ≡ course_report policy run s
report_is policy events e run s t is counts =
    let last : totals_line t e ≡ last_of policy events s run.ending =
    sym (last_is policy (outcomes policy events s) (size (after policy events s).tree) t e counts) ∙ ap (last_of policy events s) is.ends in
    ap (λ (l : List ℕ). told policy 1 events s ++ l) last ∙ ap (λ (es : List Event). told policy 1 es s ++ last_of policy es s run.ending) is.are

module _ {C U : Type 0} (S : Ghosts C U) (R : Recordings Gathered) (laws : AreJoined R.records R.cuts) (tells : TellsLines R) (policy : Policy) where
  -- the last line is written after the lines of the events
  pub runs_done : (events : List Event) (e : Ending) (run : Course) (old new : Stage C U Gathered) (s : SourceState) (t : Totals) (written : Option (List ℕ)) → event_of old.tally ≡ 1 → Makes S R policy events old new →
      IsSound policy s → S.stands old.scheduler old.under s → IsHeldBelow (old.given + 1) s.held → IsCourse events e run → IsTallied policy (outcomes policy events s) (size (after policy events s).tree) t →
      Appended (text_of new.written new.recorder) written (totals_line t e) → Runs S policy run s old.scheduler old.under new.scheduler new.under (text_of old.written old.recorder) written
  runs_done events e run old new s t written one made sound stood below is counts last =
      let played = made.played s sound stood below in
      let lines : Appended (text_of old.written old.recorder) (text_of new.written new.recorder) (told policy 1 events s) =
      subst (λ (n : ℕ). Appended (text_of old.written old.recorder) (text_of new.written new.recorder) (told policy n events s)) one (tells.all policy (event_of old.tally) (outcomes policy events s) old.recorder new.recorder old.written new.written played.recorded) in
      record {
        leaves = subst (λ (es : List Event). HasMade S policy es s old.scheduler old.under new.scheduler new.under) is.are played.leaves;
        report = subst (Appended (text_of old.written old.recorder) written) (report_is policy events e run s t is counts) (appended_in_turn (text_of old.written old.recorder) (text_of new.written new.recorder) written (told policy 1 events s) (totals_line t e) lines last);
      }

  -- the last line is cut short
  pub breaks_last : (events : List Event) (e : Ending) (run : Course) (old new : Stage C U Gathered) (s : SourceState) (t : Totals) (written : Option (List ℕ)) → event_of old.tally ≡ 1 → Makes S R policy events old new →
      IsSound policy s → S.stands old.scheduler old.under s → IsHeldBelow (old.given + 1) s.held → IsCourse events e run → IsTallied policy (outcomes policy events s) (size (after policy events s).tree) t →
      IsCut (text_of new.written new.recorder) (totals_line t e) written → Breaks S policy run s old.scheduler old.under new.scheduler new.under (text_of old.written old.recorder) written
  breaks_last events e run old new s t written one made sound stood below is counts last =
      let played = made.played s sound stood below in
      let lines : Appended (text_of old.written old.recorder) (text_of new.written new.recorder) (told policy 1 events s) =
      subst (λ (n : ℕ). Appended (text_of old.written old.recorder) (text_of new.written new.recorder) (told policy n events s)) one (tells.all policy (event_of old.tally) (outcomes policy events s) old.recorder new.recorder old.written new.written played.recorded) in
      record {
        leaves = record { made = events; unmade = []; whole = append-nil events ∙ is.are; leaves = played.leaves };
        report = subst (λ (l : List ℕ). IsCut (text_of old.written old.recorder) l written) (report_is policy events e run s t is counts) (IsCut-append (text_of old.written old.recorder) (text_of new.written new.recorder) written (told policy 1 events s) (totals_line t e) lines last);
      }

  -- the events stopped
  pub breaks_amid : (agenda : Agenda) (before : Option Left) (old : Stage C U Gathered) (c : C) (u : U) (written : Option (List ℕ)) → event_of old.tally ≡ 1 →
      StopsAmid S R policy (λ l s. (agenda l s (event_of old.tally)).events) before old c u written →
      OnCourse S.stands policy old.scheduler old.under old.given before agenda (λ s run. Breaks S policy run s old.scheduler old.under c u (text_of old.written old.recorder) written)
  breaks_amid agenda before old c u written one amid = by_left before amid.first
    where
      by_left : (a : Option Left) → IfSome a (λ l. FromEach S policy old (λ s. (others : List Event) × (amid.events ++ others ≡ (agenda l s (event_of old.tally)).events)))
          → OnCourse S.stands policy old.scheduler old.under old.given a agenda (λ s run. Breaks S policy run s old.scheduler old.under c u (text_of old.written old.recorder) written)
      by_left None first = tt
      by_left (Some l) first = λ s sound stood below.
          let run : Course = agenda l s 1 in
          let front = first s sound stood below in
          let whole : amid.events ++ front.0 ≡ run.events = front.1 ∙ ap (λ (n : ℕ). (agenda l s n).events) one in
          let stop : StopsIn S R policy 1 amid.events s old.scheduler old.under old.recorder old.written c u written = subst (λ (n : ℕ). StopsIn S R policy n amid.events s old.scheduler old.under old.recorder old.written c u written) one (amid.stop.stopped s sound stood below) in
          let lines : IsCut (text_of old.written old.recorder) (told policy 1 amid.events s) written = tells.part policy 1 (outcomes policy amid.events s) old.recorder old.written written stop.cut in
          let more : List ℕ = told policy (1 + length amid.events) front.0 (after policy amid.events s) in
          let last : List ℕ = last_of policy run.events s run.ending in
          let text : told policy 1 amid.events s ++ (more ++ last) ≡ course_report policy run s =
          sym (append_assoc (told policy 1 amid.events s) more last)
          ∙ ap (λ (t : List ℕ). t ++ last) (sym (told-append policy 1 amid.events front.0 s) ∙ ap (λ (es : List Event). told policy 1 es s) whole) in
          record {
            leaves = record {
              made = stop.leaves.made;
              unmade = stop.leaves.unmade ++ front.0;
              whole = sym (append_assoc stop.leaves.made stop.leaves.unmade front.0) ∙ ap (λ (es : List Event). es ++ front.0) stop.leaves.whole ∙ whole;
              leaves = stop.leaves.leaves;
            };
            report = subst (λ (t : List ℕ). IsCut (text_of old.written old.recorder) t written) text (IsCut-longer (text_of old.written old.recorder) written (told policy 1 amid.events s) (more ++ last) lines);
          }

module _ {C U W : Type 0} (S : Ghosts C U) (R : Recordings W) (policy : Policy) where
  -- the taps were shown the packets that departed and those that were dropped
  pub watched : (agenda : Agenda) (before : Option Left) (e : Ending) (old new : Stage C U W) → event_of old.tally ≡ 1 → Courses S R policy agenda e before old new →
      OnCourse S.stands policy old.scheduler old.under old.given before agenda (λ s run. Shows (shown_in policy (outcomes policy run.events s)) old.sight new.sight)
  watched agenda before e old new one courses = by_left before courses.told
    where
      by_left : (a : Option Left) → IfSome a (λ l. FromEach S policy old (λ s. IsCourse courses.events e (agenda l s (event_of old.tally))))
          → OnCourse S.stands policy old.scheduler old.under old.given a agenda (λ s run. Shows (shown_in policy (outcomes policy run.events s)) old.sight new.sight)
      by_left None told = tt
      by_left (Some l) told = λ s sound stood below.
          let are : courses.events ≡ (agenda l s 1).events = (told s sound stood below).are ∙ ap (λ (n : ℕ). (agenda l s n).events) one in
          subst (λ (es : List Event). Shows (shown_in policy (outcomes policy es s)) old.sight new.sight) are (courses.made.shown s sound stood below)

module _ {C U : Type 0} (S : Ghosts C U) (R : Recordings Gathered) (laws : AreJoined R.records R.cuts) (tells : TellsLines R) (policy : Policy) (accepted : IsAccepted policy) (agenda : Agenda) (before : Option Left) (e : Ending) (old new : Stage C U Gathered) (first held version : ℕ) (t : Totals)
    (fresh : IsFresh old.tally) (courses : Courses S R policy agenda e before old new)
    (begun : ForEachState S.stands policy old.scheduler old.under (λ s. first ≡ size s.tree)) (still : ForEachState S.stands policy new.scheduler new.under (λ s. held ≡ size s.tree))
    (totals : AreTotals new.tally first held version t) (own : version ≡ policy.version) where
  one_first : event_of old.tally ≡ 1
  one_first = omega (arith, fresh.none_came, fresh.none_asked)

  tallied_at : (s : SourceState) → IsSound policy s → S.stands old.scheduler old.under s → IsHeldBelow (old.given + 1) s.held → IsTallied policy (outcomes policy courses.events s) (size (after policy courses.events s).tree) t
  tallied_at s sound stood below = tallied S R laws policy accepted courses.events old new first held version t s fresh courses.made sound stood below (begun s sound stood) (held_then S R laws policy accepted courses.events old new held s courses.made sound stood below still) totals own

  pub runs_told : (written : Option (List ℕ)) → Appended (text_of new.written new.recorder) written (totals_line t e) →
      OnCourse S.stands policy old.scheduler old.under old.given before agenda (λ s run. Runs S policy run s old.scheduler old.under new.scheduler new.under (text_of old.written old.recorder) written)
  runs_told written last = by_left before courses.told
    where
      by_left : (a : Option Left) → IfSome a (λ l. FromEach S policy old (λ s. IsCourse courses.events e (agenda l s (event_of old.tally))))
          → OnCourse S.stands policy old.scheduler old.under old.given a agenda (λ s run. Runs S policy run s old.scheduler old.under new.scheduler new.under (text_of old.written old.recorder) written)
      by_left None told = tt
      by_left (Some l) told = λ s sound stood below.
          let is : IsCourse courses.events e (agenda l s 1) = subst (λ (n : ℕ). IsCourse courses.events e (agenda l s n)) one_first (told s sound stood below) in
          runs_done S R laws tells policy courses.events e (agenda l s 1) old new s t written one_first courses.made sound stood below is (tallied_at s sound stood below) last

  pub breaks_told : (written : Option (List ℕ)) → IsCut (text_of new.written new.recorder) (totals_line t e) written →
      OnCourse S.stands policy old.scheduler old.under old.given before agenda (λ s run. Breaks S policy run s old.scheduler old.under new.scheduler new.under (text_of old.written old.recorder) written)
  breaks_told written last = by_left before courses.told
    where
      by_left : (a : Option Left) → IfSome a (λ l. FromEach S policy old (λ s. IsCourse courses.events e (agenda l s (event_of old.tally))))
          → OnCourse S.stands policy old.scheduler old.under old.given a agenda (λ s run. Breaks S policy run s old.scheduler old.under new.scheduler new.under (text_of old.written old.recorder) written)
      by_left None told = tt
      by_left (Some l) told = λ s sound stood below.
          let is : IsCourse courses.events e (agenda l s 1) = subst (λ (n : ℕ). IsCourse courses.events e (agenda l s n)) one_first (told s sound stood below) in
          breaks_last S R laws tells policy courses.events e (agenda l s 1) old new s t written one_first courses.made sound stood below is (tallied_at s sound stood below) last

-- ---- if such captured bytes exist
module _ {C U : Type 0} (S : Ghosts C U) (H : Captured → Type 0) (policy : Policy) (agenda : Agenda) (before : Option Left) (there : AreThere before H) (old : Stage C U Gathered) where
  pub amid_heard : (c : C) (u : U) (written : Option (List ℕ)) → event_of old.tally ≡ 1 → StopsAmid S (heard_lines H) policy (λ l s. (agenda l s (event_of old.tally)).events) before old c u written →
      OnCourse S.stands policy old.scheduler old.under old.given before agenda (λ s run. Breaks S policy run s old.scheduler old.under c u (text_of old.written old.recorder) written)
  amid_heard c u written one amid =
      where_told S.stands policy old.scheduler old.under old.given before agenda (λ s run. Breaks S policy run s old.scheduler old.under c u (text_of old.written old.recorder) written) H there
      (λ bytes h. breaks_amid S (heard_lines H) (lines_heard H) (tells_heard H bytes h) policy agenda before old c u written one amid)

  module _ (accepted : IsAccepted policy) (e : Ending) (new : Stage C U Gathered) (first held version : ℕ) (t : Totals) (fresh : IsFresh old.tally) (courses : Courses S (heard_lines H) policy agenda e before old new)
      (begun : ForEachState S.stands policy old.scheduler old.under (λ s. first ≡ size s.tree)) (still : ForEachState S.stands policy new.scheduler new.under (λ s. held ≡ size s.tree))
      (totals : AreTotals new.tally first held version t) (own : version ≡ policy.version) (written : Option (List ℕ)) where
    pub runs_heard : Appended (text_of new.written new.recorder) written (totals_line t e) →
        OnCourse S.stands policy old.scheduler old.under old.given before agenda (λ s run. Runs S policy run s old.scheduler old.under new.scheduler new.under (text_of old.written old.recorder) written)
    runs_heard last =
        where_told S.stands policy old.scheduler old.under old.given before agenda (λ s run. Runs S policy run s old.scheduler old.under new.scheduler new.under (text_of old.written old.recorder) written) H there
        (λ bytes h. runs_told S (heard_lines H) (lines_heard H) (tells_heard H bytes h) policy accepted agenda before e old new first held version t fresh courses begun still totals own written last)

    pub breaks_heard : IsCut (text_of new.written new.recorder) (totals_line t e) written →
        OnCourse S.stands policy old.scheduler old.under old.given before agenda (λ s run. Breaks S policy run s old.scheduler old.under new.scheduler new.under (text_of old.written old.recorder) written)
    breaks_heard last =
        where_told S.stands policy old.scheduler old.under old.given before agenda (λ s run. Breaks S policy run s old.scheduler old.under new.scheduler new.under (text_of old.written old.recorder) written) H there
        (λ bytes h. breaks_told S (heard_lines H) (lines_heard H) (tells_heard H bytes h) policy accepted agenda before e old new first held version t fresh courses begun still totals own written last)
