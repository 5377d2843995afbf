-- Knowledge of captured bytes, and the records it allows.
use Rattle.sched_run.proofs.Prelude.{ℕ, List, [], Option, ◌∷◌, Bool, map, Policy, Ghosts, Event, Outcome, Sent, Left, Captured, Step, SourceState, Ending, Courses, Agenda, recording, Sends, SendsAmid, SendsFirst, Recordings, AreJoined, Makes, Stage, Stops, MakesLast, StopsLast, Arrives, StopsAmid, ArrivalsStop, Turns}
use Rattle.sched_defs.specs.Events.{Arrive}
use Rattle.sched_run.specs.declared.recorder.Recorder as recorder

-- ---- laws of recordings
pub recording-joined : {W : Type 0} (R : recorder.Ghosts W) → ((captured : Captured) → AreJoined (R.records captured) (R.cuts captured))
    → (H : Captured → Type 0) → AreJoined (recording R H).records (recording R H).cuts
recording-joined R laws H = record {
  none = λ policy event w a captured h. (laws captured).none policy event w a;
  both = λ policy event os ps w v x a b c first second captured h. (laws captured).both policy event os ps w v x a b c (first captured h) (second captured h);
  written = λ policy event os w v a b all captured h. (laws captured).written policy event os w v a b (all captured h);
  longer = λ policy event os ps w a b cut captured h. (laws captured).longer policy event os ps w a b (cut captured h);
  later = λ policy event os ps w v a b c first cut captured h. (laws captured).later policy event os ps w v a b c (first captured h) (cut captured h);
}

-- ---- one kind of record implies another
pub record Gives {W : Type 0} (R Q : Recordings W) : Type 0 where
  pub all : (policy : Policy) (event : ℕ) (os : List Outcome) (w v : W) (a b : Option (List ℕ)) → R.records w a policy event os v b → Q.records w a policy event os v b
  pub part : (policy : Policy) (event : ℕ) (os : List Outcome) (w : W) (a b : Option (List ℕ)) → R.cuts w a policy event os b → Q.cuts w a policy event os b

-- a record for all captured bytes with G is one for all with H, if H implies G
pub recording_gives : {W : Type 0} (R : recorder.Ghosts W) (G H : Captured → Type 0) → ((captured : Captured) → H captured → G captured) → Gives (recording R G) (recording R H)
recording_gives R G H known = record {
  all = λ policy event os w v a b all captured h. all captured (known captured h);
  part = λ policy event os w a b cut captured h. cut captured (known captured h);
}

module _ {C U W : Type 0} (S : Ghosts C U) {R Q : Recordings W} (gives : Gives R Q) (policy : Policy) where
  pub makes_so : (events : List Event) (old new : Stage C U W) → Makes S R policy events old new → Makes S Q policy events old new
  makes_so events old new made = record {
    next = made.next;
    came = made.came;
    asked = made.asked;
    dropped = made.dropped;
    played = λ s sound stood below.
        let played = made.played s sound stood below in
        record { leaves = played.leaves; recorded = gives.all policy _ _ _ _ _ _ played.recorded };
    shown = made.shown;
  }

  pub stops_so : (events : List Event) (old : Stage C U W) (c : C) (u : U) (written : Option (List ℕ)) → Stops S R policy events old c u written → Stops S Q policy events old c u written
  stops_so events old c u written stop = record {
    next = stop.next;
    stopped = λ s sound stood below.
        let stopped = stop.stopped s sound stood below in
        record { leaves = stopped.leaves; cut = gives.part policy _ _ _ _ _ stopped.cut };
  }

  pub arrives_so : (asked : ℕ) (ending : Option Ending) (before after : Option Left) (old new : Stage C U W) → Arrives S R policy asked ending before after old new → Arrives S Q policy asked ending before after old new
  arrives_so asked ending before after old new all = record { packets = all.packets; count = all.count; came = all.came; made = makes_so (map Arrive all.packets) old new all.made }

  pub arrivals_stop_so : (asked : ℕ) (before : Option Left) (old : Stage C U W) (c : C) (u : U) (written : Option (List ℕ)) → ArrivalsStop S R policy asked before old c u written → ArrivalsStop S Q policy asked before old c u written
  arrivals_stop_so asked before old c u written stop = record { packets = stop.packets; count = stop.count; first = stop.first; stop = stops_so (map Arrive stop.packets) old c u written stop.stop }

  pub turns_so : (step : Step) (ending : Option Ending) (before after : Option Left) (old new : Stage C U W) → Turns S R policy step ending before after old new → Turns S Q policy step ending before after old new
  turns_so step ending before after old new turns = record { events = turns.events; made = makes_so turns.events old new turns.made; few = turns.few; told = turns.told }

  pub amid_so : (all : Left → SourceState → List Event) (before : Option Left) (old : Stage C U W) (c : C) (u : U) (written : Option (List ℕ)) → StopsAmid S R policy all before old c u written → StopsAmid S Q policy all before old c u written
  amid_so all before old c u written amid = record { events = amid.events; stop = stops_so amid.events old c u written amid.stop; first = amid.first }

  pub courses_so : (agenda : Agenda) (ending : Ending) (before : Option Left) (old new : Stage C U W) → Courses S R policy agenda ending before old new → Courses S Q policy agenda ending before old new
  courses_so agenda ending before old new courses = record { events = courses.events; made = makes_so courses.events old new courses.made; told = courses.told }

  pub sends_so : (sent : SourceState → Sent) (free : ℕ) (old new : Stage C U W) → Sends S R policy sent free old new → Sends S Q policy sent free old new
  sends_so sent free old new sends = record { events = sends.events; made = makes_so sends.events old new sends.made; told = sends.told }

  stops_last_so : (over : W → Bool) (events : List Event) (old : Stage C U W) (c : C) (u : U) (written : Option (List ℕ)) → StopsLast S R over policy events old c u written → StopsLast S Q over policy events old c u written
  stops_last_so over events old c u written to = record {
    before = to.before;
    last = to.last;
    are = to.are;
    few = to.few;
    amid = to.amid;
    made = makes_so to.before old to.amid to.made;
    given = to.given;
    going = to.going;
    stop = stops_so to.last to.amid c u written to.stop;
  }

  pub sends_amid_so : (over : W → Bool) (sent : SourceState → Sent) (old : Stage C U W) (c : C) (u : U) (written : Option (List ℕ)) → SendsAmid S R over policy sent old c u written → SendsAmid S Q over policy sent old c u written
  sends_amid_so over sent old c u written amid = record { events = amid.events; stop = stops_last_so over amid.events old c u written amid.stop; first = amid.first }

  makes_last_so : (over : W → Bool) (events : List Event) (old new : Stage C U W) → MakesLast S R over policy events old new → MakesLast S Q over policy events old new
  makes_last_so over events old new to = record {
    before = to.before;
    last = to.last;
    are = to.are;
    amid = to.amid;
    made = makes_so to.before old to.amid to.made;
    given = to.given;
    going = to.going;
    made_last = makes_so (to.last ∷ []) to.amid new to.made_last;
    is_over = to.is_over;
  }

  pub sends_first_so : (over : W → Bool) (sent : SourceState → Sent) (old new : Stage C U W) → SendsFirst S R over policy sent old new → SendsFirst S Q over policy sent old new
  sends_first_so over sent old new sends = record { events = sends.events; made = makes_last_so over sends.events old new sends.made; first = sends.first }
