-- A link's run from the start of a policy, whose departures are recorded.
use Rattle.sched_capture.proofs.Prelude.{◌≡◌, List, Some, ℕ, None, Option, sym, subst, ap, ◌∙◌, [], refl, ◌+◌, ◌∷◌, Bool, false, true, ◌++◌, map, not, append_assoc, is_some, map-append, IfSome, Appended, IsAccepted, Policy, IsCut-longer, text_of, sound_start, outcomes, Event, Departed, after, Arrived, CanMake, Dropped, Empty, Outcome, IsHeldBelow, Captured, Left, AreThere, Course, start, Ending, LinkRate, start_can_begin, HasMade, HasMadeSome, Recordings, AreJoined, TellsRecords, CutsRecords, HoldsNothing, is_late_now, keeping_of, forward_events, sent_bytes, ending_unless, forward_course, Forwarding}
use Rattle.outside_core.specs.Text.{IsCut}
use Rattle.sched_defs.specs.Sound.{IsSound}
use Rattle.sched_defs.proofs.Runs.{outcomes-append}
use Rattle.pcap_core.specs.Bytes.{records_bytes}
use Rattle.pcap_core.proofs.BytesLaws.{records_follow}
use Rattle.forward_defs.specs.Sendings.{Sending, sending_at, sendings, up_to_late, has_late}
use Rattle.forward_defs.specs.Forwarded.{sent_record}
use Rattle.forward_defs.specs.Keeping.{keeps_nothing, kept_behind, records_of}
use Rattle.forward_defs.proofs.KeptBytes.{records_told}
use Rattle.forward_defs.proofs.LateLinks.{ends_late, ends_whole, ends_early}
use Rattle.sched_core.specs.declared.scheduler.Scheduler.{Ghosts}
use Rattle.sched_run.specs.Stages.{Stage, event_of, packets_in, AreNext, FromEach, Makes, MakesLast, StopsLast}
use Rattle.sched_run.specs.Turns.{AreFirst}
use Rattle.sched_run.specs.Courses.{link_agenda, IsCourse, CoursesUnless, CoursesAmid}
use Rattle.sched_run.proofs.MadeEvents.{can_make, makes_to_last, stops_at_last}
use Rattle.sched_capture.specs.JoinedRecords.{same_behind, same_records}

-- such a recorder writes records of departures, for all captured bytes with H
pub record TellsHeard (R : Recordings Forwarding) (H : Captured → Type 0) : Type 0 where
  pub all : (policy : Policy) (event : ℕ) (os : List Outcome) (f g : Forwarding) (a b : Option (List ℕ)) → R.records f a policy event os g b → (captured : Captured) → H captured → TellsRecords captured f a policy event os g b
  pub part : (policy : Policy) (event : ℕ) (os : List Outcome) (f : Forwarding) (a b : Option (List ℕ)) → R.cuts f a policy event os b → (captured : Captured) → H captured → CutsRecords captured f a policy event os b

-- ---- bytes of consecutive departures
sendings-append : (os ps : List Outcome) → sendings (os ++ ps) ≡ sendings os ++ sendings ps
sendings-append [] ps = refl
sendings-append (Arrived p a ranks ∷ os) ps = sendings-append os ps
sendings-append (Dropped p a ∷ os) ps = sendings-append os ps
sendings-append (Empty ∷ os) ps = sendings-append os ps
sendings-append (Departed p a ranks start ∷ os) ps =
    ap (λ (sent : List Sending). sending_at start p ++ sent) (sendings-append os ps) ∙ sym (append_assoc (sending_at start p) (sendings os) (sendings ps))

sent_bytes-append : (captured : Captured) (os ps : List Outcome) → sent_bytes captured (os ++ ps) ≡ sent_bytes captured os ++ sent_bytes captured ps
sent_bytes-append captured os ps =
    ap (λ (sent : List Sending). records_bytes (map (sent_record captured) sent)) (sendings-append os ps)
    ∙ ap (λ rs. records_bytes rs) (map-append (sent_record captured) (sendings os) (sendings ps))
    ∙ records_follow (map (sent_record captured) (sendings os)) (map (sent_record captured) (sendings ps))

module _ {C U : Type 0} (S : Ghosts C U) (R : Recordings Forwarding) (H : Captured → Type 0) (laws : AreJoined R.records R.cuts) (tells : TellsHeard R H) (policy : Policy) (accepted : IsAccepted policy) (rate : LinkRate) (old : Stage C U Forwarding)
    (stood : S.stands old.scheduler old.under (start policy)) (nothing : HoldsNothing old.recorder) where
  -- the bytes recorded of these events from the start
  abbrev told : Captured → List Event → List ℕ
  told captured es = sent_bytes captured (outcomes policy es (start policy))

  -- The run over the packets left: its ending unless it ended early, its effect on the scheduler
  -- and the queues, and the bytes after the text.
  pub record IsForwarded (ending : Option Ending) (c : C) (u : U) (text : Option (List ℕ)) (l : Left) : Type 0 where
    pub ends : ending ≡ ending_unless (has_late (forward_course policy rate l).events) (forward_course policy rate l).ending
    pub made : HasMade S policy (forward_events policy rate l) (start policy) old.scheduler old.under c u
    pub records : (captured : Captured) → H captured → Appended (text_of old.written old.recorder.gathered) text (told captured (forward_events policy rate l))

  -- the run stopped
  pub record IsCutShort (c : C) (u : U) (written : Option (List ℕ)) (l : Left) : Type 0 where
    pub made : HasMadeSome S policy (forward_events policy rate l) (start policy) old.scheduler old.under c u
    pub cut : (captured : Captured) → H captured → IsCut (text_of old.written old.recorder.gathered) (told captured (forward_events policy rate l)) written

  sound : IsSound policy (start policy)
  sound = sound_start policy accepted

  below : IsHeldBelow (old.given + 1) (start policy).held
  below = (start_can_begin policy old.given).held

  -- the recorder's flag after these events shows whether one of them was late
  late_behind : (captured : Captured) → H captured → (es : List Event) (event : ℕ) (g : Forwarding) (b : Option (List ℕ)) → R.records old.recorder old.written policy event (outcomes policy es (start policy)) g b
      → (kept_behind captured keeps_nothing (outcomes policy es (start policy))).late ≡ is_late_now g
  late_behind captured h es event g b recorded =
      let os : List Outcome = outcomes policy es (start policy) in
      sym (same_behind captured (keeping_of old.recorder) keeps_nothing os nothing).late ∙ sym (tells.all policy event os old.recorder g old.written b recorded captured h).keeps.late

  -- events whose packets are the next ones can be made
  can_be_made : (es : List Event) → AreNext policy old.given (packets_in es) → CanMake policy es (start policy)
  can_be_made es next = can_make policy es (old.given + 1) (start policy) next.numbered next.sendable below

  -- a recorder that keeps nothing records exactly the bytes of their departures
  bytes_told : (captured : Captured) (es : List Event) → CanMake policy es (start policy) → records_of captured (keeping_of old.recorder) (outcomes policy es (start policy)) ≡ told captured es
  bytes_told captured es can =
      same_records captured (keeping_of old.recorder) keeps_nothing (outcomes policy es (start policy)) nothing
      ∙ records_told policy accepted captured es (start policy) keeps_nothing sound can (λ n p e. cc)

  records_behind : (captured : Captured) → H captured → (es : List Event) → CanMake policy es (start policy) → (event : ℕ) (g : Forwarding) (b : Option (List ℕ)) → R.records old.recorder old.written policy event (outcomes policy es (start policy)) g b
      → Appended (text_of old.written old.recorder.gathered) (text_of b g.gathered) (told captured es)
  records_behind captured h es can event g b recorded =
      subst (Appended (text_of old.written old.recorder.gathered) (text_of b g.gathered)) (bytes_told captured es can)
      (tells.all policy event (outcomes policy es (start policy)) old.recorder g old.written b recorded captured h).told

  -- ---- all events were made
  whole_over : (a : Option Left) → AreThere a H → (e : Ending) (new : Stage C U Forwarding) → is_late_now new.recorder ≡ false → (events : List Event) → Makes S R policy events old new
      → IfSome a (λ l. FromEach S policy old (λ s. IsCourse events e (link_agenda policy rate 0 l s (event_of old.tally)))) → IfSome a (IsForwarded (Some e) new.scheduler new.under (text_of new.written new.recorder.gathered))
  whole_over None there e new late events made are = tt
  whole_over (Some l) there e new late events made are =
      let run : Course = forward_course policy rate l in
      let is : IsCourse events e run = are (start policy) sound stood below in
      let played = made.played (start policy) sound stood below in
      let early : (kept_behind there.0 keeps_nothing (outcomes policy events (start policy))).late ≡ false = late_behind there.0 there.1 events (event_of old.tally) new.recorder new.written played.recorded ∙ late in
      let ends : (up_to_late run.events ≡ run.events) × (has_late run.events ≡ false) = ends_whole policy rate l.packets l.fault (start policy) 0 there.0 keeps_nothing refl events is.are early in
      let all : events ≡ forward_events policy rate l = is.are ∙ sym ends.0 in
      record {
        ends = ap (λ (x : Ending). Some x) is.ends ∙ ap (λ (t : Bool). ending_unless t run.ending) (sym ends.1);
        made = subst (λ (es : List Event). HasMade S policy es (start policy) old.scheduler old.under new.scheduler new.under) all played.leaves;
        records = λ captured h. subst (λ (es : List Event). Appended (text_of old.written old.recorder.gathered) (text_of new.written new.recorder.gathered) (told captured es)) all
            (records_behind captured h events (can_be_made events made.next) (event_of old.tally) new.recorder new.written played.recorded);
      }

  -- ---- a departure was late
  late_over : (a : Option Left) → AreThere a H → (new : Stage C U Forwarding) (events : List Event) → MakesLast S R is_late_now policy events old new
      → IfSome a (λ l. FromEach S policy old (λ s. AreFirst events (link_agenda policy rate 0 l s (event_of old.tally)).events)) → IfSome a (IsForwarded None new.scheduler new.under (text_of new.written new.recorder.gathered))
  late_over None there new events last first = tt
  late_over (Some l) there new events last first =
      let run : Course = forward_course policy rate l in
      let made : Makes S R policy events old new = makes_to_last S R laws policy accepted is_late_now events old new last in
      let played = made.played (start policy) sound stood below in
      let before = last.made.played (start policy) sound stood below in
      let early : (kept_behind there.0 keeps_nothing (outcomes policy last.before (start policy))).late ≡ false =
      late_behind there.0 there.1 last.before (event_of old.tally) last.amid.recorder last.amid.written before.recorded ∙ last.going in
      let late : (kept_behind there.0 keeps_nothing (outcomes policy events (start policy))).late ≡ true = late_behind there.0 there.1 events (event_of old.tally) new.recorder new.written played.recorded ∙ last.is_over in
      let ends : (up_to_late run.events ≡ events) × (has_late run.events ≡ true) =
      ends_late policy rate l.packets l.fault (start policy) 0 there.0 keeps_nothing refl events last.before last.last (first (start policy) sound stood below) last.are early late in
      record {
        ends = ap (λ (t : Bool). ending_unless t run.ending) (sym ends.1);
        made = subst (λ (es : List Event). HasMade S policy es (start policy) old.scheduler old.under new.scheduler new.under) (sym ends.0) played.leaves;
        records = λ captured h. subst (λ (es : List Event). Appended (text_of old.written old.recorder.gathered) (text_of new.written new.recorder.gathered) (told captured es)) (sym ends.0)
            (records_behind captured h events (can_be_made events made.next) (event_of old.tally) new.recorder new.written played.recorded);
      }

  pub forwards : (left : Option Left) → AreThere left H → (o : Option Ending) (new : Stage C U Forwarding) → is_late_now new.recorder ≡ not (is_some o)
      → CoursesUnless o S R is_late_now policy (link_agenda policy rate 0) left old new → IfSome left (IsForwarded o new.scheduler new.under (text_of new.written new.recorder.gathered))
  forwards left there (Some e) new late courses = whole_over left there e new late courses.events courses.made courses.told
  forwards left there None new late courses = late_over left there new courses.events courses.made courses.first

  -- ---- the events stopped
  stops_over : (a : Option Left) → AreThere a H → (c : C) (u : U) (written : Option (List ℕ)) (events : List Event) → StopsLast S R is_late_now policy events old c u written
      → IfSome a (λ l. FromEach S policy old (λ s. AreFirst events (link_agenda policy rate 0 l s (event_of old.tally)).events)) → IfSome a (IsCutShort c u written)
  stops_over None there c u written events stop first = tt
  stops_over (Some l) there c u written events stop first =
      let stops = stops_at_last S R laws policy accepted is_late_now events old c u written stop in
      let stopped = stops.stopped (start policy) sound stood below in
      let before = stop.made.played (start policy) sound stood below in
      let early : (kept_behind there.0 keeps_nothing (outcomes policy stop.before (start policy))).late ≡ false =
      late_behind there.0 there.1 stop.before (event_of old.tally) stop.amid.recorder stop.amid.written before.recorded ∙ stop.going in
      let rest : (more : List Event) × (events ++ more ≡ forward_events policy rate l) =
      ends_early policy rate l.packets l.fault (start policy) 0 there.0 keeps_nothing refl events stop.before stop.last (first (start policy) sound stood below) stop.are stop.few early in
      let os : List Outcome = outcomes policy events (start policy) in
      let ps : List Outcome = outcomes policy rest.0 (after policy events (start policy)) in
      record {
        made = record {
          made = stopped.leaves.made;
          unmade = stopped.leaves.unmade ++ rest.0;
          whole = sym (append_assoc stopped.leaves.made stopped.leaves.unmade rest.0) ∙ ap (λ (es : List Event). es ++ rest.0) stopped.leaves.whole ∙ rest.1;
          leaves = stopped.leaves.leaves;
        };
        cut = λ captured h.
            let cut : IsCut (text_of old.written old.recorder.gathered) (told captured events) written =
            subst (λ (bytes : List ℕ). IsCut (text_of old.written old.recorder.gathered) bytes written) (bytes_told captured events (can_be_made events stops.next))
            (tells.part policy (event_of old.tally) os old.recorder old.written written stopped.cut captured h) in
            let all : told captured events ++ sent_bytes captured ps ≡ told captured (forward_events policy rate l) =
            sym (sent_bytes-append captured os ps) ∙ ap (sent_bytes captured) (sym (outcomes-append policy events rest.0 (start policy))) ∙ ap (told captured) rest.1 in
            subst (λ (bytes : List ℕ). IsCut (text_of old.written old.recorder.gathered) bytes written) all
            (IsCut-longer (text_of old.written old.recorder.gathered) written (told captured events) (sent_bytes captured ps) cut);
      }

  pub stops : (left : Option Left) → AreThere left H → (c : C) (u : U) (written : Option (List ℕ)) → CoursesAmid S R is_late_now policy (link_agenda policy rate 0) left old c u written → IfSome left (IsCutShort c u written)
  stops left there c u written amid = stops_over left there c u written amid.events amid.stop amid.first
