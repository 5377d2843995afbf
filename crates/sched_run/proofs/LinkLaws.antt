-- The departures and arrivals of a link, turn by turn.
use Rattle.sched_run.proofs.Prelude.{ℕ, arith, None, ◌∙◌, ◌≡◌, refl, sym, List, subst, [], ◌+◌, ap, Some, ◌≤◌, Option, ◌++◌, ◌∷◌, append-nil, false, ◌<◌, Bool, append_assoc, ◌-◌, suc, true, zero, ◌*◌, max, IfSome, option_map, Departed, Packet, IsAccepted, Policy, departed_packet, next_departed, ForEachState, StandForOne, Ghosts, held_none, after-append, Depart, Event, outcomes, after, empty_in, CanArrive, FaultAt, Sent, free_for, is_due, link_course, link_turn, send_all, send_until, sent_first, sent_nothing, IsHeldBelow, IsSendable, Left, Came, IsOver, Course, behind, IsSound, SourceState, departed, leaver, Leaver, Whole, Sight, size, Courses, IsCourse, link_agenda, CoursesAmid, CoursesFirst, Sends, SendsAmid, SendsFirst, IsSent, Recordings, AreJoined, Makes, Stage, event_of, arrivals_in, Stops, FromEach, stage, AreFirst, Tally}
use Rattle.sched_defs.specs.SendTime.{IsRate, send_time}
use Rattle.sched_defs.proofs.SendTimes.{send_time-least}
use Rattle.sched_defs.specs.Events.{Arrive}
use Rattle.sched_defs.specs.declared.rate.LinkRate.{LinkRate}
use Rattle.sched_defs.proofs.Leaving.{leaver-none, size_departed}
use Rattle.sched_defs.proofs.Links.{sending, turn_leads, turn_empty}
use Rattle.sched_run.proofs.MadeEvents.{Stands, stands_after, makes_none, makes_both}
use Rattle.sched_run.proofs.EventCounts.{AreOf, outcomes_of}
use Rattle.sched_run.proofs.AgendaLaws.{IsBehind, HasRun, run_none, regiven}

-- ---- consecutive departures
-- events, and then those of a link
abbrev then_sent : List Event → Sent → Sent
then_sent events sent = record sent { events = events ++ sent.events }

-- These events are the first `done` departures of the link, which began with `held` packets queued.
pub record IsPart (policy : Policy) (rate : LinkRate) (until : Option ℕ) (held done first now : ℕ) (events : List Event) (s : SourceState) : Type 0 where
  pub joined : send_until policy rate until held s first ≡ then_sent events (send_until policy rate until (held - done) (after policy events s) now)
  pub holds : size (after policy events s).tree ≡ held - done

pub part_none : (policy : Policy) (rate : LinkRate) (until : Option ℕ) (held first : ℕ) (s : SourceState) → held ≡ size s.tree → IsPart policy rate until held 0 first first [] s
part_none policy rate until held first s is =
    let same : held ≡ held - 0 = omega arith in
    record { joined = ap (λ (n : ℕ). send_until policy rate until n s first) same; holds = omega (arith, is) }

-- if a packet is queued, one can depart
holds_one : (policy : Policy) (s : SourceState) → IsSound policy s → 0 < size s.tree → (l : Leaver) × (leaver s ≡ Some l)
holds_one policy s sound some = by_leaver (leaver s) refl
  where
    by_leaver : (o : Option Leaver) → leaver s ≡ o → (l : Leaver) × (leaver s ≡ Some l)
    by_leaver None e = let z = (leaver-none policy s sound).0 e in absurd (omega (arith, z, some))
    by_leaver (Some l) e = (l, e)

module _ (policy : Policy) (rate : LinkRate) (until : Option ℕ) where
  -- if a departure is due, a packet departs, and then the others
  sends_one : (m : ℕ) (s : SourceState) (l : Leaver) (free : ℕ) → is_due until free ≡ true → leaver s ≡ Some l
      → send_until policy rate until (suc m) s free ≡ sent_first (Depart (Some free)) (send_until policy rate until m (departed policy s) (free + send_time l.packet.len rate))
  sends_one m s l free due leaves = rw (due, leaves) refl

  -- if none is due, no packet departs
  waits_here : (m : ℕ) (s : SourceState) (free : ℕ) → is_due until free ≡ false → send_until policy rate until m s free ≡ sent_nothing s free
  waits_here zero s free due = refl
  waits_here (suc m) s free due = rw due refl

  module _ (held done first now : ℕ) (events : List Event) (s : SourceState) (part : IsPart policy rate until held done first now events s) where
    abbrev mid : SourceState
    mid = after policy events s

    -- nothing more is sent
    pub part_ends : send_until policy rate until (held - done) mid now ≡ sent_nothing mid now → IsSent events now (send_until policy rate until held s first)
    part_ends none =
        let e : send_until policy rate until held s first ≡ then_sent events (sent_nothing mid now) = part.joined ∙ ap (then_sent events) none in
        record { are = sym (ap (λ (x : Sent). x.events) e ∙ append-nil events); is_free = sym (ap (λ (x : Sent). x.free) e) }

    pub part_waits : is_due until now ≡ false → IsSent events now (send_until policy rate until held s first)
    part_waits due = part_ends (waits_here (held - done) mid now due)

    pub part_over : held ≤ done → IsSent events now (send_until policy rate until held s first)
    part_over all =
        let none : held - done ≡ 0 = omega (arith, all) in
        part_ends (ap (λ (n : ℕ). send_until policy rate until n mid now) none)

    module _ (sound : IsSound policy mid) (below : done < held) (due : is_due until now ≡ true) where
      one : (l : Leaver) × (leaver mid ≡ Some l)
      one = holds_one policy mid sound (omega (arith, part.holds, below))

      more : held - done ≡ suc (held - (done + 1))
      more = omega (arith, below)

      unfolded : send_until policy rate until held s first
          ≡ then_sent (events ++ Depart (Some now) ∷ []) (send_until policy rate until (held - (done + 1)) (departed policy mid) (now + send_time one.0.packet.len rate))
      unfolded =
          part.joined
          ∙ ap (λ (n : ℕ). then_sent events (send_until policy rate until n mid now)) more
          ∙ ap (then_sent events) (sends_one (held - (done + 1)) mid one.0 now due one.1)
          ∙ ap (λ (es : List Event). record (send_until policy rate until (held - (done + 1)) (departed policy mid) (now + send_time one.0.packet.len rate)) { events = es })
          (sym (append_assoc events (Depart (Some now) ∷ []) (send_until policy rate until (held - (done + 1)) (departed policy mid) (now + send_time one.0.packet.len rate)).events))

      -- one more packet is sent
      pub part_goes : (o : Option ℕ) (now' : ℕ) → o ≡ option_map (λ (d : Departed). d.len) (next_departed policy mid) → IfSome o (λ len. now' ≡ now + send_time len rate) → IsPart policy rate until held (done + 1) first now' (events ++ Depart (Some now) ∷ []) s
      part_goes o now' told free =
          let some : o ≡ Some one.0.packet.len = told ∙ ap (λ (l : Option Leaver). option_map (λ (d : Departed). d.len) (option_map (departed_packet policy) l)) one.1 in
          let later : now' ≡ now + send_time one.0.packet.len rate = subst (λ (x : Option ℕ). IfSome x (λ len. now' ≡ now + send_time len rate)) some free in
          let state : after policy (events ++ Depart (Some now) ∷ []) s ≡ departed policy mid = after-append policy events (Depart (Some now) ∷ []) s in
          record {
            joined = unfolded
                ∙ ap (λ (n : ℕ). then_sent (events ++ Depart (Some now) ∷ []) (send_until policy rate until (held - (done + 1)) (departed policy mid) n)) (sym later)
                ∙ ap (λ (t : SourceState). then_sent (events ++ Depart (Some now) ∷ []) (send_until policy rate until (held - (done + 1)) t now')) (sym state);
            holds = ap (λ (t : SourceState). size t.tree) state ∙ omega (arith, size_departed policy mid sound, part.holds, below);
          }

      -- one more packet was to be sent
      pub part_stops : AreFirst (events ++ Depart (Some now) ∷ []) (send_until policy rate until held s first).events
      part_stops = ((send_until policy rate until (held - (done + 1)) (departed policy mid) (now + send_time one.0.packet.len rate)).events, sym (ap (λ (x : Sent). x.events) unfolded))

-- a part of the link's departures was made
pub record SendsPart {C U W : Type 0} (S : Ghosts C U) (R : Recordings W) (policy : Policy) (rate : LinkRate) (until : Option ℕ) (held done first now : ℕ) (old new : Stage C U W) : Type 0 where
  pub events : List Event
  pub made : Makes S R policy events old new
  pub told : FromEach S policy old (λ s. IsPart policy rate until held done first now events s)

module _ {C U W : Type 0} (S : Ghosts C U) (R : Recordings W) (laws : AreJoined R.records R.cuts) (policy : Policy) (accepted : IsAccepted policy) (rate : LinkRate) (until : Option ℕ) (held first : ℕ) (old : Stage C U W) (holds : ForEachState S.stands policy old.scheduler old.under (λ s. held ≡ size s.tree)) where
  pub sends_none : SendsPart S R policy rate until held 0 first first old old
  sends_none = record {
    events = [];
    made = makes_none S R laws policy old.scheduler old.under old.recorder old.written old.given old.given old.tally old.sight;
    told = λ s sound stood below. part_none policy rate until held first s (holds s sound stood);
  }

  module _ (done now : ℕ) (mid : Stage C U W) (given : mid.given ≡ old.given) (came : mid.tally.came ≡ old.tally.came) (part : SendsPart S R policy rate until held done first now old mid) where
    part_given : mid.given ≡ old.given + arrivals_in part.events
    part_given = omega (arith, given, came, part.made.came)

    part_at : (s : SourceState) → IsSound policy s → S.stands old.scheduler old.under s → IsHeldBelow (old.given + 1) s.held → Stands S policy mid.scheduler mid.under mid.given (after policy part.events s)
    part_at s sound stood below = stands_after S R laws policy accepted part.events old mid mid.given s part.made part_given (record { sound = sound; stood = stood; below = below })

    whole : (s : SourceState) → IsSound policy s → S.stands old.scheduler old.under s → IsSent part.events now (send_until policy rate until held s first) → IsSent part.events now (send_until policy rate until (size s.tree) s first)
    whole s sound stood sent = subst (λ (n : ℕ). IsSent part.events now (send_until policy rate until n s first)) (holds s sound stood) sent

    -- the link isn't free in time
    pub sends_waits : is_due until now ≡ false → Sends S R policy (λ s. send_until policy rate until (size s.tree) s first) now old mid
    sends_waits due = record {
      events = part.events;
      made = part.made;
      told = λ s sound stood below. whole s sound stood (part_waits policy rate until held done first now part.events s (part.told s sound stood below) due);
    }

    -- no packet is queued any more
    pub sends_over : held ≤ done → Sends S R policy (λ s. send_until policy rate until (size s.tree) s first) now old mid
    sends_over all = record {
      events = part.events;
      made = part.made;
      told = λ s sound stood below. whole s sound stood (part_over policy rate until held done first now part.events s (part.told s sound stood below) all);
    }

    -- the scheduler and its queues represent some state after these departures
    pub sends_stand : StandForOne S.stands policy old.scheduler old.under (λ s. IsHeldBelow (old.given + 1) s.held) → StandForOne S.stands policy mid.scheduler mid.under (λ _. Unit {0})
    sends_stand one =
        let at = part_at one.state one.sound one.stood one.has in
        record { state = after policy part.events one.state; sound = at.sound; stood = at.stood; has = tt }

    -- each departure is counted
    pub sends_asked : StandForOne S.stands policy old.scheduler old.under (λ s. IsHeldBelow (old.given + 1) s.held) → S.departures mid.scheduler + old.tally.asked ≡ S.departures old.scheduler + mid.tally.asked
    sends_asked one =
        let leaves = (part.made.played one.state one.sound one.stood one.has).leaves in
        let counts : AreOf part.events (outcomes policy part.events one.state) = outcomes_of policy part.events one.state in
        omega (arith, leaves.asked, counts.asked, part.made.asked)

    module _ (below : done < held) (due : is_due until now ≡ true) where
      pub sends_goes : (o : Option ℕ) (now' : ℕ) (new : Stage C U W) → ForEachState S.stands policy mid.scheduler mid.under (λ s. o ≡ option_map (λ (d : Departed). d.len) (next_departed policy s)) → IfSome o (λ len. now' ≡ now + send_time len rate)
          → Makes S R policy (Depart (Some now) ∷ []) mid new → SendsPart S R policy rate until held (done + 1) first now' old new
      sends_goes o now' new value time made = record {
        events = part.events ++ Depart (Some now) ∷ [];
        made = makes_both S R laws policy accepted part.events (Depart (Some now) ∷ []) old mid new part_given part.made made;
        told = λ s sound stood low.
            let at = part_at s sound stood low in
            part_goes policy rate until held done first now part.events s (part.told s sound stood low) at.sound below due o now' (value (after policy part.events s) at.sound at.stood) time;
      }

      are_first : FromEach S policy old (λ s. AreFirst (part.events ++ Depart (Some now) ∷ []) (send_until policy rate until (size s.tree) s first).events)
      are_first s sound stood low =
          let at = part_at s sound stood low in
          let some = part_stops policy rate until held done first now part.events s (part.told s sound stood low) at.sound below due in
          subst (λ (n : ℕ). AreFirst (part.events ++ Depart (Some now) ∷ []) (send_until policy rate until n s first).events) (holds s sound stood) some

      pub sends_stops : (over : W → Bool) (c : C) (u : U) (written : Option (List ℕ)) → over mid.recorder ≡ false → Stops S R policy (Depart (Some now) ∷ []) mid c u written
          → SendsAmid S R over policy (λ s. send_until policy rate until (size s.tree) s first) old c u written
      sends_stops over c u written going stop = record {
        events = part.events ++ Depart (Some now) ∷ [];
        stop = record {
          before = part.events;
          last = Depart (Some now) ∷ [];
          are = refl;
          few = omega arith;
          amid = mid;
          made = part.made;
          given = part_given;
          going = going;
          stop = stop;
        };
        first = are_first;
      }

      -- one more departure was made, after which nothing more can be recorded
      pub sends_first : (over : W → Bool) (new : Stage C U W) → over mid.recorder ≡ false → Makes S R policy (Depart (Some now) ∷ []) mid new → over new.recorder ≡ true
          → SendsFirst S R over policy (λ s. send_until policy rate until (size s.tree) s first) old new
      sends_first over new going made is_over = record {
        events = part.events ++ Depart (Some now) ∷ [];
        made = record {
          before = part.events;
          last = Depart (Some now);
          are = refl;
          amid = mid;
          made = part.made;
          given = part_given;
          going = going;
          made_last = made;
          is_over = is_over;
        };
        first = are_first;
      }

-- the greatest length takes at most 2^62 nanoseconds
pub sends_soon : (len : ℕ) (rate : LinkRate) → IsRate rate → len < 4294967296 → send_time len rate ≤ 4611686018427387904
sends_soon len rate is few =
    let bytes : ℕ = len + rate.overhead in
    let some = is.bytes.0 in
    let all : bytes * 1000000000 ≤ bytes * 1000000000 * rate.bytes = grind (arith, some) in
    let least = (send_time-least len rate is).least (bytes * 1000000000) all in
    omega (arith, least, few, is.overhead)

-- the same departures, with an equal number of packets read
pub same_sends : {C U W : Type 0} (S : Ghosts C U) (R : Recordings W) (policy : Policy) (sent : SourceState → Sent) (free : ℕ) (old : Stage C U W) (c : C) (u : U) (w : W) (written : Option (List ℕ)) (given given' : ℕ) (tally : Tally) (sight : Sight) → given ≡ given'
    → Sends S R policy sent free old (stage c u w written given tally sight) → Sends S R policy sent free old (stage c u w written given' tally sight)
same_sends S R policy sent free old c u w written given given' tally sight e sends = subst (λ (n : ℕ). Sends S R policy sent free old (stage c u w written n tally sight)) e sends

pub same_first : {C U W : Type 0} (S : Ghosts C U) (R : Recordings W) (laws : AreJoined R.records R.cuts) (over : W → Bool) (policy : Policy) (sent : SourceState → Sent) (old : Stage C U W) (c : C) (u : U) (w : W) (written : Option (List ℕ)) (given given' : ℕ) (tally : Tally) (sight : Sight)
    → SendsFirst S R over policy sent old (stage c u w written given tally sight) → SendsFirst S R over policy sent old (stage c u w written given' tally sight)
same_first S R laws over policy sent old c u w written given given' tally sight sends =
    let to = sends.made in
    record {
      events = sends.events;
      made = record {
        before = to.before;
        last = to.last;
        are = to.are;
        amid = to.amid;
        made = to.made;
        given = to.given;
        going = to.going;
        made_last = regiven S R laws policy (to.last ∷ []) to.amid c u w written given given' tally sight to.made_last;
        is_over = to.is_over;
      };
      first = sends.first;
    }

-- ---- the turns of a link
-- at first the link is free, and all events are still to come
pub link_begins : {C U W : Type 0} (S : Ghosts C U) (R : Recordings W) (laws : AreJoined R.records R.cuts) (policy : Policy) (rate : LinkRate) (free : ℕ) → free ≡ 0 → (a : Option Left) (c : C) (u : U) (w : W) (written : Option (List ℕ)) (given : ℕ) (tally : Tally) (sight : Sight)
    → HasRun S R policy (link_agenda policy rate 0) (link_agenda policy rate free) 0 0 a a (stage c u w written given tally sight) (stage c u w written given tally sight)
link_begins S R laws policy rate free e a c u w written given tally sight =
    subst (λ (n : ℕ). HasRun S R policy (link_agenda policy rate 0) (link_agenda policy rate n) 0 0 a a (stage c u w written given tally sight) (stage c u w written given tally sight)) (sym e)
    (run_none S R laws policy (link_agenda policy rate 0) 0 a c u w written given tally sight)

module _ {C U W : Type 0} (S : Ghosts C U) (R : Recordings W) (policy : Policy) (rate : LinkRate) (free : ℕ) where
  -- a packet was read, and its turn was made
  pub link_goes : (p : Packet) (free' : ℕ) (a b : Option Left) (old new : Stage C U W) → Came a b (p ∷ []) → Sends S R policy (λ s. link_turn policy rate p s free) free' old new
      → HasRun S R policy (link_agenda policy rate free) (link_agenda policy rate free') 0 0 a b old new
  link_goes p free' a b old new came sends = record {
    events = sends.events;
    made = sends.made;
    few = λ s sound stood below.
        let none = ap (λ (es : List Event). empty_in (outcomes policy es s)) (sends.told s sound stood below).are ∙ turn_empty policy rate p s free in
        omega (arith, none);
    told = by_left a b came;
  }
    where
      by_left : (a b : Option Left) → Came a b (p ∷ []) → IfSome a (λ l. FromEach S policy old (λ s. IsBehind policy (link_agenda policy rate free) (link_agenda policy rate free') sends.events l b s (event_of old.tally) (event_of new.tally)))
      by_left None b came = tt
      by_left (Some l) None came = absurd came
      by_left (Some l) (Some m) came = λ s sound stood below.
          let is = sends.told s sound stood below in
          let turn : Sent = link_turn policy rate p s free in
          let state : turn.state ≡ after policy sends.events s = sym (ap (λ (es : List Event). after policy es s) is.are ∙ turn_leads policy rate p s free) in
          record {
            left = m;
            is = refl;
            joined = ap (λ (ps : List Packet). link_course policy rate ps l.fault s free) came.0
                ∙ ap (λ (f : Option FaultAt). link_course policy rate (p ∷ m.packets) f s free) came.1
                ∙ ap (λ (es : List Event). behind es (link_course policy rate m.packets m.fault turn.state turn.free)) (sym is.are)
                ∙ ap (λ (t : SourceState). behind sends.events (link_course policy rate m.packets m.fault t turn.free)) state
                ∙ ap (λ (n : ℕ). behind sends.events (link_course policy rate m.packets m.fault (after policy sends.events s) n)) (sym is.is_free);
          }

  -- a prefix of its turn is a prefix of all events
  pub first_in_turn : (p : Packet) (a b : Option Left) (events : List Event) (old : Stage C U W) → Came a b (p ∷ []) → FromEach S policy old (λ s. AreFirst events (link_turn policy rate p s free).events)
      → IfSome a (λ l. FromEach S policy old (λ s. AreFirst events (link_agenda policy rate free l s (event_of old.tally)).events))
  first_in_turn p None b events old came first = tt
  first_in_turn p (Some l) None events old came first = absurd came
  first_in_turn p (Some l) (Some m) events old came first = λ s sound stood below.
      let some = first s sound stood below in
      let rest : Course = link_course policy rate m.packets m.fault (link_turn policy rate p s free).state (link_turn policy rate p s free).free in (
        some.0 ++ rest.events,
        sym (append_assoc events some.0 rest.events) ∙ ap (λ (es : List Event). es ++ rest.events) some.1
            ∙ sym (ap (λ (ps : List Packet). (link_course policy rate ps l.fault s free).events) came.0 ∙ ap (λ (f : Option FaultAt). (link_course policy rate (p ∷ m.packets) f s free).events) came.1),
      )

  -- its turn stopped
  pub link_stops : (over : W → Bool) (p : Packet) (a b : Option Left) (old : Stage C U W) (c : C) (u : U) (written : Option (List ℕ)) → Came a b (p ∷ []) → SendsAmid S R over policy (λ s. link_turn policy rate p s free) old c u written
      → CoursesAmid S R over policy (link_agenda policy rate free) a old c u written
  link_stops over p a b old c u written came amid = record { events = amid.events; stop = amid.stop; first = first_in_turn p a b amid.events old came amid.first }

  -- nothing more can be recorded in its turn
  pub link_first : (over : W → Bool) (p : Packet) (a b : Option Left) (old new : Stage C U W) → Came a b (p ∷ []) → SendsFirst S R over policy (λ s. link_turn policy rate p s free) old new
      → CoursesFirst S R over policy (link_agenda policy rate free) a old new
  link_first over p a b old new came sends = record { events = sends.events; made = sends.made; first = first_in_turn p a b sends.events old came sends.first }

  -- no packet is left, and no fault
  whole_here : (l : Left) (s : SourceState) → l.packets ≡ [] → l.fault ≡ None → link_course policy rate l.packets l.fault s free ≡ record { events = (send_all policy rate s free).events; ending = Whole 0 }
  whole_here l s none sound = ap (λ (ps : List Packet). link_course policy rate ps l.fault s free) none ∙ ap (λ (f : Option FaultAt). link_course policy rate [] f s free) sound

  over_before : (a b : Option Left) → Came a b [] → IsOver b → IfSome a (λ l. (l.packets ≡ []) × (l.fault ≡ None))
  over_before None b came over = tt
  over_before (Some l) None came over = absurd came
  over_before (Some l) (Some m) came over = (came.0 ∙ over.0, came.1 ∙ over.1)

  -- all queued packets were sent
  pub link_drains : (free' : ℕ) (a b : Option Left) (old new : Stage C U W) → Came a b [] → IsOver b → Sends S R policy (λ s. send_until policy rate None (size s.tree) s free) free' old new
      → Courses S R policy (link_agenda policy rate free) (Whole 0) a old new
  link_drains free' a b old new came over sends = record { events = sends.events; made = sends.made; told = by_left a (over_before a b came over) }
    where
      by_left : (a : Option Left) → IfSome a (λ l. (l.packets ≡ []) × (l.fault ≡ None)) → IfSome a (λ l. FromEach S policy old (λ s. IsCourse sends.events (Whole 0) (link_agenda policy rate free l s (event_of old.tally))))
      by_left None none = tt
      by_left (Some l) none = λ s sound stood below.
          let e = whole_here l s none.0 none.1 in
          record { are = (sends.told s sound stood below).are ∙ sym (ap (λ (x : Course). x.events) e); ends = sym (ap (λ (x : Course). x.ending) e) }

  -- a prefix of these departures is then a prefix of all events
  first_of_all : (a : Option Left) (events : List Event) (old : Stage C U W) → IfSome a (λ l. (l.packets ≡ []) × (l.fault ≡ None)) → FromEach S policy old (λ s. AreFirst events (send_until policy rate None (size s.tree) s free).events)
      → IfSome a (λ l. FromEach S policy old (λ s. AreFirst events (link_agenda policy rate free l s (event_of old.tally)).events))
  first_of_all None events old none first = tt
  first_of_all (Some l) events old none first = λ s sound stood below.
      let some = first s sound stood below in
      (some.0, some.1 ∙ sym (ap (λ (x : Course). x.events) (whole_here l s none.0 none.1)))

  pub link_drain_stops : (over : W → Bool) (a b : Option Left) (old : Stage C U W) (c : C) (u : U) (written : Option (List ℕ)) → Came a b [] → IsOver b
      → SendsAmid S R over policy (λ s. send_until policy rate None (size s.tree) s free) old c u written → CoursesAmid S R over policy (link_agenda policy rate free) a old c u written
  link_drain_stops over a b old c u written came none amid = record { events = amid.events; stop = amid.stop; first = first_of_all a amid.events old (over_before a b came none) amid.first }

  -- nothing more can be recorded among them
  pub link_drain_first : (over : W → Bool) (a b : Option Left) (old new : Stage C U W) → Came a b [] → IsOver b → SendsFirst S R over policy (λ s. send_until policy rate None (size s.tree) s free) old new
      → CoursesFirst S R over policy (link_agenda policy rate free) a old new
  link_drain_first over a b old new came none sends = record { events = sends.events; made = sends.made; first = first_of_all a sends.events old (over_before a b came none) sends.first }

-- ---- one turn
module _ {C U W : Type 0} (S : Ghosts C U) (R : Recordings W) (laws : AreJoined R.records R.cuts) (policy : Policy) (accepted : IsAccepted policy) (rate : LinkRate) (free : ℕ) (p : Packet) (moment : ℕ) (old : Stage C U W) (moments : FromEach S policy old (λ s. moment ≡ max s.now p.moment)) where
  -- a turn is the due departures, followed by the arrival
  is_turn : (s : SourceState) → moment ≡ max s.now p.moment → (link_turn policy rate p s free).events ≡ (send_until policy rate (Some moment) (size s.tree) s free).events ++ Arrive p ∷ []
  is_turn s e = ap (λ (n : ℕ). (send_until policy rate (Some n) (size s.tree) s free).events ++ Arrive p ∷ []) (sym e)

  pub turn_stops_amid : (over : W → Bool) (c : C) (u : U) (written : Option (List ℕ)) → SendsAmid S R over policy (λ s. send_until policy rate (Some moment) (size s.tree) s free) old c u written
      → SendsAmid S R over policy (λ s. link_turn policy rate p s free) old c u written
  turn_stops_amid over c u written amid = record {
    events = amid.events;
    stop = amid.stop;
    first = λ s sound stood below.
        let first = amid.first s sound stood below in
        (first.0 ++ Arrive p ∷ [], sym (append_assoc amid.events first.0 (Arrive p ∷ [])) ∙ ap (λ (es : List Event). es ++ Arrive p ∷ []) first.1 ∙ sym (is_turn s (moments s sound stood below)));
  }

  -- nothing more can be recorded among the due departures
  pub turn_first : (over : W → Bool) (new : Stage C U W) → SendsFirst S R over policy (λ s. send_until policy rate (Some moment) (size s.tree) s free) old new → SendsFirst S R over policy (λ s. link_turn policy rate p s free) old new
  turn_first over new sends = record {
    events = sends.events;
    made = sends.made;
    first = λ s sound stood below.
        let first = sends.first s sound stood below in
        (first.0 ++ Arrive p ∷ [], sym (append_assoc sends.events first.0 (Arrive p ∷ [])) ∙ ap (λ (es : List Event). es ++ Arrive p ∷ []) first.1 ∙ sym (is_turn s (moments s sound stood below)));
  }

  module _ (mid : Stage C U W) (free' : ℕ) (given : mid.given ≡ old.given) (came : mid.tally.came ≡ old.tally.came) (sends : Sends S R policy (λ s. send_until policy rate (Some moment) (size s.tree) s free) free' old mid) where
    same_given : mid.given ≡ old.given + arrivals_in sends.events
    same_given = omega (arith, given, came, sends.made.came)

    -- the packet can arrive after them, and nothing was pushed
    pub turn_stands : StandForOne S.stands policy old.scheduler old.under (λ s. IsHeldBelow p.number s.held × IsHeldBelow (old.given + 1) s.held) → IsSendable policy p
        → StandForOne S.stands policy mid.scheduler mid.under (λ s. CanArrive policy s p)
    turn_stands one sendable =
        let s = one.state in
        let is = sends.told s one.sound one.stood one.has.1 in
        let at = stands_after S R laws policy accepted sends.events old mid mid.given s sends.made same_given (record { sound = one.sound; stood = one.stood; below = one.has.1 }) in
        let due = sending policy rate (Some moment) (size s.tree) s free in
        let state : after policy sends.events s ≡ (send_until policy rate (Some moment) (size s.tree) s free).state = ap (λ (es : List Event). after policy es s) is.are ∙ due.leads in
        let below : IsHeldBelow p.number (after policy sends.events s).held = subst (λ (t : SourceState). IsHeldBelow p.number t.held) (sym state) (due.keeps p.number one.has.0) in
        record { state = after policy sends.events s; sound = at.sound; stood = at.stood; has = record { fresh = held_none (after policy sends.events s).held p.number below; known = sendable.known; moment = sendable.moment } }

    pub turn_pushes : StandForOne S.stands policy old.scheduler old.under (λ s. IsHeldBelow (old.given + 1) s.held) → S.pushes mid.scheduler ≡ S.pushes old.scheduler
    turn_pushes one =
        let leaves = (sends.made.played one.state one.sound one.stood one.has).leaves in
        let counts : AreOf sends.events (outcomes policy sends.events one.state) = outcomes_of policy sends.events one.state in
        omega (arith, leaves.pushed, counts.pushed_or_dropped, sends.made.came, came)

    pub turn_goes : (free'' : ℕ) (new : Stage C U W) → FromEach S policy mid (λ s. free'' ≡ free_for s moment free') → Makes S R policy (Arrive p ∷ []) mid new → Sends S R policy (λ s. link_turn policy rate p s free) free'' old new
    turn_goes free'' new idle arrives = record {
      events = sends.events ++ Arrive p ∷ [];
      made = makes_both S R laws policy accepted sends.events (Arrive p ∷ []) old mid new same_given sends.made arrives;
      told = λ s sound stood below.
          let is = sends.told s sound stood below in
          let due : Sent = send_until policy rate (Some moment) (size s.tree) s free in
          let at = stands_after S R laws policy accepted sends.events old mid mid.given s sends.made same_given (record { sound = sound; stood = stood; below = below }) in
          let state : after policy sends.events s ≡ due.state = ap (λ (es : List Event). after policy es s) is.are ∙ (sending policy rate (Some moment) (size s.tree) s free).leads in
          let e = moments s sound stood below in
          record {
            are = ap (λ (es : List Event). es ++ Arrive p ∷ []) is.are ∙ sym (is_turn s e);
            is_free = idle (after policy sends.events s) at.sound at.stood at.below
                ∙ ap (λ (t : SourceState). free_for t moment free') state
                ∙ ap (free_for due.state moment) is.is_free
                ∙ ap (λ (n : ℕ). free_for (send_until policy rate (Some n) (size s.tree) s free).state n (send_until policy rate (Some n) (size s.tree) s free).free) e;
          };
    }

    pub turn_stops : (over : W → Bool) (c : C) (u : U) (written : Option (List ℕ)) → over mid.recorder ≡ false → Stops S R policy (Arrive p ∷ []) mid c u written → SendsAmid S R over policy (λ s. link_turn policy rate p s free) old c u written
    turn_stops over c u written going stop = record {
      events = sends.events ++ Arrive p ∷ [];
      stop = record {
        before = sends.events;
        last = Arrive p ∷ [];
        are = refl;
        few = omega arith;
        amid = mid;
        made = sends.made;
        given = same_given;
        going = going;
        stop = stop;
      };
      first = λ s sound stood below. ([], append-nil (sends.events ++ Arrive p ∷ []) ∙ ap (λ (es : List Event). es ++ Arrive p ∷ []) (sends.told s sound stood below).are ∙ sym (is_turn s (moments s sound stood below)));
    }
