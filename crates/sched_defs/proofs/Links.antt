-- The events of a run that a link paces can be made: each packet arrives, and each departure takes
-- one.
use Rattle.sched_defs.proofs.Prelude.{◌≡◌, List, [], arith, ℕ, ◌∷◌, Some, ap, refl, subst, sym, ◌+◌, suc, zero, Option, ◌++◌, ◌∙◌, None, false, ◌≤◌, Bool, true, ◌<◌, if◌then◌else◌, inl, inr, max, ltb-false, ltb-true, option_map_or, Packet, IsAccepted, Policy, size, CanArrive, Depart, Event, after, outcomes, Arrive, CanMake, Outcome, dropped_in, pushed_in, Arrived, Dropped, departure, empty_in, outcome, FaultAt, CanBeSent, IsHeldBelow, send_time, IsSound, SourceState, departed, arrival_ranks, arrived, class_of, Leaver, is_full, leaver}
use Rattle.sched_defs.specs.Laws.{IsLinkRun, IsSentBefore, IsSentBeforeEach}
use Rattle.sched_defs.specs.Link.{Sent, sent_nothing, sent_first, is_due, send_until, send_due, send_all, link_turn, link_course}
use Rattle.sched_defs.specs.declared.rate.LinkRate.{LinkRate}
use Rattle.sched_defs.proofs.Runs.{sound_after, CanMake-joined, after-append, outcomes-append, pushed_in-append, dropped_in-append, empty_in-append, arrivals_count}
use Rattle.sched_defs.proofs.Courses.{held_none, held_arrived, held_departed}
use Rattle.sched_defs.proofs.Soundness.{sound_departed}
use Rattle.sched_defs.proofs.Leaving.{leaver-none, size_departed}

-- an arrival is no departure
arrival_finds : (policy : Policy) (p : Packet) (s : SourceState) → empty_in (outcome policy (Arrive p) s ∷ []) ≡ 0
arrival_finds policy p s = by_test (is_full policy p s)
  where
    by_test : (t : Bool) → empty_in ((if t then Dropped p (class_of policy p).leaf else Arrived p (class_of policy p).leaf (arrival_ranks policy p s)) ∷ []) ≡ 0
    by_test true = refl
    by_test false = refl

-- departures that a link makes in a row: each takes a packet
pub record IsSending (policy : Policy) (s : SourceState) (sent : Sent) : Type 0 where
  pub can : CanMake policy sent.events s
  pub leads : after policy sent.events s ≡ sent.state
  pub keeps : (n : ℕ) → IsHeldBelow n s.held → IsHeldBelow n sent.state.held
  pub pushed : pushed_in (outcomes policy sent.events s) ≡ 0
  pub dropped : dropped_in (outcomes policy sent.events s) ≡ 0
  pub empty : empty_in (outcomes policy sent.events s) ≡ 0

module _ (policy : Policy) where
  nothing_sent : (s : SourceState) (free : ℕ) → IsSending policy s (sent_nothing s free)
  nothing_sent s free = record { can = tt; leads = refl; keeps = λ n below. below; pushed = refl; dropped = refl; empty = refl }

  one_sent : (s : SourceState) (free : ℕ) (l : Leaver) (sent : Sent) → leaver s ≡ Some l → IsSending policy (departed policy s) sent → IsSending policy s (sent_first (Depart (Some free)) sent)
  one_sent s free l sent e rest = record {
    can = rest.can;
    leads = rest.leads;
    keeps = λ n below. rest.keeps n (held_departed policy s n below);
    pushed = ap (λ (o : Option Leaver). pushed_in (departure (Some free) o ∷ outcomes policy sent.events (departed policy s))) e ∙ rest.pushed;
    dropped = ap (λ (o : Option Leaver). dropped_in (departure (Some free) o ∷ outcomes policy sent.events (departed policy s))) e ∙ rest.dropped;
    empty = ap (λ (o : Option Leaver). empty_in (departure (Some free) o ∷ outcomes policy sent.events (departed policy s))) e ∙ rest.empty;
  }

  by_leaver : (s : SourceState) (free : ℕ) (next : Leaver → Sent) → ((l : Leaver) → IsSending policy (departed policy s) (next l)) → (o : Option Leaver) → leaver s ≡ o
      → IsSending policy s (option_map_or (λ l. sent_first (Depart (Some free)) (next l)) o (sent_nothing s free))
  by_leaver s free next rest None e = nothing_sent s free
  by_leaver s free next rest (Some l) e = one_sent s free l (next l) e (rest l)

  by_due : (s : SourceState) (free : ℕ) (sent : Sent) (t : Bool) → IsSending policy s sent → IsSending policy s (if t then sent else sent_nothing s free)
  by_due s free sent true rest = rest
  by_due s free sent false rest = nothing_sent s free

  pub sending : (rate : LinkRate) (until : Option ℕ) (n : ℕ) (s : SourceState) (free : ℕ) → IsSending policy s (send_until policy rate until n s free)
  sending rate until zero s free = nothing_sent s free
  sending rate until (suc n) s free =
      by_due s free (option_map_or (λ l. sent_first (Depart (Some free)) (send_until policy rate until n (departed policy s) (free + send_time l.packet.len rate))) (leaver s) (sent_nothing s free)) (is_due until free)
      (by_leaver s free (λ l. send_until policy rate until n (departed policy s) (free + send_time l.packet.len rate))
      (λ l. sending rate until n (departed policy s) (free + send_time l.packet.len rate)) (leaver s) refl)

-- ---- the departures that are due at a packet's timestamp, and its arrival
module _ (policy : Policy) (rate : LinkRate) (p : Packet) (s : SourceState) (free : ℕ) where
  abbrev due : Sent
  due = send_due policy rate (max s.now p.moment) s free

  abbrev w : IsSending policy s due
  w = sending policy rate (Some (max s.now p.moment)) (size s.tree) s free

  pub turn_leads : after policy (link_turn policy rate p s free).events s ≡ (link_turn policy rate p s free).state
  turn_leads = after-append policy due.events (Arrive p ∷ []) s ∙ ap (arrived policy p) w.leads

  turn_tells : outcomes policy (link_turn policy rate p s free).events s ≡ outcomes policy due.events s ++ outcome policy (Arrive p) due.state ∷ []
  turn_tells = outcomes-append policy due.events (Arrive p ∷ []) s ∙ ap (λ (t : SourceState). outcomes policy due.events s ++ outcome policy (Arrive p) t ∷ []) w.leads

  pub turn_empty : empty_in (outcomes policy (link_turn policy rate p s free).events s) ≡ 0
  turn_empty = ap empty_in turn_tells ∙ empty_in-append (outcomes policy due.events s) (outcome policy (Arrive p) due.state ∷ []) ∙ omega (arith, w.empty, arrival_finds policy p due.state)

  module _ (first : ℕ) (packets : List Packet) (can : CanBeSent policy first (p ∷ packets) s) where
    turn_arrives : CanArrive policy due.state p
    turn_arrives = record {
      fresh = ap due.state.held can.numbered.0 ∙ held_none due.state.held first (w.keeps first can.held);
      known = can.sendable.0.known;
      moment = can.sendable.0.moment;
    }

    turn_can : CanMake policy (link_turn policy rate p s free).events s
    turn_can = CanMake-joined policy due.events (Arrive p ∷ []) s w.can (subst (λ (t : SourceState). CanMake policy (Arrive p ∷ []) t) (sym w.leads) (turn_arrives, tt))

    turn_rest : CanBeSent policy (first + 1) packets (link_turn policy rate p s free).state
    turn_rest = record { numbered = can.numbered.1; sendable = can.sendable.1; held = held_arrived policy p due.state first can.numbered.0 (w.keeps first can.held) }

    -- the packet is pushed or dropped
    turn_counts : IsAccepted policy → IsSound policy s → pushed_in (outcomes policy (link_turn policy rate p s free).events s) + dropped_in (outcomes policy (link_turn policy rate p s free).events s) ≡ 1
    turn_counts accepted sound =
        let one = arrivals_count policy (p ∷ []) due.state accepted (subst (IsSound policy) w.leads (sound_after policy due.events s accepted sound w.can)) (turn_arrives, tt) in
        let os : List Outcome = outcomes policy due.events s in
        let o : Outcome = outcome policy (Arrive p) due.state in
        omega (arith, ap pushed_in turn_tells, ap dropped_in turn_tells, pushed_in-append os (o ∷ []), dropped_in-append os (o ∷ []), w.pushed, w.dropped, one.pushed_or_dropped)

pub link_can : (policy : Policy) (rate : LinkRate) (packets : List Packet) (fault : Option FaultAt) (first : ℕ) (s : SourceState) (free : ℕ) → CanBeSent policy first packets s → CanMake policy (link_course policy rate packets fault s free).events s
link_can policy rate [] None first s free can = (sending policy rate None (size s.tree) s free).can
link_can policy rate [] (Some fault) first s free can = tt
link_can policy rate (p ∷ packets) fault first s free can =
    let now : Sent = link_turn policy rate p s free in
    CanMake-joined policy now.events (link_course policy rate packets fault now.state now.free).events s (turn_can policy rate p s free first packets can)
    (subst (λ (z : SourceState). CanMake policy (link_course policy rate packets fault now.state now.free).events z) (sym (turn_leads policy rate p s free))
    (link_can policy rate packets fault (first + 1) now.state now.free (turn_rest policy rate p s free first packets can)))

-- ---- after a link's run
module _ (policy : Policy) (rate : LinkRate) (accepted : IsAccepted policy) where
  -- a departure for each queued packet leaves none
  pub all_sent : (n : ℕ) (s : SourceState) (free : ℕ) → IsSound policy s → size s.tree ≤ n → size (send_until policy rate None n s free).state.tree ≡ 0
  all_sent zero s free sound few = omega arith
  all_sent (suc n) s free sound few = by_leaver (λ after. all_sent n (departed policy s) after (sound_departed policy s accepted sound) (omega (arith, size_departed policy s sound, few))) (leaver s) refl
    where
      by_leaver : ((after : ℕ) → size (send_until policy rate None n (departed policy s) after).state.tree ≡ 0) → (o : Option Leaver) → leaver s ≡ o
          → size (option_map_or (λ l. sent_first (Depart (Some free)) (send_until policy rate None n (departed policy s) (free + send_time l.packet.len rate))) o (sent_nothing s free)).state.tree ≡ 0
      by_leaver rest None e = (leaver-none policy s sound).0 e
      by_leaver rest (Some l) e = rest (free + send_time l.packet.len rate)

  -- before a timestamp, the departures stop only if no packet is queued or the link isn't free
  -- before it
  sent_before : (moment n : ℕ) (s : SourceState) (free : ℕ) → IsSound policy s → size s.tree ≤ n → IsSentBefore moment (send_until policy rate (Some moment) n s free)
  sent_before moment zero s free sound few = record { early = tt; stops = inl (omega arith) }
  sent_before moment (suc n) s free sound few =
      by_due (λ after. sent_before moment n (departed policy s) after (sound_departed policy s accepted sound) (omega (arith, size_departed policy s sound, few))) (is_due (Some moment) free) refl
    where
      next : Leaver → Sent
      next l = send_until policy rate (Some moment) n (departed policy s) (free + send_time l.packet.len rate)

      Rest : Type 0
      Rest = (after : ℕ) → IsSentBefore moment (send_until policy rate (Some moment) n (departed policy s) after)

      by_leaver : free < moment → Rest → (o : Option Leaver) → leaver s ≡ o → IsSentBefore moment (option_map_or (λ l. sent_first (Depart (Some free)) (next l)) o (sent_nothing s free))
      by_leaver due rest None e = record { early = tt; stops = inl ((leaver-none policy s sound).0 e) }
      by_leaver due rest (Some l) e =
          let more = rest (free + send_time l.packet.len rate) in
          record { early = (due, more.early); stops = more.stops }

      by_due : Rest → (t : Bool) → is_due (Some moment) free ≡ t → IsSentBefore moment (if t then option_map_or (λ l. sent_first (Depart (Some free)) (next l)) (leaver s) (sent_nothing s free) else sent_nothing s free)
      by_due rest true e = by_leaver (ltb-true free moment e) rest (leaver s) refl
      by_due rest false e = record { early = tt; stops = inr (ltb-false free moment e) }

  pub due_sent : (moment : ℕ) (s : SourceState) (free : ℕ) → IsSound policy s → IsSentBefore moment (send_due policy rate moment s free)
  due_sent moment s free sound = sent_before moment (size s.tree) s free sound (omega arith)

  pub due_sent_each : (packets : List Packet) (first : ℕ) (s : SourceState) (free : ℕ) → IsSound policy s → CanBeSent policy first packets s → IsSentBeforeEach policy rate packets s free
  due_sent_each [] first s free sound can = tt
  due_sent_each (p ∷ packets) first s free sound can =
      let turn : Sent = link_turn policy rate p s free in (
        due_sent (max s.now p.moment) s free sound,
        due_sent_each packets (first + 1) turn.state turn.free
            (subst (IsSound policy) (turn_leads policy rate p s free) (sound_after policy turn.events s accepted sound (turn_can policy rate p s free first packets can)))
            (turn_rest policy rate p s free first packets can),
      )

  pub link_leaves : (packets : List Packet) (fault : Option FaultAt) (first : ℕ) (s : SourceState) (free : ℕ) → IsSound policy s → CanBeSent policy first packets s
      → IsLinkRun policy packets fault s (link_course policy rate packets fault s free).events
  link_leaves [] None first s free sound can =
      let w : IsSending policy s (send_all policy rate s free) = sending policy rate None (size s.tree) s free in
      record {
        arrivals = omega (arith, w.pushed, w.dropped);
        empty = w.empty;
        drained = λ whole. ap (λ (t : SourceState). size t.tree) w.leads ∙ all_sent (size s.tree) s free sound (omega arith);
      }
  link_leaves [] (Some fault) first s free sound can = record { arrivals = refl; empty = refl; drained = λ whole. cc }
  link_leaves (p ∷ packets) fault first s free sound can =
      let now : Sent = link_turn policy rate p s free in
      let leads = turn_leads policy rate p s free in
      let counts = turn_counts policy rate p s free first packets can accepted sound in
      let rest : IsLinkRun policy packets fault now.state (link_course policy rate packets fault now.state now.free).events =
      link_leaves packets fault (first + 1) now.state now.free (subst (IsSound policy) leads (sound_after policy now.events s accepted sound (turn_can policy rate p s free first packets can))) (turn_rest policy rate p s free first packets can) in
      let more : List Event = (link_course policy rate packets fault now.state now.free).events in
      let os : List Outcome = outcomes policy now.events s in
      let qs : List Outcome = outcomes policy more now.state in
      let all : outcomes policy (now.events ++ more) s ≡ os ++ qs = outcomes-append policy now.events more s ∙ ap (λ (z : SourceState). os ++ outcomes policy more z) leads in
      record {
        arrivals = omega (arith, ap pushed_in all, ap dropped_in all, pushed_in-append os qs, dropped_in-append os qs, counts, rest.arrivals);
        empty = omega (arith, ap empty_in all, empty_in-append os qs, turn_empty policy rate p s free, rest.empty);
        drained = λ whole. ap (λ (z : SourceState). size z.tree) (after-append policy now.events more s ∙ ap (after policy more) leads) ∙ rest.drained whole;
      }
