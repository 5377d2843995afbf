-- The results of each step of a script.
use Rattle.sched_run.proofs.Prelude.{ℕ, arith, None, ◌∙◌, ◌≡◌, refl, sym, List, [], ◌+◌, ap, Some, ◌≤◌, Option, ◌++◌, length, append-nil, false, replicate, ◌<◌, Bool, ◌-◌, map, true, Ok, drop, length-append, nat_lt, take, map-append, take_all, IfSome, IfOk, OnErr, Result, Err, Packet, IsAccepted, Policy, ForEachState, Ghosts, Depart, Event, FaultAt, Left, Came, IsOver, Step, left_by, step_events, stop_at, Arrivals, Departures, Drain, Rest, ends_at_fault, SourceState, Ending, Whole, BadCapture, PastLast, size, Recordings, Makes, Stage, event_of, Stops, FromEach, Arrives, StopsAmid, AreFirst, ArrivalsStop, Turns, CameUntil, IsTurn, WereFirst, CameOf}
use Rattle.std.proofs.lemmas.Bool.{ltb-true, lt-ltb}
use Rattle.std.proofs.Math.Seq.{take-append_seam, drop-append_seam, take-append-add}
use Rattle.sched_defs.specs.Events.{Arrive}
use Rattle.sched_run.proofs.EventCounts.{empty_in-arrivals, empty_in-departures, empty_in-drain}

pub if_ok_turned : {T E : Type 0} (r : Result T E) (P Q : T → Type 0) → ((t : T) → P t → Q t) → IfOk r P → IfOk r Q
if_ok_turned (Ok t) P Q f h = f t h
if_ok_turned (Err e) P Q f h = tt

pub on_err_turned : {T E : Type 0} (r : Result T E) (P Q : Type 0) → (P → Q) → OnErr r P → OnErr r Q
on_err_turned (Ok t) P Q f h = tt
on_err_turned (Err e) P Q f h = f h

pub on_err_given : {T E : Type 0} (r : Result T E) (P : Type 0) → P → OnErr r P
on_err_given (Ok t) P p = tt
on_err_given (Err e) P p = p

take_behind : (n : ℕ) (xs ys : List Packet) → length xs ≤ n → take n (xs ++ ys) ≡ xs ++ take (n - length xs) ys
take_behind n xs ys most =
    let e : n ≡ length xs + (n - length xs) = omega arith in
    ap (λ (k : ℕ). take k (xs ++ ys)) e ∙ take-append-add xs ys (n - length xs)

left_is : (l : Left) (packets : List Packet) (fault : Option FaultAt) → l.packets ≡ packets → l.fault ≡ fault → Some l ≡ Some (record { packets = packets; fault = fault })
left_is l packets fault e f = rw (sym e, sym f) refl

-- ---- the rest
rest_over : (event : ℕ) (events : List Event) (ps : List Packet) (l : Left) (after : Option Left) (s : SourceState) → Came (Some l) after ps → IsOver after → events ≡ map Arrive ps → IsTurn Rest None event events l after s
rest_over event events ps l None s came over e = absurd came
rest_over event events ps l (Some n) s came over e =
    let all : l.packets ≡ ps = came.0 ∙ ap (λ (z : List Packet). ps ++ z) over.0 ∙ append-nil ps in
    record {
      are = e ∙ ap (map Arrive) (sym all);
      ends = rw (came.1 ∙ over.1) refl;
      rest = left_is n [] l.fault over.0 (sym came.1);
    }

rest_broken : (x y event : ℕ) (events : List Event) (ps : List Packet) (l : Left) (after : Option Left) (s : SourceState) → l.packets ≡ ps → (l.fault ≡ Some (record { code = x; place = y })) → events ≡ map Arrive ps → IsTurn Rest (Some (BadCapture x y)) event events l after s
rest_broken x y event events ps l after s all fault e = record {
  are = e ∙ ap (map Arrive) (sym all);
  ends = rw fault refl;
  rest = tt;
}

module _ {C U W : Type 0} (S : Ghosts C U) (R : Recordings W) (policy : Policy) where
  turns_rest : (m e : ℕ) (a c : Option Left) (old new : Stage C U W) → Arrives S R policy m (Some (PastLast e)) a c old new → Turns S R policy Rest None a c old new
  turns_rest m e a c old new all = record {
    events = map Arrive all.packets;
    made = all.made;
    few = λ s sound stood below. omega (arith, empty_in-arrivals policy all.packets s);
    told = by_left a all.came.1;
  }
    where
      by_left : (a : Option Left) → Came a c all.packets → IfSome a (λ l. FromEach S policy old (λ s. IsTurn Rest None (event_of new.tally) (map Arrive all.packets) l c s))
      by_left None came = tt
      by_left (Some l) came = λ s sound stood below. rest_over (event_of new.tally) (map Arrive all.packets) all.packets l c s came all.came.2 refl

  breaks_rest : (m x y : ℕ) (a c : Option Left) (old new : Stage C U W) → Arrives S R policy m (Some (BadCapture x y)) a c old new → Turns S R policy Rest (Some (BadCapture x y)) a c old new
  breaks_rest m x y a c old new all = record {
    events = map Arrive all.packets;
    made = all.made;
    few = λ s sound stood below. omega (arith, empty_in-arrivals policy all.packets s);
    told = by_left a all.came;
  }
    where
      by_left : (a : Option Left) → IfSome a (λ l. (l.packets ≡ all.packets) × (l.fault ≡ Some (record { code = x; place = y }))) → IfSome a (λ l. FromEach S policy old (λ s. IsTurn Rest (Some (BadCapture x y)) (event_of new.tally) (map Arrive all.packets) l c s))
      by_left None came = tt
      by_left (Some l) came = λ s sound stood below. rest_broken x y (event_of new.tally) (map Arrive all.packets) all.packets l c s came.0 came.1 refl

  -- all packets left arrived, up to the fault if there is one
  pub rest_done : (m : ℕ) (e : Ending) (a c : Option Left) (old new : Stage C U W) → Arrives S R policy m (Some e) a c old new → Turns S R policy Rest (ends_at_fault e) a c old new
  rest_done m (Whole n) a c old new all = absurd all.came
  rest_done m (PastLast n) a c old new all = turns_rest m n a c old new all
  rest_done m (BadCapture x y) a c old new all = breaks_rest m x y a c old new all

  -- some of them arrived, and then one stopped
  pub rest_stops : (m : ℕ) (a : Option Left) (old : Stage C U W) (c : C) (u : U) (written : Option (List ℕ)) → ArrivalsStop S R policy m a old c u written → StopsAmid S R policy (λ l s. step_events Rest l.packets s) a old c u written
  rest_stops m a old c u written stop = record { events = map Arrive stop.packets; stop = stop.stop; first = by_left a stop.first }
    where
      by_left : (a : Option Left) → WereFirst a stop.packets → IfSome a (λ l. FromEach S policy old (λ s. AreFirst (map Arrive stop.packets) (step_events Rest l.packets s)))
      by_left None first = tt
      by_left (Some l) first = λ s sound stood below. (map Arrive first.0, sym (map-append Arrive stop.packets first.0) ∙ ap (map Arrive) first.1)

-- ---- arrivals
below_yes : (a b : ℕ) → a < b → nat_lt a b ≡ true
below_yes a b below = lt-ltb a b below

below_no : (a b : ℕ) → b ≤ a → nat_lt a b ≡ false
below_no a b above = by_test (nat_lt a b) refl
  where
    by_test : (t : Bool) → nat_lt a b ≡ t → nat_lt a b ≡ false
    by_test true e = let l : a < b = ltb-true a b e in absurd (omega arith)
    by_test false e = e

some_all : (n event : ℕ) (ps : List Packet) (l : Left) (after : Option Left) (s : SourceState) → Came (Some l) after ps → length ps ≡ n → IsTurn (Arrivals n) None event (map Arrive ps) l after s
some_all n event ps l None s came count = absurd came
some_all n event ps l (Some m) s came count =
    let front : take n l.packets ≡ ps = rw (came.0, sym count) (take-append_seam ps m.packets) in
    let back : drop n l.packets ≡ m.packets = rw (came.0, sym count) (drop-append_seam ps m.packets) in
    let enough : n ≤ length l.packets = omega (arith, ap (λ (z : List Packet). length z) came.0, length-append ps m.packets, count) in
    record {
      are = ap (map Arrive) (sym front);
      ends = rw (below_no (length l.packets) n enough) refl;
      rest = left_is m (drop n l.packets) l.fault (sym back) (sym came.1);
    }

some_past : (n event x : ℕ) (ps : List Packet) (l : Left) (after : Option Left) (s : SourceState) → Came (Some l) after ps → IsOver after → length ps < n → x ≡ event → IsTurn (Arrivals n) (Some (PastLast x)) event (map Arrive ps) l after s
some_past n event x ps l None s came over count e = absurd came
some_past n event x ps l (Some m) s came over count e =
    let all : l.packets ≡ ps = came.0 ∙ ap (λ (z : List Packet). ps ++ z) over.0 ∙ append-nil ps in
    let fewer : length l.packets < n = omega (arith, ap (λ (z : List Packet). length z) all, count) in
    record {
      are = ap (map Arrive) (sym (take_all n l.packets (omega (arith, fewer)) ∙ all));
      ends = rw (below_yes (length l.packets) n fewer, came.1 ∙ over.1, e) refl;
      rest = tt;
    }

some_broken : (n event x y : ℕ) (ps : List Packet) (l : Left) (after : Option Left) (s : SourceState) → l.packets ≡ ps → (l.fault ≡ Some (record { code = x; place = y })) → length ps < n → IsTurn (Arrivals n) (Some (BadCapture x y)) event (map Arrive ps) l after s
some_broken n event x y ps l after s all fault count =
    let fewer : length l.packets < n = omega (arith, ap (λ (z : List Packet). length z) all, count) in
    record {
      are = ap (map Arrive) (sym (take_all n l.packets (omega (arith, fewer)) ∙ all));
      ends = rw (below_yes (length l.packets) n fewer, fault) refl;
      rest = tt;
    }

module _ {C U W : Type 0} (S : Ghosts C U) (R : Recordings W) (policy : Policy) where
  pub some_done : (n : ℕ) (e : Option Ending) (a c : Option Left) (old new : Stage C U W) → Arrives S R policy n e a c old new → Turns S R policy (Arrivals n) e a c old new
  some_done n e a c old new all = record {
    events = map Arrive all.packets;
    made = all.made;
    few = λ s sound stood below. omega (arith, empty_in-arrivals policy all.packets s);
    told = by_left a e all.came all.count;
  }
    where
      by_left : (a : Option Left) (e : Option Ending) → CameUntil e (event_of new.tally) a c all.packets → CameOf e n (length all.packets) → IfSome a (λ l. FromEach S policy old (λ s. IsTurn (Arrivals n) e (event_of new.tally) (map Arrive all.packets) l c s))
      by_left None e came count = tt
      by_left (Some l) None came count = λ s sound stood below. some_all n (event_of new.tally) all.packets l c s came count
      by_left (Some l) (Some (Whole x)) came count = absurd came
      by_left (Some l) (Some (PastLast x)) came count = λ s sound stood below. some_past n (event_of new.tally) x all.packets l c s came.1 came.2 count came.0
      by_left (Some l) (Some (BadCapture x y)) came count = λ s sound stood below. some_broken n (event_of new.tally) x y all.packets l c s came.0 came.1 count

  -- some of them arrived, and then one stopped
  pub some_stops : (n : ℕ) (a : Option Left) (old : Stage C U W) (c : C) (u : U) (written : Option (List ℕ)) → ArrivalsStop S R policy n a old c u written → StopsAmid S R policy (λ l s. step_events (Arrivals n) l.packets s) a old c u written
  some_stops n a old c u written stop = record { events = map Arrive stop.packets; stop = stop.stop; first = by_left a stop.first }
    where
      by_left : (a : Option Left) → WereFirst a stop.packets → IfSome a (λ l. FromEach S policy old (λ s. AreFirst (map Arrive stop.packets) (step_events (Arrivals n) l.packets s)))
      by_left None first = tt
      by_left (Some l) first = λ s sound stood below.
          let spare : ℕ = n - length stop.packets in
          let split : take n l.packets ≡ stop.packets ++ take spare first.0 = rw (sym first.1) (take_behind n stop.packets first.0 stop.count) in
          (map Arrive (take spare first.0), sym (map-append Arrive stop.packets (take spare first.0)) ∙ ap (map Arrive) (sym split))

-- ---- departures
module _ {C U W : Type 0} (S : Ghosts C U) (R : Recordings W) (policy : Policy) where
  same_left : (step : Step) (events : List Event) (event : ℕ) (l : Left) (s : SourceState) → events ≡ step_events step l.packets s → None ≡ stop_at step l.packets l.fault event → left_by step l.packets ≡ l.packets → IsTurn step None event events l (Some l) s
  same_left step events event l s are ends left = record { are = are; ends = ends; rest = left_is l (left_by step l.packets) l.fault (sym left) refl }

  pub departures_done : (n : ℕ) (a : Option Left) (old new : Stage C U W) → Makes S R policy (replicate n (Depart None)) old new → Turns S R policy (Departures n) None a a old new
  departures_done n a old new made = record {
    events = replicate n (Depart None);
    made = made;
    few = λ s sound stood below. empty_in-departures policy n s;
    told = by_left a;
  }
    where
      by_left : (a : Option Left) → IfSome a (λ l. FromEach S policy old (λ s. IsTurn (Departures n) None (event_of new.tally) (replicate n (Depart None)) l a s))
      by_left None = tt
      by_left (Some l) = λ s sound stood below. same_left (Departures n) (replicate n (Depart None)) (event_of new.tally) l s refl refl refl

  pub departures_stop : (n : ℕ) (a : Option Left) (old : Stage C U W) (c : C) (u : U) (written : Option (List ℕ)) → Stops S R policy (replicate n (Depart None)) old c u written → StopsAmid S R policy (λ l s. step_events (Departures n) l.packets s) a old c u written
  departures_stop n a old c u written stop = record { events = replicate n (Depart None); stop = stop; first = by_left a }
    where
      by_left : (a : Option Left) → IfSome a (λ l. FromEach S policy old (λ s. AreFirst (replicate n (Depart None)) (replicate n (Depart None))))
      by_left None = tt
      by_left (Some l) = λ s sound stood below. ([], append-nil (replicate n (Depart None)))

  -- one departure for each queued packet
  pub drain_done : (accepted : IsAccepted policy) (n : ℕ) (a : Option Left) (old new : Stage C U W) → ForEachState S.stands policy old.scheduler old.under (λ s. n ≡ size s.tree) → Makes S R policy (replicate n (Depart None)) old new → Turns S R policy Drain None a a old new
  drain_done accepted n a old new held made = record {
    events = replicate n (Depart None);
    made = made;
    few = λ s sound stood below. omega (arith, empty_in-drain policy n s accepted sound (held s sound stood));
    told = by_left a;
  }
    where
      by_left : (a : Option Left) → IfSome a (λ l. FromEach S policy old (λ s. IsTurn Drain None (event_of new.tally) (replicate n (Depart None)) l a s))
      by_left None = tt
      by_left (Some l) = λ s sound stood below. same_left Drain (replicate n (Depart None)) (event_of new.tally) l s (ap (λ (k : ℕ). replicate k (Depart None)) (held s sound stood)) refl refl

  pub drain_stops : (n : ℕ) (a : Option Left) (old : Stage C U W) (c : C) (u : U) (written : Option (List ℕ)) → ForEachState S.stands policy old.scheduler old.under (λ s. n ≡ size s.tree) → Stops S R policy (replicate n (Depart None)) old c u written → StopsAmid S R policy (λ l s. step_events Drain l.packets s) a old c u written
  drain_stops n a old c u written held stop = record { events = replicate n (Depart None); stop = stop; first = by_left a }
    where
      by_left : (a : Option Left) → IfSome a (λ l. FromEach S policy old (λ s. AreFirst (replicate n (Depart None)) (replicate (size s.tree) (Depart None))))
      by_left None = tt
      by_left (Some l) = λ s sound stood below. ([], append-nil (replicate n (Depart None)) ∙ ap (λ (k : ℕ). replicate k (Depart None)) (held s sound stood))
