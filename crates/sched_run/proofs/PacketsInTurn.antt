-- Packets that are read one after another, and arrive.
use Rattle.sched_run.proofs.Prelude.{ℕ, arith, None, ◌∙◌, ◌≡◌, refl, sym, List, subst, [], ◌+◌, ap, Some, ◌≤◌, Option, ◌++◌, false, ◌<◌, append_assoc, ◌-◌, map, true, ◌^◌, length-append, is_some, map-append, Packet, IsAccepted, Policy, StandForOne, Ghosts, Event, outcomes, IsHeldBelow, Left, Came, Ending, Whole, BadCapture, PastLast, Sight, Recordings, AreJoined, Makes, Stage, event_of, Stops, stage, departures_in, HasRoom, Arrives, ArrivalsStop, CameUntil, WereFirst, Tally}
use Rattle.sched_defs.specs.Events.{Arrive}
use Rattle.sched_run.proofs.EventCounts.{AreOf, outcomes_of}
use Rattle.sched_run.proofs.MadeEvents.{stands_after, makes_none, makes_both, stops_later}

pub some_is : {X : Type 0} (o : Option X) → is_some o ≡ true → (x : X) × (o ≡ Some x)
some_is None e = cc
some_is (Some x) e = (x, refl)

pub none_is : {X : Type 0} (o : Option X) → is_some o ≡ false → o ≡ None
none_is None e = refl
none_is (Some x) e = cc

-- fewer packets may arrive after one more
pub fewer_left : (given before : ℕ) → given ≡ before + 1 → given ≤ 4294967295 → 4294967296 - given < 4294967296 - before
fewer_left given before one few = omega (arith, one, few)

pub none_first : (before : Option Left) → WereFirst before []
none_first None = tt
none_first (Some l) = (l.packets, refl)

pub one_first : (before after : Option Left) (ps : List Packet) → Came before after ps → WereFirst before ps
one_first None after ps came = tt
one_first (Some l) None ps came = absurd came
one_first (Some l) (Some m) ps came = (m.packets, sym came.0)

-- packets, and then some more
pub came_both : (a b c : Option Left) (ps qs : List Packet) → Came a b ps → Came b c qs → Came a c (ps ++ qs)
came_both None b c ps qs first second = tt
came_both (Some l) None c ps qs first second = absurd first
came_both (Some l) (Some m) None ps qs first second = absurd second
came_both (Some l) (Some m) (Some n) ps qs first second = (
  first.0 ∙ ap (λ (x : List Packet). ps ++ x) second.0 ∙ sym (append_assoc ps qs n.packets),
  first.1 ∙ second.1,
)

pub came_none : (a : Option Left) → Came a a []
came_none None = tt
came_none (Some l) = (refl, refl)

first_both : (a b : Option Left) (ps qs : List Packet) → Came a b ps → WereFirst b qs → WereFirst a (ps ++ qs)
first_both None b ps qs came first = tt
first_both (Some l) None ps qs came first = absurd came
first_both (Some l) (Some m) ps qs came first = (first.0, append_assoc ps qs first.0 ∙ ap (λ (x : List Packet). ps ++ x) first.1 ∙ sym came.0)

until_both : (e : Ending) (event : ℕ) (a b c : Option Left) (ps qs : List Packet) → Came a b ps → CameUntil (Some e) event b c qs → CameUntil (Some e) event a c (ps ++ qs)
until_both (Whole n) event a b c ps qs came until = absurd until
until_both (PastLast n) event a b c ps qs came until = (until.0, came_both a b c ps qs came until.1, until.2)
until_both (BadCapture x y) event None b c ps qs came until = tt
until_both (BadCapture x y) event (Some l) None c ps qs came until = absurd came
until_both (BadCapture x y) event (Some l) (Some m) c ps qs came until =
    (came.0 ∙ ap (λ (z : List Packet). ps ++ z) until.0, came.1 ∙ until.1)

-- ---- the conditions of the next call
module _ {C U W : Type 0} (S : Ghosts C U) (R : Recordings W) (laws : AreJoined R.records R.cuts) (policy : Policy) (accepted : IsAccepted policy) where
  pub one_after : (es : List Event) (old new : Stage C U W) → new.given + old.tally.came ≡ old.given + new.tally.came → Makes S R policy es old new →
      StandForOne S.stands policy old.scheduler old.under (λ s. IsHeldBelow (old.given + 1) s.held) → StandForOne S.stands policy new.scheduler new.under (λ s. IsHeldBelow (new.given + 1) s.held)
  one_after es old new given made one =
      let at = stands_after S R laws policy accepted es old new new.given one.state made (omega (arith, given, made.came)) (record { sound = one.sound; stood = one.stood; below = one.has }) in
      record { state = _; sound = at.sound; stood = at.stood; has = at.below }

  pub room_after : (es : List Event) (old new : Stage C U W) → new.given + old.tally.came ≡ old.given + new.tally.came → new.given ≤ 4294967295 → old.tally.asked + departures_in es ≤ 2 ^ 34 → Makes S R policy es old new →
      StandForOne S.stands policy old.scheduler old.under (λ s. IsHeldBelow (old.given + 1) s.held) →
      HasRoom (S.pushes old.scheduler) (S.departures old.scheduler) old.given old.tally → HasRoom (S.pushes new.scheduler) (S.departures new.scheduler) new.given new.tally
  room_after es old new given few short made one room =
      let leaves = (made.played one.state one.sound one.stood one.has).leaves in
      let counts : AreOf es (outcomes policy es one.state) = outcomes_of policy es one.state in
      record {
        pushes_fit = omega (arith, leaves.pushed, counts.pushed_or_dropped, made.came, room.pushes_fit);
        departures_fit = omega (arith, leaves.asked, counts.asked, made.asked, room.departures_fit);
        came = omega (arith, given, room.came);
        dropped = omega (arith, made.dropped one.state one.sound one.stood one.has, counts.pushed_or_dropped, made.came, room.dropped);
        few = few;
        few_asked = omega (arith, made.asked, short);
      }

  -- ---- consecutive arrivals
  pub arrives_more : (n : ℕ) (a b c : Option Left) (old mid new : Stage C U W) → mid.given + old.tally.came ≡ old.given + mid.tally.came → Arrives S R policy n None a b old mid → Arrives S R policy 1 None b c mid new → Arrives S R policy (n + 1) None a c old new
  arrives_more n a b c old mid new given first second = record {
    packets = first.packets ++ second.packets;
    count = omega (arith, length-append first.packets second.packets, first.count, second.count);
    came = came_both a b c first.packets second.packets first.came second.came;
    made = subst (λ (es : List Event). Makes S R policy es old new) (sym (map-append Arrive first.packets second.packets))
        (makes_both S R laws policy accepted (map Arrive first.packets) (map Arrive second.packets) old mid new (omega (arith, given, first.made.came)) first.made second.made);
  }

  pub arrives_end : (n m : ℕ) (e : Ending) (a b c : Option Left) (old mid new : Stage C U W) → n < m → mid.given + old.tally.came ≡ old.given + mid.tally.came → Arrives S R policy n None a b old mid → Arrives S R policy 1 (Some e) b c mid new → Arrives S R policy m (Some e) a c old new
  arrives_end n m e a b c old mid new below given first second = record {
    packets = first.packets ++ second.packets;
    count = omega (arith, length-append first.packets second.packets, first.count, second.count);
    came = until_both e (event_of new.tally) a b c first.packets second.packets first.came second.came;
    made = subst (λ (es : List Event). Makes S R policy es old new) (sym (map-append Arrive first.packets second.packets))
        (makes_both S R laws policy accepted (map Arrive first.packets) (map Arrive second.packets) old mid new (omega (arith, given, first.made.came)) first.made second.made);
  }

  pub arrivals_stop : (n m : ℕ) (a b : Option Left) (old mid : Stage C U W) (c : C) (u : U) (written : Option (List ℕ)) → n < m → mid.given + old.tally.came ≡ old.given + mid.tally.came → Arrives S R policy n None a b old mid → ArrivalsStop S R policy 1 b mid c u written → ArrivalsStop S R policy m a old c u written
  arrivals_stop n m a b old mid c u written below given first second = record {
    packets = first.packets ++ second.packets;
    count = omega (arith, length-append first.packets second.packets, first.count, second.count);
    first = first_both a b first.packets second.packets first.came second.first;
    stop = subst (λ (es : List Event). Stops S R policy es old c u written) (sym (map-append Arrive first.packets second.packets))
        (stops_later S R laws policy accepted (map Arrive first.packets) (map Arrive second.packets) old mid c u written (omega (arith, given, first.made.came)) first.made second.stop);
  }

module _ {C U W : Type 0} (S : Ghosts C U) (R : Recordings W) (laws : AreJoined R.records R.cuts) (policy : Policy) where
  pub arrives_none : (a : Option Left) (c : C) (u : U) (w : W) (written : Option (List ℕ)) (given : ℕ) (tally : Tally) (sight : Sight) → Arrives S R policy 0 None a a (stage c u w written given tally sight) (stage c u w written given tally sight)
  arrives_none a c u w written given tally sight = record {
    packets = [];
    count = refl;
    came = came_none a;
    made = makes_none S R laws policy c u w written given given tally sight;
  }
