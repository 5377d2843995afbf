-- A generated load leaves no packet queued: its drain pops them all.
use Rattle.sched_run.proofs.Prelude.{ℕ, arith, None, ◌∙◌, refl, sym, List, subst, ap, ◌≤◌, ◌++◌, replicate, IsAccepted, Policy, none_lost, outcomes-append, after-append, CanMake-departures, empty_in-append, sound_after, CanMake-joined, Depart, Event, outcomes, after, empty_in, CanMake, IsSound, SourceState, start, size-empty, size, topology_of, HasLoadClasses, most_load, first_drawing, load_events, LeavesNothing, AreNext, packets_in}
use Rattle.sched_defs.specs.Laws.{HoldsNothing, IsDrained}
use Rattle.sched_defs.proofs.Soundness.{sound_start}
use Rattle.sched_defs.proofs.Drains.{drained}
use Rattle.sched_run.proofs.MadeEvents.{can_make}
use Rattle.sched_run.proofs.LoadLaws.{loads_are_next}

module _ (policy : Policy) (seed count : ℕ) (accepted : IsAccepted policy) (classes : HasLoadClasses policy) (short : count ≤ most_load) where
  abbrev begin : SourceState
  begin = start policy

  abbrev drawn : List Event
  drawn = load_events count (first_drawing seed)

  abbrev mid : SourceState
  mid = after policy drawn begin

  abbrev drain : List Event
  drain = replicate (size mid.tree) (Depart None)

  sound : IsSound policy begin
  sound = sound_start policy accepted

  can : CanMake policy drawn begin
  can =
      let next : AreNext policy 0 (packets_in drawn) = loads_are_next policy count (first_drawing seed) 0 classes (omega (arith, short)) refl in
      can_make policy drawn 1 begin next.numbered next.sendable (λ m p e. cc)

  made : CanMake policy (drawn ++ drain) begin
  made = CanMake-joined policy drawn drain begin can (CanMake-departures policy (size mid.tree) None mid)

  is_drained : IsDrained policy drain mid
  is_drained = drained policy mid accepted (sound_after policy drawn begin accepted sound can)

  nothing : HoldsNothing (after policy (drawn ++ drain) begin)
  nothing = subst HoldsNothing (sym (after-append policy drawn drain begin)) is_drained.nothing

  pub leaves_nothing : LeavesNothing policy seed count
  leaves_nothing = record {
    made = made;
    nothing = nothing;
    balance = omega (arith, none_lost policy (drawn ++ drain) begin accepted sound made, nothing.tree, size-empty (topology_of policy.tree));
    empty = ap empty_in (outcomes-append policy drawn drain begin) ∙ empty_in-append (outcomes policy drawn begin) (outcomes policy drain mid) ∙ omega (arith, is_drained.empty);
  }
