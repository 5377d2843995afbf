-- In each state after events, no entry is above its child's floor, and so no push spills.
use Rattle.block_replay.proofs.Prelude.{refl, ◌≡◌, [], ℕ, ◌∙◌, arith, sym, ◌∷◌, List, Some, subst, ◌≤◌, None, Option, max, and_parts, AllByRecursion, Maps, Packet, IsAccepted, IsClassReady, Node, node_at, Policy, max_rank, IsVisitTo, visits_from-are, Event, Arrive, CanArrive, CanMake, Depart, start, SourceState, arrival_ranks, arrived, class_of, departed, left_from, left_with, pushed, way_in, way_out, Visit, after_pushes, after_pops, same_shape, topology_of-empty, topology_of-same, SourceTree, pop, topology_of, Address, Tree, Popping, IsLaidCalmly, CalmPoliciesNeverSpill, CalmRunsNeverSpill, NoneSpills, SpillsNowhere, is_spread, has_steady_nodes}
use Rattle.sched_defs.specs.Sound.{IsKnown, IsAtItsLeaf, IsSound}
use Rattle.sched_defs.specs.Events.{after}
use Rattle.sched_defs.proofs.Soundness.{class_is_ready, leads_in, by_fullness, popped_is_held, sound_start, sound_arrived, sound_departed}
use Rattle.sched_defs.proofs.Runs.{sound_after}
use Rattle.block_replay.proofs.Steady.{IsSteady}
use Rattle.block_replay.proofs.SteadyNodes.{HasSteadyPrograms, steady_programs, steady_at}
use Rattle.block_replay.proofs.TreeFloors.{Floors, IsUnder, AreRanksUnder, AreRanksOver, IsUnder-risen, IsUnder-push, IsUnder-pop, IsUnder-empty}
use Rattle.block_replay.proofs.StateFloors.{floors, no_less, floors-later, floors-pushes, floors-pops}
use Rattle.block_replay.proofs.ArrivalFloors.{arrivals_from, ranks_over, ranks_under}
use Rattle.block_replay.proofs.LiftSpills.{push-quiet}

-- no entry of a child is above the child's floor
abbrev pub IsSettled : Policy → SourceState → Type 0
IsSettled policy s = IsUnder (floors policy.tree s.nodes s.now) [] s.tree

module _ (policy : Policy) (accepted : IsAccepted policy) (steady : HasSteadyPrograms policy.tree) where
  steady_nodes : (a : Address) (n : Node) → node_at policy.tree a ≡ Some n → IsSteady n.program
  steady_nodes = steady_at policy.tree steady

  -- ---- arrivals
  module _ (p : Packet) (s : SourceState) (sound : IsSound policy s) (can : CanArrive policy s p) where
    abbrev moment : ℕ
    moment = max s.now p.moment

    abbrev leaf_of : Address
    leaf_of = (class_of policy p).leaf

    moment_low : moment ≤ max_rank
    moment_low = let a = sound.now in let b = can.moment in omega arith

    ready : IsClassReady policy.tree (class_of policy p)
    ready = class_is_ready policy accepted p can.known.class

    pub over : AreRanksOver (floors policy.tree s.nodes moment) [] leaf_of (arrival_ranks policy p s)
    over = ranks_over policy.tree steady accepted.nodes (class_of policy p) ready.marks p can.known.len moment moment_low policy.tree [] leaf_of s.nodes (λ b. refl) steady ready.leaf_address sound.states

    under : AreRanksUnder (floors policy.tree (after_pushes (way_in policy p moment) s.nodes) moment) [] leaf_of (arrival_ranks policy p s)
    under = ranks_under policy.tree steady accepted.nodes (class_of policy p) ready.marks p can.known.len moment moment_low policy.tree [] leaf_of s.nodes (λ b. refl) steady ready.leaf_address sound.states

    -- at the timestamp of the arrival
    pub settled_later : IsSettled policy s → IsUnder (floors policy.tree s.nodes moment) [] s.tree
    settled_later = IsUnder-risen (floors policy.tree s.nodes s.now) (floors policy.tree s.nodes moment) (λ a i. floors-later policy.tree steady_nodes s.nodes s.now moment (omega arith) a i) [] s.tree

    settled_pushed : IsSettled policy s → IsSettled policy (pushed policy p s)
    settled_pushed h =
        let new : Floors = floors policy.tree (after_pushes (way_in policy p moment) s.nodes) moment in
        let risen : IsUnder new [] s.tree = IsUnder-risen (floors policy.tree s.nodes moment) new
        (λ a i. floors-pushes policy.tree steady_nodes accepted.nodes (way_in policy p moment) s.nodes moment
        (arrivals_from policy.tree steady accepted.nodes (class_of policy p) ready.marks p can.known.len moment moment_low policy.tree [] leaf_of (λ b. refl)) sound.states a i)
        [] s.tree (settled_later h) in
        IsUnder-push new [] s.tree leaf_of (arrival_ranks policy p s) p.number (leads_in policy accepted s sound p can.known.class) under risen

    pub settled_arrived : IsSettled policy s → IsSettled policy (arrived policy p s)
    settled_arrived h = by_fullness policy p s (IsSettled policy) (λ full. settled_later h) (λ free. settled_pushed h)

  -- ---- departures
  settled_left : (s : SourceState) (taken : Popping SourceTree) (p : Packet) → IsSound policy s → pop s.tree ≡ Some taken → s.held taken.value ≡ Some p → IsSettled policy s → IsSettled policy (left_with policy s taken (Some p))
  settled_left s taken p sound e held h =
      let known : IsKnown policy p = sound.known taken.value p held in
      let way : List Visit = way_out policy p taken.digits s.now in
      let visits : AllByRecursion (IsVisitTo policy.tree) way
      = visits_from-are policy.tree accepted.nodes (class_of policy p) (class_is_ready policy accepted p known.class).marks p known.len s.now sound.now policy.tree [] taken.digits (λ b. refl) in
      IsUnder-risen (floors policy.tree s.nodes s.now) (floors policy.tree (after_pops way taken.ranks s.nodes) s.now)
      (λ a i. no_less (floors policy.tree s.nodes s.now a i) (floors policy.tree (after_pops way taken.ranks s.nodes) s.now a i) (sym (floors-pops policy.tree steady_nodes way taken.ranks s.nodes s.now visits a i)))
      [] taken.left (IsUnder-pop (floors policy.tree s.nodes s.now) [] s.tree taken e h)

  settled_departed : (s : SourceState) → IsSound policy s → IsSettled policy s → IsSettled policy (departed policy s)
  settled_departed s sound h = by_pop (pop s.tree) refl
    where
      by_pop : (o : Option (Popping SourceTree)) → pop s.tree ≡ o → IsSettled policy (left_from policy s o)
      by_pop None e = h
      by_pop (Some taken) e =
          let i : IsAtItsLeaf policy s (taken.digits, taken.value) = popped_is_held policy s taken sound e in
          subst (λ (o : Option Packet). IsSettled policy (left_with policy s taken o)) (sym i.held) (settled_left s taken i.packet sound e i.held h)

  -- ---- events
  settled_after : (events : List Event) (s : SourceState) → IsSound policy s → CanMake policy events s → IsSettled policy s → IsSettled policy (after policy events s)
  settled_after [] s sound can h = h
  settled_after (Arrive p ∷ events) s sound can h = settled_after events (arrived policy p s) (sound_arrived policy p s accepted sound can.0) can.1 (settled_arrived p s sound can.0 h)
  settled_after (Depart at ∷ events) s sound can h = settled_after events (departed policy s) (sound_departed policy s accepted sound) can (settled_departed s sound h)

  settled_start : IsSettled policy (start policy)
  settled_start = IsUnder-empty (floors policy.tree (start policy).nodes (start policy).now) [] (topology_of policy.tree)

-- ---- the laws
module _ (h : ℕ) (policy : Policy) (images : Tree Address) (laid : IsLaidCalmly h policy images) where
  steady_policy : HasSteadyPrograms policy.tree
  steady_policy = steady_programs policy.tree laid.built_in (and_parts (has_steady_nodes policy.tree) (is_spread images) laid.calm).0

  -- a good map of the policy's tree is one of each state's
  maps_state : (s : SourceState) → IsSound policy s → Maps h s.tree images
  maps_state s sound = record {
    shape = same_shape s.tree images (topology_of-same s.tree policy.tree sound.shape ∙ sym (topology_of-empty (topology_of policy.tree)) ∙ topology_of-same (start policy).tree images laid.maps.shape);
    good = laid.maps.good;
  }

  spills_nowhere : (s : SourceState) (p : Packet) → IsSound policy s → IsSettled policy s → CanArrive policy s p → SpillsNowhere images policy p s
  spills_nowhere s p sound settled can =
      push-quiet (floors policy.tree s.nodes (max s.now p.moment)) h s.tree images (class_of policy p).leaf (arrival_ranks policy p s) (maps_state s sound) (and_parts (has_steady_nodes policy.tree) (is_spread images) laid.calm).1
      (leads_in policy laid.accepted s sound p can.known.class) (settled_later policy laid.accepted steady_policy p s sound can settled) (over policy laid.accepted steady_policy p s sound can)

  none_spills : (events : List Event) (s : SourceState) → IsSound policy s → IsSettled policy s → CanMake policy events s → NoneSpills images policy events s
  none_spills [] s sound settled can = tt
  none_spills (Arrive p ∷ events) s sound settled can =
      (spills_nowhere s p sound settled can.0, none_spills events (arrived policy p s) (sound_arrived policy p s laid.accepted sound can.0) (settled_arrived policy laid.accepted steady_policy p s sound can.0 settled) can.1)
  none_spills (Depart at ∷ events) s sound settled can =
      none_spills events (departed policy s) (sound_departed policy s laid.accepted sound) (settled_departed policy laid.accepted steady_policy s sound settled) can

pub policies_never_spill : CalmPoliciesNeverSpill
policies_never_spill h policy images events p laid made can =
    let begin : IsSound policy (start policy) = sound_start policy laid.accepted in
    let steady : HasSteadyPrograms policy.tree = steady_policy h policy images laid in
    spills_nowhere h policy images laid (after policy events (start policy)) p (sound_after policy events (start policy) laid.accepted begin made)
    (settled_after policy laid.accepted steady events (start policy) begin made (settled_start policy laid.accepted steady)) can

pub runs_never_spill : CalmRunsNeverSpill
runs_never_spill h policy images events laid made =
    none_spills h policy images laid events (start policy) (sound_start policy laid.accepted) (settled_start policy laid.accepted (steady_policy h policy images laid)) made
