-- Arrivals and departures keep a state sound.
use Rattle.sched_defs.proofs.Prelude.{◌≡◌, List, [], arith, ℕ, Some, ap, refl, subst, sym, ◌+◌, Option, ◌∙◌, None, false, ◌≤◌, Bool, true, if◌then◌else◌, inl, inr, max, nat_eq, nat_le, IfSome, eqb-false, AllByRecursion, Contains, Packet, IsAccepted, Policy, limits_at, group_at, max_rank, All-added, All-taken, IsDistinct-taken, IsDistinct-added, packets-empty, packets-pop, packets-push, values-empty, values-pop, values-push, values, packets, pop, SourceTree, empty_tree, push, Topology, topology_of, Address, Popping, LeadsToLeaf, CanArrive, IsSound, IsAtItsLeaf, IsWithinLimits, IsKnown, SourceState, departed, arrival_ranks, arrived, class_of, is_full, left_from, left_with, pushed, dropped, way_in, start, way_out, total, one, bytes_of, one_of, is_over, passes_at, leads_over}
use Rattle.std.specs.List.{IsDistinct}
use Rattle.std.proofs.lemmas.Bool.{or_parts, not-false, leb-true}
use Rattle.rank_defs.specs.declared.environment.FlowKey.{FlowKey}
use Rattle.rank_defs.specs.FlowGroups.{grouped}
use Rattle.rank_defs.specs.States.{same_flow}
use Rattle.rank_defs.proofs.OtherStates.{same_flow-is}
use Rattle.tree_defs.proofs.Shapes.{topology_of-same, same_shape, topology_of-empty, topology_of-push, topology_of-pop}
use Rattle.tree_defs.proofs.WellFormedLaws.{IsWellFormed-push, IsWellFormed-pop, IsWellFormed-empty}
use Rattle.sched_defs.proofs.Members.{all_mapped, all_joined, Contains-with, Contains-added, Contains-without}
use Rattle.sched_defs.proofs.Ranks.{AreLow, IsLowPopping, HasLowRanks-push, HasLowRanks-pop, HasLowRanks-empty}
use Rattle.sched_defs.proofs.Visits.{IsVisitTo, visits_from-are}
use Rattle.sched_defs.proofs.States.{ranks_pushed-low, after_pushes-in_range, after_pops-in_range, first_states-in_range}
use Rattle.sched_defs.proofs.Totals.{total-pushed, total-left, total-start, way-none, left_others}
pub use Rattle.sched_defs.proofs.Queued.{same_packet, with_packet-is, with_packet-other, with_packet-same, without-is, without-other, class_is_ready, leads_in, other_number, stands_nowhere, popped_is_held}

-- ---- classes
module _ (policy : Policy) (accepted : IsAccepted policy) where
  visits_are : (p : Packet) → IsKnown policy p → (moment : ℕ) → moment ≤ max_rank → (digits : List ℕ) → AllByRecursion (IsVisitTo policy.tree) (way_out policy p digits moment)
  visits_are p known moment now digits =
      visits_from-are policy.tree accepted.nodes (class_of policy p) (class_is_ready policy accepted p known.class).marks p known.len moment now policy.tree [] digits (λ b. refl)

  pub arrival_ranks-low : (p : Packet) (s : SourceState) → IsSound policy s → CanArrive policy s p → AreLow (arrival_ranks policy p s)
  arrival_ranks-low p s sound can =
      let now : max s.now p.moment ≤ max_rank = let a = sound.now in let b = can.moment in omega arith in
      ranks_pushed-low policy.tree accepted.nodes (way_in policy p (max s.now p.moment)) s.nodes (visits_are p can.known (max s.now p.moment) now (class_of policy p).leaf) sound.states

-- ---- arrivals
-- a limit that one more doesn't pass
within : (limit : Option ℕ) (n : ℕ) → is_over limit n ≡ false → IfSome limit (λ l. n ≤ l)
within None n free = tt
within (Some l) n free = leb-true n l (not-false (nat_le n l) free)

fewer : (limit : Option ℕ) (n m : ℕ) → m ≤ n → IfSome limit (λ l. n ≤ l) → IfSome limit (λ l. m ≤ l)
fewer None n m less few = tt
fewer (Some l) n m less few = omega (arith, less, few)

fewer_each : {X : Type 0} (limit : Option ℕ) (f g : X → ℕ) → ((x : X) → g x ≤ f x) → IfSome limit (λ l. (x : X) → f x ≤ l) → IfSome limit (λ l. (x : X) → g x ≤ l)
fewer_each None f g less few = tt
fewer_each (Some l) f g less few = λ x. omega (arith, less x, few x)

-- with one packet more of one flow, no flow has more than the limit
within_flows : (limit : Option ℕ) (f g : FlowKey → ℕ) (own : FlowKey) → is_over limit (f own + 1) ≡ false → ((flow : FlowKey) → g flow ≡ f flow + (if same_flow own flow then 1 else 0))
    → IfSome limit (λ l. (flow : FlowKey) → f flow ≤ l) → IfSome limit (λ l. (flow : FlowKey) → g flow ≤ l)
within_flows None f g own free after few = tt
within_flows (Some l) f g own free after few = λ flow. by_flow flow (same_flow own flow) refl
  where
    by_flow : (flow : FlowKey) (t : Bool) → same_flow own flow ≡ t → g flow ≤ l
    by_flow flow true e =
        let same : f own ≡ f flow = ap f (same_flow-is own flow e) in
        let room : f own + 1 ≤ l = leb-true (f own + 1) l (not-false (nat_le (f own + 1) l) free) in
        let more : g flow ≡ f flow + 1 = after flow ∙ ap (λ (t : Bool). f flow + (if t then 1 else 0)) e in
        omega (arith, same, room, more)
    by_flow flow false e =
        let more : g flow ≡ f flow + 0 = after flow ∙ ap (λ (t : Bool). f flow + (if t then 1 else 0)) e in
        omega (arith, more, few flow)

-- a state in which no total is greater is within the same limits
pub within_as_before : (policy : Policy) (s t : SourceState) (a : Address) → ((quantity : Packet → ℕ) → total quantity t a ≤ total quantity s a) → IsWithinLimits policy s a → IsWithinLimits policy t a
within_as_before policy s t a less few = record {
  packets = fewer (limits_at policy a).packets (total one s a) (total one t a) (less one) few.packets;
  bytes = fewer (limits_at policy a).bytes (total bytes_of s a) (total bytes_of t a) (less bytes_of) few.bytes;
  per_flow = fewer_each (limits_at policy a).per_flow (λ flow. total (one_of (group_at policy a) flow) s a) (λ flow. total (one_of (group_at policy a) flow) t a)
      (λ flow. less (one_of (group_at policy a) flow)) few.per_flow;
}

-- no limit is passed after a push of a packet that passes none
limits_pushed : (policy : Policy) (p : Packet) (s : SourceState) → IsAccepted policy → IsSound policy s → CanArrive policy s p → is_full policy p s ≡ false → (a : Address) → IsWithinLimits policy (pushed policy p s) a
limits_pushed policy p s accepted sound can free a = by_way (leads_over a digits) refl
  where
    digits : Address
    digits = (class_of policy p).leaf

    grown : (quantity : Packet → ℕ) (t : Bool) → leads_over a digits ≡ t → total quantity (pushed policy p s) a ≡ total quantity s a + (if t then quantity p else 0)
    grown quantity t e = total-pushed quantity a policy p s accepted sound can ∙ ap (λ (u : Bool). total quantity s a + (if u then quantity p else 0)) e

    by_way : (t : Bool) → leads_over a digits ≡ t → IsWithinLimits policy (pushed policy p s) a
    by_way false e = within_as_before policy s (pushed policy p s) a (λ quantity. omega (arith, grown quantity false e)) (sound.limits a)
    by_way true e =
        let own : FlowKey = grouped (group_at policy a) p.flow in
        let none = way-none (passes_at policy p s) digits a free e in
        let first = or_parts (is_over (limits_at policy a).packets (total one s a + 1)) _ none in
        let second = or_parts (is_over (limits_at policy a).bytes (total bytes_of s a + p.len)) (is_over (limits_at policy a).per_flow (total (one_of (group_at policy a) own) s a + 1)) first.1 in
        record {
          packets = subst (λ (n : ℕ). IfSome (limits_at policy a).packets (λ l. n ≤ l)) (sym (grown one true e)) (within (limits_at policy a).packets (total one s a + 1) first.0);
          bytes = subst (λ (n : ℕ). IfSome (limits_at policy a).bytes (λ l. n ≤ l)) (sym (grown bytes_of true e)) (within (limits_at policy a).bytes (total bytes_of s a + p.len) second.0);
          per_flow = within_flows (limits_at policy a).per_flow (λ flow. total (one_of (group_at policy a) flow) s a) (λ flow. total (one_of (group_at policy a) flow) (pushed policy p s) a) own second.1
              (λ flow. grown (one_of (group_at policy a) flow) true e) (sound.limits a).per_flow;
        }

pub sound_pushed : (policy : Policy) (p : Packet) (s : SourceState) → IsAccepted policy → IsSound policy s → CanArrive policy s p → is_full policy p s ≡ false → IsSound policy (pushed policy p s)
sound_pushed policy p s accepted sound can free =
    let digits : Address = (class_of policy p).leaf in
    let ranks : List ℕ = arrival_ranks policy p s in
    let now : max s.now p.moment ≤ max_rank = let a = sound.now in let b = can.moment in omega arith in
    let leads : LeadsToLeaf s.tree digits = leads_in policy accepted s sound p can.known.class in
    record {
      well_formed = IsWellFormed-push s.tree digits ranks p.number leads sound.well_formed;
      shape = same_shape (push s.tree digits ranks p.number) policy.tree (topology_of-push s.tree digits ranks p.number ∙ topology_of-same s.tree policy.tree sound.shape);
      distinct = IsDistinct-added p.number (values s.tree) (values (push s.tree digits ranks p.number)) (values-push s.tree digits ranks p.number leads) (stands_nowhere policy s p.number sound can.fresh) sound.distinct;
      placed = All-added (IsAtItsLeaf policy (pushed policy p s)) (digits, p.number) (packets s.tree) (packets (push s.tree digits ranks p.number)) (packets-push s.tree digits ranks p.number leads)
          (record { packet = p; held = with_packet-same s.held p; leaf_is = refl })
          (all_mapped (IsAtItsLeaf policy s) (IsAtItsLeaf policy (pushed policy p s)) (λ at i. record { packet = i.packet; held = with_packet-other s.held p at.1 (other_number s policy p.number can.fresh at i) ∙ i.held; leaf_is = i.leaf_is }) (packets s.tree) sound.placed);
      limits = limits_pushed policy p s accepted sound can free;
      stands = λ n q h. elim (with_packet-is s.held p n q h) [
        | inl e ↦ subst (λ (m : ℕ). Contains (values (push s.tree digits ranks p.number)) m) (sym e.0) (Contains-added p.number (values s.tree) (values (push s.tree digits ranks p.number)) (values-push s.tree digits ranks p.number leads))
        | inr e ↦ Contains-with n p.number (values s.tree) (values (push s.tree digits ranks p.number)) (values-push s.tree digits ranks p.number leads) (sound.stands n q e)
      ];
      known = λ n q h. elim (with_packet-is s.held p n q h) [
        | inl e ↦ subst (IsKnown policy) e.1 can.known
        | inr e ↦ sound.known n q e
      ];
      numbered = λ n q h. elim (with_packet-is s.held p n q h) [
        | inl e ↦ ap (λ (z : Packet). z.number) (sym e.1) ∙ sym e.0
        | inr e ↦ sound.numbered n q e
      ];
      states = after_pushes-in_range policy.tree accepted.nodes (way_in policy p (max s.now p.moment)) s.nodes (visits_are policy accepted p can.known (max s.now p.moment) now digits) sound.states;
      ranks = HasLowRanks-push s.tree digits ranks p.number (arrival_ranks-low policy accepted p s sound can) sound.ranks;
      now = now;
    }

pub sound_dropped : (policy : Policy) (p : Packet) (s : SourceState) → IsSound policy s → CanArrive policy s p → IsSound policy (dropped p s)
sound_dropped policy p s sound can = record {
  well_formed = sound.well_formed;
  shape = sound.shape;
  distinct = sound.distinct;
  placed = all_mapped (IsAtItsLeaf policy s) (IsAtItsLeaf policy (dropped p s)) (λ at i. record { packet = i.packet; held = i.held; leaf_is = i.leaf_is }) (packets s.tree) sound.placed;
  limits = λ a. within_as_before policy s (dropped p s) a (λ quantity. omega arith) (sound.limits a);
  stands = sound.stands;
  known = sound.known;
  numbered = sound.numbered;
  states = sound.states;
  ranks = sound.ranks;
  now = let a = sound.now in let b = can.moment in omega arith;
}

-- an arrival is a drop or a push
pub by_fullness : (policy : Policy) (p : Packet) (s : SourceState) (P : SourceState → Type 0) → (is_full policy p s ≡ true → P (dropped p s)) → (is_full policy p s ≡ false → P (pushed policy p s)) → P (arrived policy p s)
by_fullness policy p s P full free = by_test (is_full policy p s) full free
  where
    by_test : (t : Bool) → (t ≡ true → P (dropped p s)) → (t ≡ false → P (pushed policy p s)) → P (if t then dropped p s else pushed policy p s)
    by_test true full free = full refl
    by_test false full free = free refl

pub sound_arrived : (policy : Policy) (p : Packet) (s : SourceState) → IsAccepted policy → IsSound policy s → CanArrive policy s p → IsSound policy (arrived policy p s)
sound_arrived policy p s accepted sound can = by_fullness policy p s (IsSound policy) (λ full. sound_dropped policy p s sound can) (sound_pushed policy p s accepted sound can)

-- ---- departures
limits_popped : (policy : Policy) (s : SourceState) (taken : Popping SourceTree) (p : Packet) → IsSound policy s → pop s.tree ≡ Some taken → s.held taken.value ≡ Some p → (a : Address) → IsWithinLimits policy (left_with policy s taken (Some p)) a
limits_popped policy s taken p sound e held a =
    within_as_before policy s (left_with policy s taken (Some p)) a (λ quantity. omega (arith, total-left quantity a policy s taken p sound e held)) (sound.limits a)

left_sound : (policy : Policy) (s : SourceState) (taken : Popping SourceTree) (p : Packet) → IsAccepted policy → IsSound policy s → pop s.tree ≡ Some taken → s.held taken.value ≡ Some p → IsSound policy (left_with policy s taken (Some p))
left_sound policy s taken p accepted sound e held =
    let low : IsLowPopping taken = HasLowRanks-pop s.tree taken e sound.ranks in
    let others = IsDistinct-taken taken.value (values taken.left) (values s.tree) (values-pop s.tree taken e) sound.distinct in
    let placed = All-taken (IsAtItsLeaf policy s) (taken.digits, taken.value) (packets taken.left) (packets s.tree) (packets-pop s.tree taken e) sound.placed in
    record {
      well_formed = IsWellFormed-pop s.tree taken e sound.well_formed;
      shape = same_shape taken.left policy.tree (topology_of-pop s.tree taken e ∙ topology_of-same s.tree policy.tree sound.shape);
      distinct = others.1;
      placed = all_joined (IsAtItsLeaf policy s) (λ at. nat_eq taken.value at.1 ≡ false) (IsAtItsLeaf policy (left_with policy s taken (Some p)))
          (λ at i o. record { packet = i.packet; held = without-other s.held taken.value at.1 (λ m. eqb-false taken.value at.1 o (sym m)) ∙ i.held; leaf_is = i.leaf_is })
          (packets taken.left) placed.1
          (left_others s taken policy sound e);
      limits = limits_popped policy s taken p sound e held;
      stands = λ n q h. let w = without-is s.held taken.value n q h in Contains-without n taken.value (values taken.left) (values s.tree) (values-pop s.tree taken e) w.0 (sound.stands n q w.1);
      known = λ n q h. sound.known n q (without-is s.held taken.value n q h).1;
      numbered = λ n q h. sound.numbered n q (without-is s.held taken.value n q h).1;
      states = after_pops-in_range policy.tree accepted.nodes (way_out policy p taken.digits s.now) taken.ranks s.nodes low.ranks (visits_are policy accepted p (sound.known taken.value p held) s.now sound.now taken.digits) sound.states;
      ranks = low.left;
      now = sound.now;
    }

pub sound_departed : (policy : Policy) (s : SourceState) → IsAccepted policy → IsSound policy s → IsSound policy (departed policy s)
sound_departed policy s accepted sound = by_pop (pop s.tree) refl
  where
    by_pop : (o : Option (Popping SourceTree)) → pop s.tree ≡ o → IsSound policy (left_from policy s o)
    by_pop None e = sound
    by_pop (Some taken) e =
        let i : IsAtItsLeaf policy s (taken.digits, taken.value) = popped_is_held policy s taken sound e in
        subst (λ (o : Option Packet). IsSound policy (left_with policy s taken o)) (sym i.held) (left_sound policy s taken i.packet accepted sound e i.held)

-- ---- the start
none_few : (limit : Option ℕ) (n : ℕ) → n ≡ 0 → IfSome limit (λ l. n ≤ l)
none_few None n e = tt
none_few (Some l) n e = omega (arith, e)

none_each : {X : Type 0} (limit : Option ℕ) (f : X → ℕ) → ((x : X) → f x ≡ 0) → IfSome limit (λ l. (x : X) → f x ≤ l)
none_each None f e = tt
none_each (Some l) f e = λ x. omega (arith, e x)

pub sound_start : (policy : Policy) → IsAccepted policy → IsSound policy (start policy)
unfolding IsDistinct
sound_start policy accepted =
    let t : Topology = topology_of policy.tree in
    record {
      well_formed = IsWellFormed-empty t;
      shape = same_shape (empty_tree t) policy.tree (topology_of-empty t);
      distinct = subst (IsDistinct nat_eq) (sym (values-empty t)) tt;
      placed = subst (AllByRecursion (IsAtItsLeaf policy (start policy))) (sym (packets-empty t)) tt;
      limits = λ a. record {
        packets = none_few (limits_at policy a).packets (total one (start policy) a) (total-start one a policy);
        bytes = none_few (limits_at policy a).bytes (total bytes_of (start policy) a) (total-start bytes_of a policy);
        per_flow = none_each (limits_at policy a).per_flow (λ flow. total (one_of (group_at policy a) flow) (start policy) a) (λ flow. total-start (one_of (group_at policy a) flow) a policy);
      };
      stands = λ n q h. cc;
      known = λ n q h. cc;
      numbered = λ n q h. cc;
      states = first_states-in_range policy.tree accepted.nodes;
      ranks = HasLowRanks-empty t;
      now = omega arith;
    }
