-- The totals that limits need, in the states before and after an arrival and a departure.
use Rattle.std.proofs.Common.{arith, ◌≡◌, ap, ◌∙◌, sym, ℕ, List, length, subst, Some, None, Option, rules, inl, inr, ◌<◌, [], ◌∷◌, refl, ◌+◌, ◌≤◌, ◌^◌, suc, zero, take, Bool, true, false, ◌≢◌, ◌||◌, if◌then◌else◌, IfSome, IsSome, is_some, true≢false}
use Rattle.std.proofs.lemmas.Bool.{cases_order}
use Rattle.std.proofs.lemmas.Option.{slice_get_within}
use Rattle.std.specs.Prelude.{slice_get}
use Rattle.tree_defs.specs.Tree.{Address, LeadsToLeaf, IsAddressOf, Popping, nodes}
use Rattle.tree_defs.specs.SourceTree.{SourceTree, pop, size}
use Rattle.rank_defs.specs.declared.environment.FlowKey.{FlowKey}
use Rattle.rank_defs.specs.declared.flow_group.FlowGroup.{FlowGroup}
use Rattle.rank_defs.specs.FlowGroups.{grouped}
use Rattle.rank_defs.specs.States.{same_flow}
use Rattle.packet_defs.specs.declared.packet.Packet.{Packet}
use Rattle.policy_defs.specs.declared.limits.Limits.{Limits}
use Rattle.policy_defs.specs.Accepted.{IsAccepted}
use Rattle.policy_defs.specs.Policy.{Policy, Class, limits_at, group_at, at_most, no_limits}
use Rattle.policy_defs.specs.Numbers.{number_at}
use Rattle.policy_core.proofs.NumberedAddresses.{number-undone, IsNumber}
use Rattle.sched_defs.specs.Events.{CanArrive}
use Rattle.sched_defs.specs.Laws.{is_reached}
use Rattle.sched_defs.specs.SourceState.{SourceState, class_of, start, pushed, left_with, leads_over, total, one, bytes_of, one_of, is_over, is_full, passes_at}
use Rattle.sched_defs.specs.Sound.{IsSound}
use Rattle.sched_defs.proofs.Queued.{class_is_ready}
use Rattle.sched_defs.proofs.Runs.{none_is_over}
use Rattle.sched_defs.proofs.Totals.{total-pushed, total-left_leaf, total-start, total-least, total-packets, total-bytes, way-last, leads_over-leaf}
use Rattle.sched_core.specs.PathNodes.{IsClassPath}
use Rattle.sched_core.specs.declared.path_node.ClassPath.{ClassPath}
use Rattle.sched_core.specs.NodeTotals.{Amounts, nothing, raised, lowered}
use Rattle.sched_core.specs.Totals.{Values, IsPath, AreInside, AreApart, HaveRoom, AreFew, IsTotal, AreTotals, AreKept, AreSized, MayTotals, HaveRoomTo, HasTotalsRoom, IsLeafLimit, HaveLeafLimits, with_one_more, with_one_fewer, amounts_in}
use Rattle.sched_core.specs.declared.node_totals.NodeTotals.{NodeTotals}
use Rattle.sched_core.specs.declared.path_node.PathNode.{PathNode}
use Rattle.sched_core.proofs.Prefixes.{same-number, prefix-there, prefix-over, over-prefix, over-short, prefix-length}

-- ---- the numbers of a path's nodes
-- the nodes of a class's path are those from the root to its leaf
pub path-known : (policy : Policy) (c : Class) (k : ClassPath) (path : List PathNode) → IsClassPath policy c k → path ≡ k.nodes.items → IsPath policy.tree c.leaf path
path-known policy c k path h is = subst (λ (l : List PathNode). IsPath policy.tree c.leaf l) (sym is)
    (record { count = h.nodes.count; each = λ level w at. (h.nodes.each level w at).node })

module _ (policy : Policy) (leaf : Address) (leads : LeadsToLeaf policy.tree leaf) where
  pub number-within : (level : ℕ) → level ≤ length leaf → number_at policy.tree (take level leaf) < nodes policy.tree
  number-within level h = let there = prefix-there policy.tree leaf level leads h in (number-undone policy.tree (take level leaf) there.0 there.1).within

  module _ (path : List PathNode) (is : IsPath policy.tree leaf path) where
    level-on : (level : ℕ) (w : PathNode) → slice_get path level ≡ Some w → level ≤ length leaf
    level-on level w at = omega (arith, slice_get_within path level w at, is.count)

    pub path-inside : (n : ℕ) → n ≡ nodes policy.tree → AreInside path n
    path-inside n same level w at = omega (arith, same, is.each level w at, number-within level (level-on level w at))

    pub path-apart : AreApart path
    path-apart i j v w at got same =
        let x : i ≤ length leaf = level-on i v at in
        let y : j ≤ length leaf = level-on j w got in
        let equal : take i leaf ≡ take j leaf
        = same-number policy.tree (take i leaf) (take j leaf) (prefix-there policy.tree leaf i leads x) (prefix-there policy.tree leaf j leads y) (sym (is.each i v at) ∙ same ∙ is.each j w got) in
        sym (prefix-length leaf i x) ∙ ap (λ (a : Address). length a) equal ∙ prefix-length leaf j y

    -- ---- room by the path, and by the addresses on it
    pub room-along : (totals : List NodeTotals) (p : Packet) → HaveRoomTo policy leaf totals p → HaveRoom path totals p 0
    room-along totals p h level w x from at got = h level x (level-on level w at) (ap (slice_get totals) (sym (is.each level w at)) ∙ got)

    pub room-to : (totals : List NodeTotals) (p : Packet) → HaveRoom path totals p 0 → HaveRoomTo policy leaf totals p
    room-to totals p h level x within got =
        let e = there path level (omega (arith, within, is.count)) in
        h level e.0 x (omega arith) e.1 (ap (slice_get totals) (is.each level e.0 e.1) ∙ got)
      where
        there : (ws : List PathNode) (k : ℕ) → k < length ws → (w : PathNode) × (slice_get ws k ≡ Some w)
        there [] k l = absurd (omega (arith, l))
        there (w ∷ ws) zero l = (w, refl)
        there (w ∷ ws) (suc k) l = there ws k (omega (arith, l))

-- ---- the path of a packet's class, as it was prepared
pub record IsOnPath (policy : Policy) (p : Packet) (path : List PathNode) : Type 0 where
  pub leads : LeadsToLeaf policy.tree (class_of policy p).leaf
  pub is : IsPath policy.tree (class_of policy p).leaf path
  pub inside : (n : ℕ) → n ≡ nodes policy.tree → AreInside path n

pub on-path : (policy : Policy) (p : Packet) (k : ClassPath) (path : List PathNode) → IsAccepted policy → p.class < length policy.classes → IsClassPath policy (class_of policy p) k → path ≡ k.nodes.items → IsOnPath policy p path
on-path policy p k path accepted within h same =
    let leads : LeadsToLeaf policy.tree (class_of policy p).leaf = (class_is_ready policy accepted p within).leaf_address in
    let is : IsPath policy.tree (class_of policy p).leaf path = path-known policy (class_of policy p) k path h same in
    record { leads = leads; is = is; inside = path-inside policy (class_of policy p).leaf leads path is }

-- ---- the same amounts
pub record SameAmounts (v w : Amounts) : Type 0 where
  pub packets : v.packets ≡ w.packets
  pub bytes : v.bytes ≡ w.bytes
  pub of_flow : (flow : FlowKey) → v.of_flow flow ≡ w.of_flow flow

abbrev pub SameValues : Values → Values → Type 0
SameValues values others = (a : Address) → SameAmounts (values a) (others a)

totals-same : (policy : Policy) (totals : List NodeTotals) (values others : Values) → SameValues values others → AreTotals policy totals values → AreTotals policy totals others
totals-same policy totals values others e h = record { count = h.count; each = each }
  where
    each : (a : Address) (x : NodeTotals) → IsAddressOf policy.tree a → slice_get totals (number_at policy.tree a) ≡ Some x → IsTotal policy a x (others a)
    each a x p at =
        let t : IsTotal policy a x (values a) = h.each a x p at in record {
          limits = t.limits;
          group = t.group;
          amounts = record { packets = t.amounts.packets ∙ (e a).packets; bytes = t.amounts.bytes ∙ (e a).bytes; of_flow = λ some flow. t.amounts.of_flow some flow ∙ (e a).of_flow flow };
        }

pub kept-same : (policy : Policy) (totals : MayTotals) (values others : Values) → SameValues values others → AreKept policy totals values → AreKept policy totals others
kept-same policy None values others e h = h
kept-same policy (Some v) values others e h = totals-same policy v.items values others e h

pub kept-sized : (policy : Policy) (totals : MayTotals) (values : Values) → AreKept policy totals values → AreSized policy totals
kept-sized policy None values h = tt
kept-sized policy (Some v) values h = h.count

-- ---- what is queued in a state
pub amounts-start : (policy : Policy) → SameValues (λ _. nothing) (amounts_in policy (start policy))
amounts-start policy a = record {
  packets = sym (total-start one a policy);
  bytes = sym (total-start bytes_of a policy);
  of_flow = λ flow. sym (total-start (one_of (group_at policy a) flow) a policy);
}

in_flow-least : (group : FlowGroup) (flow : FlowKey) (p : Packet) → one_of group flow p ≤ 1
in_flow-least group flow p = at_most_one (same_flow (grouped group p.flow) flow)
  where
    at_most_one : (t : Bool) → (if t then 1 else 0) ≤ 1
    at_most_one true = omega arith
    at_most_one false = omega arith

pub amounts-few : (policy : Policy) (s : SourceState) → IsSound policy s → size s.tree < 2 ^ 62 → AreFew (amounts_in policy s)
amounts-few policy s sound few a =
    let packets : total one s a ≤ size s.tree = total-packets a s in record {
      packets = omega (arith, packets, few);
      bytes = omega (arith, total-bytes a policy s sound, few);
      of_flow = λ flow. (
          let least : total (one_of (group_at policy a) flow) s a ≤ total one s a = total-least (one_of (group_at policy a) flow) one a s (λ n p e. in_flow-least (group_at policy a) flow p) in
          omega (arith, least, packets, few));
    }

module _ (policy : Policy) (p : Packet) (s : SourceState) (sound : IsSound policy s) where
  -- after a push
  pub amounts-pushed : IsAccepted policy → CanArrive policy s p → SameValues (with_one_more policy p (amounts_in policy s)) (amounts_in policy (pushed policy p s))
  amounts-pushed accepted can a = by_test (leads_over a (class_of policy p).leaf) refl
    where
      grown : (quantity : Packet → ℕ) (t : Bool) → leads_over a (class_of policy p).leaf ≡ t → total quantity (pushed policy p s) a ≡ total quantity s a + (if t then quantity p else 0)
      grown quantity t e = total-pushed quantity a policy p s accepted sound can ∙ ap (λ (b : Bool). total quantity s a + (if b then quantity p else 0)) e

      by_test : (t : Bool) → leads_over a (class_of policy p).leaf ≡ t → SameAmounts (with_one_more policy p (amounts_in policy s) a) (amounts_in policy (pushed policy p s) a)
      by_test true e =
          subst (λ (b : Bool). SameAmounts (if b then raised (group_at policy a) p (amounts_in policy s a) else amounts_in policy s a) (amounts_in policy (pushed policy p s) a)) (sym e)
          (record { packets = sym (grown one true e); bytes = sym (grown bytes_of true e); of_flow = λ flow. sym (grown (one_of (group_at policy a) flow) true e) })
      by_test false e =
          subst (λ (b : Bool). SameAmounts (if b then raised (group_at policy a) p (amounts_in policy s a) else amounts_in policy s a) (amounts_in policy (pushed policy p s) a)) (sym e)
          (record { packets = omega (arith, grown one false e); bytes = omega (arith, grown bytes_of false e); of_flow = λ flow. omega (arith, grown (one_of (group_at policy a) flow) false e) })

  -- after a departure
  module _ (taken : Popping SourceTree) (popped : pop s.tree ≡ Some taken) (held : s.held taken.value ≡ Some p) where
    pub amounts-left : SameValues (with_one_fewer policy p (amounts_in policy s)) (amounts_in policy (left_with policy s taken (Some p)))
    amounts-left a = by_test (leads_over a (class_of policy p).leaf) refl
      where
        shrunk : (quantity : Packet → ℕ) (t : Bool) → leads_over a (class_of policy p).leaf ≡ t → total quantity s a ≡ total quantity (left_with policy s taken (Some p)) a + (if t then quantity p else 0)
        shrunk quantity t e = total-left_leaf quantity a policy s taken p sound popped held ∙ ap (λ (b : Bool). total quantity (left_with policy s taken (Some p)) a + (if b then quantity p else 0)) e

        by_test : (t : Bool) → leads_over a (class_of policy p).leaf ≡ t → SameAmounts (with_one_fewer policy p (amounts_in policy s) a) (amounts_in policy (left_with policy s taken (Some p)) a)
        by_test true e =
            subst (λ (b : Bool). SameAmounts (if b then lowered (group_at policy a) p (amounts_in policy s a) else amounts_in policy s a) (amounts_in policy (left_with policy s taken (Some p)) a)) (sym e)
            (record { packets = omega (arith, shrunk one true e); bytes = omega (arith, shrunk bytes_of true e); of_flow = λ flow. omega (arith, shrunk (one_of (group_at policy a) flow) true e) })
        by_test false e =
            subst (λ (b : Bool). SameAmounts (if b then lowered (group_at policy a) p (amounts_in policy s a) else amounts_in policy s a) (amounts_in policy (left_with policy s taken (Some p)) a)) (sym e)
            (record { packets = omega (arith, shrunk one false e); bytes = omega (arith, shrunk bytes_of false e); of_flow = λ flow. omega (arith, shrunk (one_of (group_at policy a) flow) false e) })

-- ---- policies whose limits need no totals
-- one more passes a limit that isn't passed yet exactly if the limit is reached
one_more-over : (limit : Option ℕ) (n : ℕ) → IfSome limit (λ l. n ≤ l) → is_over limit (n + 1) ≡ is_reached limit n
one_more-over None n few = refl
one_more-over (Some l) n few = elim (cases_order l n) [
  | inl same ↦ grind (arith, rules)
  | inr other ↦ grind (arith, rules)
]

-- a limit on packets alone
packets-alone : (l : Limits) (packets bytes of_flow : ℕ) → l ≡ at_most l.packets → (is_over l.packets packets || (is_over l.bytes bytes || is_over l.per_flow of_flow)) ≡ is_over l.packets packets
packets-alone l packets bytes of_flow e = ap (λ (m : Limits). is_over m.packets packets || (is_over m.bytes bytes || is_over m.per_flow of_flow)) e ∙ or_none (is_over l.packets packets)
  where
    or_none : (t : Bool) → (t || false) ≡ t
    or_none true = refl
    or_none false = refl

module _ (policy : Policy) (p : Packet) (s : SourceState) (accepted : IsAccepted policy) (within : p.class < length policy.classes) (h : HaveLeafLimits policy (nodes policy.tree)) where
  abbrev pub digits : Address
  digits = (class_of policy p).leaf

  leads : LeadsToLeaf policy.tree digits
  leads = (class_is_ready policy accepted p within).leaf_address

  limit-on : (level : ℕ) → level ≤ length digits → IsLeafLimit policy (take level digits)
  limit-on level l =
      let there = prefix-there policy.tree digits level leads l in
      let n : IsNumber policy.tree (take level digits) (number_at policy.tree (take level digits)) = number-undone policy.tree (take level digits) there.0 there.1 in
      subst (IsLeafLimit policy) n.address (h.each (number_at policy.tree (take level digits)) n.within)

  limit-over : (a : Address) → leads_over a digits ≡ true → IsLeafLimit policy a
  limit-over a e = subst (IsLeafLimit policy) (sym (prefix-over a digits e)) (limit-on (length a) (over-short a digits e))

  no-limits : (l : Limits) → l ≡ at_most l.packets → (IsSome l.packets → ⊥) → l ≡ no_limits
  no-limits l e none = e ∙ ap at_most (is_none l.packets none)
    where
      is_none : (o : Option ℕ) → (IsSome o → ⊥) → o ≡ None
      is_none None n = refl
      is_none (Some k) n = absurd (n refl)

  others : (a : Address) → leads_over a digits ≡ true → a ≢ digits → passes_at policy p s a ≡ false
  others a e other =
      let l : IsLeafLimit policy a = limit-over a e in
      none_is_over policy p s a (no-limits (limits_at policy a) l.of_packets (λ some. other (leads_over-leaf policy.tree a digits (l.at_leaf some) leads e)))

  -- the leaf's limit decides
  pub leaf-full : IsSound policy s → is_reached (limits_at policy digits).packets (total one s digits) ≡ is_full policy p s
  leaf-full sound =
      let l : IsLeafLimit policy digits = limit-over digits (over_own digits) in
      sym (way-last (passes_at policy p s) digits others
      ∙ packets-alone (limits_at policy digits) (total one s digits + 1) (total bytes_of s digits + p.len) (total (one_of (group_at policy digits) (grouped (group_at policy digits) p.flow)) s digits + 1) l.of_packets
      ∙ one_more-over (limits_at policy digits).packets (total one s digits) (sound.limits digits).packets)
    where
      over_own : (a : Address) → leads_over a a ≡ true
      over_own a = subst (λ (b : Address). leads_over b a ≡ true) (take_whole a) (over-prefix a (length a))
        where
          take_whole : (b : Address) → take (length b) b ≡ b
          take_whole [] = refl
          take_whole (i ∷ b) = ap (λ (c : Address). i ∷ c) (take_whole b)

-- without totals no room is needed, and nothing is counted
pub no-totals : (policy : Policy) (p : Packet) (totals : MayTotals) → is_some totals ≡ false → HasTotalsRoom policy p totals
no-totals policy p None e = tt
no-totals policy p (Some t) e = absurd (true≢false e)

pub none-counted : (policy : Policy) (totals : MayTotals) (values others : Values) → is_some totals ≡ false → AreKept policy totals values → AreKept policy totals others
none-counted policy None values others e h = h
none-counted policy (Some t) values others e h = absurd (true≢false e)
