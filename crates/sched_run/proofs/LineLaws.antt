-- The numbers and names of leaves, and the outcomes recorded at them.
use Rattle.sched_run.proofs.Prelude.{ℕ, arith, None, ◌∙◌, ◌≡◌, refl, sym, List, subst, [], ◌+◌, ap, Some, ◌≤◌, Option, ◌∷◌, length, false, ◌<◌, Bool, suc, true, if◌then◌else◌, zero, IfSome, option_map, Departed, Packet, IsAccepted, Policy, Node, name_at, node_at, arrival_of, leaf_number, departed_packet, IsTaken, Arrival, Depart, outcomes, CanArrive, departure, IsSound, SourceState, leaver, Leaver, class_of, arrival_ranks, is_full, Way, topology_of, Topology, nodes, Address, Tree, IsAddressOf, LeadsBelow, LeadsToLeaf, SameShape, Trees, depth, depth_below, inner, leaf, more, nodes_below, none, subtree_in}
use Rattle.std.specs.Option.{option_map_or}
use Rattle.text_core.specs.Tokens.{most_name}
use Rattle.tree_defs.proofs.Shapes.{topology_of-same, LeadsToLeaf-topology}
use Rattle.tree_defs.proofs.Options.{option_map-some}
use Rattle.policy_defs.specs.Numbers.{number_at, number_below}
use Rattle.sched_defs.specs.Events as events
use Rattle.sched_defs.specs.Events.{Arrive}
use Rattle.sched_defs.specs.Laws.{LeavesItsLeaf}
use Rattle.outside_core.specs.Report.{departure_line}
use Rattle.sched_defs.specs.Report.{outcome_line}
use Rattle.sched_run.specs.Played.{line_of}
use Rattle.sched_defs.proofs.Leaving.{arrives_at_a_leaf, leaves_its_leaf}
use Rattle.sched_defs.proofs.Soundness.{class_is_ready}
use Rattle.sched_core.specs.declared.scheduler.Arrival.TheVariants as arrival

module _ {Q : Type 0} where
  mutual
    pub leads_address : (t : Tree Q) (a : Address) → LeadsToLeaf t a → IsAddressOf t a
    leads_address (leaf q) [] l = (leaf q, refl)
    leads_address (leaf q) (i ∷ a) l = absurd l
    leads_address (inner q ts) [] l = absurd l
    leads_address (inner q ts) (i ∷ a) l = leads_address_below ts i a l

    pub leads_address_below : (ts : Trees Q) (i : ℕ) (a : Address) → LeadsBelow ts i a → (u : Tree Q) × (subtree_in ts i a ≡ Some u)
    leads_address_below none i a l = absurd l
    leads_address_below (more t ts) zero a l = leads_address t a l
    leads_address_below (more t ts) (suc i) a l = leads_address_below ts i a l

  mutual
    pub leads_depth : (t : Tree Q) (a : Address) → LeadsToLeaf t a → length a ≤ depth t
    leads_depth (leaf q) [] l = omega arith
    leads_depth (leaf q) (i ∷ a) l = absurd l
    leads_depth (inner q ts) [] l = absurd l
    leads_depth (inner q ts) (i ∷ a) l = let k = leads_depth_below ts i a l in omega arith

    pub leads_depth_below : (ts : Trees Q) (i : ℕ) (a : Address) → LeadsBelow ts i a → length a + 1 ≤ depth_below ts
    leads_depth_below none i a l = absurd l
    leads_depth_below (more t ts) zero a l = let k = leads_depth t a l in omega arith
    leads_depth_below (more t ts) (suc i) a l = let k = leads_depth_below ts i a l in omega arith

  mutual
    pub leads_number : (t : Tree Q) (a : Address) → LeadsToLeaf t a → number_at t a < nodes t
    leads_number (leaf q) [] l = omega arith
    leads_number (leaf q) (i ∷ a) l = absurd l
    leads_number (inner q ts) [] l = absurd l
    leads_number (inner q ts) (i ∷ a) l = let k = leads_number_below ts i a l in omega arith

    pub leads_number_below : (ts : Trees Q) (i : ℕ) (a : Address) → LeadsBelow ts i a → number_below ts i a < nodes_below ts
    leads_number_below none i a l = absurd l
    leads_number_below (more t ts) zero a l = let k = leads_number t a l in omega arith
    leads_number_below (more t ts) (suc i) a l = let k = leads_number_below ts i a l in omega arith

-- a leaf of one tree is one of each tree of its shape
pub leads_same : {Q R : Type 0} (t : Tree Q) (u : Tree R) (a : Address) → SameShape t u → LeadsToLeaf t a → LeadsToLeaf u a
leads_same t u a same l =
    let m : LeadsToLeaf (topology_of t) a = subst (λ (T : Type 0). T) (LeadsToLeaf-topology t a) l in
    let n : LeadsToLeaf (topology_of u) a = subst (λ (z : Topology). LeadsToLeaf z a) (topology_of-same t u same) m in
    subst (λ (T : Type 0). T) (sym (LeadsToLeaf-topology u a)) n

pub name_short : (policy : Policy) (a : Address) → IsAccepted policy → length (name_at policy a) ≤ most_name
name_short policy a accepted = by_node (node_at policy.tree a) refl
  where
    by_node : (o : Option Node) → node_at policy.tree a ≡ o → length (option_map_or (λ n. n.name) o []) ≤ most_name
    by_node None e = omega arith
    by_node (Some n) e = (accepted.nodes a n e).name

-- the properties of a leaf of the policy
pub record IsLeafOf (policy : Policy) (a : Address) : Type 0 where
  pub leads : LeadsToLeaf policy.tree a
  pub address : IsAddressOf policy.tree a
  pub number : number_at policy.tree a < nodes policy.tree
  pub levels : length a ≤ depth policy.tree
  pub few : length a ≤ 64
  pub name : length (name_at policy a) ≤ most_name

pub leaf_of : (policy : Policy) (a : Address) → IsAccepted policy → LeadsToLeaf policy.tree a → IsLeafOf policy a
leaf_of policy a accepted l = record {
  leads = l;
  address = leads_address policy.tree a l;
  number = leads_number policy.tree a l;
  levels = leads_depth policy.tree a l;
  few = let k = leads_depth policy.tree a l in let m = accepted.levels in omega arith;
  name = name_short policy a accepted;
}

-- the name of the leaf with this number
pub named_leaf : (policy named : Policy) (a : Address) (number : ℕ) (name : List ℕ) → named ≡ policy → IsLeafOf policy a → number_at policy.tree a ≡ number
    → ((b : Address) → IsAddressOf named.tree b → number_at named.tree b ≡ number → name ≡ name_at named b) → name ≡ name_at policy a
named_leaf policy named a number name same at n told =
    subst (λ (q : Policy). ((b : Address) → IsAddressOf q.tree b → number_at q.tree b ≡ number → name ≡ name_at q b) → name ≡ name_at policy a) (sym same)
    (λ h. h a at.address n) told

-- ---- departures
-- the packet that a departure returned, at its leaf
pub record Left (policy : Policy) (s : SourceState) (d : Departed) : Type 0 where
  pub leaver_is : Leaver
  pub leaves : leaver s ≡ Some leaver_is
  pub told : departed_packet policy leaver_is ≡ d
  pub leaf_is : IsLeafOf policy leaver_is.digits
  pub ranks : length leaver_is.ranks ≤ 65

pub left : (policy : Policy) (s : SourceState) (d : Departed) → IsAccepted policy → IsSound policy s → Some d ≡ option_map (departed_packet policy) (leaver s) → Left policy s d
left policy s d accepted sound e =
    let w : (l : Leaver) × (leaver s ≡ Some l) × (departed_packet policy l ≡ d) = option_map-some (departed_packet policy) (leaver s) d (sym e) in
    let leaves : LeavesItsLeaf policy s w.0 = leaves_its_leaf policy s w.0 sound w.1 in
    let at : IsLeafOf policy w.0.digits = leaf_of policy w.0.digits accepted (leads_same s.tree policy.tree w.0.digits sound.shape leaves.leaf_address) in
    record {
      leaver_is = w.0;
      leaves = w.1;
      told = w.2;
      leaf_is = at;
      ranks = let k = at.few in let c = leaves.ranks.count in omega arith;
    }

-- the ranks that a departure popped
pub ranks_left : (policy : Policy) (s : SourceState) (d : Departed) (way : Way) (h : Left policy s d) → IfSome (leaver s) (λ l. IsTaken l way) → way.ranks ≡ h.leaver_is.ranks
ranks_left policy s d way h t = (subst (λ (o : Option Leaver). IfSome o (λ l. IsTaken l way)) h.leaves t).ranks

-- the outcome of a packet that departed
pub outcome_left : (policy : Policy) (s : SourceState) (d : Departed) (ranks : List ℕ) (start : Option ℕ) (h : Left policy s d) → ranks ≡ h.leaver_is.ranks
    → events.Departed h.leaver_is.packet h.leaver_is.digits ranks start ∷ [] ≡ outcomes policy (Depart start ∷ []) s
outcome_left policy s d ranks start h r =
    ap (λ (z : List ℕ). events.Departed h.leaver_is.packet h.leaver_is.digits z start ∷ []) r
    ∙ sym (ap (λ (o : Option Leaver). departure start o ∷ []) h.leaves)

-- the line of a packet that departed
pub line_left : (policy : Policy) (s : SourceState) (d : Departed) (event : ℕ) (name ranks : List ℕ) (start : Option ℕ) (h : Left policy s d) → name ≡ name_at policy h.leaver_is.digits → ranks ≡ h.leaver_is.ranks
    → departure_line event d.packet name ranks start ≡ line_of policy event (Depart start) s
line_left policy s d event name ranks start h named r =
    ap (λ (z : Departed). departure_line event z.packet name ranks start) (sym h.told)
    ∙ ap (λ (z : List ℕ). departure_line event h.leaver_is.packet.number z ranks start) named
    ∙ ap (λ (z : List ℕ). departure_line event h.leaver_is.packet.number (name_at policy h.leaver_is.digits) z start) r
    ∙ sym (ap (λ (o : Option Leaver). outcome_line policy event (departure start o)) h.leaves)

-- ---- arrivals
-- the leaf at which a packet arrives
pub arrives : (policy : Policy) (p : Packet) (s : SourceState) → IsAccepted policy → CanArrive policy s p → IsLeafOf policy (class_of policy p).leaf
arrives policy p s accepted can = leaf_of policy (class_of policy p).leaf accepted (class_is_ready policy accepted p can.known.class).leaf_address

pub arrival_few : (policy : Policy) (p : Packet) (s : SourceState) → IsAccepted policy → IsSound policy s → CanArrive policy s p → length (arrival_ranks policy p s) ≤ 65
arrival_few policy p s accepted sound can =
    let c = (arrives_at_a_leaf policy p s accepted sound can).ranks.count in
    let k = (arrives policy p s accepted can).few in
    omega arith

-- what an arrival's answer shows about the leaf
pub record IsAnswer (policy : Policy) (p : Packet) (s : SourceState) (number : ℕ) (full : Bool) : Type 0 where
  pub leaf_is : leaf_number policy p ≡ number
  pub fullness : is_full policy p s ≡ full

answer_by : (policy : Policy) (p : Packet) (s : SourceState) (a : Arrival) → a ≡ arrival_of policy p s → (t : Bool) → is_full policy p s ≡ t → a ≡ (if t then arrival.Dropped (leaf_number policy p) else arrival.Pushed (leaf_number policy p))
answer_by policy p s a e t f = subst (λ (t : Bool). a ≡ (if t then arrival.Dropped (leaf_number policy p) else arrival.Pushed (leaf_number policy p))) f e

pub answer_pushed : (policy : Policy) (p : Packet) (s : SourceState) (number : ℕ) → arrival.Pushed number ≡ arrival_of policy p s → IsAnswer policy p s number false
answer_pushed policy p s number e = by_test (is_full policy p s) refl
  where
    by_test : (t : Bool) → is_full policy p s ≡ t → IsAnswer policy p s number false
    by_test true f = let n : arrival.Pushed number ≡ arrival.Dropped (leaf_number policy p) = answer_by policy p s (arrival.Pushed number) e true f in cc
    by_test false f = let n : arrival.Pushed number ≡ arrival.Pushed (leaf_number policy p) = answer_by policy p s (arrival.Pushed number) e false f in record { leaf_is = cc; fullness = f }

pub answer_dropped : (policy : Policy) (p : Packet) (s : SourceState) (number : ℕ) → arrival.Dropped number ≡ arrival_of policy p s → IsAnswer policy p s number true
answer_dropped policy p s number e = by_test (is_full policy p s) refl
  where
    by_test : (t : Bool) → is_full policy p s ≡ t → IsAnswer policy p s number true
    by_test true f = let n : arrival.Dropped number ≡ arrival.Dropped (leaf_number policy p) = answer_by policy p s (arrival.Dropped number) e true f in record { leaf_is = cc; fullness = f }
    by_test false f = let n : arrival.Dropped number ≡ arrival.Pushed (leaf_number policy p) = answer_by policy p s (arrival.Dropped number) e false f in cc

-- the outcome of an arrival, by whether the leaf is full
outcome_by : (policy : Policy) (p : Packet) (s : SourceState) (full : Bool) → is_full policy p s ≡ full
    → (if full then events.Dropped p (class_of policy p).leaf else events.Arrived p (class_of policy p).leaf (arrival_ranks policy p s)) ∷ [] ≡ outcomes policy (Arrive p ∷ []) s
outcome_by policy p s full f =
    ap (λ (t : Bool). (if t then events.Dropped p (class_of policy p).leaf else events.Arrived p (class_of policy p).leaf (arrival_ranks policy p s)) ∷ []) (sym f)

pub outcome_pushed : (policy : Policy) (p : Packet) (s : SourceState) (ranks : List ℕ) → is_full policy p s ≡ false → ranks ≡ arrival_ranks policy p s
    → events.Arrived p (class_of policy p).leaf ranks ∷ [] ≡ outcomes policy (Arrive p ∷ []) s
outcome_pushed policy p s ranks free r = ap (λ (z : List ℕ). events.Arrived p (class_of policy p).leaf z ∷ []) r ∙ outcome_by policy p s false free

pub outcome_dropped : (policy : Policy) (p : Packet) (s : SourceState) → is_full policy p s ≡ true
    → events.Dropped p (class_of policy p).leaf ∷ [] ≡ outcomes policy (Arrive p ∷ []) s
outcome_dropped policy p s full = outcome_by policy p s true full
