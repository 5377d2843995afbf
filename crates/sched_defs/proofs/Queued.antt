-- The packet that is queued under a number, the leaf of its class, and the numbers in the leaves.
use Rattle.sched_defs.proofs.Prelude.{◌≡◌, [], ℕ, Some, ap, refl, subst, sym, length, ◌∙◌, None, false, Bool, true, ◌<◌, if◌then◌else◌, inl, inr, ◌≢◌, nat_eq, ◌⊎◌, eq-eqb, ne_eqb, eqb-false, Packet, IsAccepted, IsClassReady, Policy, no_marks, All-taken, IsOther, values-packets, packets-pop, values, Placed, packets, pop, SourceTree, Topology, topology_of, Address, Popping, LeadsToLeaf, IsSound, IsAtItsLeaf, SourceState, class_of, Held, with_packet, without}
use Rattle.std.proofs.lemmas.Bool.Decides.{Decides-eqb}
use Rattle.tree_defs.proofs.Shapes.{topology_of-same, LeadsToLeaf-topology}
use Rattle.sched_defs.proofs.Members.{all_mapped, all_over}
use Rattle.sched_defs.proofs.Visits.{class_ready}

-- ---- the queued packets
pub same_packet : (p q : Packet) → Some p ≡ Some q → p ≡ q
same_packet p q e = cc

-- one of two packets: the one that arrived, or one that was queued
pub with_packet-is : (held : Held) (p : Packet) (n : ℕ) (q : Packet) → with_packet held p n ≡ Some q → ((n ≡ p.number) × (p ≡ q)) ⊎ (held n ≡ Some q)
with_packet-is held p n q h = by_test (nat_eq n p.number) refl h
  where
    by_test : (t : Bool) → nat_eq n p.number ≡ t → (if t then Some p else held n) ≡ Some q → ((n ≡ p.number) × (p ≡ q)) ⊎ (held n ≡ Some q)
    by_test true e k = inl ((Decides-eqb n p.number).0 e, same_packet p q k)
    by_test false e k = inr k

pub with_packet-other : (held : Held) (p : Packet) (n : ℕ) → n ≢ p.number → with_packet held p n ≡ held n
with_packet-other held p n ne = rw (ne_eqb n p.number ne) refl

pub with_packet-same : (held : Held) (p : Packet) → with_packet held p p.number ≡ Some p
with_packet-same held p = rw (eq-eqb p.number p.number refl) refl

pub without-is : (held : Held) (m n : ℕ) (q : Packet) → without held m n ≡ Some q → (n ≢ m) × (held n ≡ Some q)
without-is held m n q h = by_test (nat_eq n m) refl h
  where
    by_test : (t : Bool) → nat_eq n m ≡ t → (if t then None else held n) ≡ Some q → (n ≢ m) × (held n ≡ Some q)
    by_test true e k = cc
    by_test false e k = (eqb-false n m e, k)

pub without-other : (held : Held) (m n : ℕ) → n ≢ m → without held m n ≡ held n
without-other held m n ne = rw (ne_eqb n m ne) refl

-- ---- classes
module _ (policy : Policy) (accepted : IsAccepted policy) where
  pub class_is_ready : (p : Packet) → p.class < length policy.classes → IsClassReady policy.tree (class_of policy p)
  class_is_ready p l = class_ready (IsClassReady policy.tree) (record { marks = no_marks; leaf = [] }) policy.classes p.class accepted.classes l

  -- a leaf's address leads to a leaf in each tree with the policy's topology
  pub leads_in : (s : SourceState) → IsSound policy s → (p : Packet) → p.class < length policy.classes → LeadsToLeaf s.tree (class_of policy p).leaf
  leads_in s sound p l =
      let a : Address = (class_of policy p).leaf in
      let r : LeadsToLeaf policy.tree a = (class_is_ready p l).leaf_address in
      let same : topology_of s.tree ≡ topology_of policy.tree = topology_of-same s.tree policy.tree sound.shape in
      let m : LeadsToLeaf (topology_of policy.tree) a = subst (λ (T : Type 0). T) (LeadsToLeaf-topology policy.tree a) r in
      let n : LeadsToLeaf (topology_of s.tree) a = subst (λ (z : Topology). LeadsToLeaf z a) (sym same) m in
      subst (λ (T : Type 0). T) (sym (LeadsToLeaf-topology s.tree a)) n

-- ---- numbers
pub other_number : (s : SourceState) (policy : Policy) (n : ℕ) → s.held n ≡ None → (at : Placed) → IsAtItsLeaf policy s at → at.1 ≢ n
other_number s policy n fresh at i e = let k : s.held at.1 ≡ None = ap s.held e ∙ fresh in let h = i.held in cc

-- a number under which no packet is queued is in no leaf
pub stands_nowhere : (policy : Policy) (s : SourceState) (n : ℕ) → IsSound policy s → s.held n ≡ None → IsOther n (values s.tree)
stands_nowhere policy s n sound fresh =
    subst (IsOther n) (values-packets s.tree)
    (all_over (λ (at : Placed). at.1) (λ m. nat_eq n m ≡ false) (packets s.tree)
    (all_mapped (IsAtItsLeaf policy s) (λ at. nat_eq n at.1 ≡ false) (λ at i. ne_eqb n at.1 (λ e. other_number s policy n fresh at i (sym e))) (packets s.tree) sound.placed))

-- the popped number is that of a queued packet
pub popped_is_held : (policy : Policy) (s : SourceState) (taken : Popping SourceTree) → IsSound policy s → pop s.tree ≡ Some taken → IsAtItsLeaf policy s (taken.digits, taken.value)
popped_is_held policy s taken sound e = (All-taken (IsAtItsLeaf policy s) (taken.digits, taken.value) (packets taken.left) (packets s.tree) (packets-pop s.tree taken e) sound.placed).0
