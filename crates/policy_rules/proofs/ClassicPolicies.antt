-- Statements of the classic edition give a classic policy.
use Rattle.policy_rules.proofs.Prelude.{◌∙◌, ap, List, ◌≡◌, sym, [], ◌∷◌, refl, true, false, true≢false, subst, Some, None, Option, inl, inr, ◌⊎◌, ◌&&◌, zero, suc, ℕ, Any, All, IsTrue, unwrap_or, option_map_or, and_parts, or-false, Name, Entry, Sense, leaf, node}
use Rattle.tree_defs.specs.Tree.{Tree, leaf as leaf_of, inner, Trees, none, more, Address, LeadsToLeaf, LeadsBelow}
use Rattle.rank_defs.specs.declared.flow_group.FlowGroup.{FlowGroup}
use Rattle.rank_defs.specs.declared.flow_group.FlowGroup.TheVariants.{FiveTuple}
use Rattle.policy_text_defs.specs.declared.edition.Edition.TheVariants.{Classic}
use Rattle.policy_text_defs.specs.declared.queueing.Queueing.{Queueing}
use Rattle.policy_text_defs.specs.Settings.{is_open, has_only_packets, has_nothing}
use Rattle.policy_text_defs.specs.Editions.{is_of}
use Rattle.policy_defs.specs.declared.limits.Limits.{Limits}
use Rattle.policy_defs.specs.Policy.{Node, node_at, node_below, no_limits, at_most}
use Rattle.policy_defs.specs.Classic.{IsClassic}
use Rattle.policy_rules.specs.Resolved.{Resolved, IsResolved, IsTreeIn, AreTreesIn, IsLeafOf, IsInnerOf, limits_of, group_of, names_of}

-- ---- what is written
is-none : {A : Type 0} (o : Option A) → is_open o ≡ true → o ≡ None
is-none None h = refl
is-none (Some a) h = absurd (true≢false (sym h))

-- a limit in packets at most, and no fields of flows
record IsPlain (q : Queueing) : Type 0 where
  bytes : q.bytes ≡ None
  per_flow : q.per_flow ≡ None
  by : q.by ≡ None

plain : (q : Queueing) → has_only_packets q ≡ true → IsPlain q
plain q only =
    let parts : IsTrue (is_open q.bytes) × IsTrue (is_open q.per_flow && is_open q.by) = and_parts (is_open q.bytes) (is_open q.per_flow && is_open q.by) only in
    let rest : IsTrue (is_open q.per_flow) × IsTrue (is_open q.by) = and_parts (is_open q.per_flow) (is_open q.by) parts.1 in
    record { bytes = is-none q.bytes parts.0; per_flow = is-none q.per_flow rest.0; by = is-none q.by rest.1 }

plain-limits : (q : Queueing) → IsPlain q → limits_of q ≡ at_most q.packets
plain-limits q is =
    ap (λ (o : Option ℕ). record { packets = q.packets; bytes = o; per_flow = q.per_flow }) is.bytes
    ∙ ap (λ (o : Option ℕ). record { packets = q.packets; bytes = None; per_flow = o }) is.per_flow

plain-group : (q : Queueing) → IsPlain q → group_of q ≡ FiveTuple
plain-group q is = ap (λ (o : Option FlowGroup). unwrap_or o FiveTuple) is.by

-- ---- one statement
record IsPlainNode (n : Node) : Type 0 where
  limits : n.limits ≡ at_most n.limits.packets
  group : n.group ≡ FiveTuple

plain-leaf : (es : List Entry) (n : Node) (s : Sense) → is_of Classic s ≡ true → IsLeafOf es n s → IsPlainNode n
plain-leaf es n (leaf m u a q ns) own said =
    let is = plain q (sym (or-false (has_only_packets q)) ∙ own) in
    record {
      limits = said.limits_are ∙ plain-limits q is ∙ ap (λ (l : Limits). at_most l.packets) (sym said.limits_are);
      group = said.group_is ∙ plain-group q is;
    }
plain-leaf es n s own said = absurd said

record IsBareNode (n : Node) : Type 0 where
  limits : n.limits ≡ no_limits
  group : n.group ≡ FiveTuple

bare-inner : (es : List Entry) (n : Node) (names : List Name) (s : Sense) → is_of Classic s ≡ true → IsInnerOf es n names s → IsBareNode n
bare-inner es n names (node m u a q ns) own said =
    let parts : IsTrue (is_open q.packets) × IsTrue (has_only_packets q) = and_parts (is_open q.packets) (has_only_packets q) (sym (or-false (has_nothing q)) ∙ own) in
    let is = plain q parts.1 in
    record {
      limits = said.0.limits_are ∙ plain-limits q is ∙ ap at_most (is-none q.packets parts.0);
      group = said.0.group_is ∙ plain-group q is;
    }
bare-inner es n names s own said = absurd said

-- ---- the tree
abbrev limits_in : Option Node → Limits
limits_in o = option_map_or (λ (n : Node). n.limits) o no_limits

abbrev group_in : Option Node → FlowGroup
group_in o = option_map_or (λ (n : Node). n.group) o FiveTuple

-- the node at an address, if there is one, and whether it is a leaf
record IsClassicIn (o : Option Node) (AtLeaf : Type 0) : Type 0 where
  at_leaf : (limits_in o ≡ no_limits) ⊎ AtLeaf
  of_packets : limits_in o ≡ at_most (limits_in o).packets
  group : group_in o ≡ FiveTuple

nowhere : (AtLeaf : Type 0) → IsClassicIn None AtLeaf
nowhere AtLeaf = record { at_leaf = inl refl; of_packets = refl; group = refl }

-- a property of statements that give a property of the node
of-some : (es : List Entry) (P : Sense → Type 0) (R : Type 0) → All (λ (e : Entry). is_of Classic e.1 ≡ true) es → ((s : Sense) → is_of Classic s ≡ true → P s → R) → Any (λ (e : Entry). P e.1) es → R
of-some es P R own go at = go at.1.1 (subst (λ (e : Entry). is_of Classic e.1 ≡ true) at.3 (own at.0 at.1 at.2)) at.4

mutual
  classic-at : (es : List Entry) → All (λ (e : Entry). is_of Classic e.1 ≡ true) es → (tree : Tree Node) (a : Address) → IsTreeIn es tree → IsClassicIn (node_at tree a) (LeadsToLeaf tree a)
  classic-at es own (leaf_of n) [] said =
      let is : IsPlainNode n = of-some es (IsLeafOf es n) (IsPlainNode n) own (λ s o p. plain-leaf es n s o p) said in
      record { at_leaf = inr tt; of_packets = is.limits; group = is.group }
  classic-at es own (leaf_of n) (i ∷ a) said = nowhere _
  classic-at es own (inner n ts) [] said =
      let is : IsBareNode n = of-some es (IsInnerOf es n (names_of ts)) (IsBareNode n) own (λ s o p. bare-inner es n (names_of ts) s o p) said.0 in
      record { at_leaf = inl is.limits; of_packets = is.limits ∙ ap (λ (l : Limits). at_most l.packets) (sym is.limits); group = is.group }
  classic-at es own (inner n ts) (i ∷ a) said = classic-below es own ts i a said.1

  classic-below : (es : List Entry) → All (λ (e : Entry). is_of Classic e.1 ≡ true) es → (ts : Trees Node) (i : ℕ) (a : Address) → AreTreesIn es ts → IsClassicIn (node_below ts i a) (LeadsBelow ts i a)
  classic-below es own none i a said = nowhere _
  classic-below es own (more t ts) zero a said = classic-at es own t a said.0
  classic-below es own (more t ts) (suc i) a said = classic-below es own ts i a said.1

pub classic-policy : (es : List Entry) (r : Resolved) → All (λ (e : Entry). is_of Classic e.1 ≡ true) es → IsResolved es r → IsClassic r.policy
classic-policy es r own resolved = record {
  at_leaves = λ a. (classic-at es own r.policy.tree a resolved.tree).at_leaf;
  of_packets = λ a. (classic-at es own r.policy.tree a resolved.tree).of_packets;
  groups = λ a. (classic-at es own r.policy.tree a resolved.tree).group;
}
