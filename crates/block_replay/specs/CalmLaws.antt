-- The laws of calm policies.
use Rattle.std.specs.Prelude.{◌≡◌, ◌↔◌, ℕ, true, Some, List, [], ◌∷◌, length, slice_index, codes}
use Rattle.std.specs.List.{Contains}
use Rattle.tree_defs.specs.Tree.{Tree, leaf, inner, Trees, Address, child, root_of, subtree}
use Rattle.packet_defs.specs.declared.packet.Packet.{Packet}
use Rattle.policy_defs.specs.Policy.{Policy, Node}
use Rattle.policy_defs.specs.Accepted.{IsAccepted}
use Rattle.policy_defs.specs.BuiltIn.{AreBuiltIn}
use Rattle.embed_defs.specs.LiftLaws.{Maps}
use Rattle.embed_defs.specs.Spilling.{push_spills}
use Rattle.sched_defs.specs.SourceState.{SourceState, start, class_of, arrival_ranks, arrived, departed}
use Rattle.sched_defs.specs.Events.{Event, Arrive, Depart, after, CanArrive, CanMake}
use Rattle.block_replay.specs.CalmPolicies.{steady, is_calm}

-- ---- calm at each node
-- an inner node uses a steady transaction, and a leaf uses first in first out
abbrev pub UsesSteady : Tree Node → Type 0
UsesSteady (leaf n) = n.using ≡ codes "fifo"
UsesSteady (inner n ts) = Contains steady n.using

-- no two of these images have the same digit after their first n digits
abbrev pub DifferBehind : ℕ → Trees Address → Type 0
DifferBehind n ts =
    (i j : ℕ) (t u : Tree Address) → child ts i ≡ Some t → child ts j ≡ Some u
    → slice_index (root_of t) n ≡ slice_index (root_of u) n → i ≡ j

-- each node uses a transaction that it may use, and the images of its children differ right after
-- its own
pub record IsCalmAtEachNode (tree : Tree Node) (images : Tree Address) : Type 0 where
  pub steady : (a : Address) (u : Tree Node) → subtree tree a ≡ Some u → UsesSteady u
  pub spread : (a : Address) (e : Address) (ts : Trees Address) → subtree images a ≡ Some (inner e ts) → DifferBehind (length e) ts

abbrev pub CalmAtEachNode : Type 0
CalmAtEachNode = (tree : Tree Node) (images : Tree Address) → (is_calm tree images ≡ true) ↔ IsCalmAtEachNode tree images

-- ---- spills
-- a calm policy, laid by a good map into a complete tree of height h
pub record IsLaidCalmly (h : ℕ) (policy : Policy) (images : Tree Address) : Type 0 where
  pub accepted : IsAccepted policy
  pub built_in : AreBuiltIn policy
  pub maps : Maps h (start policy).tree images
  pub calm : is_calm policy.tree images ≡ true

-- the push of an arriving packet spills at no node
abbrev pub SpillsNowhere : Tree Address → Policy → Packet → SourceState → Type 0
SpillsNowhere images policy p s = push_spills images s.tree (class_of policy p).leaf (arrival_ranks policy p s) ≡ 0

-- no push of these events spills
abbrev pub NoneSpills : Tree Address → Policy → List Event → SourceState → Type 0
NoneSpills images policy [] s = Unit {0}
NoneSpills images policy (Arrive p ∷ events) s = SpillsNowhere images policy p s × NoneSpills images policy events (arrived policy p s)
NoneSpills images policy (Depart start ∷ events) s = NoneSpills images policy events (departed policy s)

-- after any events that can be made from the start, the push of each packet that can then arrive
-- spills at no node
abbrev pub CalmPoliciesNeverSpill : Type 0
CalmPoliciesNeverSpill =
    (h : ℕ) (policy : Policy) (images : Tree Address) (events : List Event) (p : Packet) → IsLaidCalmly h policy images
    → CanMake policy events (start policy) → CanArrive policy (after policy events (start policy)) p
    → SpillsNowhere images policy p (after policy events (start policy))

-- so no push among such events spills
abbrev pub CalmRunsNeverSpill : Type 0
CalmRunsNeverSpill =
    (h : ℕ) (policy : Policy) (images : Tree Address) (events : List Event) → IsLaidCalmly h policy images
    → CanMake policy events (start policy) → NoneSpills images policy events (start policy)
