-- The states of the nodes of a tree, each at its node's number.
use Rattle.std.specs.Prelude.{◌≡◌, ℕ, List, [], ◌∷◌, Option, Some, None, length, slice_get, unwrap_or}
use Rattle.std.specs.Coded.{Coded-set, coded_ℕ, coded_bool, coded_option, Unit-prop, le_prop}
use Rattle.tree_defs.specs.Tree.{Tree, leaf, inner, Address, IsAddressOf, subtree, root_of, nodes, count_of}
use Rattle.rank_defs.specs.declared.environment.Who.{Who}
use Rattle.rank_defs.specs.declared.environment.Who.TheVariants.{Child}
use Rattle.rank_defs.specs.declared.transaction.Span.{Span}
use Rattle.rank_defs.specs.States.{SameState}
use Rattle.rank_defs.specs.Shapes.{IsStateInRange, AreWithin}
use Rattle.rank_core.specs.declared.node.NodeState.{NodeState}
use Rattle.rank_core.specs.Node.{state_of, children_of, BelongsTo, HasRoom}
use Rattle.policy_defs.specs.Policy.{Node}
use Rattle.policy_defs.specs.Numbers.{number_at}
use Rattle.policy_core.specs.Numbering.{address_at}
use Rattle.sched_defs.specs.Visits.{States}

-- the part of a tree at an address; the whole tree if there is none
abbrev pub part_at : {Q : Type 0} → Tree Q → Address → Tree Q
part_at tree a = unwrap_or (subtree tree a) tree

-- the part at the node with a number
abbrev pub numbered_part : Tree Node → ℕ → Tree Node
numbered_part tree node = part_at tree (address_at tree node)

-- how many children an inner node has; `None` for a leaf
abbrev pub arity : {Q : Type 0} → Tree Q → Option ℕ
arity (leaf n) = None
arity (inner n ts) = Some (count_of ts)

-- this is the state of the node at an address
abbrev pub Keeps : Tree Node → List NodeState → Address → NodeState → Type 0
Keeps tree states a x = slice_get states (number_at tree a) ≡ Some x

-- a node's state: each variable is in its range, and there is room for each child
pub record IsNodeStateOf (t : Tree Node) (x : NodeState) : Type 0 where
  pub in_range : IsStateInRange (root_of t).program (state_of x)
  pub children : children_of x ≡ arity t
  pub room : (i : ℕ) → BelongsTo (arity t) (Child i) → HasRoom x (Child i)

-- one state for each node
pub record AreNodeStates (tree : Tree Node) (states : List NodeState) : Type 0 where
  pub count : length states ≡ nodes tree
  pub each : (a : Address) (t : Tree Node) (x : NodeState) → subtree tree a ≡ Some t → Keeps tree states a x → IsNodeStateOf t x

AreWithin-prop : (spans : List Span) (values : List ℕ) → IsProp (AreWithin spans values)
AreWithin-prop [] [] = Unit-prop
AreWithin-prop [] (v ∷ values) = λ a b. absurd a
AreWithin-prop (s ∷ spans) [] = λ a b. absurd a
AreWithin-prop (s ∷ spans) (v ∷ values) = λ a b i. (le_prop a.0 b.0 i, le_prop a.1 b.1 i, AreWithin-prop spans values a.2 b.2 i)

IsNodeStateOf-prop : (t : Tree Node) (x : NodeState) → IsProp (IsNodeStateOf t x)
IsNodeStateOf-prop t x a b i = record {
  in_range = record {
    keeps = AreWithin-prop (root_of t).program.keeps (state_of x).keeps a.in_range.keeps b.in_range.keeps i;
    eaches = λ who. AreWithin-prop (root_of t).program.eaches ((state_of x).eaches who) (a.in_range.eaches who) (b.in_range.eaches who) i;
  };
  children = Coded-set (coded_option coded_ℕ) (children_of x) (arity t) a.children b.children i;
  room = λ j belongs. Coded-set coded_bool _ _ (a.room j belongs) (b.room j belongs) i;
}

-- all proofs of it are equal
pub AreNodeStates-prop : (tree : Tree Node) (states : List NodeState) → IsProp (AreNodeStates tree states)
AreNodeStates-prop tree states a b i = record {
  count = Coded-set coded_ℕ _ _ a.count b.count i;
  each = λ c t x e k. IsNodeStateOf-prop t x (a.each c t x e k) (b.each c t x e k) i;
}

-- the variables of each node have these values
abbrev pub HaveValues : Tree Node → List NodeState → States → Type 0
HaveValues tree states values =
    (a : Address) (x : NodeState) → IsAddressOf tree a → Keeps tree states a x → SameState (state_of x) (values a)

-- the node at an address has room for a child or a flow
abbrev pub HasRoomAt : Tree Node → List NodeState → Address → Who → Type 0
HasRoomAt tree states a who = (x : NodeState) → Keeps tree states a x → HasRoom x who
