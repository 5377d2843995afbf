-- Calm policies: no packet is ranked below an earlier one of the same child, and each child has its
-- own digit.
use Rattle.std.specs.Prelude.{◌≡◌, refl, ℕ, Bool, true, false, not, ◌&&◌, List, [], ◌∷◌, length, nat_eq, slice_index, codes}
use Rattle.std.specs.List.{list_any}
use Rattle.tree_defs.specs.Tree.{Tree, leaf, inner, Trees, none, more, Address, root_of}
use Rattle.tree_defs.specs.SourceTree.{SourceTree}
use Rattle.rank_defs.specs.declared.flow_group.FlowGroup.TheVariants.{FiveTuple}
use Rattle.rank_defs.specs.Builtins.{same_name, fifo}
use Rattle.policy_defs.specs.Policy.{Node, no_marks, no_limits}
use Rattle.embed_defs.specs.Lift.{with_transit, chain}
use Rattle.embed_defs.specs.Spilling.{push_spills}

-- the built-in transactions that never rank a packet of a child below an earlier one of that child
abbrev pub steady : List (List ℕ)
steady = codes "fifo" ∷ codes "strict" ∷ codes "lstf" ∷ codes "rr" ∷ codes "stfq" ∷ []

abbrev pub is_steady : List ℕ → Bool
is_steady name = list_any (same_name name) steady

-- each inner node uses a steady transaction, and each leaf uses first in first out
abbrev mutual
  pub has_steady_nodes : Tree Node → Bool
  has_steady_nodes (leaf n) = same_name n.using (codes "fifo")
  has_steady_nodes (inner n ts) = is_steady n.using && have_steady_nodes ts

  pub have_steady_nodes : Trees Node → Bool
  have_steady_nodes none = true
  have_steady_nodes (more t ts) = has_steady_nodes t && have_steady_nodes ts

-- the digit of each child's image that follows its first n digits
abbrev pub digits_behind : ℕ → Trees Address → List ℕ
digits_behind n none = []
digits_behind n (more t ts) = slice_index (root_of t) n ∷ digits_behind n ts

-- no number is equal to a later one
abbrev pub all_differ : List ℕ → Bool
all_differ [] = true
all_differ (x ∷ xs) = not (list_any (nat_eq x) xs) && all_differ xs

-- the images of each inner node's children differ in the digit right after the node's image
abbrev mutual
  pub is_spread : Tree Address → Bool
  is_spread (leaf e) = true
  is_spread (inner e ts) = all_differ (digits_behind (length e) ts) && are_spread ts

  pub are_spread : Trees Address → Bool
  are_spread none = true
  are_spread (more t ts) = is_spread t && are_spread ts

-- the tree of a policy, laid by the images of its nodes
abbrev pub is_calm : Tree Node → Tree Address → Bool
is_calm tree images = has_steady_nodes tree && is_spread images

pub is_steady-stfq : is_steady (codes "stfq") ≡ true
is_steady-stfq = refl

-- a packet shorter than the queued ones is ranked below them
pub is_steady-shortest : is_steady (codes "shortest") ≡ false
is_steady-shortest = refl

pub is_steady-longer_name : is_steady (codes "strict2") ≡ false
is_steady-longer_name = refl

abbrev pub node_using : List ℕ → Node
node_using name = record { name = []; using = name; program = fifo; marks = no_marks; limits = no_limits; group = FiveTuple }

-- a node with two leaves
abbrev pub team_of : List ℕ → List ℕ → Tree Node
team_of team desk = inner (node_using team) (more (leaf (node_using desk)) (more (leaf (node_using desk)) none))

-- a root above a leaf and that node
abbrev pub office_of : List ℕ → List ℕ → List ℕ → Tree Node
office_of root team desk = inner (node_using root) (more (leaf (node_using (codes "fifo"))) (more (team_of team desk) none))

pub has_steady_nodes-office : has_steady_nodes (office_of (codes "stfq") (codes "strict") (codes "fifo")) ≡ true
has_steady_nodes-office = refl

pub has_steady_nodes-shortest_below_the_root : has_steady_nodes (office_of (codes "stfq") (codes "shortest") (codes "fifo")) ≡ false
has_steady_nodes-shortest_below_the_root = refl

-- a leaf that ranks by flow may rank a packet below an earlier one of another flow
pub has_steady_nodes-stfq_at_a_leaf : has_steady_nodes (office_of (codes "stfq") (codes "strict") (codes "stfq")) ≡ false
has_steady_nodes-stfq_at_a_leaf = refl

abbrev pub team_apart : Tree Address
team_apart = inner (1 ∷ 0 ∷ []) (more (leaf (1 ∷ 0 ∷ 1 ∷ [])) (more (leaf (1 ∷ 0 ∷ 0 ∷ [])) none))

-- laid into the binary tree of height 3, with a transit node on the path to each child of the root
abbrev pub apart : Tree Address
apart = inner [] (more (leaf (0 ∷ 0 ∷ 0 ∷ [])) (more team_apart none))

pub is_spread-apart : is_spread apart ≡ true
is_spread-apart = refl

-- both children of the root are below digit 0
pub is_spread-with_transit : is_spread with_transit ≡ false
is_spread-with_transit = refl

pub is_spread-chain : is_spread chain ≡ true
is_spread-chain = refl

-- two leaves below an image of one digit; both images continue with 0
abbrev pub together : Tree Address
together = inner (1 ∷ []) (more (leaf (1 ∷ 0 ∷ 0 ∷ [])) (more (leaf (1 ∷ 0 ∷ 1 ∷ [])) none))

pub is_spread-below_the_root : is_spread (inner [] (more together none)) ≡ false
is_spread-below_the_root = refl

pub is_calm-apart : is_calm (office_of (codes "rr") (codes "lstf") (codes "fifo")) apart ≡ true
is_calm-apart = refl

pub is_calm-one_digit : is_calm (office_of (codes "rr") (codes "lstf") (codes "fifo")) with_transit ≡ false
is_calm-one_digit = refl

-- a packet for child 0 is queued with rank 5, and one for child 1 arrives with rank 3
abbrev pub one_waits : SourceTree
one_waits = inner ((5, 0) ∷ []) (more (leaf ((0, 1) ∷ [])) (more (inner [] (more (leaf []) (more (leaf []) none))) none))

-- if both children are below one digit, the push spills at the root
pub push_spills-one_digit : push_spills with_transit one_waits (1 ∷ 0 ∷ []) (3 ∷ 0 ∷ 0 ∷ []) ≡ 1
push_spills-one_digit = refl

pub push_spills-apart : push_spills apart one_waits (1 ∷ 0 ∷ []) (3 ∷ 0 ∷ 0 ∷ []) ≡ 0
push_spills-apart = refl
