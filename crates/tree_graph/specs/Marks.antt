-- Marks of nodes, and the work list: nodes whose children have still to be marked.
use Rattle.std.specs.Prelude.{ℕ, ◌≡◌, ◌+◌, ◌⊎◌, Bool, true, false, not, List, length, count_by, slice_index_or, Contains}
use Rattle.tree_graph.specs.Descent.{Graph, IsBelow, IsChild}

abbrev pub is_marked : List Bool → ℕ → Bool
is_marked marks j = slice_index_or marks j false

abbrev pub unmarked : List Bool → ℕ
unmarked marks = count_by not marks

-- the nodes of a list were marked, and those that weren't marked before were added to the work list
pub record MarksMore (nodes : List ℕ) (marks : List Bool) (work : List ℕ) (marks' : List Bool) (work' : List ℕ) : Type 0 where
  pub len : length marks' ≡ length marks
  pub kept : (j : ℕ) → is_marked marks j ≡ true → is_marked marks' j ≡ true
  pub marked : (j : ℕ) → Contains nodes j → is_marked marks' j ≡ true
  pub only : (j : ℕ) → is_marked marks' j ≡ true → (is_marked marks j ≡ true) ⊎ Contains nodes j
  pub work_kept : (j : ℕ) → Contains work j → Contains work' j
  pub work_new : (j : ℕ) → is_marked marks' j ≡ true → (is_marked marks j ≡ true) ⊎ Contains work' j
  pub work_only : (j : ℕ) → Contains work' j → Contains work j ⊎ Contains nodes j
  pub left : unmarked marks' + length work' ≡ unmarked marks + length work

-- each marked node is below the node; each node of the work list is too, or is the node itself; the
-- children of all other such nodes are marked
pub record MarksBelow (g : Graph) (node : ℕ) (marks : List Bool) (work : List ℕ) : Type 0 where
  pub len : length marks ≡ length g
  pub sound : (j : ℕ) → is_marked marks j ≡ true → IsBelow g node j
  pub work_sound : (j : ℕ) → Contains work j → (j ≡ node) ⊎ IsBelow g node j
  pub closed : (i : ℕ) → (i ≡ node) ⊎ (is_marked marks i ≡ true) → Contains work i ⊎ ((j : ℕ) → IsChild g i j → is_marked marks j ≡ true)
