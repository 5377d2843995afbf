-- The nodes on the path are the policy's, and the inputs of their steps are in range.
use Rattle.sched_defs.proofs.Prelude.{◌≡◌, List, [], arith, ℕ, ◌∷◌, Some, ap, refl, sym, length, suc, zero, ◌++◌, ◌∙◌, ◌≤◌, ◌<◌, append-nil, append_assoc, slice_get, AllByRecursion, unwrap_or, Packet, IsNodeReady, AreMarksInRange, Node, Class, no_marks, node_at, Marks, node_below, max_rank, Address, Tree, Trees, inner, leaf, more, none, root_of, Visit, visits_below, visits_from, child_marks, env_for}
use Rattle.rank_defs.specs.Shapes.{IsEnvInRange, max_len}

-- a visit to a node of the tree, with numbers in range
pub record IsVisitTo (root : Tree Node) (v : Visit) : Type 0 where
  pub node : Node
  pub stands : node_at root v.address ≡ Some node
  pub program : v.program ≡ node.program
  pub env : IsEnvInRange v.env

pub no_marks_in_range : AreMarksInRange no_marks
no_marks_in_range = record { prio = omega arith; weight_low = omega arith; weight_high = omega arith; slack = omega arith }

env_in_range : (p : Packet) (moment : ℕ) (m : Marks) → p.len ≤ max_len → moment ≤ max_rank → AreMarksInRange m → IsEnvInRange (env_for p moment m)
env_in_range p moment m l t h = record { len = l; now = t; prio = h.prio; weight_low = h.weight_low; weight_high = h.weight_high; slack = h.slack }

pub root_stands : (t : Tree Node) → node_at t [] ≡ Some (root_of t)
root_stands (leaf n) = refl
root_stands (inner n ts) = refl

child_marks_in_range : (ts : Trees Node) (i : ℕ) → ((j : ℕ) (n : Node) → node_below ts j [] ≡ Some n → AreMarksInRange n.marks) → AreMarksInRange (child_marks ts i)
child_marks_in_range none i h = no_marks_in_range
child_marks_in_range (more t ts) zero h = h zero (root_of t) (root_stands t)
child_marks_in_range (more t ts) (suc i) h = child_marks_in_range ts i (λ j. h (suc j))

-- a node in the subtree at an address is a node of the tree
abbrev pub IsPart : Tree Node → Address → Tree Node → Type 0
IsPart root a t = (b : Address) → node_at root (a ++ b) ≡ node_at t b

module _ (root : Tree Node) (ready : (a : Address) (n : Node) → node_at root a ≡ Some n → IsNodeReady n) (c : Class) (marks : AreMarksInRange c.marks) (p : Packet) (known : p.len ≤ max_len) (moment : ℕ) (now : moment ≤ max_rank) where
  visit_to : (a : Address) (t : Tree Node) (v : Visit) → IsPart root a t → v.address ≡ a → v.program ≡ (root_of t).program → IsEnvInRange v.env → IsVisitTo root v
  visit_to a t v part at program env = record {
    node = root_of t;
    stands = ap (node_at root) (at ∙ sym (append-nil a)) ∙ part [] ∙ root_stands t;
    program = program;
    env = env;
  }

  mutual
    pub visits_from-are : (t : Tree Node) (a : Address) (digits : List ℕ) → IsPart root a t → AllByRecursion (IsVisitTo root) (visits_from t a digits c p moment)
    visits_from-are (leaf n) a digits part = (visit_to a (leaf n) _ part refl refl (env_in_range p moment c.marks known now marks), tt)
    visits_from-are (inner n ts) a [] part = tt
    visits_from-are (inner n ts) a (i ∷ digits) part = (
      visit_to a (inner n ts) _ part refl refl (env_in_range p moment (child_marks ts i) known now (child_marks_in_range ts i (λ j m e. (ready (a ++ j ∷ []) m (part (j ∷ []) ∙ e)).marks))),
      visits_below-are ts i (a ++ i ∷ []) digits (λ b. ap (node_at root) (append_assoc a (i ∷ []) b) ∙ part (i ∷ b)),
    )

    pub visits_below-are : (ts : Trees Node) (i : ℕ) (a : Address) (digits : List ℕ) → ((b : Address) → node_at root (a ++ b) ≡ node_below ts i b) → AllByRecursion (IsVisitTo root) (visits_below ts i a digits c p moment)
    visits_below-are none i a digits part = tt
    visits_below-are (more t ts) zero a digits part = visits_from-are t a digits part
    visits_below-are (more t ts) (suc i) a digits part = visits_below-are ts i a digits part

-- the class of a number below the count is one of the classes
pub class_ready : (P : Class → Type 0) (d : Class) (classes : List Class) (i : ℕ) → AllByRecursion P classes → i < length classes → P (unwrap_or (slice_get classes i) d)
class_ready P d [] i h l = absurd (omega arith)
class_ready P d (c ∷ classes) zero h l = h.0
class_ready P d (c ∷ classes) (suc i) h l = class_ready P d classes i h.1 (omega arith)
