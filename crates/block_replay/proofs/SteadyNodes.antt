-- In a tree whose nodes use steady names, the nodes have steady programs.
use Rattle.block_replay.proofs.Prelude.{refl, ◌≡◌, [], ℕ, ◌∙◌, sym, ◌∷◌, List, Some, ap, subst, suc, zero, true, inl, inr, codes, and_parts, or_cases, AllByRecursion, list_any, Node, node_at, node_below, same_name-is, fifo, same_name, stfq, builtin, lstf, rr, strict, Program, Address, Tree, Trees, inner, leaf, none, more, has_steady_nodes, is_steady, steady, have_steady_nodes}
use Rattle.block_replay.proofs.Steady.{IsSteady}
use Rattle.block_replay.proofs.SteadyBuiltins.{fifo-steady, strict-steady, lstf-steady, rr-steady, stfq-steady}

-- a name of a built-in transaction that is steady
record NamesSteady (name : List ℕ) : Type 0 where
  program : Program
  named : builtin name ≡ Some program
  holds : IsSteady program

all_steady : AllByRecursion NamesSteady steady
all_steady = (
  record { program = fifo; named = refl; holds = fifo-steady },
  (
    record { program = strict; named = refl; holds = strict-steady },
    (
      record { program = lstf; named = refl; holds = lstf-steady },
      (
        record { program = rr; named = refl; holds = rr-steady },
        (record { program = stfq; named = refl; holds = stfq-steady }, tt),
      ),
    ),
  ),
)

module _ (P : List ℕ → Type 0) where
  one_of : (name : List ℕ) (names : List (List ℕ)) → AllByRecursion P names → list_any (same_name name) names ≡ true → P name
  one_of name [] h e = cc
  one_of name (x ∷ names) h e = elim (or_cases (same_name name x) (list_any (same_name name) names) e) [
    | inl k ↦ subst P (sym (same_name-is name x k)) h.0
    | inr k ↦ one_of name names h.1 k
  ]

-- each inner node has a steady program, and each leaf has the program of first in first out
abbrev mutual
  pub HasSteadyPrograms : Tree Node → Type 0
  HasSteadyPrograms (leaf n) = n.program ≡ fifo
  HasSteadyPrograms (inner n ts) = IsSteady n.program × HaveSteadyPrograms ts

  pub HaveSteadyPrograms : Trees Node → Type 0
  HaveSteadyPrograms none = Unit {0}
  HaveSteadyPrograms (more t ts) = HasSteadyPrograms t × HaveSteadyPrograms ts

mutual
  pub steady_programs : (t : Tree Node) → ((a : Address) (n : Node) (program : Program) → node_at t a ≡ Some n → builtin n.using ≡ Some program → n.program ≡ program)
      → has_steady_nodes t ≡ true → HasSteadyPrograms t
  steady_programs (leaf n) h e = h [] n fifo refl (ap builtin (same_name-is n.using (codes "fifo") e))
  steady_programs (inner n ts) h e =
      let both : (is_steady n.using ≡ true) × (have_steady_nodes ts ≡ true) = and_parts (is_steady n.using) (have_steady_nodes ts) e in
      let w : NamesSteady n.using = one_of NamesSteady n.using steady all_steady both.0 in
      let same : n.program ≡ w.program = h [] n w.program refl w.named in
      (subst IsSteady (sym same) w.holds, steady_programs_below ts (λ i a. h (i ∷ a)) both.1)

  pub steady_programs_below : (ts : Trees Node) → ((i : ℕ) (a : Address) (n : Node) (program : Program) → node_below ts i a ≡ Some n → builtin n.using ≡ Some program → n.program ≡ program)
      → have_steady_nodes ts ≡ true → HaveSteadyPrograms ts
  steady_programs_below none h e = tt
  steady_programs_below (more t ts) h e =
      let both : (has_steady_nodes t ≡ true) × (have_steady_nodes ts ≡ true) = and_parts (has_steady_nodes t) (have_steady_nodes ts) e in
      (steady_programs t (h zero) both.0, steady_programs_below ts (λ i. h (suc i)) both.1)

-- the program of the node at an address
mutual
  pub steady_at : (t : Tree Node) → HasSteadyPrograms t → (a : Address) (n : Node) → node_at t a ≡ Some n → IsSteady n.program
  steady_at (leaf m) h [] n e =
      let same : m ≡ n = cc in
      subst IsSteady (sym h ∙ ap (λ (z : Node). z.program) same) fifo-steady
  steady_at (leaf m) h (i ∷ a) n e = cc
  steady_at (inner m ts) h [] n e =
      let same : m ≡ n = cc in
      subst (λ (z : Node). IsSteady z.program) same h.0
  steady_at (inner m ts) h (i ∷ a) n e = steady_below ts h.1 i a n e

  pub steady_below : (ts : Trees Node) → HaveSteadyPrograms ts → (i : ℕ) (a : Address) (n : Node) → node_below ts i a ≡ Some n → IsSteady n.program
  steady_below none h i a n e = cc
  steady_below (more t ts) h zero a n e = steady_at t h.0 a n e
  steady_below (more t ts) h (suc i) a n e = steady_below ts h.1 i a n e
