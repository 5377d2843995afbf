-- Assignments that run in sequence.
use Rattle.rank_defs.proofs.Prelude.{refl, ℕ, ◌≡◌, [], ◌∷◌, List, ◌≢◌, ◌++◌, ◌∙◌, AllByRecursion, Program, Assignment, IsShaped, Memory, State, memory_for, pop_step, run, assigned, write, written, Env, Who, Aim}
use Rattle.rank_defs.specs.declared.transaction.Aim.TheVariants.{Rank, Keep, Each}

pub run-append : (p : Program) (env : Env) (xs ys : List Assignment) (m : Memory) → run p env (xs ++ ys) m ≡ run p env ys (run p env xs m)
run-append p env [] ys m = refl
run-append p env (a ∷ xs) ys m = run-append p env xs ys (assigned p env m a)

-- only an assignment to the rank changes it
pub write-rank : (a : Aim) (v : ℕ) (m : Memory) → a ≢ Rank → (write a v m).rank ≡ m.rank
write-rank Rank v m n = absurd (n refl)
write-rank (Keep i) v m n = refl
write-rank (Each i) v m n = refl

pub run-rank : (p : Program) (env : Env) (rest : List Assignment) (m : Memory) → AllByRecursion (λ a. a.aim ≢ Rank) rest → (run p env rest m).rank ≡ m.rank
run-rank p env [] m h = refl
run-rank p env (a ∷ rest) m h =
    run-rank p env rest (assigned p env m a) h.1 ∙ write-rank a.aim (written p env m a) m h.0

pub pop_step-rank : (p : Program) → IsShaped p → (who : Who) (env : Env) (taken : ℕ) (s : State) → (pop_step p who env taken s).rank ≡ taken
pop_step-rank p shaped who env taken s =
    run-rank p env p.pop (memory_for who taken s) shaped.leaves_rank
