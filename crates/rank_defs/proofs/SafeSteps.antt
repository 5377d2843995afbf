-- Steps of checked transactions are tame and keep the variables in their ranges.
use Rattle.rank_defs.proofs.Prelude.{ℕ, arith, false, true, [], ◌∷◌, List, ◌≤◌, ◌++◌, cond, AllByRecursion, IsCheckedAssignment, IsChecked, Program, Assignment, max_rank, target, declared, IsShaped, AreWithin, IsEnvInRange, IsMemoryInRange, IsStateInRange, Memory, State, memory_for, put_back, same_who, variable_in, first_state, pop_step, run, assigned, push_step, write, written, IsAlwaysTame, IsSafePop, IsSafePush, IsTame, IsTameAssignment, value_of, Env, Who, Aim}
use Rattle.rank_defs.specs.declared.transaction.Aim.TheVariants.{Rank, Keep, Each}
use Rattle.rank_defs.proofs.ValueIntervals.{parts_in, parts_narrow}
use Rattle.rank_defs.proofs.Spans.{within-set, within-firsts, clamped-within, target-proper, variables-inside}

-- the number written lies in its span
pub written-within : (p : Program) → IsShaped p → (env : Env) (m : Memory) (a : Assignment) → ((target p a.aim).low ≤ written p env m a) × (written p env m a ≤ (target p a.aim).high)
written-within p shaped env m a =
    let proper = target-proper p shaped a.aim
    in clamped-within (target p a.aim) (value_of (variable_in env m) a.formula) proper.ordered

-- writing a number from the target's span keeps the variables in range
pub write-in_range : (p : Program) (a : Aim) (v : ℕ) (m : Memory) → IsMemoryInRange p m → (target p a).low ≤ v → v ≤ (target p a).high → IsMemoryInRange p (write a v m)
write-in_range p Rank v m h l k = record { rank = k; keeps = h.keeps; eaches = h.eaches }
write-in_range p (Keep i) v m h l k =
    record { rank = h.rank; keeps = within-set p.keeps m.keeps i v h.keeps l k; eaches = h.eaches }
write-in_range p (Each i) v m h l k =
    record { rank = h.rank; keeps = h.keeps; eaches = within-set p.eaches m.eaches i v h.eaches l k }

-- an assignment keeps the variables in their ranges, whatever its value
pub assigned-in_range : (p : Program) → IsShaped p → (env : Env) (m : Memory) (a : Assignment) → IsMemoryInRange p m → IsMemoryInRange p (assigned p env m a)
assigned-in_range p shaped env m a h =
    let w = written-within p shaped env m a
    in write-in_range p a.aim (written p env m a) m h w.0 w.1

pub run-in_range : (p : Program) → IsShaped p → (env : Env) (rest : List Assignment) (m : Memory) → IsMemoryInRange p m → IsMemoryInRange p (run p env rest m)
run-in_range p shaped env [] m h = h
run-in_range p shaped env (a ∷ rest) m h =
    run-in_range p shaped env rest (assigned p env m a) (assigned-in_range p shaped env m a h)

-- a checked assignment is tame for all values of the variables in their ranges
pub checked-tame : (p : Program) (env : Env) (m : Memory) (a : Assignment) → IsEnvInRange env → IsMemoryInRange p m → IsCheckedAssignment p a → IsTameAssignment p env m a
checked-tame p env m a e h c =
    let parts = parts_in (declared p) (variable_in env m) (variables-inside p env m e h) a.formula c.divides
    in record { typed = c.typed; inside = parts; narrow = parts_narrow (declared p) (variable_in env m) a.formula c.narrow parts }

all-tame : (p : Program) (env : Env) (m : Memory) → IsEnvInRange env → IsMemoryInRange p m → (xs ys : List Assignment) → AllByRecursion (IsCheckedAssignment p) xs → AllByRecursion (IsCheckedAssignment p) ys → AllByRecursion (IsTameAssignment p env m) (xs ++ ys)
all-tame p env m e h [] [] c d = tt
all-tame p env m e h [] (y ∷ ys) c d = (checked-tame p env m y e h d.0, all-tame p env m e h [] ys c d.1)
all-tame p env m e h (x ∷ xs) ys c d = (checked-tame p env m x e h c.0, all-tame p env m e h xs ys c.1 d)

-- so a checked transaction is always tame
pub always-tame : (p : Program) → IsChecked p → IsAlwaysTame p
always-tame p c env e m h = all-tame p env m e h p.push p.pop c.push c.pop

pub run-tame : (p : Program) → IsShaped p → (env : Env) → IsEnvInRange env → (rest : List Assignment) → AllByRecursion (IsCheckedAssignment p) rest → (m : Memory) → IsMemoryInRange p m → IsTame p env rest m
run-tame p shaped env e [] c m h = tt
run-tame p shaped env e (a ∷ rest) c m h =
    (checked-tame p env m a e h c.0, run-tame p shaped env e rest c.1 (assigned p env m a) (assigned-in_range p shaped env m a h))

-- the memory at the start of a step is in range
pub memory-in_range : (p : Program) (who : Who) (r : ℕ) (s : State) → IsStateInRange p s → r ≤ max_rank → IsMemoryInRange p (memory_for who r s)
memory-in_range p who r s h k = record { rank = k; keeps = h.keeps; eaches = h.eaches who }

-- the state after the step is in range
pub put_back-in_range : (p : Program) (who : Who) (m : Memory) (s : State) → IsMemoryInRange p m → IsStateInRange p s → IsStateInRange p (put_back who m s)
put_back-in_range p who m s h k =
    record { keeps = h.keeps; eaches = λ w. elim (same_who w who) as (λ b. AreWithin p.eaches (cond b m.eaches (s.eaches w))) [ true ↦ h.eaches | false ↦ k.eaches w ] }

-- the initial state is in range
pub first_state-in_range : (p : Program) → IsShaped p → IsStateInRange p (first_state p)
first_state-in_range p shaped =
    record { keeps = within-firsts p.keeps shaped.keeps; eaches = λ who. within-firsts p.eaches shaped.eaches }

pub safe_push : (p : Program) → IsShaped p → IsChecked p → (s : State) → IsStateInRange p s → (env : Env) → IsEnvInRange env → (who : Who) → IsSafePush p who env s
safe_push p shaped checked s h env e who =
    let begin = memory-in_range p who 0 s h (omega arith)
    in let end = run-in_range p shaped env p.push (memory_for who 0 s) begin
    in record { tame = run-tame p shaped env e p.push checked.push (memory_for who 0 s) begin; rank = end.rank; after = put_back-in_range p who (push_step p who env s) s end h }

pub safe_pop : (p : Program) → IsShaped p → IsChecked p → (s : State) → IsStateInRange p s → (env : Env) → IsEnvInRange env → (who : Who) → (taken : ℕ) → taken ≤ max_rank → IsSafePop p who env taken s
safe_pop p shaped checked s h env e who taken k =
    let begin = memory-in_range p who taken s h k
    in let end = run-in_range p shaped env p.pop (memory_for who taken s) begin
    in record { tame = run-tame p shaped env e p.pop checked.pop (memory_for who taken s) begin; after = put_back-in_range p who (pop_step p who env taken s) s end h }
