-- Transactions with which the ranks of a child never fall: each has a floor for the child, which
-- never falls either.
use Rattle.block_replay.proofs.Prelude.{◌≡◌, [], ℕ, List, ◌≤◌, Program, IsEnvInRange, IsStateInRange, State, push_rank, pop_step, push_step, run, Env, Who}

-- the rank of a push of a child with these variables, if each of the node's own variables were 0
abbrev pub floor : Program → Env → List ℕ → ℕ
floor p env eaches = (run p env p.push (record { rank = 0; keeps = []; eaches = eaches })).rank

-- the marks of one child, at two timestamps
pub record HasMarksOf (old new : Env) : Type 0 where
  pub prio : old.prio ≡ new.prio
  pub weight : old.weight ≡ new.weight
  pub slack : old.slack ≡ new.slack

-- No rank of a child is below its floor. The floor doesn't fall as time passes. After a push of the
-- child it is at least the rank. A pop doesn't change it.
pub record IsSteady (p : Program) : Type 0 where
  pub above : (who : Who) (env : Env) (s : State) → floor p env (s.eaches who) ≤ push_rank p who env s
  pub later : (old new : Env) (eaches : List ℕ) → HasMarksOf old new → old.now ≤ new.now → floor p old eaches ≤ floor p new eaches
  pub raised : (who : Who) (env : Env) (s : State) → IsEnvInRange env → IsStateInRange p s → push_rank p who env s ≤ floor p env (push_step p who env s).eaches
  pub popped : (who : Who) (env : Env) (taken : ℕ) (s : State) → (pop_step p who env taken s).eaches ≡ s.eaches who
