-- Steps that change no variable.
use Rattle.rank_core.proofs.Prelude.{◌≡◌, sym, subst, List, ap, ℕ, refl, false, true, cond, same_who-is, Memory, SameState, memory_for, put_back, same_who, State, Env, Who, Assign, Transaction, state_of, step_of, HasState, NodeState}

-- putting back unchanged values gives the same state
pub put_back-unchanged : (who : Who) (r : ℕ) (s : State) → SameState s (put_back who (memory_for who r s) s)
put_back-unchanged who r s =
    record { keeps = refl; eaches = λ w. (elim (same_who w who) as (λ b. same_who w who ≡ b → s.eaches w ≡ cond b (s.eaches who) (s.eaches w)) [ true ↦ λ e. ap s.eaches (same_who-is w who e) | false ↦ λ e. refl ]) refl }

-- a step that changes only the rank keeps the node's state
pub rank_alone : (t : Transaction) (assigns : List Assign) (who : Who) (env : Env) (r told : ℕ) (n : NodeState) → step_of t assigns who env r n ≡ memory_for who told (state_of n) → HasState n (put_back who (step_of t assigns who env r n) (state_of n))
rank_alone t assigns who env r told n e = subst (λ (m : Memory). SameState (state_of n) (put_back who m (state_of n))) (sym e) (put_back-unchanged who told (state_of n))
