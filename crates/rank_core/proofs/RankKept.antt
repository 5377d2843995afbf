-- A step that writes one variable of the node, and nothing else.
use Rattle.rank_core.proofs.Prelude.{◌≡◌, sym, subst, List, ℕ, slice_set, Memory, SameState, memory_for, put_back, write, Env, Who, Keep, Assign, Transaction, state_of, step_of, HasState, NodeState}
use Rattle.rank_core.proofs.NoLines.{put_back-unchanged}

-- no other value is put back, so all others are unchanged
pub keep_alone : (t : Transaction) (assigns : List Assign) (who : Who) (env : Env) (r k v : ℕ) (n m : NodeState) → step_of t assigns who env r n ≡ write (Keep k) v (memory_for who r (state_of n)) → m.keeps.items ≡ slice_set n.keeps.items k v → m.firsts ≡ n.firsts → m.eaches ≡ n.eaches → HasState m (put_back who (step_of t assigns who env r n) (state_of n))
keep_alone t assigns who env r k v n m e keeps firsts eaches =
    subst (λ (w : Memory). SameState (state_of m) (put_back who w (state_of n))) (sym e) (record { keeps = keeps; eaches = λ w. rw (firsts, eaches) ((put_back-unchanged who r (state_of n)).eaches w) })
