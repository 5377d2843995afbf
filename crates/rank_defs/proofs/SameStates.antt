-- Steps from equal states.
use Rattle.rank_defs.proofs.Prelude.{refl, ℕ, ◌≡◌, false, true, subst, ap, cond, ◌∙◌, sym, Program, AreWithin, IsStateInRange, Memory, State, memory_for, put_back, same_who, SameState, pop_step, run, push_step, after_pop, after_push, Env, Who}

pub same-refl : (s : State) → SameState s s
same-refl s = record { keeps = refl; eaches = λ who. refl }

pub same-sym : (s t : State) → SameState s t → SameState t s
same-sym s t h = record { keeps = sym h.keeps; eaches = λ who. sym (h.eaches who) }

pub same-trans : (s t u : State) → SameState s t → SameState t u → SameState s u
same-trans s t u h k = record { keeps = h.keeps ∙ k.keeps; eaches = λ who. h.eaches who ∙ k.eaches who }

pub memory-same : (who : Who) (r : ℕ) (s t : State) → SameState s t → memory_for who r s ≡ memory_for who r t
memory-same who r s t h = rw (h.keeps, h.eaches who) refl

pub push_step-same : (p : Program) (who : Who) (env : Env) (s t : State) → SameState s t → push_step p who env s ≡ push_step p who env t
push_step-same p who env s t h = ap (run p env p.push) (memory-same who 0 s t h)

pub pop_step-same : (p : Program) (who : Who) (env : Env) (taken : ℕ) (s t : State) → SameState s t → pop_step p who env taken s ≡ pop_step p who env taken t
pop_step-same p who env taken s t h = ap (run p env p.pop) (memory-same who taken s t h)

pub put_back-same_state : (who : Who) (m n : Memory) (s t : State) → m ≡ n → SameState s t → SameState (put_back who m s) (put_back who n t)
put_back-same_state who m n s t e h =
    record { keeps = ap (λ k. k.keeps) e; eaches = λ w. elim (same_who w who) as (λ b. cond b m.eaches (s.eaches w) ≡ cond b n.eaches (t.eaches w)) [ true ↦ ap (λ k. k.eaches) e | false ↦ h.eaches w ] }

pub after_push-same : (p : Program) (who : Who) (env : Env) (s t : State) → SameState s t → SameState (after_push p who env s) (after_push p who env t)
after_push-same p who env s t h =
    put_back-same_state who (push_step p who env s) (push_step p who env t) s t (push_step-same p who env s t h) h

pub after_pop-same : (p : Program) (who : Who) (env : Env) (taken : ℕ) (s t : State) → SameState s t → SameState (after_pop p who env taken s) (after_pop p who env taken t)
after_pop-same p who env taken s t h =
    put_back-same_state who (pop_step p who env taken s) (pop_step p who env taken t) s t (pop_step-same p who env taken s t h) h

-- a state equal to one in range is in range
pub in_range-same : (p : Program) (s t : State) → SameState s t → IsStateInRange p s → IsStateInRange p t
in_range-same p s t h k =
    record { keeps = subst (AreWithin p.keeps) h.keeps k.keeps; eaches = λ who. subst (AreWithin p.eaches) (h.eaches who) (k.eaches who) }
