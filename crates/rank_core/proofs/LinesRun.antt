-- The state of a node after the assignments of a step.
use Rattle.rank_core.proofs.Prelude.{◌≡◌, subst, ◌∙◌, List, ap, [], ℕ, refl, Some, IsSome, false, ◌≢◌, Option, true, None, cond, same_who-is, same_who-refl, Memory, SameState, put_back, same_who, Env, Who, Assign, Transaction, state_of, step_of, HasState, kept_or, kept, memory, run_of, NodeState}

-- if values are kept, the first ones don't matter
some-kept : (a b : List ℕ) (o : Option (List ℕ)) → IsSome o → kept_or a o ≡ kept_or b o
some-kept a b (Some values) h = refl
some-kept a b None h = cc

-- the new values are put back, and those of all others are unchanged
pub lines_after : (t : Transaction) (assigns : List Assign) (who : Who) (env : Env) (r x : ℕ) (n m : NodeState) → m.firsts ≡ n.firsts → IsSome (kept n.eaches who) → IsSome (kept m.eaches who) → ((w : Who) → w ≢ who → kept m.eaches w ≡ kept n.eaches w)
    → memory x m.keeps.items (kept_or [] (kept m.eaches who)) ≡ run_of t env assigns (memory r n.keeps.items (kept_or [] (kept n.eaches who))) → HasState m (put_back who (step_of t assigns who env r n) (state_of n))
lines_after t assigns who env r x n m firsts room still others ran =
    let is : memory x m.keeps.items (kept_or [] (kept m.eaches who)) ≡ step_of t assigns who env r n
    = ran ∙ ap (λ (es : List ℕ). run_of t env assigns (memory r n.keeps.items es)) (some-kept [] n.firsts.items (kept n.eaches who) room) in
    subst (λ (w : Memory). SameState (state_of m) (put_back who w (state_of n))) is (record {
      keeps = refl;
      eaches = λ w. (elim (same_who w who) as (λ b. same_who w who ≡ b → kept_or m.firsts.items (kept m.eaches w) ≡ cond b (kept_or [] (kept m.eaches who)) (kept_or n.firsts.items (kept n.eaches w))) [
        | true ↦ λ e. ap (λ (v : Who). kept_or m.firsts.items (kept m.eaches v)) (same_who-is w who e) ∙ some-kept m.firsts.items [] (kept m.eaches who) still
        | false ↦ λ e. ap (λ (f : List ℕ). kept_or f (kept m.eaches w)) (ap (λ v. v.items) firsts) ∙ ap (kept_or n.firsts.items) (others w (λ k. let y : same_who w who ≡ true = rw k (same_who-refl who) in cc))
      ]) refl;
    })
