-- What a node keeps at a step.
use Rattle.rank_core.proofs.Prelude.{◌≡◌, sym, subst, ℕ, IsSome, ◌≢◌, ◌≤◌, Option, List, max_rank, by_same_who, in_range-same, same-sym, safe_pop, safe_push, program_of, after_pop, after_push, push_rank, Env, Who, Transaction, state_of, children_of, HasRoom, HasState, kept, NodeState}
use Rattle.std.specs.Prelude.{◌↔◌}
use Rattle.rank_core.specs.NodeSteps.{CanRunAt, KeepsNode}
use Rattle.rank_core.specs.declared.node.Eaches.{Eaches}

-- only the values of one child or flow change, so the room is the same
pub same-room : (old new : Eaches) (who : Who) → IsSome (kept old who) → IsSome (kept new who) → ((w : Who) → w ≢ who → kept new w ≡ kept old w) → (w : Who) → IsSome (kept new w) ↔ IsSome (kept old w)
same-room old new who had has others w =
    by_same_who w who
    (λ e. (λ _. subst (λ (v : Who). IsSome (kept old v)) (sym e) had, λ _. subst (λ (v : Who). IsSome (kept new v)) (sym e) has))
    (λ other. subst (λ (o : Option (List ℕ)). IsSome o ↔ IsSome (kept old w)) (sym (others w other)) (λ h. h, λ h. h))

module _ (t : Transaction) (who : Who) (env : Env) (n m : NodeState) (can : CanRunAt t who env n) (room : (w : Who) → HasRoom m w ↔ HasRoom n w) (children : children_of m ≡ children_of n) where
  -- at a push step
  pub pushed-keeps : HasState m (after_push (program_of t) who env (state_of n)) → KeepsNode t n m
  pushed-keeps after = record {
    in_range = in_range-same (program_of t) _ _ (same-sym _ _ after) (safe_push (program_of t) can.shaped can.checked (state_of n) can.in_range env can.told who).after;
    room = room;
    children = children;
  }

  -- at a pop step
  pub popped-keeps : (r : ℕ) → r ≤ max_rank → HasState m (after_pop (program_of t) who env r (state_of n)) → KeepsNode t n m
  popped-keeps r low after = record {
    in_range = in_range-same (program_of t) _ _ (same-sym _ _ after) (safe_pop (program_of t) can.shaped can.checked (state_of n) can.in_range env can.told who r low).after;
    room = room;
    children = children;
  }

-- the rank of a push step is in range
pub pushed-low : (t : Transaction) (who : Who) (env : Env) (n : NodeState) (r : ℕ) → CanRunAt t who env n → r ≡ push_rank (program_of t) who env (state_of n) → r ≤ max_rank
pushed-low t who env n r can is = subst (λ (s : ℕ). s ≤ max_rank) (sym is) (safe_push (program_of t) can.shaped can.checked (state_of n) can.in_range env can.told who).rank
