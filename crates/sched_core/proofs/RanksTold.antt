-- The rank of a push step whose marks alone determine it, and steps that change no variable.
use Rattle.sched_core.proofs.Prelude.{arith, ◌≡◌, ap, ◌∙◌, sym, ℕ, List, subst, Some, [], refl, ◌∷◌, ◌≤◌, pos, Packet, AreMarksInRange, RunAs, max_rank, Program, Assignment, span, target, SameState, State, Memory, memory_for, put_back, variable_in, after_push, after_pop, push_rank, clamped, run, write, Env, Who, env_for, rank_told, mark_told}
use Rattle.std.proofs.lemmas.Int.{ints, clamps}
use Rattle.rank_defs.specs.declared.expression.Var.TheVariants.{Prio, Weight, Slack}
use Rattle.rank_defs.specs.declared.transaction.Aim.{Aim}
use Rattle.rank_defs.specs.declared.transaction.Aim.TheVariants.{Rank}
use Rattle.rank_defs.specs.Formulas.{Formula, variable}
use Rattle.rank_defs.specs.Values.{num, value_of}
use Rattle.rank_core.proofs.NoLines.{put_back-unchanged}
use Rattle.policy_defs.specs.Policy.{Marks}
use Rattle.sched_core.proofs.TreeParts.{some-is}

-- a number up to the greatest rank is unchanged
clamped-low : (r : ℕ) → r ≤ max_rank → clamped (span 0 max_rank 0) (num (pos r)) ≡ r
clamped-low r low = omega (arith, ints, clamps)

-- a pop step that runs as one without lines changes no variable
pub no_lines-after : (p : Program) (who : Who) (env : Env) (taken : ℕ) → RunAs p p.pop [] → (s : State) → SameState s (after_pop p who env taken s)
no_lines-after p who env taken none s = subst (λ (m : Memory). SameState s (put_back who m s)) (sym (none env (memory_for who taken s))) (put_back-unchanged who taken s)

-- ---- a step of a packet at a timestamp (`moment`), with these marks
module _ (p : Program) (packet : Packet) (moment : ℕ) (m : Marks) (range : AreMarksInRange m) where
  abbrev env : Env
  env = env_for packet moment m

  -- a line writes this rank and nothing else
  record IsTold (aim : Aim) (f : Formula) (r : ℕ) : Type 0 where
    low : r ≤ max_rank
    after : (k : Memory) → write aim (clamped (target p aim) (value_of (variable_in env k) f)) k ≡ record k { rank = r }

  told-of : (f : Formula) (x r : ℕ) → x ≤ max_rank → x ≡ r → ((k : Memory) → value_of (variable_in env k) f ≡ num (pos x)) → IsTold Rank f r
  told-of f x r low is value = record {
    low = omega (arith, low, is);
    after = λ k. ap (λ (n : ℕ). record k { rank = n }) (ap (clamped (span 0 max_rank 0)) (value k) ∙ clamped-low x low ∙ is);
  }

  told-by : (aim : Aim) (f : Formula) (r : ℕ) → mark_told aim f m ≡ Some r → IsTold aim f r
  told-by Rank (variable Prio) r is = told-of (variable Prio) m.prio r (omega (arith, range.prio)) (some-is is) (λ k. refl)
  told-by Rank (variable Weight) r is = told-of (variable Weight) m.weight r (omega (arith, range.weight_high)) (some-is is) (λ k. refl)
  told-by Rank (variable Slack) r is = told-of (variable Slack) m.slack r (omega (arith, range.slack)) (some-is is) (λ k. refl)
  told-by aim f r is = cc

  ends-told : (lines : List Assignment) (r : ℕ) (who : Who) (s : State) → rank_told lines m ≡ Some r → run p env lines (memory_for who 0 s) ≡ memory_for who r s
  ends-told [] r who s is = ap (λ (n : ℕ). memory_for who n s) (some-is is)
  ends-told (a ∷ []) r who s is = (told-by a.aim a.formula r is).after (memory_for who 0 s)
  ends-told (a ∷ b ∷ rest) r who s is = cc

  low-told : (lines : List Assignment) (r : ℕ) → rank_told lines m ≡ Some r → r ≤ max_rank
  low-told [] r is = omega (arith, some-is is)
  low-told (a ∷ []) r is = (told-by a.aim a.formula r is).low
  low-told (a ∷ b ∷ rest) r is = cc

  -- ---- the push step
  module _ (r : ℕ) (is : rank_told p.push m ≡ Some r) where
    pub told-low : r ≤ max_rank
    told-low = low-told p.push r is

    -- it gives the rank that the marks determine
    pub told-rank : (who : Who) (s : State) → push_rank p who env s ≡ r
    told-rank who s = ap (λ (k : Memory). k.rank) (ends-told p.push r who s is)

    -- and changes no variable
    pub told-after : (who : Who) (s : State) → SameState s (after_push p who env s)
    told-after who s = subst (λ (k : Memory). SameState s (put_back who k s)) (sym (ends-told p.push r who s is)) (put_back-unchanged who r s)
