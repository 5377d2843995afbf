-- The built-in transactions are steady, except the one that ranks by length.
use Rattle.block_replay.proofs.Prelude.{refl, ◌≡◌, [], ℕ, arith, ◌∷◌, List, suc, zero, ◌≤◌, clamps, ints, int_max, slice_index, pos, ℤ, ◌≤ℤ◌, int_div, slice_set, ◌*ℤ◌, ◌+ℤ◌, fifo, stfq, lstf, rr, strict, counter, max_rank, span, AreWithin, clamped, num, apply, quotient, Env}
use Rattle.rank_defs.specs.declared.expression.Op.TheVariants.{Add}
use Rattle.rank_defs.proofs.Spans.{clamped-within}
use Rattle.block_replay.proofs.Clamping.{clamped-rises, clamped-stays}
use Rattle.block_replay.proofs.Steady.{floor, HasMarksOf, IsSteady}

pub fifo-steady : IsSteady fifo
fifo-steady = record {
  above = λ who env s. omega arith;
  later = λ old new eaches m l. omega arith;
  raised = λ who env s e h. omega arith;
  popped = λ who env taken s. refl;
}

strict-floor : (old new : Env) (eaches : List ℕ) → HasMarksOf old new → floor strict old eaches ≤ floor strict new eaches
strict-floor old new eaches m = rw m.prio (omega arith)

pub strict-steady : IsSteady strict
strict-steady = record {
  above = λ who env s. omega arith;
  later = λ old new eaches m l. strict-floor old new eaches m;
  raised = λ who env s e h. omega arith;
  popped = λ who env taken s. refl;
}

lstf-floor : (old new : Env) (eaches : List ℕ) → HasMarksOf old new → old.now ≤ new.now → floor lstf old eaches ≤ floor lstf new eaches
lstf-floor old new eaches m l =
    clamped-rises max_rank 0 (pos old.now +ℤ pos old.slack) (pos new.now +ℤ pos new.slack) (let e = m.slack in omega (arith, ints))

pub lstf-steady : IsSteady lstf
lstf-steady = record {
  above = λ who env s. omega arith;
  later = λ old new eaches m l. lstf-floor old new eaches m l;
  raised = λ who env s e h. omega arith;
  popped = λ who env taken s. refl;
}

-- ---- a child's variable that is the floor
-- the rank of a push, from the node's variable and the child's
abbrev rank_of : ℕ → ℕ → ℕ
rank_of keep each = clamped (span 0 max_rank 0) (num (int_max (pos keep) (pos each)))

rank_of-rises : (keep each : ℕ) → rank_of 0 each ≤ rank_of keep each
rank_of-rises keep each = clamped-rises max_rank 0 (int_max (pos 0) (pos each)) (int_max (pos keep) (pos each)) (omega (arith, ints, clamps))

rank_of-low : (keep each : ℕ) → rank_of keep each ≤ max_rank
rank_of-low keep each = (clamped-within (span 0 max_rank 0) (num (int_max (pos keep) (pos each))) (omega arith)).1

rank_of-each : (r each : ℕ) → r ≤ max_rank → r ≤ each → r ≤ rank_of 0 each
rank_of-each r each h l =
    let stays : clamped (span 0 max_rank 0) (num (pos r)) ≡ r = clamped-stays max_rank 0 r h in
    let rises : clamped (span 0 max_rank 0) (num (pos r)) ≤ rank_of 0 each = clamped-rises max_rank 0 (pos r) (int_max (pos 0) (pos each)) (omega (arith, ints, clamps)) in
    omega (arith, stays, rises)

-- the one variable of a child, after it was written
written_first : (eaches : List ℕ) (w : ℕ) → AreWithin (counter ∷ []) eaches → slice_index (slice_set eaches 0 w) 0 ≡ w
written_first [] w h = absurd h
written_first (x ∷ eaches) w h = refl

-- a child's variable that becomes at least the rank is a floor at the rank or above
raised_floor : (eaches : List ℕ) (r : ℕ) (next : ℤ) → AreWithin (counter ∷ []) eaches → r ≤ max_rank → pos r ≤ℤ next
    → r ≤ rank_of 0 (slice_index (slice_set eaches 0 (clamped (span 0 max_rank 0) (num next))) 0)
raised_floor eaches r next h l n =
    let stays : clamped (span 0 max_rank 0) (num (pos r)) ≡ r = clamped-stays max_rank 0 r l in
    let rises : clamped (span 0 max_rank 0) (num (pos r)) ≤ clamped (span 0 max_rank 0) (num next) = clamped-rises max_rank 0 (pos r) next n in
    let first : slice_index (slice_set eaches 0 (clamped (span 0 max_rank 0) (num next))) 0 ≡ clamped (span 0 max_rank 0) (num next) = written_first eaches (clamped (span 0 max_rank 0) (num next)) h in
    rank_of-each r (slice_index (slice_set eaches 0 (clamped (span 0 max_rank 0) (num next))) 0) l (omega (arith, stays, rises, first))

pub rr-steady : IsSteady rr
rr-steady = record {
  above = λ who env s. rank_of-rises (slice_index s.keeps 0) (slice_index (s.eaches who) 0);
  later = λ old new eaches m l. omega arith;
  raised = λ who env s e h.
      let r : ℕ = rank_of (slice_index s.keeps 0) (slice_index (s.eaches who) 0) in
      raised_floor (s.eaches who) r (pos r +ℤ pos 1) (h.eaches who) (rank_of-low (slice_index s.keeps 0) (slice_index (s.eaches who) 0)) (omega (arith, ints));
  popped = λ who env taken s. refl;
}

-- the same, if a length is divided by a weight
raised_by_weight : (eaches : List ℕ) (r len weight : ℕ) → AreWithin (counter ∷ []) eaches → r ≤ max_rank → 1 ≤ weight
    → r ≤ rank_of 0 (slice_index (slice_set eaches 0 (clamped (span 0 max_rank 0) (apply Add (num (pos r)) (quotient (pos len *ℤ pos 1000) (pos weight))))) 0)
raised_by_weight eaches r len zero h l w = absurd (omega arith)
raised_by_weight eaches r len (suc n) h l w = raised_floor eaches r (pos r +ℤ int_div (pos len *ℤ pos 1000) (pos (suc n))) h l (omega (arith, ints))

pub stfq-steady : IsSteady stfq
stfq-steady = record {
  above = λ who env s. rank_of-rises (slice_index s.keeps 0) (slice_index (s.eaches who) 0);
  later = λ old new eaches m l. omega arith;
  raised = λ who env s e h.
      let r : ℕ = rank_of (slice_index s.keeps 0) (slice_index (s.eaches who) 0) in
      raised_by_weight (s.eaches who) r env.len env.weight (h.eaches who) (rank_of-low (slice_index s.keeps 0) (slice_index (s.eaches who) 0)) e.weight_low;
  popped = λ who env taken s. refl;
}
