-- An arrival that succeeds or runs out of memory.
use Rattle.library_tests.proofs.Prelude.{arith, ◌≡◌, refl, subst, ◌≤◌, Ok, ◌+◌, Err, Result, Packet, IsAccepted, Policy, pushes_of, StandForOne, ForEachState, Arrival, Dropped, Pushed, sound_arrived, CanArrive, IsSendable, IsHeldBelow, arrived, SourceState}
use Rattle.std.specs.Prelude.{false, MatchResult}
use Rattle.std.specs.declared.alloc.AllocError.{AllocError}
use Rattle.sched_defs.specs.SourceState.{is_full}
use Rattle.sched_defs.proofs.Courses.{held_none, held_arrived}
use Rattle.library_tests.proofs.EventTurns.{stands_arrived}

-- a packet can arrive if all queued packets have lower numbers
pub can_come : (policy : Policy) (s : SourceState) (p : Packet) → IsSendable policy p → IsHeldBelow p.number s.held → CanArrive policy s p
can_come policy s p sendable below = record { fresh = held_none s.held p.number below; known = sendable.known; moment = sendable.moment }

module _ {C U : Type 0} (stands : C → U → SourceState → Type 0) (own policy : Policy) (same : own ≡ policy) (accepted : IsAccepted policy) (c c' : C) (u u' : U) where
  -- whether or not there was memory for it, no later packet is queued
  pub stands_tried : (p : Packet) (r : Result Arrival AllocError) → IsSendable policy p
      → MatchResult r (λ _. ForEachState stands own c u (λ s. stands c' u' (arrived own p s))) (λ _. ForEachState stands own c u (λ s. stands c' u' s × (is_full own p s ≡ false)))
      → StandForOne stands policy c u (λ s. IsHeldBelow p.number s.held) → StandForOne stands policy c' u' (λ s. IsHeldBelow (p.number + 1) s.held)
  stands_tried p (Ok a) sendable state one = record {
    state = arrived policy p one.state;
    sound = sound_arrived policy p one.state accepted one.sound (can_come policy one.state p sendable one.has);
    stood = stands_arrived stands own policy same accepted c u c' u' p state one.state one.sound one.stood;
    has = held_arrived policy p one.state p.number refl one.has;
  }
  stands_tried p (Err e) sendable state one = record {
    state = one.state;
    sound = one.sound;
    stood = (subst (λ (q : Policy). ForEachState stands q c u (λ s. stands c' u' s × (is_full q p s ≡ false))) same state one.state one.sound one.stood).0;
    has = λ m q h. let l = one.has m q h in omega arith;
  }

pub one_push_at_most : (r : Result Arrival AllocError) → pushes_of r ≤ 1
one_push_at_most (Ok (Pushed leaf)) = omega arith
one_push_at_most (Ok (Dropped leaf)) = omega arith
one_push_at_most (Err e) = omega arith
