-- The packet that is popped next.
use Rattle.sched_core.proofs.Prelude.{◌≡◌, ℕ, List, Some, refl, Packet, Policy, popped_is_held, LeavesItsLeaf, IsSound, IsAtItsLeaf, SourceState, leaver, left_with, departed, leaving, SourceTree, Popping, PopsNext}
use Rattle.sched_defs.proofs.Leaving.{pop_leaves}

module _ (policy : Policy) (s : SourceState) (number : ℕ) (digits ranks : List ℕ) (next : PopsNext s number digits ranks) where
  abbrev pub taken : Popping SourceTree
  taken = record { value = number; digits = digits; ranks = ranks; left = next.left }

  pub is_held : IsSound policy s → (p : Packet) × (s.held number ≡ Some p)
  is_held sound = let at : IsAtItsLeaf policy s (digits, number) = popped_is_held policy s taken sound next.popped in (at.packet, at.held)

  pub leaves : IsSound policy s → (p : Packet) → s.held number ≡ Some p → LeavesItsLeaf policy s (leaving taken p)
  leaves sound p h = pop_leaves policy s taken p sound next.popped h

  pub leaver-popped : (p : Packet) → s.held number ≡ Some p → leaver s ≡ Some (leaving taken p)
  leaver-popped p h = rw (next.popped, h) refl

  pub departed-popped : (p : Packet) → s.held number ≡ Some p → departed policy s ≡ left_with policy s taken (Some p)
  departed-popped p h = rw (next.popped, h) refl
