-- Events made in turn by a scheduler that is known to represent a state.
use Rattle.library_tests.proofs.Prelude.{◌≡◌, ◌∙◌, sym, ap, subst, false, Bool, Ok, if◌then◌else◌, Packet, IsAccepted, Policy, pushes_of, arrival_of, leaf_number, StandForOne, ForEachState, Arrival, Dropped, Pushed, sound_departed, arrived, SourceState, is_full, departed}

module _ {C U : Type 0} (stands : C → U → SourceState → Type 0) (own policy : Policy) (same : own ≡ policy) (accepted : IsAccepted policy) (c : C) (u : U) where
  -- a requirement on the policy is also one on the scheduler's own policy
  pub asked : (P : Policy → SourceState → Type 0) → StandForOne stands policy c u (P policy) → StandForOne stands own c u (P own)
  asked P one = subst (λ (q : Policy). StandForOne stands q c u (P q)) (sym same) one

  module _ (c' : C) (u' : U) where
    pub stands_arrived : (p : Packet) → ForEachState stands own c u (λ s. stands c' u' (arrived own p s)) → ForEachState stands policy c u (λ s. stands c' u' (arrived policy p s))
    stands_arrived p each = subst (λ (q : Policy). ForEachState stands q c u (λ s. stands c' u' (arrived q p s))) same each

    -- if departures preserve P, then P holds of a state that the scheduler represents after the
    -- departure
    pub left : (P : SourceState → Type 0) → ((s : SourceState) → P s → P (departed policy s)) → ForEachState stands own c u (λ s. stands c' u' (departed own s))
        → StandForOne stands policy c u P → StandForOne stands policy c' u' P
    left P kept each one =
        let ok : ForEachState stands policy c u (λ s. stands c' u' (departed policy s)) = subst (λ (q : Policy). ForEachState stands q c u (λ s. stands c' u' (departed q s))) same each in
        record {
          state = departed policy one.state;
          sound = sound_departed policy one.state accepted one.sound;
          stood = ok one.state one.sound one.stood;
          has = kept one.state one.has;
        }

-- an arrival at a leaf that isn't full is a push
pub one_push : (policy : Policy) (p : Packet) (s : SourceState) (a : Arrival) → a ≡ arrival_of policy p s → is_full policy p s ≡ false → pushes_of (Ok a) ≡ 1
one_push policy p s a e free = ap (λ (x : Arrival). pushes_of (Ok x)) (e ∙ ap (λ (t : Bool). if t then Dropped (leaf_number policy p) else Pushed (leaf_number policy p)) free)
