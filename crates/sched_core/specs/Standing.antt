-- The source states that a scheduler and its queues represent.
use Rattle.policy_defs.specs.Policy.{Policy}
use Rattle.sched_defs.specs.SourceState.{SourceState}
use Rattle.sched_defs.specs.Sound.{IsSound}

-- they represent a sound state of the policy with P
pub record StandForOne {C U : Type 0} (stands : C → U → SourceState → Type 0) (policy : Policy) (c : C) (u : U) (P : SourceState → Type 0) : Type 0 where
  pub state : SourceState
  pub sound : IsSound policy state
  pub stood : stands c u state
  pub has : P state

-- P holds of each sound state of the policy that they represent
abbrev pub ForEachState : {C U : Type 0} → (C → U → SourceState → Type 0) → Policy → C → U → (SourceState → Type 0) → Type 0
ForEachState stands policy c u P = (s : SourceState) → IsSound policy s → stands c u s → P s

-- the same for the policy of a scheduler
abbrev pub ForOne : {C U : Type 0} → (C → U → SourceState → Type 0) → (C → Policy) → C → U → (Policy → SourceState → Type 0) → Type 0
ForOne stands policy c u P = StandForOne stands (policy c) c u (P (policy c))

abbrev pub ForEach : {C U : Type 0} → (C → U → SourceState → Type 0) → (C → Policy) → C → U → (Policy → SourceState → Type 0) → Type 0
ForEach stands policy c u P = ForEachState stands (policy c) c u (P (policy c))
