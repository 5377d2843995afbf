-- Policies that are laid into a target.
use Rattle.replay_app.proofs.Prelude.{subst, sym, ◌≡◌, refl, Err, HasEmbedding, Target, Topology, complete, HasNoRoom}
use Rattle.embed_core.specs.declared.map.EmbedFault.{EmbedFault}
use Rattle.embed_core.specs.declared.map.EmbedFault.TheVariants as embed
use Rattle.report_core.specs.declared.fault.FaultKind.TheVariants as kind
use Rattle.replay_app.specs.declared.not_run.NotRun.{NotRun}
use Rattle.replay_app.specs.Decided.{IsInput, IsOfKind, StopsForMemory}
use Rattle.replay_app.specs.Placing.{unplaced}

module _ (T : Type 0) (fault : EmbedFault) (e : NotRun) (is : e ≡ unplaced fault) where
  -- the topology wasn't embedded
  pub unplaced_input : (s : Topology) (target : Target) (P : T → Type 0) → (fault ≡ embed.NoEmbedding → HasEmbedding s (complete target.arities) → ⊥) → IsInput (HasNoRoom s target) P (Err e)
  unplaced_input s target P none = subst (λ (x : NotRun). IsInput (HasNoRoom s target) P (Err x)) (sym is) (by fault none)
    where
      by : (f : EmbedFault) → (f ≡ embed.NoEmbedding → HasEmbedding s (complete target.arities) → ⊥) → IsInput (HasNoRoom s target) P (Err (unplaced f))
      by embed.NoEmbedding none = ((none refl, refl, refl), refl)
      by embed.NoMemory none = tt

  pub unplaced_kind : IsOfKind {T = T} kind.Size (Err e)
  unplaced_kind = subst (λ (x : NotRun). IsOfKind {T = T} kind.Size (Err x)) (sym is) (by fault)
    where
      by : (f : EmbedFault) → IsOfKind {T = T} kind.Size (Err (unplaced f))
      by embed.NoEmbedding = refl
      by embed.NoMemory = tt

  pub unplaced_memory : StopsForMemory {T = T} (Err e)
  unplaced_memory = subst (λ (x : NotRun). StopsForMemory {T = T} (Err x)) (sym is) (by fault)
    where
      by : (f : EmbedFault) → StopsForMemory {T = T} (Err (unplaced f))
      by embed.NoEmbedding = tt
      by embed.NoMemory = refl
