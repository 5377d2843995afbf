-- A scheduler's counts of its packets follow from its queued packets.
use Rattle.sched_embedded.proofs.Prelude.{sym, ℕ, ◌∙◌, ap, ◌≡◌, subst, arith, Some, policy_in}
use Rattle.fabric_core.specs.declared.fabric.Fabric.{Ghosts}
use Rattle.sched_embedded.specs.Embedded.{EmbeddedStands, HasFivePoints, FivePointsStand}
use Rattle.sched_core.specs.Totals.{AreKept, Values, amounts_in}
use Rattle.sched_embedded.proofs.QueuedTotals.{same_size, same_amounts}

pub five_points : {F : Type 0} (fabrics : Ghosts F) → FivePointsStand fabrics
five_points fabrics c some other s stood sound = (
  λ (h : EmbeddedStands fabrics c other s). record {
    kept = record { nodes = h.own.nodes; held = h.own.held; now = h.own.now };
    shape = h.shape;
    lifted = h.lifted;
    pushes = h.pushes;
    pops = h.pops;
  },
  λ (h : HasFivePoints fabrics c other s).
      let same : (n : ℕ) → stood.state.held n ≡ s.held n = λ n. sym (stood.stood.own.held n) ∙ h.kept.held n in
      let size_is = same_size (policy_in c.own) stood.state s stood.sound sound same in
      let amounts : amounts_in (policy_in c.own) stood.state ≡ amounts_in (policy_in c.own) s = same_amounts (policy_in c.own) stood.state s stood.sound sound same in record {
        own = record {
          nodes = h.kept.nodes;
          held = h.kept.held;
          filled = λ a leads. stood.stood.own.filled a leads ∙ ap (λ (v : Values). Some (v a).packets) amounts;
          totals = subst (AreKept (policy_in c.own) c.own.totals) amounts stood.stood.own.totals;
          few = omega (arith, stood.stood.own.few, size_is);
          now = h.kept.now;
        };
        shape = h.shape;
        lifted = h.lifted;
        pushes = h.pushes;
        pops = h.pops;
      },
)
