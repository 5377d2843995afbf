use Rattle.sched_core.proofs.Prelude.{arith, ◌≡◌, ap, ◌∙◌, sym, ℕ, List, length, subst, Some, Option, ◌==◌, Policy, class_of, policy_in}
use Rattle.sched_defs.specs.Laws.{is_reached}
use Rattle.sched_defs.specs.SourceState.{total, one}
use Rattle.sched_core.specs.Totals.{MayTotals, AreKept, AreTotals, amounts_in}
use Rattle.sched_core.specs.declared.node_totals.NodeTotals.{NodeTotals}
use Rattle.sched_core.proofs.Filling.{count-within, count-is}
use Rattle.sched_core.proofs.LimitLaws.{leaf-full}
use Rattle.sched_core.proofs.policy_state.PolicyState.is_full.Goals as goal

-- ---- if only leaves have limits
pub index-requires : goal.index-requires
index-requires c =
    let r = c.requires.stands in
    let within = count-within (policy_in c.args.self.now) c.requires.accepted c.args.packet.now r.has.class c.args.self.now.filled.items r.state r.stood.filled c.path-path.result.now.leaf c.path-path.ensures.path.leaf in
    omega (arith, within, c.args.self.now.filled.ok)

pub returns-in-None-limit : goal.returns-in-None-limit
returns-in-None-limit c =
    let policy : Policy = policy_in c.args.self.now in
    record {
      full = λ s sound own.
          ap (λ (o : Option ℕ). is_reached o (total one s (class_of policy c.args.packet.now).leaf)) (sym c.in-None-limit.is ∙ c.path-path.ensures.path.limit)
          ∙ leaf-full policy c.args.packet.now s c.requires.accepted c.requires.stands.has.class
          (subst (λ (o : MayTotals). AreKept policy o (amounts_in policy s)) c.in-None.is own.totals) sound;
    }

pub returns-in-Some-limit : goal.returns-in-Some-limit
returns-in-Some-limit c =
    let policy : Policy = policy_in c.args.self.now in
    record {
      full = λ s sound own.
          let count : c.index.result.now ≡ total one s (class_of policy c.args.packet.now).leaf
          = count-is policy c.requires.accepted c.args.packet.now c.requires.stands.has.class c.args.self.now.filled.items s own.filled c.path-path.result.now.leaf c.path-path.ensures.path.leaf c.index.result.now c.index.ensures in
          ap (λ (n : ℕ). n == c.index.result.now) c.from.ensures
          ∙ ap (λ (n : ℕ). is_reached (Some c.in-Some-limit.limit) n) count
          ∙ ap (λ (o : Option ℕ). is_reached o (total one s (class_of policy c.args.packet.now).leaf)) (sym c.in-Some-limit.is ∙ c.path-path.ensures.path.limit)
          ∙ leaf-full policy c.args.packet.now s c.requires.accepted c.requires.stands.has.class
          (subst (λ (o : MayTotals). AreKept policy o (amounts_in policy s)) c.in-None.is own.totals) sound;
    }

-- ---- if others have
pub passes_limits-requires : goal.passes_limits-requires
passes_limits-requires c =
    let policy : Policy = policy_in c.args.self.now in
    let r = c.requires.stands in
    let totals = subst (λ (o : MayTotals). AreKept policy o (amounts_in policy r.state)) c.in-Some.is r.stood.totals in
    record { known = r.has; accepted = c.requires.accepted; sized = ap (λ (l : List NodeTotals). length l) c.as_slice.ensures.value ∙ totals.count }

pub returns-in-Some : goal.returns-in-Some
returns-in-Some c =
    let policy : Policy = policy_in c.args.self.now in
    record {
      full = λ s sound own.
          c.passes_limits.ensures.passes (amounts_in policy s)
          (subst (λ (l : List NodeTotals). AreTotals policy l (amounts_in policy s)) (sym c.as_slice.ensures.value)
          (subst (λ (o : MayTotals). AreKept policy o (amounts_in policy s)) c.in-Some.is own.totals));
    }
