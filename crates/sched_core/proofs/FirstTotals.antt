-- The totals of the nodes at the start, and policies whose limits need none.
use Rattle.sched_core.proofs.Prelude.{arith, ◌≡◌, ap, ◌∙◌, sym, ℕ, List, length, subst, Some, None, Option, ◌<◌, [], refl, ◌∷◌, ◌+◌, ◌++◌, inl, inr, false, is_some, IsSome, length-append, slice_get, number-undone, address_at, HasAt, number_at, Policy, Address, LeadsToLeaf, nodes}
use Rattle.std.proofs.lemmas.Bool.{cases_order}
use Rattle.rank_defs.specs.declared.flow_group.FlowGroup.{FlowGroup}
use Rattle.policy_defs.specs.declared.limits.Limits.{Limits}
use Rattle.policy_defs.specs.Policy.{at_most, limits_at}
use Rattle.sched_core.specs.NodeTotals.{HasAmounts, nothing}
use Rattle.sched_core.specs.Totals.{IsTotal, AreTotals, IsLeafLimit, HaveLeafLimits}
use Rattle.sched_core.specs.declared.node_totals.NodeTotals.{NodeTotals}
use Rattle.sched_core.proofs.FirstStates.{last-cases}
use Rattle.sched_core.proofs.Filling.{numbered-limits}
use Rattle.sched_core.proofs.GroupLaws.{numbered-group}

-- ---- policies whose limits need no totals
abbrev made : Option ℕ → Option ℕ → Option ℕ → Limits
made p b f = record { packets = p; bytes = b; per_flow = f }

pub leaf-limit_made : (policy : Policy) (node : ℕ) (x : Limits) → HasAt policy.tree node (λ n. x ≡ n.limits) → is_some x.bytes ≡ false → is_some x.per_flow ≡ false
    → (IsSome x.packets → LeadsToLeaf policy.tree (address_at policy.tree node)) → IsLeafLimit policy (address_at policy.tree node)
leaf-limit_made policy node x has bytes per_flow leads =
    let is : x ≡ limits_at policy (address_at policy.tree node) = numbered-limits policy node x has in
    let alone : x ≡ at_most x.packets = packets-only x.packets x.bytes x.per_flow bytes per_flow in
    record {
      of_packets = subst (λ (l : Limits). l ≡ at_most l.packets) is alone;
      at_leaf = λ some. leads (subst (λ (l : Limits). IsSome l.packets) (sym is) some);
    }
  where
    packets-only : (p b f : Option ℕ) → is_some b ≡ false → is_some f ≡ false → made p b f ≡ at_most p
    packets-only p None None g h = refl
    packets-only p (Some n) f g h = cc
    packets-only p None (Some n) g h = cc

pub limits-more : (policy : Policy) (n : ℕ) → HaveLeafLimits policy n → IsLeafLimit policy (address_at policy.tree n) → HaveLeafLimits policy (n + 1)
limits-more policy n h last = record { each = each }
  where
    each : (node : ℕ) → node < n + 1 → IsLeafLimit policy (address_at policy.tree node)
    each node l = elim (cases_order node n) [
      | inl e ↦ subst (λ (k : ℕ). IsLeafLimit policy (address_at policy.tree k)) (sym e) last
      | inr (inl less) ↦ h.each node less
      | inr (inr later) ↦ absurd (omega (arith, l, later))
    ]

-- ---- one after another
pub record AreFirstTotals (policy : Policy) (totals : List NodeTotals) (n : ℕ) : Type 0 where
  pub count : length totals ≡ n
  pub each : (k : ℕ) (x : NodeTotals) → slice_get totals k ≡ Some x → IsTotal policy (address_at policy.tree k) x nothing

pub totals-begun : (policy : Policy) (totals : List NodeTotals) → totals ≡ [] → AreFirstTotals policy totals 0
totals-begun policy [] e = record { count = refl; each = λ k x at. (let f : None ≡ Some x = at in cc) }
totals-begun policy (y ∷ totals) e = cc

pub totals-more : (policy : Policy) (totals more : List NodeTotals) (n : ℕ) (y : NodeTotals) (limits : Limits) (group : FlowGroup) → AreFirstTotals policy totals n → more ≡ totals ++ y ∷ []
    → y.limits ≡ limits → HasAt policy.tree n (λ k. limits ≡ k.limits) → y.group ≡ group → HasAt policy.tree n (λ k. group ≡ k.group) → HasAmounts y nothing → AreFirstTotals policy more (n + 1)
totals-more policy totals more n y limits group h is same_limits has_limits same_group has_group none =
    record { count = ap length is ∙ length-append totals (y ∷ []) ∙ ap (λ m. m + 1) h.count; each = each }
  where
    first : IsTotal policy (address_at policy.tree n) y nothing
    first = record { limits = same_limits ∙ numbered-limits policy n limits has_limits; group = same_group ∙ numbered-group policy n group has_group; amounts = none }

    each : (k : ℕ) (x : NodeTotals) → slice_get more k ≡ Some x → IsTotal policy (address_at policy.tree k) x nothing
    each k x at = last-cases totals k y x (ap (λ (l : List NodeTotals). slice_get l k) (sym is) ∙ at) (h.each k x)
        (λ last same. subst (λ (j : ℕ). IsTotal policy (address_at policy.tree j) x nothing) (sym (last ∙ h.count)) (subst (λ (z : NodeTotals). IsTotal policy (address_at policy.tree n) z nothing) same first))

pub totals-made : (policy : Policy) (totals : List NodeTotals) (n : ℕ) → n ≡ nodes policy.tree → AreFirstTotals policy totals n → AreTotals policy totals (λ _. nothing)
totals-made policy totals n all h = record {
  count = h.count ∙ all;
  each = λ a x p at. subst (λ (b : Address). IsTotal policy b x nothing) (number-undone policy.tree a p.0 p.1).address (h.each (number_at policy.tree a) x at);
}
