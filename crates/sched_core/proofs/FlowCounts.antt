-- The packets of each flow in a map ordered by the flows' keys, flow by flow.
use Rattle.std.proofs.Common.{arith, rules, ◌≡◌, ap, ◌∙◌, sym, ℕ, subst, ◌<◌, ◌+◌, ◌-◌, refl, List, [], ◌∷◌, Option, None, Some, IsSome, true, false, cond, if◌then◌else◌}
use Rattle.std.specs.BTreeMap.{BTreeMap, Updates, get, is_at}
use Rattle.std.specs.Map.{lookup}
use Rattle.std.specs.Ordering.{is_eq}
use Rattle.std.specs.Prelude.{Bool, is_some, unwrap_or}
use Rattle.rank_defs.specs.declared.environment.FlowKey.{FlowKey}
use Rattle.rank_defs.specs.States.{same_flow}
use Rattle.rank_defs.proofs.OtherStates.{same_flow-is, same_flow-refl}
use Rattle.sched_core.specs.NodeTotals.{entry_of, count_in, is_in_flow}
use Rattle.rank_core.specs.FlowKeys.{key_of, has_key}
use Rattle.rank_core.specs.contracts.flows.OrderedKeyOrd.TheImpl.{cmp-value}
use Rattle.rank_core.specs.declared.flows.OrderedKey.{OrderedKey}

-- in the order, a flow's key equals no other flow's key
tied : (f : FlowKey) (k : OrderedKey) → is_eq (cmp-value.it (key_of f) k) ≡ has_key f k
tied f k = grind (arith, rules)

found-in : (f : FlowKey) (es : List (OrderedKey × ℕ)) → lookup (has_key f) es ≡ lookup (is_at (cmp-value.it (key_of f))) es
found-in f [] = refl
found-in f (e ∷ es) = rw (tied f e.0, found-in f es) refl

-- a lookup at a flow's key finds its entry
pub found : (m : BTreeMap OrderedKey ℕ) (f : FlowKey) {k : OrderedKey} → k ≡ key_of f → get cmp-value.it m k ≡ entry_of m f
found m f key = ap (get cmp-value.it m) key ∙ sym (found-in f m.entries)

-- an update at a flow's key changes the flow's entry alone
module _ (m n : BTreeMap OrderedKey ℕ) (flow : FlowKey) {k : OrderedKey} (w : Option ℕ) (key : k ≡ key_of flow) (u : Updates cmp-value.it m n k w) where
  pub updated : (other : FlowKey) → entry_of n other ≡ cond (same_flow flow other) w (entry_of m other)
  updated other =
      sym (found n other refl)
      ∙ (subst (λ (j : OrderedKey). Updates cmp-value.it m n j w) key u).0 (key_of other)
      ∙ ap (λ b. cond b w (get cmp-value.it m (key_of other))) (tied flow (key_of other))
      ∙ ap (cond (same_flow flow other) w) (found m other refl)

  -- the other flow is the same, or keeps its entry
  by-flow : {P : Type 0} (other : FlowKey) → (same_flow flow other ≡ true → entry_of n other ≡ w → entry_of m other ≡ entry_of m flow → P) → (same_flow flow other ≡ false → entry_of n other ≡ entry_of m other → P) → P
  by-flow {P} other same apart =
      (elim (same_flow flow other) as (λ b. same_flow flow other ≡ b → P) [
        | true ↦ λ e. same e (updated other ∙ ap (λ b. cond b w (entry_of m other)) e) (ap (entry_of m) (sym (same_flow-is flow other e)))
        | false ↦ λ e. apart e (updated other ∙ ap (λ b. cond b w (entry_of m other)) e)
      ]) refl

  pub entry-there : entry_of n flow ≡ w
  entry-there = updated flow ∙ ap (λ b. cond b w (entry_of m flow)) (same_flow-refl flow)

  -- entries stay
  pub entry-kept : IsSome w → (other : FlowKey) → IsSome (entry_of m other) → IsSome (entry_of n other)
  entry-kept some other there = by-flow other (λ e now old. subst IsSome (sym now) some) (λ e now. subst IsSome (sym now) there)

  -- a flow had no packets, and has none
  pub count-same : unwrap_or w 0 ≡ count_in m flow → (other : FlowKey) → count_in n other ≡ count_in m other
  count-same same other = by-flow other
      (λ e now old. ap (λ (o : Option ℕ). unwrap_or o 0) now ∙ same ∙ sym (ap (λ (o : Option ℕ). unwrap_or o 0) old))
      (λ e now. ap (λ (o : Option ℕ). unwrap_or o 0) now)

  -- a flow has one packet more
  pub count-raised : unwrap_or w 0 ≡ count_in m flow + 1 → (other : FlowKey) → count_in n other ≡ count_in m other + is_in_flow flow other
  count-raised more other = by-flow other
      (λ e now old. (
      let new_count : count_in n other ≡ unwrap_or w 0 = ap (λ (o : Option ℕ). unwrap_or o 0) now in
      let old_count : count_in m other ≡ count_in m flow = ap (λ (o : Option ℕ). unwrap_or o 0) old in
      let one : is_in_flow flow other ≡ 1 = ap (λ b. if b then 1 else 0) e in
      omega (arith, new_count, old_count, one, more)))
      (λ e now. (
      let new_count : count_in n other ≡ count_in m other = ap (λ (o : Option ℕ). unwrap_or o 0) now in
      let none : is_in_flow flow other ≡ 0 = ap (λ b. if b then 1 else 0) e in
      omega (arith, new_count, none)))

  -- a flow has one packet fewer
  pub count-lowered : unwrap_or w 0 ≡ count_in m flow - 1 → (other : FlowKey) → count_in n other ≡ count_in m other - is_in_flow flow other
  count-lowered fewer other = by-flow other
      (λ e now old. (
      let new_count : count_in n other ≡ unwrap_or w 0 = ap (λ (o : Option ℕ). unwrap_or o 0) now in
      let old_count : count_in m other ≡ count_in m flow = ap (λ (o : Option ℕ). unwrap_or o 0) old in
      let one : is_in_flow flow other ≡ 1 = ap (λ b. if b then 1 else 0) e in
      omega (arith, new_count, old_count, one, fewer)))
      (λ e now. (
      let new_count : count_in n other ≡ count_in m other = ap (λ (o : Option ℕ). unwrap_or o 0) now in
      let none : is_in_flow flow other ≡ 0 = ap (λ b. if b then 1 else 0) e in
      omega (arith, new_count, none)))

-- ---- whether there is an entry
pub some-there : (o : Option ℕ) (b : Bool) → b ≡ is_some o → b ≡ true → IsSome o
some-there None b e t = cc
some-there (Some i) b e t = refl

pub none-counted : (o : Option ℕ) (b : Bool) → b ≡ is_some o → b ≡ false → unwrap_or o 0 ≡ 0
none-counted None b e f = refl
none-counted (Some i) b e f = cc

pub none-there : (o : Option ℕ) → None ≡ o → IsSome o → ⊥
none-there None e h = cc
none-there (Some i) e h = cc

pub counted-there : (o : Option ℕ) → None ≡ o → 1 < unwrap_or o 0 → ⊥
counted-there None e h = omega (arith, h)
counted-there (Some i) e h = cc
