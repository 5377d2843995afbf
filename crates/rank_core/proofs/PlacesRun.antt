-- A step on the values of one child or flow: the room and the state of the node after it.
use Rattle.rank_core.proofs.Prelude.{◌≡◌, sym, subst, ◌∙◌, List, ap, arith, [], length, ℕ, refl, ◌∷◌, Some, IsSome, ◌<◌, ◌≢◌, Vec, suc, zero, slice_get, option_map, with_items, put_back, Global, Env, FlowKey, Who, Child, Flow, Assign, Transaction, state_of, step_of, HasState, HasRoom, numbers_at, items_of, place_of, numbers_of, kept, kept_or, memory, run_of, NodeState}
use Rattle.std.specs.Prelude.{◌↔◌}
use Rattle.rank_core.specs.declared.flows.FlowTable.{FlowTable}
use Rattle.rank_core.specs.declared.node.Eaches.{Eaches}
use Rattle.rank_core.specs.declared.node.Eaches.TheVariants.{Children, Flows}
use Rattle.rank_core.proofs.FlowPlaces.{numbers-others, place-within, has-numbers}
use Rattle.rank_core.proofs.LinesRun.{lines_after}
use Rattle.rank_core.proofs.Lists.{refilled}
use Rattle.rank_core.proofs.NodeKept.{same-room}

module _ (n : NodeState) (who v : Who) (old new : Eaches) (is : n.eaches ≡ old) (at : who ≡ v) (room : HasRoom n who) (still : IsSome (kept new v)) (others : (w : Who) → w ≢ v → kept new w ≡ kept old w) where
  still-at : IsSome (kept new who)
  still-at = subst (λ (w : Who). IsSome (kept new w)) (sym at) still

  others-at : (w : Who) → w ≢ who → kept new w ≡ kept n.eaches w
  others-at w other = others w (λ e. other (e ∙ sym at)) ∙ ap (λ (es : Eaches). kept es w) (sym is)

  pub room-at : (w : Who) → IsSome (kept new w) ↔ HasRoom n w
  room-at = same-room n.eaches new who room still-at others-at

  pub state-at : (t : Transaction) (assigns : List Assign) (env : Env) (r x : ℕ) (before after : List ℕ) → before ≡ n.keeps.items → length after ≡ length n.keeps.items
      → memory x after (kept_or [] (kept new v)) ≡ run_of t env assigns (memory r before (kept_or [] (kept old v))) → HasState (record { firsts = n.firsts; keeps = with_items n.keeps after; eaches = new }) (put_back who (step_of t assigns who env r n) (state_of n))
  state-at t assigns env r x before after same count ran =
      lines_after t assigns who env r x n (record { firsts = n.firsts; keeps = with_items n.keeps after; eaches = new }) refl room still-at others-at
      (ap (λ (ks : List ℕ). memory x ks (kept_or [] (kept new who))) (refilled n.keeps after count)
      ∙ ap (λ (w : Who). memory x after (kept_or [] (kept new w))) at
      ∙ ran
      ∙ ap (λ (ks : List ℕ). run_of t env assigns (memory r ks (kept_or [] (kept old v)))) same
      ∙ ap (λ (es : Eaches). run_of t env assigns (memory r n.keeps.items (kept_or [] (kept es v)))) (sym is)
      ∙ ap (λ (w : Who). run_of t env assigns (memory r n.keeps.items (kept_or [] (kept n.eaches w)))) (sym at))

-- ---- the values of a child are at its number
module _ (old new : Vec (Vec ℕ Global) Global) (child : ℕ) (count : length new.items ≡ length old.items) (others : (i : ℕ) → i ≢ child → slice_get new.items i ≡ slice_get old.items i) where
  pub child-still : child < length old.items → IsSome (kept (Children new) (Child child))
  child-still there = has-numbers new.items child (omega (arith, count, there))

  pub child-others : (w : Who) → w ≢ Child child → kept (Children new) w ≡ kept (Children old) w
  child-others (Child i) other = ap (option_map items_of) (others i (λ e. other (ap Child e)))
  child-others (Flow f) other = refl

pub within-some : (values : List (Vec ℕ Global)) (i : ℕ) → IsSome (numbers_at values (Some i)) → i < length values
within-some [] i h = cc
within-some (v ∷ values) zero h = omega arith
within-some (v ∷ values) (suc i) h = omega (arith, within-some values i h)

-- ---- those of a flow are at its index
module _ (old t : FlowTable) (f : FlowKey) (place : ℕ) (new : Vec (Vec ℕ Global) Global) (at : Some place ≡ place_of t f) (same : (g : FlowKey) → numbers_of t g ≡ numbers_of old g) (count : length new.items ≡ length t.numbers.items) (others : (i : ℕ) → i ≢ place → slice_get new.items i ≡ slice_get t.numbers.items i) where
  -- the table with the new values
  abbrev pub table : FlowTable
  table = record t { numbers = new; even = count ∙ t.even }

  pub flow-still : IsSome (kept (Flows table) (Flow f))
  flow-still = subst (λ o. IsSome (numbers_at new.items o)) at (has-numbers new.items place (omega (arith, count, t.even, place-within t.places t.flows.items f place t.there (sym at))))

  pub flow-others : (w : Who) → w ≢ Flow f → kept (Flows table) w ≡ kept (Flows old) w
  flow-others (Child i) other = refl
  flow-others (Flow g) other = numbers-others t.places t.flows.items t.numbers.items new.items f place t.there (sym at) others g (λ e. other (ap Flow e)) ∙ same g

  pub flow-ran : (program : Transaction) (assigns : List Assign) (env : Env) (r x : ℕ) (before after : List ℕ) → memory x after (kept_or [] (numbers_at new.items (Some place))) ≡ run_of program env assigns (memory r before (kept_or [] (numbers_at t.numbers.items (Some place))))
      → memory x after (kept_or [] (kept (Flows table) (Flow f))) ≡ run_of program env assigns (memory r before (kept_or [] (kept (Flows old) (Flow f))))
  flow-ran program assigns env r x before after ran =
      ap (λ o. memory x after (kept_or [] (numbers_at new.items o))) (sym at)
      ∙ ran
      ∙ ap (λ o. run_of program env assigns (memory r before (kept_or [] o))) (ap (numbers_at t.numbers.items) at ∙ same f)
