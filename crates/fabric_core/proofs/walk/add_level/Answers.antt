use Rattle.fabric_core.proofs.Prelude.{ℕ, arith, ◌≡◌, ◌+◌, [], length, sym, ap, get_or, ◌∙◌, subst, ◌∷◌, map, inl, inr, ◌++◌, length-append, cases_lt, AllByRecursion, Queue}
use Rattle.fabric_core.proofs.LevelSteps.{all_map-added, kept-added, last-added}
use Rattle.fabric_core.proofs.walk.add_level.Goals as goal

pub loop-preserved : goal.loop-preserved
loop-preserved g c =
    let l = c.loop in
    let q = c.in_ok-empty.field-0 in
    let node = g.Q.NodeQueue in
    let items : c.push.new.self.items ≡ l.queues.items ++ q ∷ [] = c.in_ok-push.ensures.items in
    let longer : length c.push.new.self.items ≡ length l.queues.items + 1 = ap (λ z. length z) items ∙ length-append l.queues.items (q ∷ []) in
    record {
      long = omega (arith, longer, l.invariant.long);
      entries = λ a. subst (λ z. AllByRecursion (λ (e : Queue). e ≡ []) (map node.entries z)) (sym items) (all_map-added node.entries l.queues.items q (λ (e : Queue). e ≡ []) (l.invariant.entries a) c.in_ok-empty.ensures.entries);
      pushes = λ a. subst (λ z. AllByRecursion (λ (n : ℕ). n ≡ 0) (map node.pushes z)) (sym items) (all_map-added node.pushes l.queues.items q (λ (n : ℕ). n ≡ 0) (l.invariant.pushes a) c.in_ok-empty.ensures.pushes);
      kept = λ j k. ap (λ z. get_or (map node.flows z) j 0) items ∙ kept-added node.flows l.queues.items q j 0 (omega (arith, k, l.invariant.long)) ∙ l.invariant.kept j k;
      flows = λ t j k m. ap (λ z. get_or (map node.flows z) j 0) items ∙ elim (cases_lt j (length l.queues.items)) [
        | inl n ↦ kept-added node.flows l.queues.items q j 0 n ∙ l.invariant.flows t j k n
        | inr n ↦ last-added node.flows l.queues.items q j 0 (omega (arith, n, m, longer)) ∙ c.in_ok-empty.ensures.flows t
      ];
    }
