use Rattle.size_core.proofs.Prelude.{◌≡◌, ◌∙◌, ℕ, length, sym, ap, List, arith, subst, ◌+◌, ◌<◌, map, with_items_is, range_with_len, AllByRecursion, slice_index, lifted-lift, lifted-within}
use Rattle.std.proofs.lemmas.List.FromFn.{length-range_with_len}
use Rattle.size_core.proofs.places.steps_of.Goals as goal

pub lift-requires-clause-within : goal.lift-requires-clause-within
lift-requires-clause-within c =
    let ranks : c.deref.result.now ≡ range_with_len 0 (length c.args.leaf.now + 1) = c.deref.ensures.value ∙ c.in_ok-ranks.ensures.numbers in
    let n : length c.args.leaf.now + 1 ≡ length c.deref.result.now = sym (ap (λ (z : List ℕ). length z) ranks ∙ length-range_with_len 0 (length c.args.leaf.now + 1)) in
    subst (λ (k : ℕ). AllByRecursion (λ step. step < k) c.args.lifted.now.steps.items) n (lifted-within c.args.map.now c.args.leaf.now c.args.lifted.now c.requires.lifted)

pub returns-clause-steps : goal.returns-clause-steps
returns-clause-steps c =
    let ranks : c.deref.result.now ≡ range_with_len 0 (length c.args.leaf.now + 1) = c.deref.ensures.value ∙ c.in_ok-ranks.ensures.numbers in
    let m : length c.lift.new.lifted ≡ length c.in_ok-steps.steps.items = c.lift.auto.lifted ∙ ap (λ (z : List ℕ). length z) c.deref_mut.ensures.value in
    let n : length c.lift.new.lifted ≡ c.in_ok-steps.steps.len = omega (arith, m, c.in_ok-steps.steps.ok.0) in
    with_items_is c.in_ok-steps.steps c.lift.new.lifted n ∙ c.lift.ensures.lifted
    ∙ ap (λ (z : List ℕ). map (slice_index z) c.args.lifted.now.steps.items) ranks
    ∙ lifted-lift c.args.map.now c.args.leaf.now c.args.lifted.now c.requires.lifted (range_with_len 0 (length c.args.leaf.now + 1)) (length-range_with_len 0 (length c.args.leaf.now + 1)) ∙ sym c.requires.lifted.steps
