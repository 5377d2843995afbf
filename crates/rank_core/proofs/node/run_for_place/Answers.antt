use Rattle.rank_core.proofs.Prelude.{◌≡◌, sym, rules, subst, ◌∙◌, List, ap, arith, [], length, ℕ, map, Some, Option, Vec, slice_get, slice_set, option_map, with_items, length-within, Global, program_of, assignment_of, IsMemoryInRange, IsForm, AreFair, numbers_at, items_of, kept_or, memory, run_of}
use Rattle.std.proofs.lemmas.Option.{slice_get-get_or}
use Rattle.rank_core.proofs.Lists.{get_set_same, refilled}
use Rattle.rank_core.proofs.node.run_for_place.Goals as goal
use Rattle.rank_core.proofs.node.run_for_place.Goals.{After-as_mut_slice-eaches}

-- the values at the index, before the step and after it
before : (c : After-as_mut_slice-eaches) → kept_or [] (numbers_at c.args.values.now.items (Some c.args.place)) ≡ c.as_mut_slice-eaches.result.now
before c =
    let there : slice_get c.args.values.now.items c.args.place ≡ Some c.index_mut.result.now = slice_get-get_or c.args.values.now.items c.args.place c.index_mut.result.now c.requires.there ∙ ap Some (sym c.index_mut.ensures.value)
    in ap (λ (o : Option (Vec ℕ Global)). kept_or [] (option_map items_of o)) there ∙ sym c.as_mut_slice-eaches.ensures.value

after : (c : After-as_mut_slice-eaches) (ws : List ℕ) → length ws ≡ length c.as_mut_slice-eaches.result.now → kept_or [] (numbers_at (slice_set c.args.values.now.items c.args.place (with_items c.index_mut.result.now ws)) (Some c.args.place)) ≡ ws
after c ws same =
    ap (λ (o : Option (Vec ℕ Global)). kept_or [] (option_map items_of o)) (get_set_same c.args.values.now.items c.args.place (with_items c.index_mut.result.now ws) c.requires.there)
    ∙ refilled c.index_mut.result.now ws (same ∙ ap length c.as_mut_slice-eaches.ensures.value)

-- start-time fair queueing
pub run_fair-requires-clause-keep : goal.run_fair-requires-clause-keep
run_fair-requires-clause-keep c =
    let fair : AreFair (program_of c.args.transaction.now) (map assignment_of c.args.assigns.now) c.in-Fair.fair = subst (IsForm (program_of c.args.transaction.now) (map assignment_of c.args.assigns.now)) c.in-Fair.is c.requires.can.form
    in omega (arith, fair.keep, length-within c.args.transaction.now.keeps c.args.keeps.now c.requires.can.range.keeps)

pub run_fair-requires-clause-each : goal.run_fair-requires-clause-each
run_fair-requires-clause-each c =
    let t = (goal.at.run_fair-requires-clause-each c).After-as_mut_slice-eaches
    in let fair : AreFair (program_of c.args.transaction.now) (map assignment_of c.args.assigns.now) c.in-Fair.fair = subst (IsForm (program_of c.args.transaction.now) (map assignment_of c.args.assigns.now)) c.in-Fair.is c.requires.can.form
    in omega (arith, fair.each, ap length (before t), length-within c.args.transaction.now.eaches (kept_or [] (numbers_at c.args.values.now.items (Some c.args.place))) c.requires.can.range.eaches)

pub returns-in-Fair-clause-ran : goal.returns-in-Fair-clause-ran
returns-in-Fair-clause-ran c =
    let t = (goal.at.returns-in-Fair-clause-ran c).After-as_mut_slice-eaches
    in let fair : AreFair (program_of c.args.transaction.now) (map assignment_of c.args.assigns.now) c.in-Fair.fair = subst (IsForm (program_of c.args.transaction.now) (map assignment_of c.args.assigns.now)) c.in-Fair.is c.requires.can.form
    in let same : length c.run_fair.new.eaches ≡ length c.as_mut_slice-eaches.result.now = search rules
    in ap (memory c.run_fair.result c.args.keeps.now) (after t c.run_fair.new.eaches same)
    ∙ c.run_fair.ensures (program_of c.args.transaction.now) c.args.rank fair.span
    ∙ sym (fair.same c.args.env.now (memory c.args.rank c.args.keeps.now c.as_mut_slice-eaches.result.now))
    ∙ ap (λ (es : List ℕ). run_of c.args.transaction.now c.args.env.now c.args.assigns.now (memory c.args.rank c.args.keeps.now es)) (sym (before t))

-- any other form
pub run-requires-clause-range : goal.run-requires-clause-range
run-requires-clause-range c =
    let t = (goal.at.run-requires-clause-range c).After-as_mut_slice-eaches
    in subst (λ (es : List ℕ). IsMemoryInRange (program_of c.args.transaction.now) (memory c.args.rank c.args.keeps.now es)) (before t) c.requires.can.range

pub returns-in_default-clause-ran : goal.returns-in_default-clause-ran
returns-in_default-clause-ran c =
    let t = (goal.at.returns-in_default-clause-ran c).After-as_mut_slice-eaches
    in let same : length c.run.new.eaches ≡ length c.as_mut_slice-eaches.result.now = search rules
    in ap (memory c.run.result c.run.new.keeps) (after t c.run.new.eaches same)
    ∙ c.run.ensures
    ∙ ap (λ (es : List ℕ). run_of c.args.transaction.now c.args.env.now c.args.assigns.now (memory c.args.rank c.args.keeps.now es)) (sym (before t))
