use Rattle.rank_core.proofs.Prelude.{◌≡◌, sym, subst, ◌∙◌, List, ap, arith, [], length, ℕ, ◌∷◌, Some, Vec, ◌++◌, length-append, BTreeMap, Updates, lookup, slice_get, Global, FlowKey, has_key, numbers_at, cmp-value, OrderedKey}
use Rattle.rank_core.proofs.FlowPlaces.{still-there, still-found, numbers-last, numbers-before}
use Rattle.rank_core.proofs.flows.FlowTable.add.Goals as goal

pub invariant_of-self-2 : goal.invariant_of-self-2
invariant_of-self-2 c =
    let t = c.args.self.now
    in let len : c.len.result ≡ length t.flows.items = c.len.ensures ∙ c.reserve.new.self.ok.0 ∙ ap length (c.reserve.ensures.items ∙ ap (λ v. v.items) c.widen.ensures.flows)
    in let u : Updates cmp-value.it t.places c.insert.new.self c.key_of.result (Some (length t.flows.items))
    = subst (λ (m : BTreeMap OrderedKey ℕ). Updates cmp-value.it m c.insert.new.self c.key_of.result (Some (length t.flows.items))) c.widen.ensures.places
    (subst (λ (l : ℕ). Updates cmp-value.it c.widen.new.self.places c.insert.new.self c.key_of.result (Some l)) len c.in_ok-insert.ensures.updates)
    in let flows : c.push_reserved.new.self.items ≡ t.flows.items ++ c.args.flow.now ∷ [] = c.push_reserved.ensures.items ∙ ap (λ (fs : List FlowKey). fs ++ c.args.flow.now ∷ []) (c.reserve.ensures.items ∙ ap (λ v. v.items) c.widen.ensures.flows)
    in let numbers : c.push_reserved-2.new.self.items ≡ t.numbers.items ++ c.in_ok-numbers.numbers ∷ [] = c.push_reserved-2.ensures.items ∙ ap (λ (ns : List (Vec ℕ Global)). ns ++ c.in_ok-numbers.numbers ∷ []) (c.reserve-2.ensures.items ∙ ap (λ v. v.items) c.widen.ensures.numbers)
    in record {
      even = omega (arith, ap length numbers, ap length flows, length-append t.numbers.items (c.in_ok-numbers.numbers ∷ []), length-append t.flows.items (c.args.flow.now ∷ []), t.even);
      there = λ g i at. subst (λ (fs : List FlowKey). slice_get fs i ≡ Some g) (sym flows) (still-there t.places c.insert.new.self t.flows.items c.args.flow.now c.key_of.ensures u t.there g i at);
      found = λ g i at. still-found t.places c.insert.new.self t.flows.items c.args.flow.now c.key_of.ensures u t.found c.requires.absent g i (subst (λ (fs : List FlowKey). slice_get fs i ≡ Some g) flows at);
    }

pub returns-clause-added : goal.returns-clause-added
returns-clause-added c =
    let t = c.args.self.now
    in let len : c.len.result ≡ length t.flows.items = c.len.ensures ∙ c.reserve.new.self.ok.0 ∙ ap length (c.reserve.ensures.items ∙ ap (λ v. v.items) c.widen.ensures.flows)
    in let u : Updates cmp-value.it t.places c.insert.new.self c.key_of.result (Some (length t.flows.items))
    = subst (λ (m : BTreeMap OrderedKey ℕ). Updates cmp-value.it m c.insert.new.self c.key_of.result (Some (length t.flows.items))) c.widen.ensures.places
    (subst (λ (l : ℕ). Updates cmp-value.it c.widen.new.self.places c.insert.new.self c.key_of.result (Some l)) len c.in_ok-insert.ensures.updates)
    in let numbers : c.push_reserved-2.new.self.items ≡ t.numbers.items ++ c.in_ok-numbers.numbers ∷ [] = c.push_reserved-2.ensures.items ∙ ap (λ (ns : List (Vec ℕ Global)). ns ++ c.in_ok-numbers.numbers ∷ []) (c.reserve-2.ensures.items ∙ ap (λ v. v.items) c.widen.ensures.numbers)
    in ap (λ (ns : List (Vec ℕ Global)). numbers_at ns (lookup (has_key c.args.flow.now) c.insert.new.self.entries)) numbers ∙ numbers-last t.places c.insert.new.self t.flows.items c.args.flow.now c.key_of.ensures u t.numbers.items c.in_ok-numbers.numbers t.even ∙ ap Some c.in_ok-numbers.ensures.items

pub returns-clause-others : goal.returns-clause-others
returns-clause-others c = λ g other.
    let t = c.args.self.now
    in let len : c.len.result ≡ length t.flows.items = c.len.ensures ∙ c.reserve.new.self.ok.0 ∙ ap length (c.reserve.ensures.items ∙ ap (λ v. v.items) c.widen.ensures.flows)
    in let u : Updates cmp-value.it t.places c.insert.new.self c.key_of.result (Some (length t.flows.items))
    = subst (λ (m : BTreeMap OrderedKey ℕ). Updates cmp-value.it m c.insert.new.self c.key_of.result (Some (length t.flows.items))) c.widen.ensures.places
    (subst (λ (l : ℕ). Updates cmp-value.it c.widen.new.self.places c.insert.new.self c.key_of.result (Some l)) len c.in_ok-insert.ensures.updates)
    in let numbers : c.push_reserved-2.new.self.items ≡ t.numbers.items ++ c.in_ok-numbers.numbers ∷ [] = c.push_reserved-2.ensures.items ∙ ap (λ (ns : List (Vec ℕ Global)). ns ++ c.in_ok-numbers.numbers ∷ []) (c.reserve-2.ensures.items ∙ ap (λ v. v.items) c.widen.ensures.numbers)
    in ap (λ (ns : List (Vec ℕ Global)). numbers_at ns (lookup (has_key g) c.insert.new.self.entries)) numbers ∙ numbers-before t.places c.insert.new.self t.flows.items c.args.flow.now c.key_of.ensures u t.numbers.items c.in_ok-numbers.numbers t.even t.there g other
