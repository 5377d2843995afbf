-- The first node on a cycle, and the first node that is too deep.
use Rattle.tree_graph.proofs.Prelude.{arith, ℕ, length, ap, sym, ◌<◌, ◌≡◌, subst, ◌∙◌, List, [], ◌+◌, refl, ◌∷◌, ◌≤◌, ◌++◌, get_or, inl, inr, Contains, take, ◌≢◌, Bool, false, slice_index, true≢false, true, ◌↔◌, ◌⊎◌, IsTrue, not, MatchOption, None, Option, Some, is_some, set, length-set, cases_eq, get_or_default, take_more, get_or-set_other, get_or-set_same, Contains-push_cases, Contains-append_left, Contains-push, most_levels, Graph, Leads, IsForest, IsDeep, ArePointed, IsBelow, is_marked}
use Rattle.tree_graph.proofs.Steps.{one_depth}

pub marked-at : (m : List Bool) (i : ℕ) (b : Bool) → i < length m → b ≡ get_or m i b → is_marked m i ≡ b
marked-at m i b within is = get_or_default m i false b within ∙ sym is

pub not-below : (g : Graph) (a : ℕ) (m : List Bool) (b : Bool) → a < length m → b ≡ get_or m a b → b ≡ false → IsTrue (is_marked m a) ↔ IsBelow g a a → IsBelow g a a → ⊥
not-below g a m b within is was_false both way = true≢false (sym (both.1 way) ∙ marked-at m a b within is ∙ was_false)

pub is-below : (g : Graph) (a : ℕ) (m : List Bool) (b : Bool) → a < length m → b ≡ get_or m a b → b ≡ true → IsTrue (is_marked m a) ↔ IsBelow g a a → IsBelow g a a
is-below g a m b within is was_true both = both.0 (marked-at m a b within is ∙ was_true)

pub deep-if-none : (D : Type 0) (P : ℕ → Type 0) (o : Option ℕ) (none : Bool) → MatchOption o D P → is_some o ≡ not none → none ≡ true → D
deep-if-none D P None none h e was_true = h
deep-if-none D P (Some d) none h e was_true = absurd (true≢false (e ∙ ap not was_true))

pub shallow-if-some : (g : Graph) (root a : ℕ) → IsForest g root → (D : Type 0) (o : Option ℕ) (none : Bool) → MatchOption o D (λ d. (d ≤ most_levels) × Leads g d root a) → is_some o ≡ not none → none ≡ false → IsDeep g root a → ⊥
shallow-if-some g root a forest D None none h e was_false deep = true≢false (sym (e ∙ ap not was_false))
shallow-if-some g root a forest D (Some d) none h e was_false deep = (let same : deep.0 ≡ d = one_depth g root forest deep.0 d a deep.2 h.1 in omega (arith, h.0, deep.1))

pub pointed-none : (p : ℕ) (old : List ℕ) → ArePointed p [] old old
pointed-none p old = record {
  len = refl;
  changed = λ c there. absurd (let l : there.0 < 0 = there.1 in omega arith);
  others = λ c. inr refl;
}

pub pointed-more : (p : ℕ) (ns old now : List ℕ) (i : ℕ) → i < length ns → get_or ns i 0 < length now → ArePointed p (take i ns) old now → ArePointed p (take (i + 1) ns) old (set now (get_or ns i 0) p)
pointed-more p ns old now i short within so_far = subst (λ (l : List ℕ). ArePointed p l old (set now (get_or ns i 0) p)) (sym (take_more ns i 0 short)) (record {
  len = length-set now (get_or ns i 0) p ∙ so_far.len;
  changed = λ c there. by c (cases_eq c (get_or ns i 0)) there;
  others = λ c. other c (cases_eq c (get_or ns i 0));
})
  where
    here : (c : ℕ) → c ≡ get_or ns i 0 → slice_index (set now (get_or ns i 0) p) c ≡ p
    here c same = ap (λ k. get_or (set now (get_or ns i 0) p) k 0) same ∙ get_or-set_same now (get_or ns i 0) p 0 within

    by : (c : ℕ) → (c ≡ get_or ns i 0) ⊎ (c ≢ get_or ns i 0) → Contains (take i ns ++ get_or ns i 0 ∷ []) c → slice_index (set now (get_or ns i 0) p) c ≡ p
    by c (inl same) there = here c same
    by c (inr ne) there = elim (Contains-push_cases (take i ns) (get_or ns i 0) c there) [
      | inl old' ↦ get_or-set_other now (get_or ns i 0) c p 0 ne ∙ so_far.changed c old'
      | inr same ↦ absurd (ne (sym same))
    ]

    other : (c : ℕ) → (c ≡ get_or ns i 0) ⊎ (c ≢ get_or ns i 0) → (slice_index (set now (get_or ns i 0) p) c ≡ p) × Contains (take i ns ++ get_or ns i 0 ∷ []) c ⊎ (slice_index (set now (get_or ns i 0) p) c ≡ slice_index old c)
    other c (inl same) = inl (here c same, subst (λ (k : ℕ). Contains (take i ns ++ get_or ns i 0 ∷ []) k) (sym same) (Contains-push (take i ns) (get_or ns i 0)))
    other c (inr ne) = elim (so_far.others c) [
      | inl was ↦ inl (get_or-set_other now (get_or ns i 0) c p 0 ne ∙ was.0, Contains-append_left (take i ns) (get_or ns i 0 ∷ []) c was.1)
      | inr was ↦ inr (get_or-set_other now (get_or ns i 0) c p 0 ne ∙ was)
    ]
