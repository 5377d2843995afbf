-- Increasing line numbers: the statements before one are those on earlier lines, and the first in
-- error has the lowest line number.
use Rattle.policy_rules.proofs.Prelude.{◌∙◌, ap, List, ◌≡◌, sym, ℕ, [], ◌∷◌, refl, ◌++◌, take, false, Bool, length, subst, true, ◌+◌, arith, ◌<◌, inl, inr, get_or, ◌≤◌, cond, drop, suc, ◌≢◌, nat_lt, ◌⊎◌, filter, cases_order, lt-ltb, false_from_ne_true, cases_eq, le-ltb, append-nil, take-append-drop, get_or-take, length-take, get_or-drop, get_or_default, length-drop, filter-append, AllWithin-more, at_read, AllWithin, Entry, Sense, IsLeastLine, AreRising, before}

filter_all : (p : Entry → Bool) (xs : List Entry) → ((k : ℕ) (d : Entry) → k < length xs → p (get_or xs k d) ≡ true) → filter p xs ≡ xs
filter_all p [] h = refl
filter_all p (x ∷ xs) h = ap (λ b. cond b (x ∷ filter p xs) (filter p xs)) (h 0 x (omega arith)) ∙ ap (λ l. x ∷ l) (filter_all p xs (λ k d l. h (suc k) d (omega arith)))

filter_none : (p : Entry → Bool) (xs : List Entry) → ((k : ℕ) (d : Entry) → k < length xs → p (get_or xs k d) ≡ false) → filter p xs ≡ []
filter_none p [] h = refl
filter_none p (x ∷ xs) h = ap (λ b. cond b (x ∷ filter p xs) (filter p xs)) (h 0 x (omega arith)) ∙ filter_none p xs (λ k d l. h (suc k) d (omega arith))

-- the statements before one are those on earlier lines
pub before-take : (entries : List Entry) (i : ℕ) (d : Entry) → AreRising entries → i < length entries → before (get_or entries i d).0 entries ≡ take i entries
before-take entries i d rising within =
    let p : Entry → Bool = λ l. nat_lt l.0 (get_or entries i d).0 in
    ap (filter p) (sym (take-append-drop i entries))
    ∙ filter-append p (take i entries) (drop i entries)
    ∙ ap (λ l. l ++ filter p (drop i entries)) (filter_all p (take i entries) (λ k e l. lower k e (omega (arith, length-take i entries, l))))
    ∙ ap (λ l. take i entries ++ l) (filter_none p (drop i entries) (λ k e l. higher k e (omega (arith, length-drop i entries, l))))
    ∙ append-nil (take i entries)
  where
    lower : (k : ℕ) (e : Entry) → k < i → nat_lt (get_or (take i entries) k e).0 (get_or entries i d).0 ≡ true
    lower k e l = subst (λ (a : Entry). nat_lt a.0 (get_or entries i d).0 ≡ true) (sym (get_or-take i entries k e l))
        (subst (λ (b : Entry). nat_lt (get_or entries k e).0 b.0 ≡ true) (get_or_default entries i e d within) (lt-ltb _ _ (rising k i e l within)))

    higher : (k : ℕ) (e : Entry) → i + k < length entries → nat_lt (get_or (drop i entries) k e).0 (get_or entries i d).0 ≡ false
    higher k e l = subst (λ (a : Entry). nat_lt a.0 (get_or entries i d).0 ≡ false) (sym (get_or-drop i entries k e))
        (subst (λ (b : Entry). nat_lt (get_or entries (i + k) e).0 b.0 ≡ false) (get_or_default entries i e d within) (at_least k e l (cases_eq k 0)))
      where
        at_least : (k : ℕ) (e : Entry) → i + k < length entries → (k ≡ 0) ⊎ (k ≢ 0) → nat_lt (get_or entries (i + k) e).0 (get_or entries i e).0 ≡ false
        at_least k e l (inl z) = (let same : i + k ≡ i = omega arith in subst (λ (j : ℕ). nat_lt (get_or entries j e).0 (get_or entries i e).0 ≡ false) (sym same) (le-ltb _ _ (omega arith)))
        at_least k e l (inr nz) = (let above : (get_or entries i e).0 < (get_or entries (i + k) e).0 = rising i (i + k) e (omega arith) l in le-ltb _ _ (omega arith))

-- a test against the statements on earlier lines is a test against those before it in the list
pub passes-at : (es : List Entry) → AreRising es → (test : List Entry → Sense → Bool) → ((k : ℕ) (d : Entry) → k < length es → test (before (get_or es k d).0 es) (get_or es k d).1 ≡ true → ⊥)
    → (i : ℕ) (d : Entry) → i < length es → test (take i es) (get_or es i d).1 ≡ false
passes-at es rising test none i d within = subst (λ (ls : List Entry). test ls (get_or es i d).1 ≡ false) (before-take es i d rising within) (false_from_ne_true _ (none i d within))

-- the first statement in error has the lowest line number
pub least_here : (Fails : Entry → Type 0) (entries : List Entry) (i : ℕ) (e : Entry) → AreRising entries → i < length entries → e ≡ get_or entries i e → AllWithin (λ k. ¬ Fails k) entries 0 i → Fails e → IsLeastLine Fails entries e.0
least_here Fails entries i l rising within is fine fails = record {
  there = (i, l, within, sym is, (fails, refl));
  least = λ k d short bad. least k d short bad (cases_order k i);
}
  where
    least : (k : ℕ) (d : Entry) → k < length entries → Fails (get_or entries k d) → (k ≡ i) ⊎ ((k < i) ⊎ (i < k)) → l.0 ≤ (get_or entries k d).0
    least k d short bad (inr (inl below)) = absurd (fine k d (omega arith) below bad)
    least k d short bad (inl same) = (let e : get_or entries k d ≡ l = ap (λ (j : ℕ). get_or entries j d) same ∙ get_or_default entries i d l within ∙ sym is in subst (λ (m : Entry). l.0 ≤ m.0) (sym e) (omega arith))
    least k d short bad (inr (inr above)) = (let far : (get_or entries i d).0 < (get_or entries k d).0 = rising i k d above short in
        let e : l ≡ get_or entries i d = is ∙ get_or_default entries i l d within in
        subst (λ (m : Entry). m.0 ≤ (get_or entries k d).0) (sym e) (omega arith))

-- a pass goes on past a statement that isn't in error
pub fine-more : (Fails : Entry → Type 0) (entries : List Entry) (i : ℕ) (e : Entry) → i < length entries → e ≡ get_or entries i e → AllWithin (λ k. ¬ Fails k) entries 0 i → (¬ Fails e) → AllWithin (λ k. ¬ Fails k) entries 0 (i + 1)
fine-more Fails entries i e within is fine here = AllWithin-more (λ k. ¬ Fails k) entries 0 i fine (at_read entries (λ k. ¬ Fails k) i e within is here)
