-- One more name of a tally.
use Rattle.policy_rules.proofs.Prelude.{◌∙◌, ap, List, ◌≡◌, sym, ℕ, [], ◌∷◌, refl, ◌++◌, false, Bool, subst, true, not, ◌+◌, arith, ◌<◌, inl, inr, ◌||◌, ◌≤◌, cond, ◌&&◌, nat_lt, nat_eq, if◌then◌else◌, count_by, or-false, or-true, cases_Bool, ltb-false, ltb-true, nat_tests, list_any-append, sum_by-append, bytes_eq-Decides, bytes_eq, with_name, IsTally, has, is_once}

abbrev pub times : List ℕ → List (List ℕ) → ℕ
times a all = count_by (bytes_eq a) all

pub times-push : (a x : List ℕ) (all : List (List ℕ)) → times a (all ++ x ∷ []) ≡ times a all + cond (bytes_eq a x) 1 0
times-push a x all = sum_by-append (λ y. cond (bytes_eq a y) 1 0) all (x ∷ []) ∙ ap (λ n. times a all + n) (omega arith)

-- a name is among the names with x exactly if it was among them or is x
pub has-with_name : (names : List (List ℕ)) (x a : List ℕ) → has (with_name names x) a ≡ (has names a || bytes_eq a x)
has-with_name names x a = elim (cases_Bool (has names x)) [
  | inl there ↦ ap (λ b. has (if b then names else names ++ x ∷ []) a) there ∙ sym (elim (cases_Bool (bytes_eq a x)) [
    | inl same ↦ (let e : a ≡ x = (bytes_eq-Decides a x).0 same in
        ap (λ b. has names a || b) same ∙ or-true (has names a) ∙ sym (subst (λ y. has names y ≡ true) (sym e) there))
    | inr other ↦ ap (λ b. has names a || b) other ∙ or-false (has names a)
  ])
  | inr new ↦ ap (λ b. has (if b then names else names ++ x ∷ []) a) new ∙ list_any-append (bytes_eq a) names (x ∷ []) ∙ ap (λ b. has names a || b) (or-false (bytes_eq a x))
]

-- counts under tests
some-push : (h e : Bool) (n : ℕ) → h ≡ nat_lt 0 n → (h || e) ≡ nat_lt 0 (n + cond e 1 0)
some-push h true n is = grind (arith, nat_tests, or-true h)
some-push h false n is = grind (arith, nat_tests, or-false h)

small : (n : ℕ) → n ≤ 0 → nat_lt 1 n ≡ nat_lt 1 (n + 1)
small n h = grind (arith, nat_tests)

-- a name that is new to the tally
pub IsTally-new : (seen again all : List (List ℕ)) (x : List ℕ) → IsTally seen again all → has seen x ≡ false → IsTally (with_name seen x) again (all ++ x ∷ [])
IsTally-new seen again all x t new = record {
  some = λ a. has-with_name seen x a ∙ some-push (has seen a) (bytes_eq a x) (times a all) (t.some a) ∙ ap (λ n. nat_lt 0 n) (sym (times-push a x all));
  more = λ a. t.more a ∙ stays a ∙ ap (λ n. nat_lt 1 n) (sym (times-push a x all));
}
  where
    stays : (a : List ℕ) → nat_lt 1 (times a all) ≡ nat_lt 1 (times a all + cond (bytes_eq a x) 1 0)
    stays a = elim (cases_Bool (bytes_eq a x)) [
      | inl same ↦ (let e : a ≡ x = (bytes_eq-Decides a x).0 same in
          let none : nat_lt 0 (times a all) ≡ false = subst (λ y. nat_lt 0 (times y all) ≡ false) (sym e) (sym (t.some x) ∙ new) in
          let zero' : times a all ≤ 0 = ltb-false 0 (times a all) none in
          small (times a all) zero' ∙ ap (λ b. nat_lt 1 (times a all + cond b 1 0)) (sym same))
      | inr other ↦ ap (λ n. nat_lt 1 n) (omega arith) ∙ ap (λ b. nat_lt 1 (times a all + cond b 1 0)) (sym other)
    ]

more-push : (h e s : Bool) (n : ℕ) → h ≡ nat_lt 1 n → (e ≡ true → nat_lt 0 n ≡ true) → (h || e) ≡ nat_lt 1 (n + cond e 1 0)
more-push h true s n is there = (let p : 0 < n = ltb-true 0 n (there refl) in grind (arith, nat_tests, or-true h))
more-push h false s n is there = grind (arith, nat_tests, or-false h)

-- a name that was seen
pub IsTally-again : (seen again all : List (List ℕ)) (x : List ℕ) → IsTally seen again all → has seen x ≡ true → IsTally (with_name seen x) (with_name again x) (all ++ x ∷ [])
IsTally-again seen again all x t there = record {
  some = λ a. has-with_name seen x a ∙ some-push (has seen a) (bytes_eq a x) (times a all) (t.some a) ∙ ap (λ n. nat_lt 0 n) (sym (times-push a x all));
  more = λ a. has-with_name again x a ∙ more-push (has again a) (bytes_eq a x) true (times a all) (t.more a) (λ same. subst (λ y. nat_lt 0 (times y all) ≡ true) (sym ((bytes_eq-Decides a x).0 same)) (sym (t.some x) ∙ there)) ∙ ap (λ n. nat_lt 1 n) (sym (times-push a x all));
}

-- a name seen, but not more than once, occurs exactly once
pub once : (seen again all : List (List ℕ)) (a : List ℕ) → IsTally seen again all → (has seen a && not (has again a)) ≡ is_once all a
once seen again all a t = ap (λ b. b && not (has again a)) (t.some a) ∙ ap (λ b. nat_lt 0 (times a all) && not b) (t.more a) ∙ counted (times a all)
  where
    counted : (n : ℕ) → (nat_lt 0 n && not (nat_lt 1 n)) ≡ nat_eq n 1
    counted n = grind (arith, nat_tests)

pub tally-new : (seen again seen' all : List (List ℕ)) (x : List ℕ) (new : Bool) → IsTally seen again all → seen' ≡ with_name seen x → new ≡ not (has seen x) → new ≡ true → IsTally seen' again (all ++ x ∷ [])
tally-new seen again seen' all x new t grown is was_true = subst (λ l. IsTally l again (all ++ x ∷ [])) (sym grown) (IsTally-new seen again all x t (flip (has seen x) (sym was_true ∙ is)))
  where
    flip : (b : Bool) → true ≡ not b → b ≡ false
    flip true e = e
    flip false e = refl

pub tally-again : (seen again seen' again' all : List (List ℕ)) (x : List ℕ) (new : Bool) → IsTally seen again all → seen' ≡ with_name seen x → again' ≡ with_name again x → new ≡ not (has seen x) → new ≡ false → IsTally seen' again' (all ++ x ∷ [])
tally-again seen again seen' again' all x new t grown more is was_true = subst (λ l. IsTally l again' (all ++ x ∷ [])) (sym grown) (subst (λ l. IsTally (with_name seen x) l (all ++ x ∷ [])) (sym more) (IsTally-again seen again all x t (flip (has seen x) (sym was_true ∙ is))))
  where
    flip : (b : Bool) → false ≡ not b → b ≡ true
    flip true e = refl
    flip false e = e
