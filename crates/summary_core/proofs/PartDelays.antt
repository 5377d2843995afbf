-- The delays of a part's classes, one class after another, are those of its departures in another
-- order.
use Rattle.summary_core.proofs.Prelude.{ℕ, length, ◌≡◌, arith, List, ap, ◌≤◌, ◌∙◌, sym, [], ◌∷◌, refl, suc, ◌<◌, subst, zero, Bool, if◌then◌else◌, ◌++◌, false, true, ◌==◌, inl, inr, append-nil, append_assoc, cases_lt, eq-eqb, eqb-true, IsPermutation-trans, IsPermutation-refl, IsPermutation-append_comm, IsPermutation-append_left, IsPermutation-append_right, delays_of, part_delays, is_in, joined, delay_of, delays_in}
use Rattle.std.specs.List.Sorted.{IsPermutation}
use Rattle.summary_core.specs.Laws.{DelaysAreOfTheDepartures}

-- ---- two lists of each class
middle : (a b c d : List ℕ) → IsPermutation ((a ++ b) ++ (c ++ d)) ((a ++ c) ++ (b ++ d))
middle a b c d =
    let first : a ++ ((b ++ c) ++ d) ≡ (a ++ b) ++ (c ++ d) = simp append_assoc in
    let second : a ++ ((c ++ b) ++ d) ≡ (a ++ c) ++ (b ++ d) = simp append_assoc in
    let moved = IsPermutation-append_right a ((b ++ c) ++ d) ((c ++ b) ++ d) (IsPermutation-append_left d (b ++ c) (c ++ b) (IsPermutation-append_comm b c)) in
    subst (λ (l : List ℕ). IsPermutation l ((a ++ c) ++ (b ++ d))) first (subst (λ (l : List ℕ). IsPermutation (a ++ ((b ++ c) ++ d)) l) second moved)

one_more : (b : Bool) (both first second f g : List ℕ) → IsPermutation both (first ++ second)
    → IsPermutation (both ++ (if b then f ++ g else [])) ((first ++ (if b then f else [])) ++ (second ++ (if b then g else [])))
one_more true both first second f g h =
    IsPermutation-trans (both ++ (f ++ g)) ((first ++ second) ++ (f ++ g)) ((first ++ f) ++ (second ++ g)) (IsPermutation-append_left (f ++ g) both (first ++ second) h) (middle first second f g)
one_more false both first second f g h =
    IsPermutation-trans (both ++ []) ((first ++ second) ++ []) ((first ++ []) ++ (second ++ [])) (IsPermutation-append_left [] both (first ++ second) h) (middle first second [] [])

joined-both : (member : ℕ → Bool) (f g : ℕ → List ℕ) (n : ℕ) → IsPermutation (joined member (λ k. f k ++ g k) n) (joined member f n ++ joined member g n)
joined-both member f g zero = IsPermutation-refl []
joined-both member f g (suc n) = one_more (member n) (joined member (λ k. f k ++ g k) n) (joined member f n) (joined member g n) (f n) (g n) (joined-both member f g n)

-- ---- the list of one class
not_there : (m t : Bool) (l : List ℕ) → (t ≡ true → ⊥) → (if m then (if t then l else []) else []) ≡ []
not_there true true l other = absurd (other refl)
not_there true false l other = refl
not_there false t l other = refl

there : (m t : Bool) (l : List ℕ) → t ≡ true → (if m then (if t then l else []) else []) ≡ (if m then l else [])
there m true l same = refl
there m false l same = cc

none_below : (member : ℕ → Bool) (c : ℕ) (l : List ℕ) (n : ℕ) → n ≤ c → joined member (λ k. if k == c then l else []) n ≡ []
none_below member c l zero h = refl
none_below member c l (suc n) h =
    ap (λ (x : List ℕ). x ++ (if member n then (if n == c then l else []) else [])) (none_below member c l n (omega (arith, h)))
    ∙ not_there (member n) (n == c) l (λ e. let same : n ≡ c = eqb-true n c e in omega (arith, h, same))

found : (member : ℕ → Bool) (c : ℕ) (l : List ℕ) (n : ℕ) → c < n → joined member (λ k. if k == c then l else []) n ≡ (if member c then l else [])
found member c l zero h = absurd (omega (arith, h))
found member c l (suc n) h =
    elim (cases_lt c n) [
      | inl less ↦
          ap (λ (x : List ℕ). x ++ (if member n then (if n == c then l else []) else [])) (found member c l n less)
          ∙ ap (λ (x : List ℕ). (if member c then l else []) ++ x) (not_there (member n) (n == c) l (λ e. let same : n ≡ c = eqb-true n c e in omega (arith, less, same)))
          ∙ append-nil (if member c then l else [])
      | inr most ↦
          let same : n ≡ c = omega (arith, h, most) in
          ap (λ (x : List ℕ). x ++ (if member n then (if n == c then l else []) else [])) (none_below member c l n most)
          ∙ there (member n) (n == c) l (eq-eqb n c same)
          ∙ ap (λ (k : ℕ). if member k then l else []) same
    ]

nothing : (b : Bool) (l : List ℕ) → l ≡ [] → (if b then l else []) ≡ []
nothing true l none = none
nothing false l none = refl

joined-nil : (member : ℕ → Bool) (n : ℕ) → joined member (λ k. []) n ≡ []
joined-nil member zero = refl
joined-nil member (suc n) =
    let none : List ℕ = [] in
    ap (λ (x : List ℕ). x ++ (if member n then none else [])) (joined-nil member n) ∙ nothing (member n) none refl

-- ---- the events
pub delays_of_departures : DelaysAreOfTheDepartures
delays_of_departures table p [] known = subst (λ (l : List ℕ). IsPermutation l []) (sym (joined-nil (is_in table p) (length table))) (IsPermutation-refl [])
delays_of_departures table p (e ∷ es) known =
    let member = is_in table p in
    let n = length table in
    let own = delay_of e.event in
    let later = joined member (λ k. delays_in k es) n in
    let first = if member e.class then own else [] in
    IsPermutation-trans (delays_of table p (e ∷ es)) (first ++ later) (first ++ part_delays member es)
    (subst (λ (l : List ℕ). IsPermutation (delays_of table p (e ∷ es)) (l ++ later)) (found member e.class own n known.0)
    (joined-both member (λ k. if k == e.class then own else []) (λ k. delays_in k es) n))
    (IsPermutation-append_right first later (part_delays member es) (delays_of_departures table p es known.1))
