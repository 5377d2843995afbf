-- Lists of taps in the steps of a loop.
use Rattle.tap_core.proofs.Prelude.{◌≡◌, ◌∙◌, ap, refl, sym, ◌++◌, List, length, take, ℕ, ◌<◌, [], ◌∷◌, get_or, map, ◌≤◌, arith, drop, false, remove, set, subst, suc, true, zero, append-nil, Bool, cond, filter, not, ◌||◌, take_all, drop_all, entries, Entry, left_after_one, Shown, dropped, entry, stepped, entry_after, is_done, left_after, step, answers_done, Dropped, TapKind}
use Rattle.std.specs.List.Retain.{IsFiltered}
use Rattle.std.proofs.lemmas.Fn.{filter_same}

-- a filter by kind, on entries
pub entries-filter : {T : Type 0} (kind_of : T → TapKind) (state_of : T → List ℕ) (p : TapKind → Bool) (ts : List T) → entries kind_of state_of (filter (λ t. p (kind_of t)) ts) ≡ filter (λ e. p e.0) (entries kind_of state_of ts)
entries-filter kind_of state_of p [] = refl
entries-filter kind_of state_of p (t ∷ ts) =
    elim (p (kind_of t)) as (λ b. entries kind_of state_of (cond b (t ∷ filter (λ t. p (kind_of t)) ts) (filter (λ t. p (kind_of t)) ts)) ≡ cond b (entry (kind_of t) (state_of t) ∷ filter (λ e. p e.0) (entries kind_of state_of ts)) (filter (λ e. p e.0) (entries kind_of state_of ts))) [
      | true ↦ ap (λ es. entry (kind_of t) (state_of t) ∷ es) (entries-filter kind_of state_of p ts)
      | false ↦ entries-filter kind_of state_of p ts
    ]

-- a step over a tap that needs more departures
pub pass-more : {T : Type 0} (kind_of : T → TapKind) (state_of : T → List ℕ) (d : Shown) (ts : List T) (i : ℕ) (t old : T) → i < length ts → old ≡ get_or ts i old → entry (kind_of t) (state_of t) ≡ stepped d (entry (kind_of old) (state_of old)) → is_done d (entry (kind_of t) (state_of t)) ≡ false → take i (entries kind_of state_of ts) ++ left_after_one d (drop i (entries kind_of state_of ts)) ≡ take (suc i) (entries kind_of state_of (set ts i t)) ++ left_after_one d (drop (suc i) (entries kind_of state_of (set ts i t)))
pass-more kind_of state_of d [] i t old h is after ends = absurd (omega (arith, h))
pass-more {T} kind_of state_of d (x ∷ ts) zero t old h is after more =
    subst (λ (e : Entry). cond (not (is_done d e)) (e ∷ left_after_one d (entries kind_of state_of ts)) (left_after_one d (entries kind_of state_of ts)) ≡ entry (kind_of t) (state_of t) ∷ left_after_one d (entries kind_of state_of ts)) (after ∙ ap (λ (y : T). stepped d (entry (kind_of y) (state_of y))) is)
    (rw more refl)
pass-more kind_of state_of d (x ∷ ts) (suc i) t old h is after more =
    ap (λ es. entry (kind_of x) (state_of x) ∷ es) (pass-more kind_of state_of d ts i t old (omega (arith, h)) is after more)

-- a step over a tap that is done, which is removed
pub pass-done : {T : Type 0} (kind_of : T → TapKind) (state_of : T → List ℕ) (d : Shown) (ts : List T) (i : ℕ) (t old : T) → i < length ts → old ≡ get_or ts i old → entry (kind_of t) (state_of t) ≡ stepped d (entry (kind_of old) (state_of old)) → is_done d (entry (kind_of t) (state_of t)) ≡ true → take i (entries kind_of state_of ts) ++ left_after_one d (drop i (entries kind_of state_of ts)) ≡ take i (entries kind_of state_of (remove (set ts i t) i)) ++ left_after_one d (drop i (entries kind_of state_of (remove (set ts i t) i)))
pass-done kind_of state_of d [] i t old h is after ends = absurd (omega (arith, h))
pass-done {T} kind_of state_of d (x ∷ ts) zero t old h is after more =
    subst (λ (e : Entry). cond (not (is_done d e)) (e ∷ left_after_one d (entries kind_of state_of ts)) (left_after_one d (entries kind_of state_of ts)) ≡ left_after_one d (entries kind_of state_of ts)) (after ∙ ap (λ (y : T). stepped d (entry (kind_of y) (state_of y))) is)
    (rw more refl)
pass-done kind_of state_of d (x ∷ ts) (suc i) t old h is after more =
    ap (λ es. entry (kind_of x) (state_of x) ∷ es) (pass-done kind_of state_of d ts i t old (omega (arith, h)) is after more)

-- the elements that `retain` leaves, by the result of its closure
pub kept_by : {X F : Type 0} (R : F → X → Bool → F → Type 0) (f : F) (xs ys : List X) → IsFiltered R f xs ys → (test : X → Bool) → ((x : X) (b : Bool) (f' : F) → R f x b f' → (b ≡ test x) × (f' ≡ f)) → ys ≡ filter test xs
kept_by R f xs ys h test answers = filter_same R test f answers xs ys h

-- an empty list of events leaves the taps unchanged
pub left_after-none : (es : List Entry) → left_after [] es ≡ es
left_after-none [] = refl
left_after-none (e ∷ es) = ap (λ rest. e ∷ rest) (left_after-none es)

-- one event, and then others
pub left_after-cons : (d : Shown) (ds : List Shown) (es : List Entry) → left_after (d ∷ ds) es ≡ left_after ds (left_after_one d es)
left_after-cons d ds [] = refl
left_after-cons d ds (e ∷ es) =
    elim (is_done d (stepped d e)) as (λ b. map (entry_after (d ∷ ds)) (cond (not (b || answers_done e.0 ds (step e.0 d e.1))) (e ∷ filter (λ e. not (answers_done e.0 (d ∷ ds) e.1)) es) (filter (λ e. not (answers_done e.0 (d ∷ ds) e.1)) es)) ≡ left_after ds (cond (not b) (stepped d e ∷ left_after_one d es) (left_after_one d es))) [
      | true ↦ left_after-cons d ds es
      | false ↦ elim (answers_done e.0 ds (step e.0 d e.1)) as (λ b. map (entry_after (d ∷ ds)) (cond (not b) (e ∷ filter (λ e. not (answers_done e.0 (d ∷ ds) e.1)) es) (filter (λ e. not (answers_done e.0 (d ∷ ds) e.1)) es)) ≡ map (entry_after ds) (cond (not b) (stepped d e ∷ filter (λ e. not (answers_done e.0 ds e.1)) (left_after_one d es)) (filter (λ e. not (answers_done e.0 ds e.1)) (left_after_one d es)))) [
        | true ↦ left_after-cons d ds es
        | false ↦ ap (λ rest. entry_after ds (stepped d e) ∷ rest) (left_after-cons d ds es)
      ]
    ]

-- no tap returns `Done` at a drop
pub left_after_one-dropped : (d : Dropped) (es : List Entry) → left_after_one (dropped d) es ≡ map (stepped (dropped d)) es
left_after_one-dropped d [] = refl
left_after_one-dropped d (e ∷ es) = ap (λ rest. stepped (dropped d) e ∷ rest) (left_after_one-dropped d es)

-- after a pass, the taps are those that are left
pub pass_over : (d : Shown) (es es0 : List Entry) (i : ℕ) → length es ≤ i → left_after_one d es0 ≡ take i es ++ left_after_one d (drop i es) → es ≡ left_after_one d es0
pass_over d es es0 i past h =
    sym (h ∙ ap (λ rest. take i es ++ left_after_one d rest) (drop_all i es past) ∙ append-nil (take i es) ∙ take_all i es past)

-- a step over a tap that a loop reads in place
pub pass-read : {T : Type 0} (kind_of : T → TapKind) (state_of : T → List ℕ) (d : Shown) (ts : List T) (i : ℕ) (t old : T) → i < length ts → old ≡ get_or ts i old → entry (kind_of t) (state_of t) ≡ stepped d (entry (kind_of (get_or ts i old)) (state_of (get_or ts i old))) → is_done d (entry (kind_of t) (state_of t)) ≡ false → take i (entries kind_of state_of ts) ++ left_after_one d (drop i (entries kind_of state_of ts)) ≡ take (suc i) (entries kind_of state_of (set ts i t)) ++ left_after_one d (drop (suc i) (entries kind_of state_of (set ts i t)))
pass-read {T} kind_of state_of d ts i t old h is after more =
    pass-more kind_of state_of d ts i t old h is (after ∙ ap (λ (y : T). stepped d (entry (kind_of y) (state_of y))) (sym is)) more
