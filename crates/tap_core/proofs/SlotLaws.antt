-- A pass over the slots of taps.
use Rattle.tap_core.proofs.Prelude.{◌≡◌, ◌∙◌, ap, refl, sym, ◌++◌, List, length, take, ℕ, ◌<◌, [], ◌∷◌, get_or, map, ◌≤◌, None, Some, arith, drop, Vec, add-one, append_assoc, false, remove, set, subst, suc, true, zero, ◌+◌, append-nil, nat_lt, replicate, take_all, length-map, slice_get, is_none, Global, line, entries, Entry, left_after_one, Shown, Slot, Tracks, dropped, entry, stepped, lines_of, full, waiting, departed, Dropped, TapKind}
use Rattle.std.proofs.lemmas.Bool.Decides.{nat_tests}
use Rattle.tap_core.specs.declared.kinds.TapKind.TheVariants.{Bytes, Order, First, Drops}
use Rattle.tap_core.proofs.Entries.{pass_over, left_after_one-dropped}

-- the first j entries stepped
abbrev pub partly : Shown → ℕ → List Entry → List Entry
partly d zero all = all
partly d (suc j) [] = []
partly d (suc j) (e ∷ all) = stepped d e ∷ partly d j all

pub partly-all : (d : Shown) (j : ℕ) (all : List Entry) → length all ≤ j → partly d j all ≡ map (stepped d) all
partly-all d zero [] h = refl
partly-all d zero (e ∷ all) h = absurd (omega (arith, h))
partly-all d (suc j) [] h = refl
partly-all d (suc j) (e ∷ all) h = ap (λ es. stepped d e ∷ es) (partly-all d j all (omega (arith, h)))

-- a tap that is full doesn't change
full_stays : (d : Shown) (e : Entry) → full e ≡ true → stepped d e ≡ e
full_stays d (Bytes, s) h = cc
full_stays d (Order, s) h = cc
full_stays d (Drops, s) h = cc
full_stays (dropped d) (First limit, s) h = refl
full_stays (departed d) (First limit, s) h = let n : nat_lt (length s) limit ≡ false = grind (arith, nat_tests) in rw n refl

-- past a slot with a line
pub more_said : (d : Shown) (all : List Entry) (slots : List Slot) (taps : List Entry) (j : ℕ) (said : Vec ℕ Global) → slice_get slots j ≡ Some (Some said) → Tracks (partly d j all) slots taps → Tracks (partly d (suc j) all) slots taps
more_said d all [] taps j said at h = cc
more_said d [] (s ∷ slots) taps zero said at h = absurd h
more_said d (e ∷ all) (None ∷ slots) taps zero said at h = cc
more_said d (e ∷ all) (Some v ∷ slots) taps zero said at h =
    subst (λ (k : Entry). Tracks (k ∷ all) (Some v ∷ slots) taps) (sym (full_stays d e h.0)) h
more_said d [] (s ∷ slots) taps (suc j) said at h = absurd h
more_said d (e ∷ all) (None ∷ slots) [] (suc j) said at h = absurd h
more_said d (e ∷ all) (None ∷ slots) (t ∷ taps) (suc j) said at h = (h.0, more_said d all slots taps j said at h.1)
more_said d (e ∷ all) (Some v ∷ slots) taps (suc j) said at h = (h.0, h.1, more_said d all slots taps j said at h.2)

-- past a tap that needs more departures
pub more_waiting : (d : Shown) (all : List Entry) (slots : List Slot) (taps : List Entry) (j : ℕ) (t : Entry) → slice_get slots j ≡ Some None → t ≡ stepped d (get_or taps (waiting (take j slots)) t) → Tracks (partly d j all) slots taps → Tracks (partly d (suc j) all) slots (set taps (waiting (take j slots)) t)
more_waiting d all [] taps j t at is h = cc
more_waiting d [] (s ∷ slots) taps zero t at is h = absurd h
more_waiting d (e ∷ all) (Some v ∷ slots) taps zero t at is h = cc
more_waiting d (e ∷ all) (None ∷ slots) [] zero t at is h = absurd h
more_waiting d (e ∷ all) (None ∷ slots) (t0 ∷ taps) zero t at is h = (is ∙ ap (stepped d) h.0, h.1)
more_waiting d [] (s ∷ slots) taps (suc j) t at is h = absurd h
more_waiting d (e ∷ all) (None ∷ slots) [] (suc j) t at is h = absurd h
more_waiting d (e ∷ all) (None ∷ slots) (t0 ∷ taps) (suc j) t at is h =
    rw add-one (h.0, more_waiting d all slots taps j t at (rw add-one at is) h.1)
more_waiting d (e ∷ all) (Some v ∷ slots) taps (suc j) t at is h =
    (h.0, h.1, more_waiting d all slots taps j t at is h.2)

-- past a tap that is done, whose line is written to its slot
pub more_done : (d : Shown) (all : List Entry) (slots : List Slot) (taps : List Entry) (j : ℕ) (t : Entry) (said : Vec ℕ Global) → slice_get slots j ≡ Some None → t ≡ stepped d (get_or taps (waiting (take j slots)) t) → full t ≡ true → said.items ≡ line t.0 t.1 → Tracks (partly d j all) slots taps → Tracks (partly d (suc j) all) (set slots j (Some said)) (remove taps (waiting (take j slots)))
more_done d all [] taps j t said at is f l h = cc
more_done d [] (s ∷ slots) taps zero t said at is f l h = absurd h
more_done d (e ∷ all) (Some v ∷ slots) taps zero t said at is f l h = cc
more_done d (e ∷ all) (None ∷ slots) [] zero t said at is f l h = absurd h
more_done d (e ∷ all) (None ∷ slots) (t0 ∷ taps) zero t said at is f l h =
    subst (λ (k : Entry). (full k ≡ true) × (said.items ≡ line k.0 k.1) × Tracks all slots taps) (is ∙ ap (stepped d) h.0) (f, l, h.1)
more_done d [] (s ∷ slots) taps (suc j) t said at is f l h = absurd h
more_done d (e ∷ all) (None ∷ slots) [] (suc j) t said at is f l h = absurd h
more_done d (e ∷ all) (None ∷ slots) (t0 ∷ taps) (suc j) t said at is f l h =
    rw add-one (h.0, more_done d all slots taps j t said at (rw add-one at is) f l h.1)
more_done d (e ∷ all) (Some v ∷ slots) taps (suc j) t said at is f l h =
    (h.0, h.1, more_done d all slots taps j t said at is f l h.2)

waiting-below : (slots : List Slot) (j : ℕ) → slice_get slots j ≡ Some None → waiting (take j slots) < waiting slots
waiting-below [] j at = cc
waiting-below (None ∷ slots) zero at = omega arith
waiting-below (Some v ∷ slots) zero at = cc
waiting-below (None ∷ slots) (suc j) at = omega (arith, waiting-below slots j at)
waiting-below (Some v ∷ slots) (suc j) at = waiting-below slots j at

pub waiting-take_none : (slots : List Slot) (j : ℕ) → slice_get slots j ≡ Some None → waiting (take (suc j) slots) ≡ waiting (take j slots) + 1
waiting-take_none [] j at = cc
waiting-take_none (None ∷ slots) zero at = refl
waiting-take_none (Some v ∷ slots) zero at = cc
waiting-take_none (None ∷ slots) (suc j) at = ap (λ n. n + 1) (waiting-take_none slots j at)
waiting-take_none (Some v ∷ slots) (suc j) at = waiting-take_none slots j at

pub waiting-take_said : (slots : List Slot) (j : ℕ) (said : Vec ℕ Global) → slice_get slots j ≡ Some (Some said) → waiting (take (suc j) slots) ≡ waiting (take j slots)
waiting-take_said [] j said at = cc
waiting-take_said (None ∷ slots) zero said at = cc
waiting-take_said (Some v ∷ slots) zero said at = refl
waiting-take_said (None ∷ slots) (suc j) said at = ap (λ n. n + 1) (waiting-take_said slots j said at)
waiting-take_said (Some v ∷ slots) (suc j) said at = waiting-take_said slots j said at

pub waiting-take_set : (slots : List Slot) (j : ℕ) (said : Vec ℕ Global) → slice_get slots j ≡ Some None → waiting (take (suc j) (set slots j (Some said))) ≡ waiting (take j slots)
waiting-take_set [] j said at = cc
waiting-take_set (None ∷ slots) zero said at = refl
waiting-take_set (Some v ∷ slots) zero said at = cc
waiting-take_set (None ∷ slots) (suc j) said at = ap (λ n. n + 1) (waiting-take_set slots j said at)
waiting-take_set (Some v ∷ slots) (suc j) said at = waiting-take_set slots j said at

-- a slot that was read
pub slot_at : (slots : List Slot) (j : ℕ) (s : Slot) → j < length slots → s ≡ get_or slots j s → slice_get slots j ≡ Some s
slot_at [] j s h is = absurd (omega (arith, h))
slot_at (x ∷ slots) zero s h is = ap Some (sym is)
slot_at (x ∷ slots) (suc j) s h is = slot_at slots j s (omega (arith, h)) is

-- a slot that was read, without a line
pub none_at : (slots : List Slot) (j : ℕ) (s : Slot) → j < length slots → s ≡ get_or slots j s → is_none s ≡ true → slice_get slots j ≡ Some None
none_at slots j None h is n = slot_at slots j None h is
none_at slots j (Some v) h is n = cc

-- a slot that was read, with a line
pub said_at : (slots : List Slot) (j : ℕ) (s : Slot) → j < length slots → s ≡ get_or slots j s → is_none s ≡ false → (v : Vec ℕ Global) × (slice_get slots j ≡ Some (Some v))
said_at slots j None h is n = cc
said_at slots j (Some v) h is n = (v, slot_at slots j (Some v) h is)

pub length-Tracks : (all : List Entry) (slots : List Slot) (taps : List Entry) → Tracks all slots taps → length all ≡ length slots
length-Tracks [] [] [] h = refl
length-Tracks [] [] (t ∷ taps) h = absurd h
length-Tracks [] (s ∷ slots) taps h = absurd h
length-Tracks (e ∷ all) [] taps h = absurd h
length-Tracks (e ∷ all) (None ∷ slots) [] h = absurd h
length-Tracks (e ∷ all) (None ∷ slots) (t ∷ taps) h = let k = length-Tracks all slots taps h.1 in omega (arith, k)
length-Tracks (e ∷ all) (Some v ∷ slots) taps h = let k = length-Tracks all slots taps h.2 in omega (arith, k)

-- there are as many slots without a line as taps left
pub waiting-Tracks : (all : List Entry) (slots : List Slot) (taps : List Entry)
    → Tracks all slots taps → waiting slots ≡ length taps
waiting-Tracks [] [] [] h = refl
waiting-Tracks [] [] (t ∷ taps) h = absurd h
waiting-Tracks [] (s ∷ slots) taps h = absurd h
waiting-Tracks (e ∷ all) [] taps h = absurd h
waiting-Tracks (e ∷ all) (None ∷ slots) [] h = absurd h
waiting-Tracks (e ∷ all) (None ∷ slots) (t ∷ taps) h = let k = waiting-Tracks all slots taps h.1 in omega (arith, k)
waiting-Tracks (e ∷ all) (Some v ∷ slots) taps h = waiting-Tracks all slots taps h.2

-- a slot without a line has a tap
pub no_tap_missing : (all : List Entry) (slots : List Slot) (taps : List Entry) (j : ℕ)
    → slice_get slots j ≡ Some None → length taps ≤ waiting (take j slots) → Tracks all slots taps → ⊥
no_tap_missing all slots taps j at past h =
    omega (arith, past, waiting-below slots j at, waiting-Tracks all slots taps h)

-- after the pass, all entries are stepped
pub Tracks-all : (d : Shown) (j : ℕ) (all : List Entry) (before after : List Slot) (was taps : List Entry) → length before ≤ j → Tracks all before was → Tracks (partly d j all) after taps → Tracks (map (stepped d) all) after taps
Tracks-all d j all before after was taps past start h =
    subst (λ (k : List Entry). Tracks k after taps) (partly-all d j all (omega (arith, length-Tracks all before was start))) h

-- a drop leaves the lines of finished taps unchanged, and no tap finishes
pub Tracks-dropped : (d : Dropped) (all : List Entry) (slots : List Slot) (taps : List Entry) → Tracks all slots taps → Tracks (map (stepped (dropped d)) all) slots (map (stepped (dropped d)) taps)
Tracks-dropped d [] [] [] h = h
Tracks-dropped d [] [] (t ∷ taps) h = absurd h
Tracks-dropped d [] (s ∷ slots) taps h = absurd h
Tracks-dropped d (e ∷ all) [] taps h = absurd h
Tracks-dropped d (e ∷ all) (None ∷ slots) [] h = absurd h
Tracks-dropped d (e ∷ all) (None ∷ slots) (t ∷ taps) h = (ap (stepped (dropped d)) h.0, Tracks-dropped d all slots taps h.1)
Tracks-dropped d (e ∷ all) (Some v ∷ slots) taps h =
    subst (λ (k : Entry). (full k ≡ true) × (v.items ≡ line k.0 k.1) × Tracks (map (stepped (dropped d)) all) slots (map (stepped (dropped d)) taps)) (sym (full_stays (dropped d) e h.0)) (h.0, h.1, Tracks-dropped d all slots taps h.2)

-- the same after a pass over the taps
pub tracked-dropped : {T : Type 0} (kind_of : T → TapKind) (state_of : T → List ℕ) (d : Dropped) (ts ts0 : List T) (i : ℕ) → length ts ≤ i → left_after_one (dropped d) (entries kind_of state_of ts0) ≡ take i (entries kind_of state_of ts) ++ left_after_one (dropped d) (drop i (entries kind_of state_of ts)) → (all : List Entry) (slots : List Slot) → Tracks all slots (entries kind_of state_of ts0) → Tracks (map (stepped (dropped d)) all) slots (entries kind_of state_of ts)
tracked-dropped kind_of state_of d ts ts0 i past h all slots start =
    let es = entries kind_of state_of ts in
    let es0 = entries kind_of state_of ts0 in
    let is : es ≡ map (stepped (dropped d)) es0 = pass_over (dropped d) es es0 i (omega (arith, past, length-map ts (λ t. entry (kind_of t) (state_of t)))) h ∙ left_after_one-dropped d es0 in
    subst (λ (k : List Entry). Tracks (map (stepped (dropped d)) all) slots k) (sym is) (Tracks-dropped d all slots es0 start)

pub all_waiting : (n : ℕ) → waiting (replicate n None) ≡ n
all_waiting zero = refl
all_waiting (suc n) = rw (all_waiting n) (add-one n)

-- if no slot has a line, all taps are left
pub all_left : (taps : List Entry) → Tracks taps (replicate (length taps) None) taps
all_left [] = tt
all_left (t ∷ taps) = (refl, all_left taps)

pub slots_at_first : {T : Type 0} (kind_of : T → TapKind) (state_of : T → List ℕ) (ts : List T) → Tracks (entries kind_of state_of ts) (replicate (length ts) None) (entries kind_of state_of ts)
slots_at_first kind_of state_of ts =
    subst (λ n. Tracks (entries kind_of state_of ts) (replicate n None) (entries kind_of state_of ts)) (length-map ts (λ t. entry (kind_of t) (state_of t))) (all_left (entries kind_of state_of ts))

-- the lines up to a slot with a line, and that line
pub lines-said : (all : List Entry) (slots : List Slot) (taps : List Entry) (j : ℕ) (said : Vec ℕ Global) → slice_get slots j ≡ Some (Some said) → Tracks all slots taps → lines_of (take (suc j) all) ≡ lines_of (take j all) ++ said.items
lines-said all [] taps j said at h = cc
lines-said [] (s ∷ slots) taps j said at h = absurd h
lines-said (e ∷ all) (None ∷ slots) taps zero said at h = cc
lines-said (e ∷ all) (Some v ∷ slots) taps zero said at h =
    let is : v ≡ said = cc in append-nil (line e.0 e.1) ∙ sym h.1 ∙ ap (λ (k : Vec ℕ Global). k.items) is
lines-said (e ∷ all) (None ∷ slots) [] (suc j) said at h = absurd h
lines-said (e ∷ all) (None ∷ slots) (t ∷ taps) (suc j) said at h =
    ap (λ s. line e.0 e.1 ++ s) (lines-said all slots taps j said at h.1) ∙ sym (append_assoc (line e.0 e.1) (lines_of (take j all)) said.items)
lines-said (e ∷ all) (Some v ∷ slots) taps (suc j) said at h =
    ap (λ s. line e.0 e.1 ++ s) (lines-said all slots taps j said at h.2) ∙ sym (append_assoc (line e.0 e.1) (lines_of (take j all)) said.items)

-- the lines up to a slot without a line, and the line of the tap that is left
pub lines-waiting : (all : List Entry) (slots : List Slot) (taps : List Entry) (j : ℕ) (t : Entry) → slice_get slots j ≡ Some None → t ≡ get_or taps (waiting (take j slots)) t → Tracks all slots taps → lines_of (take (suc j) all) ≡ lines_of (take j all) ++ line t.0 t.1
lines-waiting all [] taps j t at is h = cc
lines-waiting [] (s ∷ slots) taps j t at is h = absurd h
lines-waiting (e ∷ all) (Some v ∷ slots) taps zero t at is h = cc
lines-waiting (e ∷ all) (None ∷ slots) [] zero t at is h = absurd h
lines-waiting (e ∷ all) (None ∷ slots) (t0 ∷ taps) zero t at is h =
    append-nil (line e.0 e.1) ∙ ap (λ (k : Entry). line k.0 k.1) (sym h.0 ∙ sym is)
lines-waiting (e ∷ all) (None ∷ slots) [] (suc j) t at is h = absurd h
lines-waiting (e ∷ all) (None ∷ slots) (t0 ∷ taps) (suc j) t at is h =
    ap (λ s. line e.0 e.1 ++ s) (lines-waiting all slots taps j t at (rw add-one at is) h.1) ∙ sym (append_assoc (line e.0 e.1) (lines_of (take j all)) (line t.0 t.1))
lines-waiting (e ∷ all) (Some v ∷ slots) taps (suc j) t at is h =
    ap (λ s. line e.0 e.1 ++ s) (lines-waiting all slots taps j t at is h.2) ∙ sym (append_assoc (line e.0 e.1) (lines_of (take j all)) (line t.0 t.1))

-- the lines up to the end
pub lines-all : (all : List Entry) (slots : List Slot) (taps : List Entry) (j : ℕ) → length slots ≤ j → Tracks all slots taps → lines_of (take j all) ≡ lines_of all
lines-all all slots taps j past h = ap lines_of (take_all j all (omega (arith, past, length-Tracks all slots taps h)))
