-- One event, passed to the taps of all slots in order.
use Rattle.tap_core.proofs.Prelude.{◌≡◌, ◌∙◌, ap, refl, sym, ◌++◌, List, length, take, ℕ, ◌<◌, [], ◌∷◌, get_or, map, ◌≤◌, None, Some, arith, drop, Vec, add-one, false, remove, set, suc, true, zero, ◌+◌, Option, take_all, length-map, slice_get, Global, line, entries, Entry, left_after_one, Shown, Slot, Tracks, entry, stepped, lines_of, full, is_done, waiting, TapKind}
use Rattle.tap_core.proofs.Entries.{pass-more, pass-done, pass_over}
use Rattle.tap_core.proofs.SlotLaws.{partly, more_said, more_waiting, more_done, waiting-take_none, waiting-take_said, waiting-take_set, waiting-Tracks, no_tap_missing, Tracks-all, lines-said, lines-waiting, lines-all}

module _ {T : Type 0} (kind_of : T → TapKind) (state_of : T → List ℕ) where
  -- the first j slots are done, and i is the index of the next tap
  pub record Pass (d : Shown) (j i : ℕ) (slots0 : List (Option (Vec ℕ Global))) (taps0 : List T) (slots : List (Option (Vec ℕ Global))) (taps : List T) : Type 0 where
    pub place : i ≡ waiting (take j slots)
    pub fewer : length taps ≤ length taps0
    pub left : left_after_one d (entries kind_of state_of taps0) ≡ take i (entries kind_of state_of taps) ++ left_after_one d (drop i (entries kind_of state_of taps))
    pub tracked : (all : List Entry) → Tracks all slots0 (entries kind_of state_of taps0) → Tracks (partly d j all) slots (entries kind_of state_of taps)

  entries-set : (ts : List T) (i : ℕ) (t : T) → entries kind_of state_of (set ts i t) ≡ set (entries kind_of state_of ts) i (entry (kind_of t) (state_of t))
  entries-set [] i t = refl
  entries-set (x ∷ ts) zero t = refl
  entries-set (x ∷ ts) (suc i) t = ap (λ es. entry (kind_of x) (state_of x) ∷ es) (entries-set ts i t)

  entries-remove : (ts : List T) (i : ℕ) → entries kind_of state_of (remove ts i) ≡ remove (entries kind_of state_of ts) i
  entries-remove [] zero = refl
  entries-remove [] (suc i) = refl
  entries-remove (x ∷ ts) zero = refl
  entries-remove (x ∷ ts) (suc i) = ap (λ es. entry (kind_of x) (state_of x) ∷ es) (entries-remove ts i)

  entries-get_or : (ts : List T) (i : ℕ) (t : T) (e : Entry) → i < length ts → get_or (entries kind_of state_of ts) i e ≡ entry (kind_of (get_or ts i t)) (state_of (get_or ts i t))
  entries-get_or [] i t e h = absurd (omega (arith, h))
  entries-get_or (x ∷ ts) zero t e h = refl
  entries-get_or (x ∷ ts) (suc i) t e h = entries-get_or ts i t e (omega (arith, h))

  remove-set : (es : List Entry) (i : ℕ) (e : Entry) → remove (set es i e) i ≡ remove es i
  remove-set [] i e = refl
  remove-set (x ∷ es) zero e = refl
  remove-set (x ∷ es) (suc i) e = ap (λ k. x ∷ k) (remove-set es i e)

  length-remove_set : (ts : List T) (i : ℕ) (t : T) → i < length ts → length (remove (set ts i t) i) + 1 ≡ length ts
  length-remove_set [] i t h = absurd (omega (arith, h))
  length-remove_set (x ∷ ts) zero t h = omega arith
  length-remove_set (x ∷ ts) (suc i) t h = let k = length-remove_set ts i t (omega (arith, h)) in omega (arith, k)

  length-set_any : (ts : List T) (i : ℕ) (t : T) → length (set ts i t) ≡ length ts
  length-set_any [] i t = refl
  length-set_any (x ∷ ts) zero t = refl
  length-set_any (x ∷ ts) (suc i) t = ap suc (length-set_any ts i t)

  -- the step of the tap at i, as entries
  shown : (d : Shown) (ts : List T) (i : ℕ) (t old : T) → i < length ts → old ≡ get_or ts i old → entry (kind_of t) (state_of t) ≡ stepped d (entry (kind_of old) (state_of old)) → entry (kind_of t) (state_of t) ≡ stepped d (get_or (entries kind_of state_of ts) i (entry (kind_of t) (state_of t)))
  shown d ts i t old h is after =
      after ∙ ap (λ (k : T). stepped d (entry (kind_of k) (state_of k))) is ∙ ap (stepped d) (sym (entries-get_or ts i old (entry (kind_of t) (state_of t)) h))

  pub pass_said : (d : Shown) (j i : ℕ) (slots0 : List (Option (Vec ℕ Global))) (taps0 : List T) (slots : List (Option (Vec ℕ Global))) (taps : List T) (said : Vec ℕ Global) → Pass d j i slots0 taps0 slots taps → slice_get slots j ≡ Some (Some said) → Pass d (j + 1) i slots0 taps0 slots taps
  pass_said d j i slots0 taps0 slots taps said p at =
      rw add-one record {
        place = p.place ∙ sym (waiting-take_said slots j said at);
        fewer = p.fewer;
        left = p.left;
        tracked = λ all start. more_said d all slots (entries kind_of state_of taps) j said at (p.tracked all start);
      }

  pub pass_more : (d : Shown) (j i : ℕ) (slots0 : List (Option (Vec ℕ Global))) (taps0 : List T) (slots : List (Option (Vec ℕ Global))) (taps : List T) (t old : T) → Pass d j i slots0 taps0 slots taps → slice_get slots j ≡ Some None → i < length taps → old ≡ get_or taps i old → entry (kind_of t) (state_of t) ≡ stepped d (entry (kind_of old) (state_of old)) → is_done d (entry (kind_of t) (state_of t)) ≡ false → Pass d (j + 1) (i + 1) slots0 taps0 slots (set taps i t)
  pass_more d j i slots0 taps0 slots taps t old p at inside is after wants =
      let new = shown d taps i t old inside is after
      in record {
        place = ap (λ n. n + 1) p.place ∙ sym (rw (add-one j) (waiting-take_none slots j at));
        fewer = omega (arith, p.fewer, length-set_any taps i t);
        left = p.left ∙ rw add-one (pass-more kind_of state_of d taps i t old inside is after wants);
        tracked = λ all start. rw (add-one, entries-set, p.place) (more_waiting d all slots (entries kind_of state_of taps) j (entry (kind_of t) (state_of t)) at (rw p.place at new) (p.tracked all start));
      }

  pub pass_done : (d : Shown) (j i : ℕ) (slots0 : List (Option (Vec ℕ Global))) (taps0 : List T) (slots : List (Option (Vec ℕ Global))) (taps : List T) (t old : T) (said : Vec ℕ Global) → Pass d j i slots0 taps0 slots taps → slice_get slots j ≡ Some None → i < length taps → old ≡ get_or taps i old → entry (kind_of t) (state_of t) ≡ stepped d (entry (kind_of old) (state_of old)) → is_done d (entry (kind_of t) (state_of t)) ≡ true → full (entry (kind_of t) (state_of t)) ≡ true → said.items ≡ line (kind_of t) (state_of t) → Pass d (j + 1) i slots0 taps0 (set slots j (Some said)) (remove (set taps i t) i)
  pass_done d j i slots0 taps0 slots taps t old said p at inside is after done f l =
      let new = shown d taps i t old inside is after
      in record {
        place = rw add-one (p.place ∙ sym (waiting-take_set slots j said at));
        fewer = omega (arith, p.fewer, length-remove_set taps i t inside);
        left = p.left ∙ pass-done kind_of state_of d taps i t old inside is after done;
        tracked = λ all start. rw (add-one, entries-remove, entries-set, remove-set, p.place) (more_done d all slots (entries kind_of state_of taps) j (entry (kind_of t) (state_of t)) said at (rw p.place at new) f l (p.tracked all start));
      }

  -- after a pass, the taps are those that are left
  pub pass_left : (d : Shown) (j i : ℕ) (slots0 : List Slot) (taps0 : List T) (slots : List Slot) (taps : List T)
      → Pass d j i slots0 taps0 slots taps → length slots ≤ j
      → (all : List Entry) → Tracks all slots0 (entries kind_of state_of taps0)
      → entries kind_of state_of taps ≡ left_after_one d (entries kind_of state_of taps0)
  pass_left d j i slots0 taps0 slots taps p past all start =
      let es = entries kind_of state_of taps
      in let counted = waiting-Tracks (partly d j all) slots es (p.tracked all start)
      in let at_end : length es ≤ i = omega (arith, counted, p.place, ap waiting (take_all j slots past))
      in pass_over d es (entries kind_of state_of taps0) i at_end p.left

  -- and the slots and the taps are those of all entries, stepped
  pub pass_tracked : (d : Shown) (j i : ℕ) (slots0 : List (Option (Vec ℕ Global))) (taps0 : List T) (slots : List (Option (Vec ℕ Global))) (taps : List T) → Pass d j i slots0 taps0 slots taps → length slots0 ≤ j → (all : List Entry) → Tracks all slots0 (entries kind_of state_of taps0) → Tracks (map (stepped d) all) slots (entries kind_of state_of taps)
  pass_tracked d j i slots0 taps0 slots taps p past all start =
      Tracks-all d j all slots0 slots (entries kind_of state_of taps0) (entries kind_of state_of taps) past start (p.tracked all start)

  -- a pass finds a tap for each slot without a line
  pub pass_finds : (d : Shown) (j i : ℕ) (slots0 : List Slot) (taps0 : List T) (slots : List Slot) (taps : List T)
      → Pass d j i slots0 taps0 slots taps → slice_get slots j ≡ Some None → length taps ≤ i
      → (all : List Entry) → Tracks all slots0 (entries kind_of state_of taps0) → ⊥
  pass_finds d j i slots0 taps0 slots taps p at past all start =
      let same = length-map taps (λ t. entry (kind_of t) (state_of t))
      in no_tap_missing (partly d j all) slots (entries kind_of state_of taps) j at (omega (arith, past, p.place, same))
      (p.tracked all start)

  -- i is the index of the next tap, and the text is the lines of the first j slots
  pub record LinesUpTo (j i : ℕ) (slots : List (Option (Vec ℕ Global))) (taps : List T) (text : List ℕ) : Type 0 where
    pub place : i ≡ waiting (take j slots)
    pub said : (all : List Entry) → Tracks all slots (entries kind_of state_of taps) → text ≡ lines_of (take j all)

  pub past_line : (j i : ℕ) (slots : List (Option (Vec ℕ Global))) (taps : List T) (text text' : List ℕ) (line' : Vec ℕ Global) → LinesUpTo j i slots taps text → slice_get slots j ≡ Some (Some line') → text' ≡ text ++ line'.items → LinesUpTo (j + 1) i slots taps text'
  past_line j i slots taps text text' line' p at grew =
      rw add-one record {
        place = p.place ∙ sym (waiting-take_said slots j line' at);
        said = λ all h. grew ∙ ap (λ s. s ++ line'.items) (p.said all h) ∙ sym (lines-said all slots (entries kind_of state_of taps) j line' at h);
      }

  pub past_waiting : (j i : ℕ) (slots : List (Option (Vec ℕ Global))) (taps : List T) (text text' : List ℕ) (t : T) → LinesUpTo j i slots taps text → slice_get slots j ≡ Some None → i < length taps → t ≡ get_or taps i t → text' ≡ text ++ line (kind_of t) (state_of t) → LinesUpTo (j + 1) (i + 1) slots taps text'
  past_waiting j i slots taps text text' t p at inside read grew =
      let e : Entry = entry (kind_of t) (state_of t)
      in let is : e ≡ get_or (entries kind_of state_of taps) (waiting (take j slots)) e = rw (sym p.place) (ap (λ (k : T). entry (kind_of k) (state_of k)) read ∙ sym (entries-get_or taps i t e inside))
      in record {
        place = ap (λ n. n + 1) p.place ∙ sym (rw (add-one j) (waiting-take_none slots j at));
        said = λ all h. rw (add-one j) (grew ∙ ap (λ s. s ++ line e.0 e.1) (p.said all h) ∙ sym (lines-waiting all slots (entries kind_of state_of taps) j e at is h));
      }

  pub lines_at_end : (j i : ℕ) (slots : List (Option (Vec ℕ Global))) (taps : List T) (text : List ℕ) → LinesUpTo j i slots taps text → length slots ≤ j → (all : List Entry) → Tracks all slots (entries kind_of state_of taps) → text ≡ lines_of all
  lines_at_end j i slots taps text p past all h = p.said all h ∙ lines-all all slots (entries kind_of state_of taps) j past h

  pub lines_find : (j i : ℕ) (slots : List Slot) (taps : List T) (text : List ℕ)
      → LinesUpTo j i slots taps text → slice_get slots j ≡ Some None → length taps ≤ i
      → (all : List Entry) → Tracks all slots (entries kind_of state_of taps) → ⊥
  lines_find j i slots taps text p at past all h =
      let same = length-map taps (λ t. entry (kind_of t) (state_of t))
      in no_tap_missing all slots (entries kind_of state_of taps) j at (omega (arith, past, p.place, same)) h
