-- Taps that observe several events in sequence.
use Rattle.tap_core.proofs.Prelude.{◌≡◌, ◌∙◌, ap, refl, sym, ◌++◌, List, ℕ, [], ◌∷◌, map, subst, Err, Ok, Result, OnOk, arith, length, entries, Entry, left_after_one, Shown, Slot, Tracks, entry, stepped, entry_after, left_after, step, state_after, TapKind}
use Rattle.tap_core.specs.declared.watch.Named.{Named}
use Rattle.tap_core.specs.Watching.{Sight, Begins, Shows, Watches}
use Rattle.tap_core.proofs.Entries.{left_after-none, left_after-cons}

state_after-both : (kind : TapKind) (xs ys : List Shown) (state : List ℕ)
    → state_after kind (xs ++ ys) state ≡ state_after kind ys (state_after kind xs state)
state_after-both kind [] ys state = refl
state_after-both kind (x ∷ xs) ys state = state_after-both kind xs ys (step kind x state)

entries_after-none : (es : List Entry) → map (entry_after []) es ≡ es
entries_after-none [] = refl
entries_after-none (e ∷ es) = ap (λ rest. e ∷ rest) (entries_after-none es)

entries_after-both : (xs ys : List Shown) (es : List Entry)
    → map (entry_after ys) (map (entry_after xs) es) ≡ map (entry_after (xs ++ ys)) es
entries_after-both xs ys [] = refl
entries_after-both xs ys (e ∷ es) =
    ap (λ state. entry e.0 state ∷ map (entry_after ys) (map (entry_after xs) es)) (sym (state_after-both e.0 xs ys e.1))
    ∙ ap (λ rest. entry_after (xs ++ ys) e ∷ rest) (entries_after-both xs ys es)

left_after-both : (xs ys : List Shown) (es : List Entry) → left_after ys (left_after xs es) ≡ left_after (xs ++ ys) es
left_after-both [] ys es = ap (left_after ys) (left_after-none es)
left_after-both (x ∷ xs) ys es =
    ap (left_after ys) (left_after-cons x xs es)
    ∙ left_after-both xs ys (left_after_one x es)
    ∙ sym (left_after-cons x (xs ++ ys) es)

-- an empty list of events changes nothing
pub shows_none : (a : Sight) → Shows [] a a
shows_none a = record {
  named = refl;
  left = λ all start. sym (left_after-none a.taps);
  tracked = λ all start. subst (λ (k : List Entry). Tracks k a.slots a.taps) (sym (entries_after-none all)) start;
}

-- some events, and then others
pub shows_both : (xs ys : List Shown) (a b c : Sight) → Shows xs a b → Shows ys b c → Shows (xs ++ ys) a c
shows_both xs ys a b c first next = record {
  named = next.named ∙ first.named;
  left = λ all start.
      next.left (map (entry_after xs) all) (first.tracked all start)
      ∙ ap (left_after ys) (first.left all start)
      ∙ left_after-both xs ys a.taps;
  tracked = λ all start.
      subst (λ (k : List Entry). Tracks k c.slots c.taps) (entries_after-both xs ys all)
      (next.tracked (map (entry_after xs) all) (first.tracked all start));
}

-- events from the beginning of the run
pub begins_shows : (xs : List Shown) (a b c : Sight) → Begins a b → Shows xs b c → Watches xs a c
begins_shows xs a b c begun shown = record {
  named = shown.named ∙ begun.named;
  left = shown.left b.taps begun.tracked ∙ ap (left_after xs) begun.taps;
  tracked =
      subst (λ (k : List Entry). Tracks (map (entry_after xs) k) c.slots c.taps) begun.taps
      (shown.tracked b.taps begun.tracked);
}

module _ {T : Type 0} (kind_of : T → TapKind) (state_of : T → List ℕ) where
  -- one event: s and t are the slots and taps before the call, s' and t' those after it
  pub shows_one : (d : Shown) (n : Named) (s s' ss ss' : List Slot) (t t' ts ts' : List T)
      → ss ≡ s → ss' ≡ s' → ts ≡ t → ts' ≡ t'
      → ((all : List Entry) → Tracks all s (entries kind_of state_of t)
      → entries kind_of state_of t' ≡ left_after_one d (entries kind_of state_of t))
      → ((all : List Entry) → Tracks all s (entries kind_of state_of t)
      → Tracks (map (stepped d) all) s' (entries kind_of state_of t'))
      → Shows (d ∷ [])
      (record { named = n; slots = ss; taps = entries kind_of state_of ts })
      (record { named = n; slots = ss'; taps = entries kind_of state_of ts' })
  shows_one d n s s' ss ss' t t' ts ts' s-is s'-is t-is t'-is left tracked =
      rw (s-is, s'-is, t-is, t'-is) record {
        named = refl;
        left = λ all start.
            left all start
            ∙ sym (left_after-none (left_after_one d (entries kind_of state_of t)))
            ∙ sym (left_after-cons d [] (entries kind_of state_of t));
        tracked = tracked;
      }

  -- the same for a call that may fail
  pub shows_one_on_ok : {E : Type 0} (r : Result (Unit {0}) E) (d : Shown) (n : Named)
      (s s' ss ss' : List Slot) (t t' ts ts' : List T)
      → ss ≡ s → ss' ≡ s' → ts ≡ t → ts' ≡ t'
      → ((all : List Entry) → Tracks all s (entries kind_of state_of t)
      → OnOk r (entries kind_of state_of t' ≡ left_after_one d (entries kind_of state_of t)))
      → ((all : List Entry) → Tracks all s (entries kind_of state_of t)
      → OnOk r (Tracks (map (stepped d) all) s' (entries kind_of state_of t')))
      → OnOk r (Shows (d ∷ [])
      (record { named = n; slots = ss; taps = entries kind_of state_of ts })
      (record { named = n; slots = ss'; taps = entries kind_of state_of ts' }))
  shows_one_on_ok (Ok _) d n s s' ss ss' t t' ts ts' s-is s'-is t-is t'-is left tracked =
      shows_one d n s s' ss ss' t t' ts ts' s-is s'-is t-is t'-is left tracked
  shows_one_on_ok (Err _) d n s s' ss ss' t t' ts ts' s-is s'-is t-is t'-is left tracked = tt

left_idle : (xs : List Shown) (all taps : List Entry) → Tracks all [] taps → taps ≡ left_after xs taps
left_idle xs [] [] start = refl
left_idle xs [] (t ∷ taps) start = absurd start
left_idle xs (e ∷ all) taps start = absurd start

tracked_idle : (xs : List Shown) (all taps : List Entry) → Tracks all [] taps → Tracks (map (entry_after xs) all) [] taps
tracked_idle xs [] taps start = start
tracked_idle xs (e ∷ all) taps start = absurd start

-- without slots, no tap is left that could observe anything
pub shows_idle : (xs : List Shown) (named : Named) (slots : List Slot) (taps : List Entry) → length slots ≡ 0
    → Shows xs (record { named = named; slots = slots; taps = taps }) (record { named = named; slots = slots; taps = taps })
shows_idle xs named [] taps none = record {
  named = refl;
  left = λ all start. left_idle xs all taps start;
  tracked = λ all start. tracked_idle xs all taps start;
}
shows_idle xs named (s ∷ slots) taps none = absurd (omega (arith, none))
