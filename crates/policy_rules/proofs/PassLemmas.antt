-- One turn of a pass over the parsed statements.
use Rattle.policy_rules.proofs.Prelude.{◌∙◌, ap, List, ◌≡◌, sym, ℕ, [], ◌∷◌, ◌++◌, take, false, Bool, length, subst, true, ◌+◌, ◌<◌, get_or, true≢false, ◌≤◌, All-from_all_within, AllWithin-none, AllWithin-upto, Entry, sense_of, Sense, Statement, IsLeastLine, NoLine, entries_of, AreRising, before, Passed, Fails}
use Rattle.policy_rules.proofs.EarlierLines.{before-take}
use Rattle.policy_rules.proofs.Lines.{entry_of, length-entries, within-entries, entry-at, take-line, least-line, fine-line}

-- the state of a pass before the first statement
pub Passed-none : (Keeps : List Entry → Type 0) (test : List Entry → Sense → Bool) (entries : List Entry) → Keeps [] → Passed Keeps test entries 0
Passed-none Keeps test entries kept = record { keeps = kept; fine = AllWithin-none (λ e. ¬ Fails test entries e) entries 0 }

module _ (Keeps : List Entry → Type 0) (test : List Entry → Sense → Bool) (lines : List (ℕ × Statement)) (i : ℕ) (l : ℕ × Statement)
    (rising : AreRising (entries_of lines)) (within : i < length lines) (is : l ≡ get_or lines i l) (so_far : Passed Keeps test (entries_of lines) i) where
  earlier : before l.0 (entries_of lines) ≡ take i (entries_of lines)
  earlier = ap (λ (e : Entry). before e.0 (entries_of lines)) (sym (entry-at lines i l (entry_of l) within is)) ∙ before-take (entries_of lines) i (entry_of l) rising (within-entries lines i within)

  -- the statement fails and is the first to fail
  pub ends_here : test (take i (entries_of lines)) (sense_of l.1) ≡ true → IsLeastLine (Fails test (entries_of lines)) (entries_of lines) l.0
  ends_here fails = least-line (Fails test (entries_of lines)) lines i l rising within is so_far.fine
      (ap (λ b. test b (sense_of l.1)) earlier ∙ fails)

  -- the statement doesn't fail
  pub goes_on : (Keeps' : List Entry → Type 0) → test (take i (entries_of lines)) (sense_of l.1) ≡ false → Keeps' (take i (entries_of lines) ++ entry_of l ∷ []) → Passed Keeps' test (entries_of lines) (i + 1)
  goes_on Keeps' passes kept = record {
    keeps = subst (λ (done : List Entry). Keeps' done) (sym (take-line lines i l within is)) kept;
    fine = fine-line (Fails test (entries_of lines)) lines i l within is so_far.fine
        (λ bad. true≢false (sym bad ∙ ap (λ b. test b (sense_of l.1)) earlier ∙ passes));
  }

-- none failed up to the last statement
pub none_fails : (Keeps : List Entry → Type 0) (test : List Entry → Sense → Bool) (lines : List (ℕ × Statement)) (i : ℕ) → length lines ≤ i → Passed Keeps test (entries_of lines) i → NoLine (Fails test (entries_of lines)) (entries_of lines)
none_fails Keeps test lines i over passed = All-from_all_within (λ e. ¬ Fails test (entries_of lines) e) (entries_of lines)
    (AllWithin-upto (λ e. ¬ Fails test (entries_of lines) e) (entries_of lines) 0 i (length (entries_of lines)) (subst (λ n. n ≤ i) (sym (length-entries lines)) over) passed.fine)
