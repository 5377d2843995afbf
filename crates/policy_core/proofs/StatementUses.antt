-- The names that a statement uses, in a list of lines.
use Rattle.policy_core.proofs.Prelude.{List, ◌≡◌, ℕ, subst, length, ◌<◌, get_or, true, entry-at, within-entries, NoLine, IsUnknown, is_known, entries_of, before, Entry, sense_of, Statement}
use Rattle.policy_rules.proofs.Lines.{entry_of}
use Rattle.policy_core.proofs.AcceptedStatements.{known-at}

-- the names that a line uses are declared
pub known-here : (lines : List (ℕ × Statement)) (i : ℕ) (l : ℕ × Statement) → NoLine (IsUnknown (entries_of lines)) (entries_of lines) → i < length lines → l ≡ get_or lines i l
    → is_known (entries_of lines) (before l.0 (entries_of lines)) (sense_of l.1) ≡ true
known-here lines i l known within is =
    subst (λ (e : Entry). is_known (entries_of lines) (before e.0 (entries_of lines)) e.1 ≡ true) (entry-at lines i l (entry_of l) within is)
    (known-at (entries_of lines) i (entry_of l) known (within-entries lines i within))
