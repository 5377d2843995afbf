-- Limits in version 1, which has none.
use Rattle.policy_rules.proofs.Prelude.{ap, List, ◌≡◌, ◌&&◌, ◌==◌, sense_of, has_limit, version_of, entries_of}
use Rattle.policy_rules.proofs.Lines.{Line}

-- in version 1, a line needs version 2 exactly if it has a limit
pub first-version : (lines : List Line) (l : Line) → version_of (entries_of lines) ≡ 1 → (version_of (entries_of lines) == 1 && has_limit (sense_of l.1)) ≡ has_limit (sense_of l.1)
first-version lines l is = ap (λ v. v == 1 && has_limit (sense_of l.1)) is
