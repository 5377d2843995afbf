-- Passes over statements that look for the first one in error.
use Rattle.std.specs.Prelude.{ℕ, Bool, IsTrue, List, take}
use Rattle.std.specs.List.{AllWithin}
use Rattle.policy_text_defs.specs.Sense.{Sense, Entry}
use Rattle.policy_rules.specs.Names.{before}

-- a statement fails a test against the statements on earlier lines
abbrev pub Fails : (List Entry → Sense → Bool) → List Entry → Entry → Type 0
Fails test entries e = IsTrue (test (before e.0 entries) e.1)

-- after the first statements: the state that is kept, and that none of them failed
pub record Passed (Keeps : List Entry → Type 0) (test : List Entry → Sense → Bool) (entries : List Entry) (done : ℕ) : Type 0 where
  pub keeps : Keeps (take done entries)
  pub fine : AllWithin (λ e. ¬ Fails test entries e) entries 0 done
