-- The bodies of transactions: the lines after a `transaction` line that declare its variables and
-- assign to them.
use Rattle.std.specs.Prelude.{ℕ, Bool, true, false, if◌then◌else◌, Option, Some, None, List, [], ◌∷◌, ◌++◌, take_while}
use Rattle.std.specs.List.{list_any}
use Rattle.policy_text_defs.specs.Sense.{Sense, Entry, transaction, keep, each, push, pop}
use Rattle.policy_rules.specs.Names.{Name}

abbrev pub is_transaction : Entry → Bool
is_transaction (n, transaction t) = true
is_transaction e = false

-- the stage of a line in a transaction: its name, then its variables, its push lines, its pop lines
abbrev pub stage : Sense → Option ℕ
stage (transaction n) = Some 0
stage (keep n s) = Some 1
stage (each n s) = Some 1
stage (push n t) = Some 2
stage (pop n t) = Some 3
stage s = None

abbrev pub is_body : Sense → Bool
is_body (keep n s) = true
is_body (each n s) = true
is_body (push n t) = true
is_body (pop n t) = true
is_body s = false

abbrev pub is_assignment : Sense → Bool
is_assignment (push n t) = true
is_assignment (pop n t) = true
is_assignment s = false

-- the statements after the last `transaction` line, or all if there is none
abbrev pub open_body : List Entry → List Entry
open_body [] = []
open_body (e ∷ es) = if list_any is_transaction es then open_body es else if is_transaction e then es else e ∷ es

-- a transaction: its name, and its lines
pub record Body : Type 0 where
  pub name : Name
  pub lines : List Entry

abbrev pub opened : Sense → List Entry → List Body
opened (transaction n) es = record { name = n; lines = take_while (λ e. is_body e.1) es } ∷ []
opened s es = []

-- the transactions in the order of their lines
abbrev pub bodies : List Entry → List Body
bodies [] = []
bodies (e ∷ es) = opened e.1 es ++ bodies es
