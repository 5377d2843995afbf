-- Lists of distinct names.
use Rattle.std.specs.Prelude.{◌≡◌, nat_lt, List, [], ◌∷◌, ◌++◌, if◌then◌else◌}
use Rattle.policy_rules.specs.Names.{Name, has, times}
use Rattle.policy_rules.specs.declared.tally.Tally.{Tally}

-- the names, with one more at the end if it is new
abbrev pub with_name : List Name → Name → List Name
with_name names a = if has names a then names else names ++ a ∷ []

-- of all the names, those seen, and those seen more than once
pub record IsTally (seen again all : List Name) : Type 0 where
  pub some : (a : Name) → has seen a ≡ nat_lt 0 (times all a)
  pub more : (a : Name) → has again a ≡ nat_lt 1 (times all a)

-- a tally of all the names added
abbrev pub IsTallyOf : Tally → List Name → Type 0
IsTallyOf tally all = IsTally tally.seen tally.again all
