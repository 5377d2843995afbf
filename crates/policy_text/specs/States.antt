-- The result of a parser of statements.
use Rattle.std.specs.Prelude.{◌≡◌, Result, Ok, Err}
use Rattle.text_core.specs.declared.refusal.Refusal.{Refusal}
use Rattle.text_core.specs.declared.refusal.Refusal.TheVariants.{NoForm, NoMemory}
use Rattle.policy_text_defs.specs.declared.statement.Statement.{Statement}
use Rattle.policy_text_defs.specs.Sense.{Sense, sense_of}

-- the only possible error is that memory ran out
abbrev pub StatesErr : Refusal → Type 0
StatesErr NoForm = ⊥
StatesErr NoMemory = Unit {0}

-- the result is this statement, unless memory ran out
abbrev pub States : Result Statement Refusal → Sense → Type 0
States (Ok t) s = sense_of t ≡ s
States (Err e) s = StatesErr e
