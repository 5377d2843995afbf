-- The result of `parse` for a text.
use Rattle.std.specs.Prelude.{◌≡◌, ◌⊎◌, ℕ, ◌<◌, List, [], ◌∷◌, ◌++◌, length, map, Option, Some, None, Result, Ok, Err, true}
use Rattle.std.specs.List.{list_all}
use Rattle.text_core.specs.Tokens.{is_blank}
use Rattle.text_core.specs.Glyphs.{Glyph}
use Rattle.text_core.specs.Says.{SaysIn}
use Rattle.policy_text_defs.specs.declared.statement.Statement.{Statement}
use Rattle.policy_text_defs.specs.declared.edition.Edition.{Edition}
use Rattle.policy_text_defs.specs.declared.edition.Mode.{Mode}
use Rattle.policy_text_defs.specs.Editions.{dialect_at}
use Rattle.policy_text_defs.specs.Ranges.{most_text}
use Rattle.policy_text_defs.specs.Sense.{Sense, Entry, sense_of}
use Rattle.policy_text_defs.specs.Statements.{IsFormAt}
use Rattle.policy_text_defs.specs.Text.{CarriesAt, not_text, shaping, syntax_fault, IsFault, HasEntries, IsFirstFault}
use Rattle.policy_text.specs.declared.lines.Lines.{Lines}
use Rattle.policy_text.specs.declared.fault.TextFault.{TextFault}
use Rattle.policy_text.specs.declared.fault.TextFault.TheVariants as fault
use Rattle.policy_text.specs.Entries.{Numbered, entry_of}

-- the cause for which a reader of the editions up to `latest` rejects a text with this error;
-- `NoMemory` has no cause
abbrev pub IsCause : Edition → List ℕ → TextFault → Type 0
IsCause latest text fault.TooLong = most_text < length text
IsCause latest text (fault.NotText n) = IsFirstFault latest text n not_text
IsCause latest text (fault.Syntax n) = IsFirstFault latest text n syntax_fault
IsCause latest text (fault.Shaping n) = IsFirstFault latest text n shaping
IsCause latest text fault.NoMemory = ⊥

-- the error is that memory ran out
abbrev pub IsWant : TextFault → Type 0
IsWant fault.NoMemory = Unit {0}
IsWant _ = ⊥

-- an error has its cause, unless memory ran out
abbrev pub HasCause : Edition → List ℕ → TextFault → Type 0
HasCause latest text fault.NoMemory = Unit {0}
HasCause latest text f = IsCause latest text f

-- the result is these statements, unless memory ran out
abbrev pub Gives : Result Lines TextFault → List Entry → Type 0
Gives (Ok lines) es = map entry_of lines.held ≡ es
Gives (Err e) es = IsWant e

-- the result is this error, unless memory ran out
abbrev pub Fails : Result Lines TextFault → TextFault → Type 0
Fails (Ok lines) f = ⊥
Fails (Err e) f = (e ≡ f) ⊎ IsWant e

-- a text whose lines parse gives its statements
abbrev pub AcceptsAll : Edition → List ℕ → Result Lines TextFault → Type 0
AcceptsAll latest text result = (es : List Entry) → HasEntries latest text es → Gives result es

-- a text with the cause of an error is rejected with this error
abbrev pub RefusesAll : Edition → List ℕ → Result Lines TextFault → Type 0
RefusesAll latest text result = (f : TextFault) → IsCause latest text f → Fails result f

-- ---- one line

-- the line's tokens have the form of the statement
pub record HasForm (m : Mode) (line : List ℕ) (s : Sense) : Type 0 where
  pub tokens : List Glyph
  pub says : SaysIn (dialect_at m) line tokens
  pub form : IsFormAt m tokens s

-- the error of the line with this number; it may also be that memory ran out
abbrev pub LineFault : Mode → List ℕ → ℕ → TextFault → Type 0
LineFault m line n fault.TooLong = ⊥
LineFault m line n (fault.NotText k) = (k ≡ n) × IsFault m line not_text
LineFault m line n (fault.Syntax k) = (k ≡ n) × IsFault m line syntax_fault
LineFault m line n (fault.Shaping k) = (k ≡ n) × IsFault m line shaping
LineFault m line n fault.NoMemory = Unit {0}

-- the statement of a line, or none if the line is blank
abbrev pub LineHas : Mode → List ℕ → Option Statement → Type 0
LineHas m line None = list_all is_blank line ≡ true
LineHas m line (Some t) = CarriesAt m line (sense_of t)

abbrev pub LineIs : Mode → List ℕ → ℕ → Result (Option Statement) TextFault → Type 0
LineIs m line n (Ok found) = LineHas m line found
LineIs m line n (Err e) = LineFault m line n e

-- the statement found on a line is appended, if there is one
abbrev pub Kept : ℕ → Option Statement → List Numbered → List Numbered → Type 0
Kept n None old new = new ≡ old
Kept n (Some t) old new = new ≡ old ++ (n, t) ∷ []
