-- The results of the reading functions, in terms of the readers.
use Rattle.std.specs.Prelude.{◌≡◌, Bool, true, false, List, Option, Some, None, Result, Ok, Err}
use Rattle.text_core.specs.Glyphs.{Glyph, glyphs_of}
use Rattle.text_core.specs.declared.item.Item.{Item}
use Rattle.text_core.specs.declared.refusal.Refusal.{Refusal}
use Rattle.text_core.specs.declared.refusal.Refusal.TheVariants.{NoForm, NoMemory}
use Rattle.policy_text.specs.declared.part.Part.{Part}
use Rattle.policy_text_defs.specs.Phrase.{Phrase, phrase_of}
use Rattle.policy_text_defs.specs.Reading.{Outcome, Reader, ahead}

-- the error means that the reader gives nothing, unless memory ran out
abbrev pub Refuses : {A : Type 0} → Refusal → Outcome A → Type 0
Refuses NoForm outcome = outcome ≡ None
Refuses NoMemory outcome = Unit {0}

-- the result of a function, seen through `view`, and the tokens it leaves are those of the reader
abbrev pub Answers : {A B : Type 0} → (B → A) → Outcome A → Result B Refusal → List Glyph → Type 0
Answers view outcome (Ok b) new = outcome ≡ Some (view b, new)
Answers view outcome (Err e) new = Refuses e outcome

-- given some tokens, a function returns and leaves the same as the reader
abbrev pub Reads : {A B : Type 0} → (B → A) → Reader A → Result B Refusal → List Item → List Item → Type 0
Reads view reader result old new = Answers view (reader (glyphs_of old)) result (glyphs_of new)

-- a function returns the same as the reader on any tokens, and takes none
abbrev pub Makes : {A B : Type 0} → (B → A) → Reader A → Result B Refusal → Type 0
Makes view reader result = (gs : List Glyph) → Answers view (reader gs) result gs

-- the value taken, if the tokens begin with one, and the tokens left
abbrev pub Taken : {A B : Type 0} → (B → A) → Outcome A → Option B → List Glyph → List Glyph → Type 0
Taken view outcome None old new = (outcome ≡ None) × (new ≡ old)
Taken view outcome (Some b) old new = outcome ≡ Some (view b, new)

-- a function takes the first token if it passes a test
abbrev pub Takes : {A B : Type 0} → (B → A) → (Glyph → Option A) → Option B → List Item → List Item → Type 0
Takes view test found old new = Taken view (ahead test (glyphs_of old)) found (glyphs_of old) (glyphs_of new)

-- the same for a token without a value
abbrev pub IsTaken : Outcome (Unit {0}) → Bool → List Glyph → List Glyph → Type 0
IsTaken outcome false old new = (outcome ≡ None) × (new ≡ old)
IsTaken outcome true old new = outcome ≡ Some (tt, new)

abbrev pub TakesIf : (Glyph → Option (Unit {0})) → Bool → List Item → List Item → Type 0
TakesIf test taken old new = IsTaken (ahead test (glyphs_of old)) taken (glyphs_of old) (glyphs_of new)

abbrev pub phrase_of_part : Part → Phrase
phrase_of_part p = phrase_of p.term

abbrev pub same : {A : Type 0} → A → A
same a = a
