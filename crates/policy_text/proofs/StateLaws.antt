-- Consequences of reading all tokens of a line for its statement.
use Rattle.policy_text.proofs.Prelude.{◌≡◌, ap, length, sym, ◌∙◌, refl, [], List, arith, ◌∷◌, Some, true, false, pure, Sense, glyphs_of, Glyph, Refusal, NoForm, NoMemory, Refuses, StatesErr, IsFormAt, Mode}
use Rattle.std.proofs.lemmas.Bool.{eqb-true}
use Rattle.std.specs.Prelude.{◌==◌}
use Rattle.text_core.specs.declared.item.Item.{Item}
use Rattle.policy_text_defs.specs.StatementReading.{a_statement}
use Rattle.policy_text_defs.proofs.StepLaws.{same_value, same_rest}
use Rattle.policy_text_defs.proofs.StatementLaws.{IsForm-read, read-IsForm}

pub state_value : (m : Mode) (gs rest : List Glyph) (s t : Sense) → a_statement m gs ≡ Some (t, rest) → IsFormAt m gs s → t ≡ s
state_value m gs rest s t e f = same_value t s rest [] (sym e ∙ read-IsForm m gs s f)

pub state_rest : (m : Mode) (gs rest : List Glyph) (s t : Sense) → a_statement m gs ≡ Some (t, rest) → IsFormAt m gs s → rest ≡ []
state_rest m gs rest s t e f = same_rest t s rest [] (sym e ∙ read-IsForm m gs s f)

pub state_refused : (m : Mode) (e : Refusal) (gs : List Glyph) (s : Sense) → Refuses e (a_statement m gs) → IsFormAt m gs s → StatesErr e
state_refused m NoForm gs s none f = let both = sym none ∙ read-IsForm m gs s f in absurd cc
state_refused m NoMemory gs s none f = tt

pub state_found : (m : Mode) (gs rest : List Glyph) (s : Sense) → a_statement m gs ≡ Some (s, rest) → rest ≡ [] → IsFormAt m gs s
state_found m gs rest s e over = IsForm-read m gs s (e ∙ ap (pure s) over)

pub glyphs_of-empty : (items : List Item) → true ≡ (length items == 0) → glyphs_of items ≡ []
glyphs_of-empty [] e = refl
glyphs_of-empty (i ∷ items) e = let none : length (i ∷ items) ≡ 0 = eqb-true (length (i ∷ items)) 0 (sym e) in absurd (omega arith)

pub glyphs_of-some : (items : List Item) → false ≡ (length items == 0) → glyphs_of items ≡ [] → ⊥
glyphs_of-some [] e none = cc
glyphs_of-some (i ∷ items) e none = cc
