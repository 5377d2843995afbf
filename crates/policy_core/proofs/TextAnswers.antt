-- A text within the length limit has statements or a line in error; its statements are on
-- increasing lines and valid.
use Rattle.policy_core.proofs.Prelude.{List, ◌≡◌, ℕ, [], arith, ◌<◌, ◌∷◌, refl, suc, true, false, Bool, All-cons, All-nil, list_all, AreRising, Entry, Sense, entry, IsValid, is_blank, AreValid}
use Rattle.std.specs.List.{All}
use Rattle.std.proofs.lemmas.List.Kept.{AllPairs-cons}
use Rattle.text_core.specs.Lines.{is_clean_text, statements_of}
use Rattle.policy_text_defs.specs.declared.edition.Mode.{Mode}
use Rattle.policy_text_defs.specs.declared.edition.Mode.TheVariants.{Opening}
use Rattle.policy_text_defs.specs.Editions.{after}
use Rattle.policy_text_defs.specs.Text.{is_shaping, CarriesAt, Entries, over, empty, carried, Fault, not_text, shaping, syntax_fault, IsSound, blank_line, statement_line, FirstFault, here, later}
use Rattle.policy_text_defs.proofs.ValidLaws.{CarriesAt_IsValid}
use Rattle.policy_core.specs.TextLaws.{PolicyTextsHaveAnAnswer, TextsHaveSoundEntries}

-- ---- statements or an error
-- the lines have statements, or one is the first in error
abbrev NoAnswer : Mode → ℕ → List (List ℕ) → Type 0
NoAnswer m n lines = ((es : List Entry) → Entries m n lines es → ⊥) × ((k : ℕ) (f : Fault) → FirstFault m n lines k f → ⊥)

behind : (m next : Mode) (n : ℕ) (line : List ℕ) (lines : List (List ℕ)) → IsSound m line next → ((es : List Entry) → Entries next (suc n) lines es → ⊥) → NoAnswer m n (line ∷ lines) → NoAnswer next (suc n) lines
behind m next n line lines sound none answer = (none, λ k f first. answer.1 k f (later m next n k line lines f sound first))

module _ (m : Mode) (n : ℕ) (line : List ℕ) (lines : List (List ℕ)) (rest : (next : Mode) → NoAnswer next (suc n) lines → ⊥) (answer : NoAnswer m n (line ∷ lines)) where
  blank : list_all is_blank line ≡ true → ⊥
  blank is = rest m (behind m m n line lines (blank_line is) (λ es has. answer.0 es (empty m n line lines es is has)) answer)

  statement : (s : Sense) → CarriesAt m line s → ⊥
  statement s c = rest (after m s) (behind m (after m s) n line lines (statement_line s c) (λ es has. answer.0 (entry n s ∷ es) (carried m n line lines s es c has)) answer)

  not_blank : is_clean_text line ≡ true → is_shaping line ≡ false → (b : Bool) → list_all is_blank line ≡ b → ⊥
  not_blank clean unshaped true is = blank is
  not_blank clean unshaped false is = answer.1 n syntax_fault (here m n line lines syntax_fault (clean, unshaped, is, statement))

  clean : is_clean_text line ≡ true → (b : Bool) → is_shaping line ≡ b → ⊥
  clean is true shaped = answer.1 n shaping (here m n line lines shaping (is, shaped))
  clean is false unshaped = not_blank is unshaped (list_all is_blank line) refl

  a_line : (b : Bool) → is_clean_text line ≡ b → ⊥
  a_line true is = clean is (is_shaping line) refl
  a_line false is = answer.1 n not_text (here m n line lines not_text is)

answered : (lines : List (List ℕ)) (m : Mode) (n : ℕ) → NoAnswer m n lines → ⊥
answered [] m n answer = answer.0 [] (over m n)
answered (line ∷ lines) m n answer = a_line m n line lines (λ next. answered lines next (suc n)) answer (is_clean_text line) refl

pub an_answer : PolicyTextsHaveAnAnswer
an_answer latest text short none faultless =
    answered (statements_of text) (Opening latest) 1
    (λ es has. none es (record { short = short; entries = has }), λ n f first. faultless n f (record { short = short; first = first }))

-- ---- the statements
above : (k : ℕ) (m : Mode) (n : ℕ) (lines : List (List ℕ)) (es : List Entry) → k < n → Entries m n lines es → All (λ (e : Entry). k < e.0) es
above k m n lines es less (over _ _) = All-nil (λ (e : Entry). k < e.0)
above k m n lines es less (empty _ _ line rest _ all on) = above k m (suc n) rest es (omega arith) on
above k m n lines es less (carried _ _ line rest s ds c on) = All-cons (λ (e : Entry). k < e.0) (entry n s) ds less (above k (after m s) (suc n) rest ds (omega arith) on)

rising : (m : Mode) (n : ℕ) (lines : List (List ℕ)) (es : List Entry) → Entries m n lines es → AreRising es
rising m n lines es (over _ _) = λ i j d less within. absurd (omega arith)
rising m n lines es (empty _ _ line rest _ all on) = rising m (suc n) rest es on
rising m n lines es (carried _ _ line rest s ds c on) = AllPairs-cons (λ (a b : Entry). a.0 < b.0) (entry n s) ds (above n (after m s) (suc n) rest ds (omega arith) on) (rising (after m s) (suc n) rest ds on)

valid : (m : Mode) (n : ℕ) (lines : List (List ℕ)) (es : List Entry) → Entries m n lines es → AreValid es
valid m n lines es (over _ _) = All-nil (λ (e : Entry). IsValid e.1)
valid m n lines es (empty _ _ line rest _ all on) = valid m (suc n) rest es on
valid m n lines es (carried _ _ line rest s ds c on) =
    All-cons (λ (e : Entry). IsValid e.1) (entry n s) ds (CarriesAt_IsValid m line s c) (valid (after m s) (suc n) rest ds on)

pub sound_entries : TextsHaveSoundEntries
sound_entries latest text es has = record { rising = rising (Opening latest) 1 (statements_of text) es has.entries; valid = valid (Opening latest) 1 (statements_of text) es has.entries }
