-- The statements of a text, and its first line in error.
use Rattle.std.specs.Prelude.{◌≡◌, refl, ℕ, suc, ◌≤◌, ◌↔◌, Bool, true, false, List, [], ◌∷◌, length, All, map, take, codes}
use Rattle.std.proofs.Common.{lit≤}
use Rattle.std.specs.List.{prefix_len, list_all}
use Rattle.std.specs.Str.{bytes_eq}
use Rattle.text_core.specs.Lines.{is_clean_text, statements_of}
use Rattle.text_core.specs.Tokens.{is_blank, is_word_byte}
use Rattle.policy_text_defs.specs.Ranges.{most_text}
use Rattle.text_core.specs.Glyphs.{Glyph, text as spelled, figure}
use Rattle.text_core.specs.declared.token.TokenKind.TheVariants as k
use Rattle.policy_text_defs.specs.Sense.{Sense, version, transaction, Entry, entry, numbered}
use Rattle.policy_text_defs.specs.Statements.{IsFormAt, IsVersion, version_form, transaction_form}
use Rattle.policy_text_defs.specs.Editions.{after, edition_of, is_read, dialect_at}
use Rattle.policy_text_defs.specs.declared.edition.Edition.{Edition}
use Rattle.policy_text_defs.specs.declared.edition.Edition.TheVariants.{Classic, Third}
use Rattle.policy_text_defs.specs.declared.edition.Mode.{Mode}
use Rattle.policy_text_defs.specs.declared.edition.Mode.TheVariants.{Opening, Within}
use Rattle.text_core.specs.Says.{Says, SaysIn, skipped}
use Rattle.text_core.specs.declared.dialect.Dialect.TheVariants as dialect

-- the longest run of letters, digits and `_` after the leading blanks
abbrev pub first_word : List ℕ → List ℕ
first_word line = take (prefix_len is_word_byte (skipped line)) (skipped line)

abbrev pub is_shaping : List ℕ → Bool
is_shaping line = bytes_eq (first_word line) (codes "shape")

-- the line is clean text, and its bytes before a comment spell this statement, as the mode reads it
pub record CarriesAt (m : Mode) (line : List ℕ) (s : Sense) : Type 0 where
  pub clean : is_clean_text line ≡ true
  pub unshaped : is_shaping line ≡ false
  pub tokens : List Glyph
  pub says : SaysIn (dialect_at m) line tokens
  pub form : IsFormAt m tokens s

-- the same for a line of this edition
abbrev pub Carries : Edition → List ℕ → Sense → Type 0
Carries e line s = CarriesAt (Within e) line s

-- a line that has this statement of the edition
pub record LineOf (e : Edition) (s : Sense) : Type 0 where
  pub line : List ℕ
  pub carries : Carries e line s

-- the statement can be written as a line of the edition
abbrev pub IsWritten : Edition → Sense → Type 0
IsWritten e s = ∥ LineOf e s ∥₁

-- the statements can be written as lines of one edition, which the first one chooses
abbrev pub AreWritten : List Sense → Type 0
AreWritten ss = All (IsWritten (edition_of ss)) ss

-- the statements of lines, numbered from N; a line of blanks has none
pub data Entries : Mode → ℕ → List (List ℕ) → List Entry → Type 0 where
  over : (m : Mode) (n : ℕ) → Entries m n [] []
  empty : (m : Mode) (n : ℕ) (line : List ℕ) (lines : List (List ℕ)) (es : List Entry) → list_all is_blank line ≡ true → Entries m (suc n) lines es → Entries m n (line ∷ lines) es
  carried : (m : Mode) (n : ℕ) (line : List ℕ) (lines : List (List ℕ)) (s : Sense) (es : List Entry) → CarriesAt m line s → Entries (after m s) (suc n) lines es → Entries m n (line ∷ lines) (entry n s ∷ es)

-- the text isn't too long, each line parses or is blank, and these are its statements by line, for
-- a reader of the editions up to `latest`
pub record HasEntries (latest : Edition) (text : List ℕ) (es : List Entry) : Type 0 where
  pub short : length text ≤ most_text
  pub entries : Entries (Opening latest) 1 (statements_of text) es

-- a text that isn't too long has exactly these statements, one a line from line 1, for each reader
-- of their edition
abbrev pub ReadsBack : List ℕ → List Sense → Type 0
ReadsBack text ss = (latest : Edition) → is_read latest (edition_of ss) ≡ true → length text ≤ most_text → (es : List Entry) → HasEntries latest text es ↔ (es ≡ numbered 1 ss)

-- why a line is rejected
pub data Fault : Type 0 where
  not_text : Fault
  shaping : Fault
  syntax_fault : Fault

-- the error of a line: first that it isn't clean text, then that its first word is `shape`, then
-- that it is malformed
abbrev pub IsFault : Mode → List ℕ → Fault → Type 0
IsFault m line not_text = is_clean_text line ≡ false
IsFault m line shaping = (is_clean_text line ≡ true) × (is_shaping line ≡ true)
IsFault m line syntax_fault = (is_clean_text line ≡ true) × (is_shaping line ≡ false) × (list_all is_blank line ≡ false) × ((s : Sense) → CarriesAt m line s → ⊥)

-- the line is blank, or spells a statement, and then the next statement is read so
pub data IsSound (m : Mode) (line : List ℕ) : Mode → Type 0 where
  blank_line : list_all is_blank line ≡ true → IsSound m line m
  statement_line : (s : Sense) → CarriesAt m line s → IsSound m line (after m s)

-- the first line in error, its number and its error; lines are numbered from N
pub data FirstFault : Mode → ℕ → List (List ℕ) → ℕ → Fault → Type 0 where
  here : (m : Mode) (n : ℕ) (line : List ℕ) (lines : List (List ℕ)) (f : Fault) → IsFault m line f → FirstFault m n (line ∷ lines) n f
  later : (m next : Mode) (n k : ℕ) (line : List ℕ) (lines : List (List ℕ)) (f : Fault) → IsSound m line next → FirstFault next (suc n) lines k f → FirstFault m n (line ∷ lines) k f

-- the first line of the text in error, counted from 1, and its error, for a reader of the editions
-- up to `latest`
pub record IsFirstFault (latest : Edition) (text : List ℕ) (n : ℕ) (f : Fault) : Type 0 where
  pub short : length text ≤ most_text
  pub first : FirstFault (Opening latest) 1 (statements_of text) n f

-- the first statement of lines, after blank lines, is `policy 3`
pub data ChooseThird : List (List ℕ) → Type 0 where
  at_once : (line : List ℕ) (lines : List (List ℕ)) → CarriesAt (Opening Third) line (version 3) → ChooseThird (line ∷ lines)
  after_blanks : (line : List ℕ) (lines : List (List ℕ)) → list_all is_blank line ≡ true → ChooseThird lines → ChooseThird (line ∷ lines)

-- leading blanks are skipped; the first word ends before any byte but a letter, a digit or `_`
first_words : map first_word (codes "\t shape=9 w" ∷ codes "shapes w" ∷ codes "9 shape" ∷ []) ≡ codes "shape" ∷ codes "shapes" ∷ codes "9" ∷ []
first_words = refl

-- a line is rejected for shaping even if it doesn't parse
shaping_lines : map is_shaping (codes " shape" ∷ codes "shape(=" ∷ codes "shaped" ∷ codes "leaf shape" ∷ []) ≡ true ∷ true ∷ false ∷ false ∷ []
shaping_lines = refl

-- the check for clean text comes before the check for `shape`
unclean_before_shaping : IsFault (Opening Classic) (codes "shape\r w") not_text
unclean_before_shaping = refl

-- blank lines are numbered too
blank_lines_count : Entries (Opening Classic) 1 (codes " " ∷ codes "transaction t" ∷ []) (entry 2 (transaction (codes "t")) ∷ [])
blank_lines_count =
    let says : Says (codes "transaction t") (spelled (codes "transaction") ∷ spelled (codes "t") ∷ []) = (k.Word, 11, refl, refl, (k.Word, 1, refl, refl, refl)) in
    empty (Opening Classic) 1 (codes " ") _ _ refl
    (carried (Opening Classic) 2 (codes "transaction t") [] (transaction (codes "t")) []
    (record { clean = refl; unshaped = refl; tokens = spelled (codes "transaction") ∷ spelled (codes "t") ∷ []; says = says; form = record { form = transaction_form (codes "t") refl; named = refl } })
    (over (Within Classic) 3))

-- `policy 3` chooses the third edition if it is the first statement, after blank lines too
blanks_before_the_version : Entries (Opening Third) 1 (codes " " ∷ codes "policy 3" ∷ codes "policy 3" ∷ []) (entry 2 (version 3) ∷ entry 3 (version 3) ∷ [])
blanks_before_the_version =
    let says : Says (codes "policy 3") (spelled (codes "policy") ∷ figure 3 ∷ []) = (k.Word, 6, refl, refl, (k.Number, 1, refl, refl, refl)) in
    let third : SaysIn dialect.Third (codes "policy 3") (spelled (codes "policy") ∷ figure 3 ∷ []) = (k.Word, 6, refl, refl, (k.Number, 1, refl, refl, refl)) in
    let is : IsVersion Third 3 = record { above = lit≤ tt; below = lit≤ tt } in
    let opening : CarriesAt (Opening Third) (codes "policy 3") (version 3) = record { clean = refl; unshaped = refl; tokens = spelled (codes "policy") ∷ figure 3 ∷ []; says = says; form = record { form = version_form 3 is; named = refl } } in
    let within : CarriesAt (Within Third) (codes "policy 3") (version 3) = record { clean = refl; unshaped = refl; tokens = spelled (codes "policy") ∷ figure 3 ∷ []; says = third; form = record { form = version_form 3 is; named = refl } } in
    empty (Opening Third) 1 (codes " ") _ _ refl
    (carried (Opening Third) 2 (codes "policy 3") _ (version 3) _ opening
    (carried (Within Third) 3 (codes "policy 3") [] (version 3) [] within
    (over (Within Third) 4)))

-- `a-b` is one name in the third edition
a_name_with_a_dash : Carries Third (codes "transaction a-b") (transaction (codes "a-b"))
a_name_with_a_dash =
    let says : SaysIn dialect.Third (codes "transaction a-b") (spelled (codes "transaction") ∷ spelled (codes "a-b") ∷ []) = (k.Word, 11, refl, refl, (k.Word, 3, refl, refl, refl)) in
    record { clean = refl; unshaped = refl; tokens = spelled (codes "transaction") ∷ spelled (codes "a-b") ∷ []; says = says; form = record { form = transaction_form (codes "a-b") refl; named = refl } }
