-- The canonical text of statements that can be written parses and has exactly these statements.
use Rattle.policy_text_defs.proofs.Prelude.{List, ℕ, [], refl, ◌≡◌, ◌∷◌, ◌++◌, subst, Bool, true, false, sym, arith, codes, ◌≤◌, ◌∙◌, ap, suc, cond, zero, length, map, ◌-◌, nat_tests, append-nil, take_all, AllByRecursion, list_all, prefix_len, All, ◌&&◌, ◌==◌, slice_index, ◌↔◌, is_clean, is_clean_text, no_comment, ends_with_return, lines_of, onto_first, statement_length, statement_of, statements_of, SaysIn, IsApart, Dialect, dialect_of, CarriesAt, Mode, statement_text, canonical_text, most_text, Sense, class, filter, each, keep, leaf, node, pop, push, transaction, version, Entry, numbered, Carries, Entries, IsWritten, carried, is_shaping, over, HasEntries, IsValidIn, AreWritten, Edition, Classic, Third, Opening, Within, chosen, edition_at, edition_of, is_read}
use Rattle.std.proofs.lemmas.List.Elements.{All-tail}
use Rattle.text_core.specs.Lines.{is_text}
use Rattle.policy_text_defs.proofs.TokenLaws.{both_true}
use Rattle.policy_text_defs.proofs.Pieces.{is_plain, IsPiece}
use Rattle.policy_text_defs.proofs.StatementTokens.{statement_tokens}
use Rattle.policy_text_defs.proofs.StatementForms.{statement_form}
use Rattle.policy_text_defs.proofs.StatementPieces.{text_statement, text_opening}
use Rattle.policy_text_defs.proofs.TextLaws.{Entries-one}
use Rattle.policy_text_defs.proofs.ValidLaws.{IsWritten_IsValidIn, CarriesAt_IsValidIn}

-- ---- plain bytes

plain_clean : (b : ℕ) → is_plain b ≡ true → is_clean b ≡ true
plain_clean b is = grind (arith, nat_tests)

plain_text : (b : ℕ) → is_plain b ≡ true → is_text b ≡ true
plain_text b is = grind (arith, nat_tests)

plain_no_comment : (b : ℕ) → is_plain b ≡ true → no_comment b ≡ true
plain_no_comment b is = grind (arith, nat_tests)

plain_no_return : (b : ℕ) → is_plain b ≡ true → b == 13 ≡ false
plain_no_return b is = grind (arith, nat_tests)

abbrev ArePlain : List ℕ → Type 0
ArePlain bs = list_all is_plain bs ≡ true

first_plain : (b : ℕ) (bs : List ℕ) → ArePlain (b ∷ bs) → is_plain b ≡ true
first_plain b bs plain = (both_true (is_plain b) (list_all is_plain bs) plain).0

others_plain : (b : ℕ) (bs : List ℕ) → ArePlain (b ∷ bs) → ArePlain bs
others_plain b bs plain = (both_true (is_plain b) (list_all is_plain bs) plain).1

all_clean : (bs : List ℕ) → ArePlain bs → is_clean_text bs ≡ true
all_clean [] plain = refl
all_clean (b ∷ bs) plain = rw (plain_clean b (first_plain b bs plain)) (all_clean bs (others_plain b bs plain))

-- ---- lines

no_comments : (bs : List ℕ) → ArePlain bs → prefix_len no_comment bs ≡ length bs
no_comments [] plain = refl
no_comments (b ∷ bs) plain =
    let rest = no_comments bs (others_plain b bs plain) in
    rw (plain_no_comment b (first_plain b bs plain)) (omega arith)

no_return_at : (bs : List ℕ) (i : ℕ) → ArePlain bs → slice_index bs i == 13 ≡ false
no_return_at [] i plain = refl
no_return_at (b ∷ bs) zero plain = plain_no_return b (first_plain b bs plain)
no_return_at (b ∷ bs) (suc i) plain = no_return_at bs i (others_plain b bs plain)

whole_case : (u v : Bool) (m n : ℕ) → m ≡ n → v ≡ false → cond (u && v) (m - 1) m ≡ n
whole_case true v m n same none = rw none same
whole_case false v m n same none = same

-- the statement of a plain line is the whole line
plain_statement : (bs : List ℕ) → ArePlain bs → statement_of bs ≡ bs
plain_statement bs plain =
    let all : statement_length bs ≡ length bs = whole_case (prefix_len no_comment bs == length bs) (ends_with_return bs) (prefix_len no_comment bs) (length bs) (no_comments bs plain) (no_return_at bs (length bs - 1) plain) in
    take_all (statement_length bs) bs (omega arith)

-- a plain line and its line feed begin a text
line_first : (bs rest : List ℕ) → ArePlain bs → lines_of (bs ++ (codes "\n" ++ rest)) ≡ bs ∷ lines_of rest
line_first [] rest plain = refl
line_first (b ∷ bs) rest plain = rw (plain_text b (first_plain b bs plain)) (ap (onto_first b) (line_first bs rest (others_plain b bs plain)))

-- ---- statements

statement_plain : (e : Edition) (s : Sense) → IsValidIn e s → ArePlain (statement_text s)
statement_plain e s is = (text_statement e s is.0 is.1 is.2).plain

piece_says : (d : Dialect) (s : Sense) → IsPiece d IsApart (statement_text s) (statement_tokens s) → SaysIn d (statement_text s) (statement_tokens s)
piece_says d s piece =
    let all = piece.says [] [] tt refl in
    let P : List ℕ → Type 0 = λ l. SaysIn d l (statement_tokens s ++ []) in
    subst (SaysIn d (statement_text s)) (append-nil (statement_tokens s)) (subst P (append-nil (statement_text s)) all)

unshaped : (s : Sense) → is_shaping (statement_text s) ≡ false
unshaped (version v) = refl
unshaped (transaction n) = refl
unshaped (keep n s) = refl
unshaped (each n s) = refl
unshaped (push n a) = refl
unshaped (pop n a) = refl
unshaped (class n a cs) = refl
unshaped (filter n a cs) = refl
unshaped (leaf n u a q ns) = refl
unshaped (node n u a q ns) = refl

statement_carried : (e : Edition) (s : Sense) → IsValidIn e s → Carries e (statement_text s) s
statement_carried e s is = record {
  clean = all_clean (statement_text s) (statement_plain e s is);
  unshaped = unshaped s;
  tokens = statement_tokens s;
  says = piece_says (dialect_of e) s (text_statement e s is.0 is.1 is.2);
  form = record { form = statement_form e s is.0 is.2; named = is.1 };
}

-- the canonical line of a statement that can be written spells it
pub statement_text_carries : (e : Edition) (s : Sense) → IsWritten e s → Carries e (statement_text s) s
statement_text_carries e s written = statement_carried e s (IsWritten_IsValidIn e s written)

-- a valid statement can be written
pub IsValidIn_IsWritten : (e : Edition) (s : Sense) → IsValidIn e s → IsWritten e s
IsValidIn_IsWritten e s is = ∣ record { line = statement_text s; carries = statement_carried e s is } ∣₁

-- ---- texts

canonical_lines : (e : Edition) (ss : List Sense) → AllByRecursion (IsValidIn e) ss → statements_of (canonical_text ss) ≡ map statement_text ss
canonical_lines e [] all = refl
canonical_lines e (s ∷ ss) all =
    let plain = statement_plain e s all.0 in
    ap (map statement_of) (line_first (statement_text s) (canonical_text ss) plain)
    ∙ ap (λ l. l ∷ statements_of (canonical_text ss)) (plain_statement (statement_text s) plain)
    ∙ ap (λ ls. statement_text s ∷ ls) (canonical_lines e ss all.1)

canonical_within : (e : Edition) (n : ℕ) (ss : List Sense) → AllByRecursion (IsValidIn e) ss → Entries (Within e) n (map statement_text ss) (numbered n ss)
canonical_within e n [] all = over (Within e) n
canonical_within e n (s ∷ ss) all = carried (Within e) n (statement_text s) (map statement_text ss) s (numbered (suc n) ss) (statement_carried e s all.0) (canonical_within e (suc n) ss all.1)

-- a reader of the edition that a statement chooses reads it in this edition
opening_reads : (latest edition : Edition) (s : Sense) → chosen s ≡ edition → is_read latest edition ≡ true → edition_at (Opening latest) s ≡ edition
opening_reads Third e s is may = is
opening_reads Classic Classic s is may = refl
opening_reads Classic Third s is may = absurd cc

-- the canonical line of the first statement spells it, for each reader of its edition
opening_carried : (latest : Edition) (s : Sense) → is_read latest (chosen s) ≡ true → IsValidIn (chosen s) s → CarriesAt (Opening latest) (statement_text s) s
opening_carried latest s may is =
    let same = sym (opening_reads latest (chosen s) s refl may) in
    let there : IsValidIn (edition_at (Opening latest) s) s = subst (λ (e : Edition). IsValidIn e s) same is in
    record {
      clean = all_clean (statement_text s) (statement_plain (chosen s) s is);
      unshaped = unshaped s;
      tokens = statement_tokens s;
      says = piece_says (dialect_of Classic) s (text_opening s is);
      form = record { form = statement_form (edition_at (Opening latest) s) s there.0 there.2; named = there.1 };
    }

canonical_entries : (latest : Edition) (n : ℕ) (ss : List Sense) → is_read latest (edition_of ss) ≡ true → AllByRecursion (IsValidIn (edition_of ss)) ss → Entries (Opening latest) n (map statement_text ss) (numbered n ss)
canonical_entries latest n [] may all = over (Opening latest) n
canonical_entries latest n (s ∷ ss) may all =
    let same = sym (opening_reads latest (chosen s) s refl may) in
    carried (Opening latest) n (statement_text s) (map statement_text ss) s (numbered (suc n) ss)
    (opening_carried latest s may all.0)
    (subst (λ (e : Edition). Entries (Within e) (suc n) (map statement_text ss) (numbered (suc n) ss)) same (canonical_within (chosen s) (suc n) ss all.1))

-- a statement on a line can be written in the edition in which it is read
pub CarriesAt_IsWritten : (m : Mode) (line : List ℕ) (s : Sense) → CarriesAt m line s → IsWritten (edition_at m s) s
CarriesAt_IsWritten m line s c = IsValidIn_IsWritten (edition_at m s) s (CarriesAt_IsValidIn m line s c)

all_valid : (e : Edition) (ss : List Sense) → All (IsWritten e) ss → AllByRecursion (IsValidIn e) ss
all_valid e [] all = tt
all_valid e (s ∷ ss) all = (IsWritten_IsValidIn e s (all 0 s (omega arith)), all_valid e ss (All-tail (IsWritten e) s ss all))

canonical_text_HasEntries : (latest : Edition) (ss : List Sense) → AreWritten ss → is_read latest (edition_of ss) ≡ true → length (canonical_text ss) ≤ most_text → HasEntries latest (canonical_text ss) (numbered 1 ss)
canonical_text_HasEntries latest ss all may short =
    let valid = all_valid (edition_of ss) ss all in
    let P : List (List ℕ) → Type 0 = λ ls. Entries (Opening latest) 1 ls (numbered 1 ss) in
    record { short = short; entries = subst P (sym (canonical_lines (edition_of ss) ss valid)) (canonical_entries latest 1 ss may valid) }

-- the canonical text of statements that can be written in one edition has exactly these, numbered
-- from 1
pub canonical_text_has : (ss : List Sense) → AreWritten ss → (latest : Edition) → is_read latest (edition_of ss) ≡ true → length (canonical_text ss) ≤ most_text → (es : List Entry) → HasEntries latest (canonical_text ss) es ↔ (es ≡ numbered 1 ss)
canonical_text_has ss all latest may short es =
    let has = canonical_text_HasEntries latest ss all may short in
    (λ other. Entries-one (Opening latest) 1 (statements_of (canonical_text ss)) es (numbered 1 ss) other.entries has.entries, λ same. subst (HasEntries latest (canonical_text ss)) (sym same) has)
