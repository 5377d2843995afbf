-- Steps of reading the lines of a text.
use Rattle.policy_text.proofs.Prelude.{◌≡◌, ap, length, sym, ◌++◌, ◌∙◌, refl, [], map, ◌+◌, List, arith, subst, ℕ, ◌∷◌, drop, None, Some, suc, ◌≤◌, true, ◌<◌, Err, IfErr, IfOk, Ok, Option, Result, get_or, inl, inr, take, zero, ◌≢◌, most_text, Sense, sense_of, Entry, entry, Entries, HasEntries, over, Fault, FirstFault, IsFault, IsFirstFault, not_text, shaping, syntax_fault, Statement, Glyph, line_text, statements_of, Numbered, entry_of, IsFormAt, CarriesAt, Edition, Mode, Opening, after, mode_after, Refusal, NoForm, NoMemory, StatesErr}
use Rattle.std.specs.Prelude.{◌⊎◌}
use Rattle.std.specs.List.{list_all}
use Rattle.std.proofs.lemmas.List.{length-map, take_all}
use Rattle.text_core.specs.declared.line.Line.{Line}
use Rattle.text_core.specs.Tokens.{is_blank}
use Rattle.text_core.specs.Says.{SaysIn}
use Rattle.text_core.specs.declared.dialect.Dialect.{Dialect}
use Rattle.policy_text_defs.specs.Editions.{dialect_at}
use Rattle.text_core.proofs.SaysLaws.{SaysIn-one}
use Rattle.policy_text_defs.proofs.TextLaws.{Entries-one, FirstFault-one, entries_no_fault, entries_blank, entries_more, first_after, through, through-more}
use Rattle.policy_text.specs.declared.lines.Lines.{Lines}
use Rattle.policy_text.specs.declared.fault.TextFault.{TextFault}
use Rattle.policy_text.specs.declared.fault.TextFault.TheVariants as fault
use Rattle.policy_text.specs.Parsing.{IsCause, IsWant, HasCause, Gives, Fails, HasForm, LineFault, LineHas, Kept}

-- ---- lists

pub take_mapped : {A B : Type 0} (f : A → B) (xs : List A) (i : ℕ) (d : A) → i < length xs → take (i + 1) (map f xs) ≡ take i (map f xs) ++ f (get_or xs i d) ∷ []
take_mapped f [] i d within = absurd (omega arith)
take_mapped f (x ∷ xs) zero d within = refl
take_mapped f (x ∷ xs) (suc i) d within =
    let more : suc i + 1 ≡ suc (i + 1) = omega arith in
    ap (λ n. take n (f x ∷ map f xs)) more ∙ ap (λ l. f x ∷ l) (take_mapped f xs i d (omega arith))

pub split_mapped : {A B : Type 0} (f : A → B) (xs : List A) (i : ℕ) (d : A) → i < length xs → map f xs ≡ take i (map f xs) ++ f (get_or xs i d) ∷ drop (i + 1) (map f xs)
split_mapped f [] i d within = absurd (omega arith)
split_mapped f (x ∷ xs) zero d within = refl
split_mapped f (x ∷ xs) (suc i) d within =
    let more : suc i + 1 ≡ suc (i + 1) = omega arith in
    ap (λ l. f x ∷ l) (split_mapped f xs i d (omega arith)) ∙ ap (λ n. f x ∷ (take i (map f xs) ++ f (get_or xs i d) ∷ drop n (f x ∷ map f xs))) (sym more)

pub length_taken : {A B : Type 0} (f : A → B) (xs : List A) (i : ℕ) → i ≤ length xs → length (take i (map f xs)) ≡ i
length_taken f xs zero within = refl
length_taken f [] (suc i) within = absurd (omega arith)
length_taken f (x ∷ xs) (suc i) within = ap suc (length_taken f xs i (omega arith))

-- ---- one line more

-- the lines before an index have these entries, and then the next statement is read so
pub record SoFar (latest : Edition) (text : List ℕ) (i : ℕ) (held : List Numbered) (m : Mode) : Type 0 where
  pub entries : Entries (Opening latest) 1 (take i (statements_of text)) (map entry_of held)
  pub mode : m ≡ through (Opening latest) (map entry_of held)

map_more : (held : List Numbered) (h : Numbered) → map entry_of (held ++ h ∷ []) ≡ map entry_of held ++ entry_of h ∷ []
map_more [] h = refl
map_more (k ∷ held) h = ap (λ l. entry_of k ∷ l) (map_more held h)

module _ (latest : Edition) (text : List ℕ) (ls : List Line) (texts : map (line_text text) ls ≡ statements_of text) (i : ℕ) (d : Line) (within : i < length ls) where
  next_lines : take (i + 1) (statements_of text) ≡ take i (statements_of text) ++ line_text text (get_or ls i d) ∷ []
  next_lines = subst (λ all. take (i + 1) all ≡ take i all ++ line_text text (get_or ls i d) ∷ []) texts (take_mapped (line_text text) ls i d within)

  so_many : length (take i (statements_of text)) ≡ i
  so_many = subst (λ all. length (take i all) ≡ i) texts (length_taken (line_text text) ls i (omega arith))

  pub sofar_blank : (held : List Numbered) (m : Mode) → SoFar latest text i held m → list_all is_blank (line_text text (get_or ls i d)) ≡ true → SoFar latest text (i + 1) held m
  sofar_blank held m before all = record {
    entries = subst (λ lines. Entries (Opening latest) 1 lines (map entry_of held)) (sym next_lines) (entries_blank (Opening latest) 1 (take i (statements_of text)) (map entry_of held) (line_text text (get_or ls i d)) before.entries all);
    mode = before.mode;
  }

  pub sofar_more : (held new : List Numbered) (m : Mode) (n : ℕ) (t : Statement) → SoFar latest text i held m → n ≡ i + 1 → CarriesAt m (line_text text (get_or ls i d)) (sense_of t) → new ≡ held ++ (n, t) ∷ [] → SoFar latest text (i + 1) new (after m (sense_of t))
  sofar_more held new m n t before at carries grown =
      let many = so_many in
      let here' : CarriesAt (through (Opening latest) (map entry_of held)) (line_text text (get_or ls i d)) (sense_of t) = subst (λ (k : Mode). CarriesAt k (line_text text (get_or ls i d)) (sense_of t)) before.mode carries in
      let more : Entries (Opening latest) 1 (take i (statements_of text) ++ line_text text (get_or ls i d) ∷ []) (map entry_of held ++ entry n (sense_of t) ∷ []) = entries_more (Opening latest) 1 n (take i (statements_of text)) (map entry_of held) (line_text text (get_or ls i d)) (sense_of t) before.entries (omega arith) here' in
      let h : Numbered = (n, t) in
      let entries : map entry_of new ≡ map entry_of held ++ entry n (sense_of t) ∷ [] = ap (map entry_of) grown ∙ map_more held h in
      record {
        entries = subst (λ lines. Entries (Opening latest) 1 lines (map entry_of new)) (sym next_lines) (subst (λ es. Entries (Opening latest) 1 (take i (statements_of text) ++ line_text text (get_or ls i d) ∷ []) es) (sym entries) more);
        mode = ap (λ (k : Mode). after k (sense_of t)) before.mode ∙ sym (through-more (Opening latest) (map entry_of held) (entry n (sense_of t))) ∙ ap (through (Opening latest)) (sym entries);
      }

  sofar_found : (held new : List Numbered) (m : Mode) (n : ℕ) (found : Option Statement) → SoFar latest text i held m → n ≡ i + 1 → LineHas m (line_text text (get_or ls i d)) found → Kept n found held new → SoFar latest text (i + 1) new (mode_after m found)
  sofar_found held new m n None before at has kept = subst (λ h. SoFar latest text (i + 1) h m) (sym kept) (sofar_blank held m before has)
  sofar_found held new m n (Some t) before at has kept = sofar_more held new m n t before at has kept

  pub sofar_next : (held new : List Numbered) (m next : Mode) (n : ℕ) (found : Option Statement) → SoFar latest text i held m → n ≡ i + 1 → LineHas m (line_text text (get_or ls i d)) found → next ≡ mode_after m found → Kept n found held new → SoFar latest text (i + 1) new next
  sofar_next held new m next n found before at has reads kept = subst (λ (k : Mode). SoFar latest text (i + 1) new k) (sym reads) (sofar_found held new m n found before at has kept)

  first_here : (held : List Numbered) (m : Mode) (n : ℕ) (f : Fault) → SoFar latest text i held m → n ≡ i + 1 → IsFault m (line_text text (get_or ls i d)) f → FirstFault (Opening latest) 1 (statements_of text) n f
  first_here held m n f before at is =
      let many = so_many in
      let whole : statements_of text ≡ take i (statements_of text) ++ line_text text (get_or ls i d) ∷ drop (i + 1) (statements_of text) = subst (λ all. all ≡ take i all ++ line_text text (get_or ls i d) ∷ drop (i + 1) all) texts (split_mapped (line_text text) ls i d within) in
      let is' : IsFault (through (Opening latest) (map entry_of held)) (line_text text (get_or ls i d)) f = subst (λ (k : Mode). IsFault k (line_text text (get_or ls i d)) f) before.mode is in
      subst (λ lines. FirstFault (Opening latest) 1 lines n f) (sym whole) (first_after (Opening latest) 1 n (take i (statements_of text)) (drop (i + 1) (statements_of text)) (map entry_of held) (line_text text (get_or ls i d)) f before.entries (omega arith) is')

  first_at : (held : List Numbered) (m : Mode) (n k : ℕ) (f : Fault) → length text ≤ most_text → SoFar latest text i held m → n ≡ i + 1 → k ≡ n → IsFault m (line_text text (get_or ls i d)) f → IsFirstFault latest text k f
  first_at held m n k f short before at same is = record { short = short; first = first_here held m k f before (same ∙ at) is }

  pub cause_here : (held : List Numbered) (m : Mode) (n : ℕ) (e : TextFault) → length text ≤ most_text → SoFar latest text i held m → n ≡ i + 1 → LineFault m (line_text text (get_or ls i d)) n e → HasCause latest text e
  cause_here held m n fault.TooLong short before at is = absurd is
  cause_here held m n (fault.NotText k) short before at is = first_at held m n k not_text short before at is.0 is.1
  cause_here held m n (fault.Syntax k) short before at is = first_at held m n k syntax_fault short before at is.0 is.1
  cause_here held m n (fault.Shaping k) short before at is = first_at held m n k shaping short before at is.0 is.1
  cause_here held m n fault.NoMemory short before at is = tt

-- ---- the whole text

pub all_taken : (latest : Edition) (text : List ℕ) (ls : List Line) (i : ℕ) (held : List Numbered) (m : Mode) → map (line_text text) ls ≡ statements_of text → length ls ≤ i → SoFar latest text i held m → Entries (Opening latest) 1 (statements_of text) (map entry_of held)
all_taken latest text ls i held m texts behind sofar =
    let many : length (statements_of text) ≡ length ls = ap length (sym texts) ∙ length-map ls (line_text text) in
    subst (λ lines. Entries (Opening latest) 1 lines (map entry_of held)) (take_all i (statements_of text) (omega arith)) sofar.entries

pub sofar_start : (latest : Edition) (text : List ℕ) (held : List Numbered) (m : Mode) → held ≡ [] → m ≡ Opening latest → SoFar latest text 0 held m
sofar_start latest text held m none is = record {
  entries = subst (λ h. Entries (Opening latest) 1 [] (map entry_of h)) (sym none) (over (Opening latest) 1);
  mode = is ∙ ap (λ h. through (Opening latest) (map entry_of h)) (sym none);
}

-- a text whose lines parse has no cause of an error
pub entries_no_cause : (latest : Edition) (text : List ℕ) (es : List Entry) (e : TextFault) → HasEntries latest text es → IsCause latest text e → ⊥
entries_no_cause latest text es fault.TooLong has cause = let short = has.short in absurd (omega arith)
entries_no_cause latest text es (fault.NotText n) has cause = entries_no_fault (Opening latest) 1 (statements_of text) es n not_text has.entries cause.first
entries_no_cause latest text es (fault.Syntax n) has cause = entries_no_fault (Opening latest) 1 (statements_of text) es n syntax_fault has.entries cause.first
entries_no_cause latest text es (fault.Shaping n) has cause = entries_no_fault (Opening latest) 1 (statements_of text) es n shaping has.entries cause.first
entries_no_cause latest text es fault.NoMemory has cause = cause

want_or_not : (latest : Edition) (text : List ℕ) (es : List Entry) (e : TextFault) → HasEntries latest text es → HasCause latest text e → IsWant e
want_or_not latest text es fault.TooLong has cause = entries_no_cause latest text es fault.TooLong has cause
want_or_not latest text es (fault.NotText n) has cause = entries_no_cause latest text es (fault.NotText n) has cause
want_or_not latest text es (fault.Syntax n) has cause = entries_no_cause latest text es (fault.Syntax n) has cause
want_or_not latest text es (fault.Shaping n) has cause = entries_no_cause latest text es (fault.Shaping n) has cause
want_or_not latest text es fault.NoMemory has cause = tt

-- the result is right for the text
abbrev pub Told : Edition → List ℕ → Result Lines TextFault → Type 0
Told latest text (Ok lines) = HasEntries latest text (map entry_of lines.held)
Told latest text (Err e) = HasCause latest text e

pub told_gives : (latest : Edition) (text : List ℕ) (result : Result Lines TextFault) (es : List Entry) → Told latest text result → HasEntries latest text es → Gives result es
told_gives latest text (Ok lines) es told has = Entries-one (Opening latest) 1 (statements_of text) (map entry_of lines.held) es told.entries has.entries
told_gives latest text (Err e) es told has = want_or_not latest text es e has told

first_one : (latest : Edition) (text : List ℕ) (n m : ℕ) (f g : Fault) → IsFirstFault latest text n f → IsFirstFault latest text m g → (n ≡ m) × (f ≡ g)
first_one latest text n m f g one other = FirstFault-one (Opening latest) 1 (statements_of text) n m f g one.first other.first

abbrev tag : Fault → ℕ
tag not_text = 0
tag shaping = 1
tag syntax_fault = 2

-- a cause is a valid one for its error
told_cause : (latest : Edition) (text : List ℕ) (e : TextFault) → IsCause latest text e → HasCause latest text e
told_cause latest text fault.TooLong p = p
told_cause latest text (fault.NotText n) p = p
told_cause latest text (fault.Syntax n) p = p
told_cause latest text (fault.Shaping n) p = p
told_cause latest text fault.NoMemory p = tt

-- `NoMemory` has no cause
no_want : (latest : Edition) (text : List ℕ) (e : TextFault) → IsCause latest text e → IsWant e → ⊥
no_want latest text fault.TooLong p want = want
no_want latest text (fault.NotText n) p want = want
no_want latest text (fault.Syntax n) p want = want
no_want latest text (fault.Shaping n) p want = want
no_want latest text fault.NoMemory p want = p

-- an error other than `NoMemory` has its cause
pub cause_told : (latest : Edition) (text : List ℕ) (e : TextFault) → e ≢ fault.NoMemory → HasCause latest text e → IsCause latest text e
cause_told latest text fault.TooLong some p = p
cause_told latest text (fault.NotText n) some p = p
cause_told latest text (fault.Syntax n) some p = p
cause_told latest text (fault.Shaping n) some p = p
cause_told latest text fault.NoMemory some p = some refl

-- two causes in one text belong to the same error
same_cause : (latest : Edition) (text : List ℕ) (e f : TextFault) → HasCause latest text e → IsCause latest text f → (e ≡ f) ⊎ IsWant e
same_cause latest text fault.NoMemory f p q = inr tt
same_cause latest text e fault.NoMemory p q = absurd q
same_cause latest text fault.TooLong fault.TooLong p q = inl refl
same_cause latest text fault.TooLong (fault.NotText m) p q = let short = q.short in absurd (omega arith)
same_cause latest text fault.TooLong (fault.Syntax m) p q = let short = q.short in absurd (omega arith)
same_cause latest text fault.TooLong (fault.Shaping m) p q = let short = q.short in absurd (omega arith)
same_cause latest text (fault.NotText n) fault.TooLong p q = let short = p.short in absurd (omega arith)
same_cause latest text (fault.Syntax n) fault.TooLong p q = let short = p.short in absurd (omega arith)
same_cause latest text (fault.Shaping n) fault.TooLong p q = let short = p.short in absurd (omega arith)
same_cause latest text (fault.NotText n) (fault.NotText m) p q = inl (ap fault.NotText (first_one latest text n m not_text not_text p q).0)
same_cause latest text (fault.NotText n) (fault.Syntax m) p q = let differ = ap tag (first_one latest text n m not_text syntax_fault p q).1 in absurd (omega arith)
same_cause latest text (fault.NotText n) (fault.Shaping m) p q = let differ = ap tag (first_one latest text n m not_text shaping p q).1 in absurd (omega arith)
same_cause latest text (fault.Syntax n) (fault.NotText m) p q = let differ = ap tag (first_one latest text n m syntax_fault not_text p q).1 in absurd (omega arith)
same_cause latest text (fault.Syntax n) (fault.Syntax m) p q = inl (ap fault.Syntax (first_one latest text n m syntax_fault syntax_fault p q).0)
same_cause latest text (fault.Syntax n) (fault.Shaping m) p q = let differ = ap tag (first_one latest text n m syntax_fault shaping p q).1 in absurd (omega arith)
same_cause latest text (fault.Shaping n) (fault.NotText m) p q = let differ = ap tag (first_one latest text n m shaping not_text p q).1 in absurd (omega arith)
same_cause latest text (fault.Shaping n) (fault.Syntax m) p q = let differ = ap tag (first_one latest text n m shaping syntax_fault p q).1 in absurd (omega arith)
same_cause latest text (fault.Shaping n) (fault.Shaping m) p q = inl (ap fault.Shaping (first_one latest text n m shaping shaping p q).0)

-- a text has the cause of at most one error
pub one_cause : (latest : Edition) (text : List ℕ) (e f : TextFault) → IsCause latest text e → IsCause latest text f → e ≡ f
one_cause latest text e f p q = elim (same_cause latest text e f (told_cause latest text e p) q) [
  | inl same ↦ same
  | inr want ↦ absurd (no_want latest text e p want)
]

pub told_fails : (latest : Edition) (text : List ℕ) (result : Result Lines TextFault) (f : TextFault) → Told latest text result → IsCause latest text f → Fails result f
told_fails latest text (Ok lines) f told cause = entries_no_cause latest text (map entry_of lines.held) f told cause
told_fails latest text (Err e) f told cause = same_cause latest text e f told cause

pub told_of : (latest : Edition) (text : List ℕ) (result : Result Lines TextFault) → IfOk result (λ lines. HasEntries latest text (map entry_of lines.held)) → IfErr result (HasCause latest text) → Told latest text result
told_of latest text (Ok lines) ok err = ok
told_of latest text (Err e) ok err = err

-- the tokens that a line spells have its form
pub form_of_said : (m : Mode) (d : Dialect) (line : List ℕ) (gs hs : List Glyph) (s : Sense) → d ≡ dialect_at m → SaysIn d line gs → hs ≡ gs → HasForm m line s → IsFormAt m hs s
form_of_said m d line gs hs s split says same has = subst (λ l. IsFormAt m l s) (SaysIn-one (dialect_at m) line has.tokens gs has.says (subst (λ (e : Dialect). SaysIn e line gs) split says) ∙ sym same) has.form

-- a line that spells nothing has no statement
pub form_of_silent : (m : Mode) (d : Dialect) (line : List ℕ) (s : Sense) (e : Refusal) → d ≡ dialect_at m → (e ≡ NoForm → (gs : List Glyph) → SaysIn d line gs → ⊥) → HasForm m line s → StatesErr e
form_of_silent m d line s NoForm split silent has = silent refl has.tokens (subst (λ (e : Dialect). SaysIn e line has.tokens) (sym split) has.says)
form_of_silent m d line s NoMemory split silent has = tt

pub has_form : (m : Mode) (d : Dialect) (line : List ℕ) (gs hs : List Glyph) (s : Sense) → d ≡ dialect_at m → SaysIn d line gs → hs ≡ gs → IsFormAt m hs s → HasForm m line s
has_form m d line gs hs s split says same form = record { tokens = gs; says = subst (λ (e : Dialect). SaysIn e line gs) split says; form = subst (λ l. IsFormAt m l s) same form }

pub form_of : (m : Mode) (line : List ℕ) (s : Sense) → CarriesAt m line s → HasForm m line s
form_of m line s c = record { tokens = c.tokens; says = c.says; form = c.form }
