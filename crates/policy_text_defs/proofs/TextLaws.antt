-- The statements of a text are unique, its first error is unique, and no text has both.
use Rattle.policy_text_defs.proofs.Prelude.{List, ℕ, [], refl, ◌≡◌, ◌∷◌, Some, ◌++◌, subst, Bool, true, false, sym, arith, ◌∙◌, ap, suc, length, ◌+◌, drop, eqb-true, list_all, prefix_len, ◌||◌, ◌==◌, Glyph, is_clean, is_clean_text, SaysFromIn, Dialect, dialect_at, None, skipped, is_blank, Sense, Entry, entry, Carries, Entries, carried, is_shaping, over, Fault, FirstFault, IsFault, IsSound, blank_line, empty, here, later, not_text, shaping, statement_line, syntax_fault, CarriesAt, IsFormAt, Edition, Mode, Within, after}
use Rattle.text_core.proofs.SaysLaws.{SaysIn-one, none_in}
use Rattle.text_core.specs.Tokens.{begun}
use Rattle.policy_text_defs.specs.StatementReading.{a_form, a_statement}
use Rattle.policy_text_defs.proofs.TokenLaws.{both_true}
use Rattle.policy_text_defs.proofs.StatementLaws.{read-IsForm, IsForm-one}

-- ---- lines of blanks

blank_skipped : (line : List ℕ) → list_all is_blank line ≡ true → skipped line ≡ []
blank_skipped [] all = refl
blank_skipped (b ∷ bs) all =
    let both = both_true (is_blank b) (list_all is_blank bs) all in
    let later : skipped bs ≡ [] = blank_skipped bs both.1 in
    let one : 1 + prefix_len is_blank bs ≡ suc (prefix_len is_blank bs) = omega arith in
    rw both.0 (ap (λ n. drop n (b ∷ bs)) one ∙ later)

blank_clean_byte : (u v : Bool) (b : ℕ) → (b == 32) ≡ u → (b == 9) ≡ v → (u || v) ≡ true → is_clean b ≡ true
blank_clean_byte true v b is_u is_v e = let same : b ≡ 32 = eqb-true b 32 is_u in subst (λ n. is_clean n ≡ true) (sym same) refl
blank_clean_byte false true b is_u is_v e = let same : b ≡ 9 = eqb-true b 9 is_v in subst (λ n. is_clean n ≡ true) (sym same) refl
blank_clean_byte false false b is_u is_v e = absurd cc

blank_clean : (line : List ℕ) → list_all is_blank line ≡ true → is_clean_text line ≡ true
blank_clean [] all = refl
blank_clean (b ∷ bs) all =
    let both = both_true (is_blank b) (list_all is_blank bs) all in
    rw (blank_clean_byte (b == 32) (b == 9) b refl refl both.0) (blank_clean bs both.1)

blank_unshaped : (line : List ℕ) → list_all is_blank line ≡ true → is_shaping line ≡ false
blank_unshaped line all = rw (blank_skipped line all) refl

no_tokens : (d : Dialect) (gs : List Glyph) → SaysFromIn d [] gs → gs ≡ []
no_tokens d [] says = refl
no_tokens d (g ∷ gs) says = let wrong : None ≡ Some (begun says.0 says.1) = sym (none_in d) ∙ says.2 in absurd cc

nothing_read : (m : Mode) (s : Sense) (rest : List Glyph) → a_statement m [] ≡ Some (s, rest) → ⊥
unfolding a_statement a_form
nothing_read m s rest e = absurd cc

no_form : (m : Mode) (gs : List Glyph) (s : Sense) → gs ≡ [] → IsFormAt m gs s → ⊥
no_form m gs s none is = nothing_read m s [] (read-IsForm m [] s (subst (λ l. IsFormAt m l s) none is))

-- a line of blanks has no statement
blank_carries : (m : Mode) (line : List ℕ) (s : Sense) → list_all is_blank line ≡ true → CarriesAt m line s → ⊥
blank_carries m line s all c =
    let says : SaysFromIn (dialect_at m) [] c.tokens = subst (λ l. SaysFromIn (dialect_at m) l c.tokens) (blank_skipped line all) c.says in
    no_form m c.tokens s (no_tokens (dialect_at m) c.tokens says) c.form

-- ---- one line

pub CarriesAt-one : (m : Mode) (line : List ℕ) (s t : Sense) → CarriesAt m line s → CarriesAt m line t → s ≡ t
CarriesAt-one m line s t c d = IsForm-one m d.tokens s t (subst (λ l. IsFormAt m l s) (SaysIn-one (dialect_at m) line c.tokens d.tokens c.says d.says) c.form) d.form

pub Carries-one : (e : Edition) (line : List ℕ) (s t : Sense) → Carries e line s → Carries e line t → s ≡ t
Carries-one e line s t c d = CarriesAt-one (Within e) line s t c d

-- a line that is sound isn't in error
pub sound_no_fault : (m next : Mode) (line : List ℕ) (f : Fault) → IsSound m line next → IsFault m line f → ⊥
sound_no_fault m next line not_text (blank_line all) fault = let clean = blank_clean line all in absurd cc
sound_no_fault m next line shaping (blank_line all) fault = let un = blank_unshaped line all in let is = fault.1 in absurd cc
sound_no_fault m next line syntax_fault (blank_line all) fault = let none = fault.2 in absurd cc
sound_no_fault m next line not_text (statement_line s c) fault = let clean = c.clean in absurd cc
sound_no_fault m next line shaping (statement_line s c) fault = let un = c.unshaped in let is = fault.1 in absurd cc
sound_no_fault m next line syntax_fault (statement_line s c) fault = fault.3 s c

-- a line that is sound says how the next one is read
IsSound-one : (m k l : Mode) (line : List ℕ) → IsSound m line k → IsSound m line l → k ≡ l
IsSound-one m k l line (blank_line all) (blank_line all') = refl
IsSound-one m k l line (blank_line all) (statement_line t d) = absurd (blank_carries m line t all d)
IsSound-one m k l line (statement_line s c) (blank_line all) = absurd (blank_carries m line s all c)
IsSound-one m k l line (statement_line s c) (statement_line t d) = ap (after m) (CarriesAt-one m line s t c d)

-- a line has at most one error
IsFault-one : (m : Mode) (line : List ℕ) (f g : Fault) → IsFault m line f → IsFault m line g → f ≡ g
IsFault-one m line not_text not_text p q = refl
IsFault-one m line not_text shaping p q = let clean = q.0 in absurd cc
IsFault-one m line not_text syntax_fault p q = let clean = q.0 in absurd cc
IsFault-one m line shaping not_text p q = let clean = p.0 in absurd cc
IsFault-one m line shaping shaping p q = refl
IsFault-one m line shaping syntax_fault p q = let is = p.1 in let un = q.1 in absurd cc
IsFault-one m line syntax_fault not_text p q = let clean = p.0 in absurd cc
IsFault-one m line syntax_fault shaping p q = let un = p.1 in let is = q.1 in absurd cc
IsFault-one m line syntax_fault syntax_fault p q = refl

-- ---- lines

pub Entries-one : (m : Mode) (n : ℕ) (lines : List (List ℕ)) (es fs : List Entry) → Entries m n lines es → Entries m n lines fs → es ≡ fs
Entries-one m n lines es fs (over _ _) (over _ _) = refl
Entries-one m n lines es fs (empty _ _ line rest _ all on) (empty _ _ _ _ _ all' on') = Entries-one m (suc n) rest es fs on on'
Entries-one m n lines es fs (empty _ _ line rest _ all on) (carried _ _ _ _ t _ c on') = absurd (blank_carries m line t all c)
Entries-one m n lines es fs (carried _ _ line rest s _ c on) (empty _ _ _ _ _ all' on') = absurd (blank_carries m line s all' c)
Entries-one m n lines es fs (carried _ _ line rest s ds c on) (carried _ _ _ _ t gs d on') =
    let same : s ≡ t = CarriesAt-one m line s t c d in
    let on'' : Entries (after m s) (suc n) rest gs = subst (λ (u : Sense). Entries (after m u) (suc n) rest gs) (sym same) on' in
    ap (λ u. entry n u ∷ ds) same ∙ ap (λ l. entry n t ∷ l) (Entries-one (after m s) (suc n) rest ds gs on on'')

pub FirstFault-one : (m : Mode) (n : ℕ) (lines : List (List ℕ)) (i k : ℕ) (f g : Fault) → FirstFault m n lines i f → FirstFault m n lines k g → (i ≡ k) × (f ≡ g)
FirstFault-one m n lines i k f g (here _ _ line rest _ p) (here _ _ _ _ _ q) = (refl, IsFault-one m line f g p q)
FirstFault-one m n lines i k f g (here _ _ line rest _ p) (later _ next _ _ _ _ _ sound on) = absurd (sound_no_fault m next line f sound p)
FirstFault-one m n lines i k f g (later _ next _ _ line rest _ sound on) (here _ _ _ _ _ q) = absurd (sound_no_fault m next line g sound q)
FirstFault-one m n lines i k f g (later _ next _ _ line rest _ sound on) (later _ next' _ _ _ _ _ sound' on') =
    let same : next' ≡ next = IsSound-one m next' next line sound' sound in
    FirstFault-one next (suc n) rest i k f g on (subst (λ (l : Mode). FirstFault l (suc n) rest k g) same on')

none_case : (m : Mode) (n : ℕ) (lines : List (List ℕ)) (k : ℕ) (f : Fault) → lines ≡ [] → FirstFault m n lines k f → ⊥
none_case m n lines k f none (here _ _ line rest _ p) = absurd cc
none_case m n lines k f none (later _ _ _ _ line rest _ sound on) = absurd cc

none_at_fault : (m : Mode) (n k : ℕ) (f : Fault) → FirstFault m n [] k f → ⊥
none_at_fault m n k f first = none_case m n [] k f refl first

pub entries_no_fault : (m : Mode) (n : ℕ) (lines : List (List ℕ)) (es : List Entry) (k : ℕ) (f : Fault) → Entries m n lines es → FirstFault m n lines k f → ⊥
entries_no_fault m n lines es k f (over _ _) first = none_at_fault m n k f first
entries_no_fault m n lines es k f (empty _ _ line rest _ all on) (here _ _ _ _ _ p) = sound_no_fault m m line f (blank_line all) p
entries_no_fault m n lines es k f (empty _ _ line rest _ all on) (later _ next _ _ _ _ _ sound first) =
    let same : next ≡ m = IsSound-one m next m line sound (blank_line all) in
    entries_no_fault m (suc n) rest es k f on (subst (λ (l : Mode). FirstFault l (suc n) rest k f) same first)
entries_no_fault m n lines es k f (carried _ _ line rest s _ c on) (here _ _ _ _ _ p) = sound_no_fault m (after m s) line f (statement_line s c) p
entries_no_fault m n lines es k f (carried _ _ line rest s ds c on) (later _ next _ _ _ _ _ sound first) =
    let same : next ≡ after m s = IsSound-one m next (after m s) line sound (statement_line s c) in
    entries_no_fault (after m s) (suc n) rest ds k f on (subst (λ (l : Mode). FirstFault l (suc n) rest k f) same first)

-- ---- one line more

-- how the statement after these is read
abbrev pub through : Mode → List Entry → Mode
through m [] = m
through m (e ∷ es) = through (after m e.1) es

pub through-more : (m : Mode) (es : List Entry) (e : Entry) → through m (es ++ e ∷ []) ≡ after (through m es) e.1
through-more m [] e = refl
through-more m (d ∷ es) e = through-more (after m d.1) es e

pub entries_blank : (m : Mode) (n : ℕ) (lines : List (List ℕ)) (es : List Entry) (line : List ℕ) → Entries m n lines es → list_all is_blank line ≡ true → Entries m n (lines ++ line ∷ []) es
entries_blank m n lines es line (over _ _) all = empty m n line [] [] all (over m (suc n))
entries_blank m n lines es line (empty _ _ first rest _ blank on) all = empty m n first (rest ++ line ∷ []) es blank (entries_blank m (suc n) rest es line on all)
entries_blank m n lines es line (carried _ _ first rest s ds c on) all = carried m n first (rest ++ line ∷ []) s ds c (entries_blank (after m s) (suc n) rest ds line on all)

pub entries_more : (m : Mode) (n k : ℕ) (lines : List (List ℕ)) (es : List Entry) (line : List ℕ) (s : Sense) → Entries m n lines es → k ≡ n + length lines → CarriesAt (through m es) line s → Entries m n (lines ++ line ∷ []) (es ++ entry k s ∷ [])
entries_more m n k lines es line s (over _ _) at c = let same : k ≡ n = omega arith in subst (λ i. Entries m n (line ∷ []) (entry i s ∷ [])) (sym same) (carried m n line [] s [] c (over (after m s) (suc n)))
entries_more m n k lines es line s (empty _ _ first rest _ blank on) at c = empty m n first (rest ++ line ∷ []) (es ++ entry k s ∷ []) blank (entries_more m (suc n) k rest es line s on (omega arith) c)
entries_more m n k lines es line s (carried _ _ first rest t ds d on) at c = carried m n first (rest ++ line ∷ []) t (ds ++ entry k s ∷ []) d (entries_more (after m t) (suc n) k rest ds line s on (omega arith) c)

-- a line in error after lines that have statements is the first one
pub first_after : (m : Mode) (n k : ℕ) (before behind : List (List ℕ)) (es : List Entry) (line : List ℕ) (f : Fault) → Entries m n before es → k ≡ n + length before → IsFault (through m es) line f → FirstFault m n (before ++ line ∷ behind) k f
first_after m n k before behind es line f (over _ _) at fault = let same : k ≡ n = omega arith in subst (λ i. FirstFault m n (line ∷ behind) i f) (sym same) (here m n line behind f fault)
first_after m n k before behind es line f (empty _ _ first rest _ blank on) at fault = later m m n k first (rest ++ line ∷ behind) f (blank_line blank) (first_after m (suc n) k rest behind es line f on (omega arith) fault)
first_after m n k before behind es line f (carried _ _ first rest s ds c on) at fault = later m (after m s) n k first (rest ++ line ∷ behind) f (statement_line s c) (first_after (after m s) (suc n) k rest behind ds line f on (omega arith) fault)
