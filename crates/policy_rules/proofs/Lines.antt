-- Parsed statements, and the state of a pass over them at a line.
use Rattle.policy_rules.proofs.Prelude.{◌∙◌, ap, List, ◌≡◌, sym, ℕ, [], ◌∷◌, ◌++◌, take, length, subst, Some, ◌+◌, arith, ◌<◌, get_or, Option, drop, length-append, take-append-drop, length-map, take_more, map-append, get_or-map, filter_map-append, cons_option, AllWithin, filter_map, Entry, sense_of, Sense, Statement, IsLeastLine, entries_of, AreRising, Name, declared}
use Rattle.policy_text_defs.specs.Sense.{entry}
use Rattle.policy_rules.proofs.EarlierLines.{least_here, fine-more}

abbrev pub Line : Type 0
Line = ℕ × Statement

abbrev pub entry_of : Line → Entry
entry_of l = entry l.0 (sense_of l.1)

pub length-entries : (lines : List Line) → length (entries_of lines) ≡ length lines
length-entries lines = length-map lines entry_of

pub within-entries : (lines : List Line) (i : ℕ) → i < length lines → i < length (entries_of lines)
within-entries lines i within = subst (λ (n : ℕ). i < n) (sym (length-entries lines)) within

-- the line at an index is the entry at this index
pub entry-at : (lines : List Line) (i : ℕ) (l : Line) (d : Entry) → i < length lines → l ≡ get_or lines i l → get_or (entries_of lines) i d ≡ entry_of l
entry-at lines i l d within is = get_or-map entry_of lines i l d within ∙ ap entry_of (sym is)

-- the entries of the first lines, with one more
pub take-line : (lines : List Line) (i : ℕ) (l : Line) → i < length lines → l ≡ get_or lines i l → take (i + 1) (entries_of lines) ≡ take i (entries_of lines) ++ entry_of l ∷ []
take-line lines i l within is =
    take_more (entries_of lines) i (entry_of l) (within-entries lines i within) ∙ ap (λ (e : Entry). take i (entries_of lines) ++ e ∷ []) (entry-at lines i l (entry_of l) within is)

-- the entries of one line more
pub entries-more : (lines : List Line) (i : ℕ) (l : Line) → i < length lines → l ≡ get_or lines i l → entries_of (take (i + 1) lines) ≡ entries_of (take i lines) ++ entry_of l ∷ []
entries-more lines i l within is = ap entries_of (take_more lines i l within ∙ ap (λ (k : Line). take i lines ++ k ∷ []) (sym is)) ∙ map-append entry_of (take i lines) (l ∷ [])

-- the name that a statement declares comes last
pub declared-push : (space : Sense → Option Name) (es : List Entry) (e : Entry) → declared space (es ++ e ∷ []) ≡ declared space es ++ cons_option (space e.1) []
declared-push space es e = filter_map-append (λ (f : Entry). space f.1) es (e ∷ [])

-- the values of the statements before a line, and then the value of this line
pub given-more : {X : Type 0} (f : Sense → Option X) (lines : List Line) (i : ℕ) (l : Line) → i < length lines → l ≡ get_or lines i l
    → filter_map (λ (e : Entry). f e.1) (entries_of (take (i + 1) lines)) ≡ filter_map (λ (e : Entry). f e.1) (entries_of (take i lines)) ++ cons_option (f (sense_of l.1)) []
given-more f lines i l within is =
    ap (filter_map (λ (e : Entry). f e.1)) (entries-more lines i l within is)
    ∙ filter_map-append (λ (e : Entry). f e.1) (entries_of (take i lines)) (entry_of l ∷ [])

-- the values before a line that has a value are fewer than all
pub given-within : {X : Type 0} (f : Sense → Option X) (lines : List Line) (i : ℕ) (l : Line) (x : X) → i < length lines → l ≡ get_or lines i l → f (sense_of l.1) ≡ Some x
    → length (filter_map (λ (e : Entry). f e.1) (entries_of (take i lines))) < length (filter_map (λ (e : Entry). f e.1) (entries_of lines))
given-within f lines i l x within is some =
    let g : Entry → Option _ = λ (e : Entry). f e.1 in
    let all : filter_map g (entries_of lines) ≡ filter_map g (entries_of (take (i + 1) lines)) ++ filter_map g (entries_of (drop (i + 1) lines)) =
    ap (λ ls. filter_map g (entries_of ls)) (sym (take-append-drop (i + 1) lines))
    ∙ ap (filter_map g) (map-append entry_of (take (i + 1) lines) (drop (i + 1) lines))
    ∙ filter_map-append g (entries_of (take (i + 1) lines)) (entries_of (drop (i + 1) lines)) in
    let more : filter_map g (entries_of (take (i + 1) lines)) ≡ filter_map g (entries_of (take i lines)) ++ x ∷ [] =
    given-more f lines i l within is ∙ ap (λ o. filter_map g (entries_of (take i lines)) ++ cons_option o []) some in
    omega (arith, ap length all, ap length more, length-append (filter_map g (entries_of (take (i + 1) lines))) (filter_map g (entries_of (drop (i + 1) lines))), length-append (filter_map g (entries_of (take i lines))) (x ∷ []))

-- the first line in error is the lowest
pub least-line : (Fails : Entry → Type 0) (lines : List Line) (i : ℕ) (l : Line) → AreRising (entries_of lines) → i < length lines → l ≡ get_or lines i l
    → AllWithin (λ e. ¬ Fails e) (entries_of lines) 0 i → Fails (entry_of l) → IsLeastLine Fails (entries_of lines) l.0
least-line Fails lines i l rising within is fine fails =
    least_here Fails (entries_of lines) i (entry_of l) rising (within-entries lines i within) (sym (entry-at lines i l (entry_of l) within is)) fine fails

-- a pass goes on past a line that isn't in error
pub fine-line : (Fails : Entry → Type 0) (lines : List Line) (i : ℕ) (l : Line) → i < length lines → l ≡ get_or lines i l
    → AllWithin (λ e. ¬ Fails e) (entries_of lines) 0 i → (¬ Fails (entry_of l)) → AllWithin (λ e. ¬ Fails e) (entries_of lines) 0 (i + 1)
fine-line Fails lines i l within is fine here =
    fine-more Fails (entries_of lines) i (entry_of l) (within-entries lines i within) (sym (entry-at lines i l (entry_of l) within is)) fine here
