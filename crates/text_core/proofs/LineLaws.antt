-- The spans of the lines hold the statements of the text.
use Rattle.text_core.proofs.Prelude.{length, ◌≡◌, arith, ◌+◌, List, [], ap, drop, sym, ◌∷◌, take, ◌∙◌, ◌≤◌, refl, ℕ, ◌-◌, true, ◌++◌, ◌<◌, suc, Bool, cond, false, length-drop, zero, map, append-nil, prefix_len-le-length, prefix_len, All, AllByRecursion, Follow, is_text, line_at, statement_length, IsMarked, LiesIn, is_clean_text, line_text, lines_of, no_comment, onto_first, statement_of, statements_of, Line}

abbrev nothing : List ℕ
nothing = []

pub drop-none : (n : ℕ) → drop n nothing ≡ nothing
drop-none zero = refl
drop-none (suc n) = refl

pub drop-drop : (i j : ℕ) (xs : List ℕ) → drop j (drop i xs) ≡ drop (i + j) xs
drop-drop zero j xs = let same : 0 + j ≡ j = omega arith in ap (λ n. drop n xs) (sym same)
drop-drop (suc i) j [] = drop-none j ∙ sym (drop-none (suc i + j))
drop-drop (suc i) j (x ∷ xs) = let same : suc i + j ≡ suc (i + j) = omega arith in drop-drop i j xs ∙ ap (λ n. drop n (x ∷ xs)) (sym same)

-- nothing is left from the end on
pub drop-over : (n : ℕ) (xs : List ℕ) → length xs ≤ n → drop n xs ≡ nothing
drop-over n [] over = drop-none n
drop-over zero (x ∷ xs) over = absurd (omega arith)
drop-over (suc n) (x ∷ xs) over = drop-over n xs (omega arith)

pub take-take : (i j : ℕ) (xs : List ℕ) → i ≤ j → take i (take j xs) ≡ take i xs
take-take zero j xs le = refl
take-take (suc i) zero xs le = absurd (omega arith)
take-take (suc i) (suc j) [] le = refl
take-take (suc i) (suc j) (x ∷ xs) le = ap (λ l. x ∷ l) (take-take i j xs (omega arith))

pub length-take-le : (n : ℕ) (xs : List ℕ) → n ≤ length xs → length (take n xs) ≡ n
length-take-le zero xs le = refl
length-take-le (suc n) [] le = absurd (omega arith)
length-take-le (suc n) (x ∷ xs) le = ap suc (length-take-le n xs (omega arith))

less-one : (v : Bool) (m n : ℕ) → m ≤ n → cond v (m - 1) m ≤ n
less-one true m n le = omega arith
less-one false m n le = le

pub statement_length-within : (line : List ℕ) → statement_length line ≤ length line
statement_length-within line = less-one _ _ _ (prefix_len-le-length no_comment line)

-- the first line, and the lines after the byte that ends it
abbrev Begins : List ℕ → Type 0
Begins bs = lines_of bs ≡ take (prefix_len is_text bs) bs ∷ lines_of (drop (prefix_len is_text bs + 1) bs)

behind : (b : ℕ) (bs : List ℕ) → (0 < length bs → Begins bs) → onto_first b (lines_of bs) ≡ (b ∷ take (prefix_len is_text bs) bs) ∷ lines_of (drop (prefix_len is_text bs + 1) bs)
behind b [] rest = refl
behind b (c ∷ cs) rest = ap (onto_first b) (rest (omega arith))

one_more : (b : ℕ) (bs : List ℕ) (n : ℕ) → (b ∷ take n bs) ∷ lines_of (drop (n + 1) bs) ≡ take (1 + n) (b ∷ bs) ∷ lines_of (drop (1 + n + 1) (b ∷ bs))
one_more b bs n =
    let one : suc n ≡ 1 + n = omega arith in
    let two : suc (n + 1) ≡ 1 + n + 1 = omega arith in
    ap (λ m. take m (b ∷ bs) ∷ lines_of (drop (n + 1) bs)) one ∙ ap (λ m. take (1 + n) (b ∷ bs) ∷ lines_of (drop m (b ∷ bs))) two

by_test : (b : ℕ) (bs : List ℕ) → (0 < length bs → Begins bs) → (v : Bool) → is_text b ≡ v → Begins (b ∷ bs)
by_test b bs rest true e = rw e (behind b bs rest ∙ one_more b bs (prefix_len is_text bs))
by_test b bs rest false e = rw e refl

pub lines_of-step : (bs : List ℕ) → 0 < length bs → Begins bs
lines_of-step [] some = absurd (omega arith)
lines_of-step (b ∷ bs) some = by_test b bs (λ more. lines_of-step bs more) (is_text b) refl

-- the span of the line at an offset holds the statement of that line
text_at : (text : List ℕ) (from : ℕ) (l : Line) → l.start ≡ from → l.end ≡ from + statement_length (line_at text from) → line_text text l ≡ statement_of (line_at text from)
text_at text from l start end =
    let n = prefix_len is_text (drop from text) in
    let inside = prefix_len-le-length is_text (drop from text) in
    let size = length-take-le n (drop from text) inside in
    let within = statement_length-within (line_at text from) in
    let count : l.end - l.start ≡ statement_length (line_at text from) = omega arith in
    ap (λ m. take m (drop l.start text)) count ∙ ap (λ m. take (statement_length (line_at text from)) (drop m text)) start
    ∙ sym (take-take (statement_length (line_at text from)) n (drop from text) (omega arith))

-- for lines up to an offset: what their spans hold, and that the remaining statements are those of
-- the rest
pub record Hold (text : List ℕ) (from : ℕ) (ls : List Line) (to : ℕ) : Type 0 where
  pub texts : statements_of (drop from text) ≡ map (line_text text) ls ++ statements_of (drop to text)
  pub clean : AllByRecursion (IsMarked text) ls
  pub within : AllByRecursion (LiesIn text) ls
  pub count : length ls + length (drop to text) ≤ length (drop from text)

pub Follow-Hold : (text : List ℕ) (from : ℕ) (ls : List Line) (to : ℕ) → Follow text from ls to → Hold text from ls to
Follow-Hold text from [] to follow =
    let size = ap (λ n. length (drop n text)) follow in
    record { texts = ap (λ n. statements_of (drop n text)) (sym follow); clean = tt; within = tt; count = omega arith }
Follow-Hold text from (l ∷ ls) to follow =
    let n = prefix_len is_text (drop from text) in
    let line = line_at text from in
    let inside = prefix_len-le-length is_text (drop from text) in
    let left = length-drop from text in
    let begins = follow.0 in
    let start = follow.1 in
    let end = follow.2 in
    let next = from + n + 1 in
    let behind_is : drop (n + 1) (drop from text) ≡ drop next text = let sum : from + (n + 1) ≡ from + n + 1 = omega arith in drop-drop from (n + 1) text ∙ ap (λ m. drop m text) sum in
    let whole : lines_of (drop from text) ≡ line ∷ lines_of (drop next text) = lines_of-step (drop from text) (omega arith) ∙ ap (λ r. line ∷ lines_of r) behind_is in
    let later = Follow-Hold text next ls to follow.4 in
    let size = length-take-le n (drop from text) inside in
    let statement = statement_length-within line in
    let fewer = later.count in
    let behind_left = length-drop next text in
    record {
      texts = ap (map statement_of) whole ∙ ap (λ x. x ∷ statements_of (drop next text)) (sym (text_at text from l start end)) ∙ ap (λ r. line_text text l ∷ r) later.texts;
      clean = (follow.3 ∙ ap is_clean_text (sym (text_at text from l start end)), later.clean);
      within = ((omega arith, omega arith), later.within);
      count = omega arith;
    }

-- lines that reach the end are all lines
pub Hold-whole : (text : List ℕ) (ls : List Line) (to : ℕ) → Hold text 0 ls to → length text ≤ to → map (line_text text) ls ≡ statements_of text
Hold-whole text ls to hold over =
    let none : map (line_text text) ls ++ statements_of (drop to text) ≡ map (line_text text) ls ++ [] = ap (λ bs. map (line_text text) ls ++ statements_of bs) (drop-over to text over) in
    sym (hold.texts ∙ none ∙ append-nil (map (line_text text) ls))

-- there are at most as many lines as bytes
pub Hold-count : (text : List ℕ) (ls : List Line) (to : ℕ) → Hold text 0 ls to → length ls ≤ length text
Hold-count text ls to hold = let count = hold.count in omega arith

all-at : (P : Line → Type 0) (ls : List Line) → AllByRecursion P ls → All P ls
all-at P [] holds k d inside = absurd (omega arith)
all-at P (l ∷ ls) holds zero d inside = holds.0
all-at P (l ∷ ls) holds (suc k) d inside = all-at P ls holds.1 k d (omega arith)

pub Hold-All : (text : List ℕ) (from : ℕ) (ls : List Line) (to : ℕ) → Hold text from ls to → All (LiesIn text) ls
Hold-All text from ls to hold = all-at (LiesIn text) ls hold.within

pub Hold-clean : (text : List ℕ) (from : ℕ) (ls : List Line) (to : ℕ) → Hold text from ls to → All (IsMarked text) ls
Hold-clean text from ls to hold = all-at (IsMarked text) ls hold.clean
