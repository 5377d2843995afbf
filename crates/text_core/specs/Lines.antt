-- The definition of the lines of a text.
use Rattle.std.specs.Prelude.{◌≡◌, ℕ, ◌+◌, ◌-◌, ◌<◌, ◌≤◌, ◌==◌, Bool, true, false, not, ◌&&◌, ◌||◌, nat_le, if◌then◌else◌, List, [], ◌∷◌, length, drop, take, slice_index, map, codes, refl}
use Rattle.std.specs.List.{prefix_len, list_all}
use Rattle.text_core.specs.declared.line.Line.{Line}

-- the byte doesn't end a line
abbrev pub is_text : ℕ → Bool
is_text b = not (b == 10)

abbrev pub is_clean : ℕ → Bool
is_clean b = b == 9 || (nat_le 32 b && nat_le b 126)

abbrev pub no_comment : ℕ → Bool
no_comment b = not (b == 35)

-- the last byte is a carriage return
abbrev pub ends_with_return : List ℕ → Bool
ends_with_return line = slice_index line (length line - 1) == 13

-- the number of bytes before the first `#`; without one, all bytes except a final carriage return
abbrev pub statement_length : List ℕ → ℕ
statement_length line =
    let before = prefix_len no_comment line in
    if before == length line && ends_with_return line then before - 1 else before

-- the statement bytes of a line
abbrev pub statement_of : List ℕ → List ℕ
statement_of line = take (statement_length line) line

-- each byte of a statement is allowed
abbrev pub is_clean_text : List ℕ → Bool
is_clean_text statement = list_all is_clean statement

abbrev pub onto_first : ℕ → List (List ℕ) → List (List ℕ)
onto_first b [] = (b ∷ []) ∷ []
onto_first b (l ∷ ls) = (b ∷ l) ∷ ls

-- the lines of a text without the bytes that end them; the last line may end with the text
abbrev pub lines_of : List ℕ → List (List ℕ)
lines_of [] = []
lines_of (b ∷ bs) = if is_text b then onto_first b (lines_of bs) else ([] ∷ lines_of bs)

-- the statement bytes of each line of a text
abbrev pub statements_of : List ℕ → List (List ℕ)
statements_of text = map statement_of (lines_of text)

-- the bytes of a line's span
abbrev pub line_text : List ℕ → Line → List ℕ
line_text text l = take (l.end - l.start) (drop l.start text)

-- `clean` is whether each byte of the line's span is allowed
abbrev pub IsMarked : List ℕ → Line → Type 0
IsMarked text l = l.clean ≡ is_clean_text (line_text text l)

-- the line's span lies in the text
abbrev pub LiesIn : List ℕ → Line → Type 0
LiesIn text l = (l.start ≤ l.end) × (l.end ≤ length text)

-- the bytes of the line that begins at an offset
abbrev pub line_at : List ℕ → ℕ → List ℕ
line_at text from = take (prefix_len is_text (drop from text)) (drop from text)

-- the lines follow one another from one offset to another, where the second is the first after the
-- last line's end
abbrev pub Follow : List ℕ → ℕ → List Line → ℕ → Type 0
Follow text from [] to = to ≡ from
Follow text from (l ∷ ls) to =
    (from < length text) × (l.start ≡ from) × (l.end ≡ from + statement_length (line_at text from)) × (l.clean ≡ list_all is_clean (take (statement_length (line_at text from)) (line_at text from))) × Follow text (from + prefix_len is_text (drop from text) + 1) ls to

-- the lines of a text, up to its end
pub record AreLines (text : List ℕ) (ls : List Line) : Type 0 where
  pub end : ℕ
  pub follow : Follow text 0 ls end
  pub over : length text ≤ end

-- a tab, and all bytes from the space to `~`
clean_bytes : map is_clean (8 ∷ 9 ∷ 10 ∷ 13 ∷ 31 ∷ 32 ∷ 126 ∷ 127 ∷ 195 ∷ []) ≡ false ∷ true ∷ false ∷ false ∷ false ∷ true ∷ true ∷ false ∷ false ∷ []
clean_bytes = refl

one_unclean_byte : map is_clean_text (codes "a b" ∷ codes "a\rb" ∷ codes "" ∷ []) ≡ true ∷ false ∷ true ∷ []
one_unclean_byte = refl

bytes_of_a_span : line_text (codes "a\nb c #d\n") (record { start = 2; end = 6; clean = true }) ≡ codes "b c "
bytes_of_a_span = refl

empty_text_has_no_line : lines_of (codes "") ≡ []
empty_text_has_no_line = refl

last_line_without_end : statements_of (codes "a\nb") ≡ codes "a" ∷ codes "b" ∷ []
last_line_without_end = refl

no_line_behind_the_last_end : statements_of (codes "a\n\n") ≡ codes "a" ∷ [] ∷ []
no_line_behind_the_last_end = refl

one_return_is_dropped : statements_of (codes "a\r\r\n\r") ≡ codes "a\r" ∷ [] ∷ []
one_return_is_dropped = refl

a_return_before_a_comment_stays : statements_of (codes "a\r#b\r\n") ≡ codes "a\r" ∷ []
a_return_before_a_comment_stays = refl

a_comment_begins_at_its_first_sign : statements_of (codes "a #b#c\n#\n\"b") ≡ codes "a " ∷ [] ∷ codes "\"b" ∷ []
a_comment_begins_at_its_first_sign = refl
