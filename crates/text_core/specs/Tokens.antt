-- The definition of the tokens of a line, in both dialects.
use Rattle.std.specs.Prelude.{◌≡◌, ℕ, ◌+◌, ◌-◌, ◌<◌, ◌≤◌, ◌==◌, Bool, true, false, ◌&&◌, ◌||◌, if◌then◌else◌, List, [], ◌∷◌, length, take, drop, Option, Some, None, option_map, map, codes, refl}
use Rattle.std.specs.List.{prefix_len, list_all}
use Rattle.std.specs.Char.{is_ascii_digit, is_ascii_alphabetic}
use Rattle.text_core.specs.declared.token.TokenKind.{TokenKind}
use Rattle.text_core.specs.declared.token.TokenKind.TheVariants.{Word, Number, Mark}
use Rattle.text_core.specs.declared.token.Token.{Token}
use Rattle.text_core.specs.declared.dialect.Dialect.{Dialect}
use Rattle.text_core.specs.declared.dialect.Dialect.TheVariants.{Classic, Third}

abbrev pub is_blank : ℕ → Bool
is_blank b = b == 32 || b == 9

abbrev pub is_digit : ℕ → Bool
is_digit b = is_ascii_digit b

-- a letter or `_`
abbrev pub is_word_start : ℕ → Bool
is_word_start b = is_ascii_alphabetic b || b == 95

abbrev pub is_word_byte : ℕ → Bool
is_word_byte b = is_word_start b || is_digit b

-- the greatest length of a name in bytes
abbrev pub most_name : ℕ
most_name = 64

-- the first byte is a letter or `_`
abbrev pub begins_word : List ℕ → Bool
begins_word [] = false
begins_word (b ∷ bs) = is_word_start b

-- `. / + - * ( ) , = < >`
abbrev pub is_mark : ℕ → Bool
is_mark b = b == 46 || b == 47 || b == 43 || b == 45 || b == 42 || b == 40 || b == 41 || b == 44 || b == 61 || b == 60 || b == 62

-- `..`, or one of `= ! < >` before `=`
abbrev pub is_double_mark : ℕ → ℕ → Bool
is_double_mark b c = (b == 46 && c == 46) || ((b == 61 || b == 33 || b == 60 || b == 62) && c == 61)

abbrev pub single_mark : ℕ → Option ℕ
single_mark b = if is_mark b then Some 1 else None

-- the length of the longest mark at the start of the bytes
abbrev pub mark_length : List ℕ → Option ℕ
mark_length [] = None
mark_length (b ∷ []) = single_mark b
mark_length (b ∷ c ∷ bs) = if is_double_mark b c then Some 2 else single_mark b

abbrev pub Begun : Type 0
Begun = TokenKind × ℕ

abbrev pub begun : TokenKind → ℕ → Begun
begun kind n = (kind, n)

-- a number ends before the first byte that isn't a digit; that byte may not be a letter or `_`
abbrev pub number_at : List ℕ → ℕ → Option Begun
number_at bs n = if begins_word (drop n bs) then None else Some (begun Number n)

-- the kind and the length of the longest token of the classic dialect at the start of the bytes
abbrev pub token_at : List ℕ → Option Begun
token_at [] = None
token_at (b ∷ bs) =
    if is_word_start b then Some (begun Word (prefix_len is_word_byte (b ∷ bs)))
    else (if is_digit b then number_at (b ∷ bs) (prefix_len is_digit (b ∷ bs))
    else option_map (begun Mark) (mark_length (b ∷ bs)))

-- ---- the third dialect

-- letters, digits, `_` and `:`
abbrev pub is_run_start : ℕ → Bool
is_run_start b = is_word_byte b || b == 58

-- letters, digits, `_`, `:` and `-`
abbrev pub is_run_byte : ℕ → Bool
is_run_byte b = is_run_start b || b == 45

-- `{` and `}`
abbrev pub is_brace : ℕ → Bool
is_brace b = b == 123 || b == 125

-- digits alone are a number, and any other run is a word
abbrev pub run_kind : List ℕ → TokenKind
run_kind w = if list_all is_digit w then Number else Word

abbrev pub run_at : List ℕ → ℕ → Begun
run_at bs n = begun (run_kind (take n bs)) n

-- the kind and the length of the token of the third dialect at the start of the bytes: the longest
-- run, a brace or the longest mark
abbrev pub third_token_at : List ℕ → Option Begun
third_token_at [] = None
third_token_at (b ∷ bs) =
    if is_run_start b then Some (run_at (b ∷ bs) (prefix_len is_run_byte (b ∷ bs)))
    else (if is_brace b then Some (begun Mark 1)
    else option_map (begun Mark) (mark_length (b ∷ bs)))

-- the kind and the length of the token at the start of the bytes
abbrev pub token_in : Dialect → List ℕ → Option Begun
token_in Classic bs = token_at bs
token_in Third bs = third_token_at bs

-- ---- lines

-- the offset after the blanks at an offset
abbrev pub after_blanks : List ℕ → ℕ → ℕ
after_blanks line from = from + prefix_len is_blank (drop from line)

-- from one offset to another, the line is these tokens in order, each the longest, and blanks
-- before, between and after them
abbrev pub StandIn : Dialect → List ℕ → ℕ → List Token → ℕ → Type 0
StandIn d line from [] to = to ≡ after_blanks line from
StandIn d line from (t ∷ ts) to = (t.start ≡ after_blanks line from) × (t.start < t.end) × (t.end ≤ length line) × (token_in d (drop t.start line) ≡ Some (begun t.kind (t.end - t.start))) × StandIn d line t.end ts to

-- the same in the classic dialect
abbrev pub Stand : List ℕ → ℕ → List Token → ℕ → Type 0
Stand line from ts to = StandIn Classic line from ts to

-- the token's span has at least one byte, and lies in the line
abbrev pub StandsIn : List ℕ → Token → Type 0
StandsIn line t = (t.start < t.end) × (t.end ≤ length line)

-- the offset is inside the line, and no token begins there
pub record IsBadIn (d : Dialect) (line : List ℕ) (place : ℕ) : Type 0 where
  pub inside : place < length line
  pub none : token_in d (drop place line) ≡ None

-- the first such offset: the line up to it is tokens and blanks
pub record IsFaultIn (d : Dialect) (line : List ℕ) (place : ℕ) : Type 0 where
  pub before : List Token
  pub stand : StandIn d line 0 before place
  pub bad : IsBadIn d line place

-- the same in the classic dialect
abbrev pub IsFaultOf : List ℕ → ℕ → Type 0
IsFaultOf line place = IsFaultIn Classic line place

a_word_takes_digits : token_at (codes "w1_ b") ≡ Some (begun Word 3)
a_word_takes_digits = refl

two_dots_are_one_mark : token_at (codes "..7") ≡ Some (begun Mark 2)
two_dots_are_one_mark = refl

at_most_is_one_mark : token_at (codes "<=3") ≡ Some (begun Mark 2)
at_most_is_one_mark = refl

no_letter_follows_a_number : token_at (codes "1a") ≡ None
no_letter_follows_a_number = refl

-- `_` begins a word, and so do the first and last letters in both cases; the bytes next to these in
-- ASCII don't
first_bytes_of_words : map token_at (codes "_1" ∷ codes "A" ∷ codes "Z" ∷ codes "a" ∷ codes "z" ∷ codes "@" ∷ codes "[" ∷ codes "`" ∷ codes "{" ∷ []) ≡ Some (begun Word 2) ∷ Some (begun Word 1) ∷ Some (begun Word 1) ∷ Some (begun Word 1) ∷ Some (begun Word 1) ∷ None ∷ None ∷ None ∷ None ∷ []
first_bytes_of_words = refl

all_digits_are_one_number : token_at (codes "0123456789..") ≡ Some (begun Number 10)
all_digits_are_one_number = refl

-- each mark before a digit
single_marks : map mark_length (codes ".7" ∷ codes "/7" ∷ codes "+7" ∷ codes "-7" ∷ codes "*7" ∷ codes "(7" ∷ codes ")7" ∷ codes ",7" ∷ codes "=7" ∷ codes "<7" ∷ codes ">7" ∷ codes "!7" ∷ codes ":7" ∷ []) ≡ Some 1 ∷ Some 1 ∷ Some 1 ∷ Some 1 ∷ Some 1 ∷ Some 1 ∷ Some 1 ∷ Some 1 ∷ Some 1 ∷ Some 1 ∷ Some 1 ∷ None ∷ None ∷ []
single_marks = refl

-- marks of two bytes, and pairs that are two marks
double_marks : map mark_length (codes ".." ∷ codes "==" ∷ codes "!=" ∷ codes "<=" ∷ codes ">=" ∷ codes "+=" ∷ codes "<<" ∷ codes "=." ∷ codes "=<" ∷ []) ≡ Some 2 ∷ Some 2 ∷ Some 2 ∷ Some 2 ∷ Some 2 ∷ Some 1 ∷ Some 1 ∷ Some 1 ∷ Some 1 ∷ []
double_marks = refl

-- a mark at the end of the bytes
last_marks : map mark_length (codes "<" ∷ codes "!" ∷ codes "" ∷ []) ≡ Some 1 ∷ None ∷ None ∷ []
last_marks = refl

-- only spaces and tabs are blanks
blanks : map is_blank (9 ∷ 10 ∷ 13 ∷ 32 ∷ 160 ∷ []) ≡ true ∷ false ∷ false ∷ true ∷ false ∷ []
blanks = refl

blanks_are_passed : after_blanks (codes "a \t b") 1 ≡ 4
blanks_are_passed = refl

-- a name may hold `-`, a number may not begin a word of the classic dialect, and an address is one
-- word
a_run_is_one_token : map third_token_at (codes "a-b c" ∷ codes "a- b" ∷ codes "1a" ∷ codes "5-3" ∷ codes "::1/128" ∷ codes "2001:db8::7" ∷ codes "8000..8099" ∷ codes "_" ∷ codes "-a" ∷ []) ≡ Some (begun Word 3) ∷ Some (begun Word 2) ∷ Some (begun Word 2) ∷ Some (begun Word 3) ∷ Some (begun Word 3) ∷ Some (begun Word 11) ∷ Some (begun Number 4) ∷ Some (begun Word 1) ∷ Some (begun Mark 1) ∷ []
a_run_is_one_token = refl

braces_are_marks : map third_token_at (codes "{80,443}" ∷ codes "}" ∷ codes "!" ∷ codes "" ∷ codes ".." ∷ []) ≡ Some (begun Mark 1) ∷ Some (begun Mark 1) ∷ None ∷ None ∷ Some (begun Mark 2) ∷ []
braces_are_marks = refl
