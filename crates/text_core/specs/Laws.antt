-- The laws that follow from the definitions.
use Rattle.std.specs.Prelude.{◌≡◌, ◌↔◌, ◌<◌, ◌≤◌, ℕ, Bool, true, false, List, [], ◌∷◌, length, take, drop, Some, decimal}
use Rattle.std.specs.List.{list_all}
use Rattle.text_core.specs.declared.token.TokenKind.{TokenKind}
use Rattle.text_core.specs.declared.token.TokenKind.TheVariants as k
use Rattle.text_core.specs.declared.token.Token.{Token}
use Rattle.text_core.specs.declared.mark.Mark.{Mark}
use Rattle.text_core.specs.Decimals.{max, is_numeral, number_of}
use Rattle.text_core.specs.Glyphs.{Glyph}
use Rattle.text_core.specs.Marks.{mark_text, is_classic}
use Rattle.text_core.specs.Says.{Says, AreSaid}
use Rattle.text_core.specs.Tokens.{is_digit, is_word_byte, is_run_start, is_run_byte, begins_word, token_at, third_token_at, begun, Stand}

-- the bytes are a token: a letter or `_`, then letters, digits and `_`; or digits; or one of the 16
-- marks
abbrev pub IsToken : TokenKind → List ℕ → Type 0
IsToken k.Word bytes = (begins_word bytes ≡ true) × (list_all is_word_byte bytes ≡ true)
IsToken k.Number bytes = is_numeral bytes ≡ true
IsToken k.Mark bytes = (mark : Mark) × (bytes ≡ mark_text mark) × (is_classic mark ≡ true)

-- the first n bytes are a token, no longer prefix is one, and no letter or `_` follows a number
pub record BeginsWith (bytes : List ℕ) (kind : TokenKind) (n : ℕ) : Type 0 where
  pub inside : n ≤ length bytes
  pub token : IsToken kind (take n bytes)
  pub longest : (other : TokenKind) (m : ℕ) → n < m → m ≤ length bytes → ¬ IsToken other (take m bytes)
  pub apart : kind ≡ k.Number → begins_word (drop n bytes) ≡ false

-- a token begins the bytes exactly if this holds
abbrev pub LongestTokenIsTaken : Type 0
LongestTokenIsTaken = (bytes : List ℕ) (kind : TokenKind) (n : ℕ) → (token_at bytes ≡ Some (begun kind n)) ↔ BeginsWith bytes kind n

-- the first byte is a letter, a digit, `_` or `:`
abbrev pub begins_run : List ℕ → Bool
begins_run [] = false
begins_run (b ∷ bs) = is_run_start b

-- the bytes are a token of the third dialect: a letter, a digit, `_` or `:`, and then these and `-`,
-- where not all are digits; or digits; or a mark
abbrev pub IsThirdToken : TokenKind → List ℕ → Type 0
IsThirdToken k.Word bytes = (begins_run bytes ≡ true) × (list_all is_run_byte bytes ≡ true) × (list_all is_digit bytes ≡ false)
IsThirdToken k.Number bytes = is_numeral bytes ≡ true
IsThirdToken k.Mark bytes = (mark : Mark) × (bytes ≡ mark_text mark)

-- the first n bytes are such a token, and no longer prefix is one
pub record BeginsThird (bytes : List ℕ) (kind : TokenKind) (n : ℕ) : Type 0 where
  pub inside : n ≤ length bytes
  pub token : IsThirdToken kind (take n bytes)
  pub longest : (other : TokenKind) (m : ℕ) → n < m → m ≤ length bytes → ¬ IsThirdToken other (take m bytes)

-- a token of the third dialect begins the bytes exactly if this holds
abbrev pub LongestRunIsTaken : Type 0
LongestRunIsTaken = (bytes : List ℕ) (kind : TokenKind) (n : ℕ) → (third_token_at bytes ≡ Some (begun kind n)) ↔ BeginsThird bytes kind n

abbrev pub BytesSayOneList : Type 0
BytesSayOneList = (bytes : List ℕ) (gs hs : List Glyph) → Says bytes gs → Says bytes hs → gs ≡ hs

-- tokens that cover a line to its end have the same meaning as its bytes
abbrev pub TokensSayTheLine : Type 0
TokensSayTheLine = (line : List ℕ) (ts : List Token) (gs : List Glyph) → Stand line 0 ts (length line) → AreSaid line ts gs ↔ Says line gs

-- a number printed in decimal reads back as the same number
abbrev pub PrintedNumberReadsBack : Type 0
PrintedNumberReadsBack = (n : ℕ) → n ≤ max → number_of (decimal n) ≡ Some n
