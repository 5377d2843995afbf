-- The numbers in tokens aren't too large.
use Rattle.policy_text_defs.proofs.Prelude.{List, ℕ, [], refl, ◌≡◌, ◌∷◌, Some, subst, Bool, true, false, None, arith, ◌≤◌, Option, cond, drop, option_map, take, leb-true, AllByRecursion, ◌&&◌, nat_le, is_numeral, number_of, Glyph, text, figure, sign, mark_of, SaysIn, SaysFromIn, Dialect, skipped, said, Mark}
use Rattle.std.specs.Str.Parse.{digits_value}
use Rattle.text_core.specs.declared.token.TokenKind.{TokenKind}
use Rattle.text_core.specs.declared.token.TokenKind.TheVariants as k
use Rattle.text_core.specs.Decimals.{max}

abbrev pub IsLexed : Glyph → Type 0
IsLexed (text w) = Unit {0}
IsLexed (figure n) = n ≤ max
IsLexed (sign m) = Unit {0}

small_case : (u v : Bool) (n m : ℕ) → nat_le n max ≡ v → cond (u && v) (Some n) None ≡ Some m → m ≤ max
small_case true true n m low e =
    let small = leb-true n max low in
    let same : n ≡ m = cc in
    omega arith
small_case true false n m low e = absurd cc
small_case false v n m low e = absurd cc

number_small : (bs : List ℕ) (m : ℕ) → number_of bs ≡ Some m → m ≤ max
number_small bs m e = small_case (is_numeral bs) (nat_le (digits_value 10 bs) max) (digits_value 10 bs) m refl e

number_lexed : (bs : List ℕ) (g : Glyph) (found : Option ℕ) → number_of bs ≡ found → option_map figure found ≡ Some g → IsLexed g
number_lexed bs g None is e = absurd cc
number_lexed bs g (Some m) is e =
    let same : figure m ≡ g = cc in
    subst IsLexed same (number_small bs m is)

mark_lexed : (g : Glyph) (found : Option Mark) → option_map sign found ≡ Some g → IsLexed g
mark_lexed g None e = absurd cc
mark_lexed g (Some m) e =
    let same : sign m ≡ g = cc in
    subst IsLexed same tt

said_lexed : (kind : TokenKind) (bs : List ℕ) (g : Glyph) → said kind bs ≡ Some g → IsLexed g
said_lexed k.Word bs g e =
    let same : text bs ≡ g = cc in
    subst IsLexed same tt
said_lexed k.Number bs g e = number_lexed bs g (number_of bs) refl e
said_lexed k.Mark bs g e = mark_lexed g (mark_of bs) e

pub SaysFrom-lexed : (d : Dialect) (bs : List ℕ) (gs : List Glyph) → SaysFromIn d bs gs → AllByRecursion IsLexed gs
SaysFrom-lexed d bs [] says = tt
SaysFrom-lexed d bs (g ∷ gs) says = (said_lexed says.0 (take says.1 bs) g says.3, SaysFrom-lexed d (skipped (drop says.1 bs)) gs says.4)

pub Says-lexed : (d : Dialect) (bs : List ℕ) (gs : List Glyph) → SaysIn d bs gs → AllByRecursion IsLexed gs
Says-lexed d bs gs says = SaysFrom-lexed d (skipped bs) gs says
