-- Words are text.
use Rattle.policy_text_defs.proofs.Prelude.{List, ℕ, [], refl, ◌≡◌, ◌∷◌, subst, Bool, true, false, sym, arith, codes, ◌≤◌, suc, zero, length, leb, ◌<◌, leb-true, eqb-true, bytes_eq-Decides, list_all, list_any, ◌&&◌, ◌||◌, ◌==◌, nat_le, not, bytes_eq, IsAscii, IsUtf8, begins_word, is_word_byte, is_name_byte, ends_in_dash, most_name, is_name, is_target, is_operand, is_variable, is_word, is_reserved, variables}
use Rattle.std.specs.Int.{is_in_range}
use Rattle.std.proofs.lemmas.Str.{IsUtf8-from_ascii}
use Rattle.policy_text_defs.proofs.TokenLaws.{both_true}

below : (low high b : ℕ) → is_in_range low high b ≡ true → b ≤ high
below low high b is = leb-true b high (both_true (leb low b) (leb b high) is).1

byte_case : (p q r s : Bool) (b : ℕ) → is_in_range 65 90 b ≡ p → is_in_range 97 122 b ≡ q → (b == 95) ≡ r → is_in_range 48 57 b ≡ s → (((p || q) || r) || s) ≡ true → b < 128
byte_case true q r s b is_p is_q is_r is_s e = omega (arith, below 65 90 b is_p)
byte_case false true r s b is_p is_q is_r is_s e = omega (arith, below 97 122 b is_q)
byte_case false false true s b is_p is_q is_r is_s e = omega (arith, eqb-true b 95 is_r)
byte_case false false false true b is_p is_q is_r is_s e = omega (arith, below 48 57 b is_s)
byte_case false false false false b is_p is_q is_r is_s e = absurd cc

word_byte_ascii : (b : ℕ) → is_word_byte b ≡ true → b < 128
word_byte_ascii b is = byte_case (is_in_range 65 90 b) (is_in_range 97 122 b) (b == 95) (is_in_range 48 57 b) b refl refl refl refl is

name_case : (u v : Bool) (b : ℕ) → is_word_byte b ≡ u → (b == 45) ≡ v → (u || v) ≡ true → b < 128
name_case true v b is_u is_v e = word_byte_ascii b is_u
name_case false true b is_u is_v e = omega (arith, eqb-true b 45 is_v)
name_case false false b is_u is_v e = absurd cc

name_byte_ascii : (b : ℕ) → is_name_byte b ≡ true → b < 128
name_byte_ascii b is = name_case (is_word_byte b) (b == 45) b refl refl is

ascii : (w : List ℕ) → list_all is_name_byte w ≡ true → IsAscii w
ascii [] all i = omega arith
ascii (b ∷ bs) all zero = name_byte_ascii b (both_true (is_name_byte b) (list_all is_name_byte bs) all).0
ascii (b ∷ bs) all (suc i) = ascii bs (both_true (is_name_byte b) (list_all is_name_byte bs) all).1 i

word_utf8 : (w : List ℕ) → is_word w ≡ true → IsUtf8 w
word_utf8 w is =
    let bytes = (both_true (begins_word w) (list_all is_name_byte w && not (ends_in_dash w)) is).1 in
    IsUtf8-from_ascii w (ascii w (both_true (list_all is_name_byte w) (not (ends_in_dash w)) bytes).0)

pub is_name_utf8 : (w : List ℕ) → is_name w ≡ true → IsUtf8 w
is_name_utf8 w is = word_utf8 w (both_true (is_word w) (nat_le (length w) most_name && not (is_reserved w)) is).0

among_case : (w u : List ℕ) (us : List (List ℕ)) (v : Bool) → bytes_eq w u ≡ v → is_word u ≡ true → (list_any (bytes_eq w) us ≡ true → IsUtf8 w) → (v || list_any (bytes_eq w) us) ≡ true → IsUtf8 w
among_case w u us true is word later e = subst IsUtf8 (sym ((bytes_eq-Decides w u).0 is)) (word_utf8 u word)
among_case w u us false is word later e = later e

-- one of a list of words is a word
among : (w : List ℕ) (us : List (List ℕ)) → list_all is_word us ≡ true → list_any (bytes_eq w) us ≡ true → IsUtf8 w
among w [] all e = absurd cc
among w (u ∷ us) all e = among_case w u us (bytes_eq w u) refl (both_true (is_word u) (list_all is_word us) all).0 (among w us (both_true (is_word u) (list_all is_word us) all).1) e

variable_utf8 : (w : List ℕ) → is_variable w ≡ true → IsUtf8 w
variable_utf8 w e = among w variables refl e

either_utf8 : (u v : Bool) (w : List ℕ) → (u ≡ true → IsUtf8 w) → (v ≡ true → IsUtf8 w) → (u || v) ≡ true → IsUtf8 w
either_utf8 true v w left right e = left refl
either_utf8 false v w left right e = right e

pub is_operand_utf8 : (w : List ℕ) → is_operand w ≡ true → IsUtf8 w
is_operand_utf8 w = either_utf8 (is_name w) (is_variable w) w (is_name_utf8 w) (variable_utf8 w)

rank_utf8 : (w : List ℕ) → bytes_eq w (codes "rank") ≡ true → IsUtf8 w
rank_utf8 w is = subst IsUtf8 (sym ((bytes_eq-Decides w (codes "rank")).0 is)) (word_utf8 (codes "rank") refl)

pub is_target_utf8 : (w : List ℕ) → is_target w ≡ true → IsUtf8 w
is_target_utf8 w = either_utf8 (is_name w) (bytes_eq w (codes "rank")) w (is_name_utf8 w) (rank_utf8 w)
