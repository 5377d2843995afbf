-- Names, operands and targets are words.
use Rattle.policy_text_defs.proofs.Prelude.{List, ℕ, [], refl, ◌≡◌, ◌∷◌, subst, Bool, true, false, sym, codes, length, bytes_eq-Decides, list_all, list_any, ◌&&◌, ◌||◌, nat_le, not, bytes_eq, most_name, is_name, is_target, is_operand, is_variable, is_word, is_reserved, variables}
use Rattle.policy_text_defs.proofs.TokenLaws.{both_true}

abbrev IsWord : List ℕ → Type 0
IsWord w = is_word w ≡ true

pub name_is_word : (w : List ℕ) → is_name w ≡ true → is_word w ≡ true
name_is_word w is = (both_true (is_word w) (nat_le (length w) most_name && not (is_reserved w)) is).0

same_word : (w u : List ℕ) → bytes_eq w u ≡ true → IsWord u → IsWord w
same_word w u same is = subst IsWord (sym ((bytes_eq-Decides w u).0 same)) is

either : (u v : Bool) (w : List ℕ) → (u ≡ true → IsWord w) → (v ≡ true → IsWord w) → u || v ≡ true → IsWord w
either true v w left right e = left refl
either false v w left right e = right e

-- one of a list of words is a word
among : (w : List ℕ) (us : List (List ℕ)) → list_all is_word us ≡ true → list_any (bytes_eq w) us ≡ true → IsWord w
among w [] all e = absurd cc
among w (u ∷ us) all e =
    let both = both_true (is_word u) (list_all is_word us) all in
    either (bytes_eq w u) (list_any (bytes_eq w) us) w (λ same. same_word w u same both.0) (among w us both.1) e

pub operand_is_word : (w : List ℕ) → is_operand w ≡ true → is_word w ≡ true
operand_is_word w is = either (is_name w) (is_variable w) w (name_is_word w) (among w variables refl) is

pub target_is_word : (w : List ℕ) → is_target w ≡ true → is_word w ≡ true
target_is_word w is = either (is_name w) (bytes_eq w (codes "rank")) w (name_is_word w) (λ same. same_word w (codes "rank") same refl) is
