-- The canonical text of conditions spells their tokens.
use Rattle.policy_text_defs.proofs.Prelude.{List, ℕ, [], refl, ◌≡◌, ◌∷◌, ◌++◌, Bool, true, false, arith, codes, ◌≤◌, cond, eqb, decimal, AllByRecursion, text, figure, sign, IsApart, octets_of, address_text, between_text, condition_text, guard_text, more_conditions_text, range_text, field_most, is_plain_word, Dialect, IsValidCondition, IsValidAddress, field_word, Condition, FieldName}
use Rattle.text_core.specs.declared.mark.Mark.TheVariants as m
use Rattle.text_core.specs.Decimals.{max}
use Rattle.policy_text_defs.specs.declared.condition.Condition.TheVariants as condition
use Rattle.policy_text_defs.specs.declared.condition.FieldName.TheVariants as field
use Rattle.policy_text_defs.proofs.Pieces.{Anything, IsPiece, join, after, before, text_blank, text_slash, text_dots, text_dot, text_word, text_number}
use Rattle.policy_text_defs.proofs.ConditionTokens.{range_tokens, address_tokens, condition_tokens, more_conditions_tokens, guard_tokens}
use Rattle.policy_text_defs.proofs.ConditionForms.{octets_are}

pub text_nothing : {d : Dialect} → IsPiece d IsApart [] []
text_nothing = record { plain = refl; says = λ rest gs end later. later }

-- a word and the space after it
pub text_key : {d : Dialect} {w : List ℕ} → is_plain_word w ≡ true → IsPiece d Anything (w ++ codes " ") (text w ∷ [])
text_key {w = w} is = join (text_word w is) (λ rest end. refl) text_blank

pub text_between : {d : Dialect} (low high : ℕ) → low ≤ max → high ≤ max → IsPiece d IsApart (between_text low high) (figure low ∷ sign m.DotDot ∷ figure high ∷ [])
text_between low high small great = before (text_number low small) refl (after text_dots (text_number high great))

text_range_case : {d : Dialect} (low high : ℕ) (v : Bool) → low ≤ max → high ≤ max → IsPiece d IsApart (cond v (decimal low) (between_text low high)) (cond v (figure low ∷ []) (figure low ∷ sign m.DotDot ∷ figure high ∷ []))
text_range_case low high true small great = text_number low small
text_range_case low high false small great = text_between low high small great

pub text_range : {d : Dialect} (low high : ℕ) → low ≤ max → high ≤ max → IsPiece d IsApart (range_text low high) (range_tokens low high)
text_range low high small great = text_range_case low high (eqb low high) small great

pub text_address : {d : Dialect} (a l : ℕ) → IsValidAddress a l → IsPiece d IsApart (address_text a l) (address_tokens a l)
text_address a l is =
    let o = octets_of a in
    let are = octets_are a is.address in
    let length_low = is.prefix in
    before (text_number o.first (omega (arith, are.first))) refl
    (before (text_dot o.second (omega (arith, are.second))) refl
    (before (text_dot o.third (omega (arith, are.third))) refl
    (before (text_dot o.fourth (omega (arith, are.fourth))) refl
    (after text_slash (text_number l (omega arith))))))

pub field_is_word : (f : FieldName) → is_plain_word (field_word f) ≡ true
field_is_word field.Vlan = refl
field_is_word field.Dscp = refl
field_is_word field.Proto = refl
field_is_word field.Sport = refl
field_is_word field.Dport = refl
field_is_word field.Len = refl

pub field_small : (f : FieldName) (n : ℕ) → n ≤ field_most f → n ≤ max
field_small field.Vlan n low = omega arith
field_small field.Dscp n low = omega arith
field_small field.Proto n low = omega arith
field_small field.Sport n low = omega arith
field_small field.Dport n low = omega arith
field_small field.Len n low = omega arith

text_condition : {d : Dialect} (c : Condition) → IsValidCondition c → IsPiece d IsApart (condition_text c) (condition_tokens c)
text_condition (condition.Field f low high) is =
    let great = field_small f high is.below in
    let ordered = is.ordered in
    before (text_word (field_word f) (field_is_word f)) refl (after text_blank (text_range low high (omega arith) great))
text_condition (condition.Source a l) is = after (text_key {w = codes "src"} refl) (text_address a l is)
text_condition (condition.Dest a l) is = after (text_key {w = codes "dst"} refl) (text_address a l is)
text_condition condition.Ipv4 is = text_word (codes "ipv4") refl
text_condition condition.Ipv6 is = text_word (codes "ipv6") refl

more_boundary : (cs : List Condition) → IsApart (more_conditions_text cs)
more_boundary [] = tt
more_boundary (c ∷ cs) = refl

text_more : {d : Dialect} (cs : List Condition) → AllByRecursion IsValidCondition cs → IsPiece d IsApart (more_conditions_text cs) (more_conditions_tokens cs)
text_more [] all = text_nothing
text_more (c ∷ cs) all = after text_blank (after (text_key {w = codes "and"} refl) (before (text_condition c all.0) (more_boundary cs) (text_more cs all.1)))

pub guard_boundary : (cs : List Condition) → IsApart (guard_text cs)
guard_boundary [] = tt
guard_boundary (c ∷ cs) = refl

pub text_guard : {d : Dialect} (cs : List Condition) → AllByRecursion IsValidCondition cs → IsPiece d IsApart (guard_text cs) (guard_tokens cs)
text_guard [] all = text_nothing
text_guard (c ∷ cs) all = after text_blank (after (text_key {w = codes "when"} refl) (before (text_condition c all.0) (more_boundary cs) (text_more cs all.1)))
