-- The words of the language.
use Rattle.std.specs.Prelude.{◌≡◌, refl, ℕ, ◌-◌, ◌==◌, nat_le, Bool, true, false, not, ◌&&◌, ◌||◌, List, [], ◌∷◌, length, slice_index, map, replicate, Option, Some, None, if◌then◌else◌, codes}
use Rattle.std.specs.List.{list_all, list_any}
use Rattle.std.specs.Str.{bytes_eq}
use Rattle.text_core.specs.Tokens.{begins_word, is_word_byte, most_name}
use Rattle.rank_defs.specs.declared.expression.Op.TheVariants as op
use Rattle.policy_text_defs.specs.declared.edition.Edition.{Edition}
use Rattle.policy_text_defs.specs.declared.edition.Edition.TheVariants.{Classic, Third}
use Rattle.policy_text_defs.specs.declared.function.Function.{Function}
use Rattle.policy_text_defs.specs.declared.function.Function.TheVariants as function
use Rattle.policy_text_defs.specs.declared.keyword.Keyword.{Keyword}
use Rattle.policy_text_defs.specs.declared.keyword.Keyword.TheVariants as keyword
use Rattle.policy_text_defs.specs.declared.attribute.Attribute.{Attribute}
use Rattle.policy_text_defs.specs.declared.attribute.Attribute.TheVariants as attribute
use Rattle.rank_defs.specs.declared.flow_group.FlowGroup.{FlowGroup}
use Rattle.rank_defs.specs.declared.flow_group.FlowGroup.TheVariants.{FiveTuple, Source, Target}
use Rattle.policy_text_defs.specs.declared.queueing.Bound.{Bound}
use Rattle.policy_text_defs.specs.declared.queueing.Bound.TheVariants as bound
use Rattle.policy_text_defs.specs.declared.setting.Setting.{Setting}
use Rattle.policy_text_defs.specs.declared.setting.Setting.TheVariants as setting
use Rattle.policy_text_defs.specs.declared.condition.FieldName.{FieldName}
use Rattle.policy_text_defs.specs.declared.condition.FieldName.TheVariants as field
use Rattle.policy_text_defs.specs.declared.condition.Subject.{Subject}
use Rattle.policy_text_defs.specs.declared.condition.Subject.TheVariants as subject

-- the reserved words, which can't be names
abbrev pub reserved : List (List ℕ)
reserved =
    codes "policy" ∷ codes "transaction" ∷ codes "keep" ∷ codes "each" ∷ codes "push" ∷ codes "pop" ∷ codes "node" ∷ codes "leaf" ∷
    codes "class" ∷ codes "using" ∷ codes "children" ∷ codes "classes" ∷ codes "when" ∷ codes "and" ∷ codes "or" ∷ codes "not" ∷
    codes "min" ∷ codes "max" ∷ codes "if" ∷ codes "prio" ∷ codes "weight" ∷ codes "slack" ∷ codes "len" ∷ codes "now" ∷
    codes "rank" ∷ codes "src" ∷ codes "dst" ∷ codes "sport" ∷ codes "dport" ∷ codes "proto" ∷ codes "dscp" ∷ codes "vlan" ∷
    codes "ipv4" ∷ codes "ipv6" ∷ codes "tcp" ∷ codes "udp" ∷ codes "icmp" ∷ codes "shape" ∷ codes "limit" ∷ []

abbrev pub is_reserved : List ℕ → Bool
is_reserved w = list_any (bytes_eq w) reserved

-- a letter or `_`, then letters, digits and `_`
abbrev pub is_plain_word : List ℕ → Bool
is_plain_word w = begins_word w && list_all is_word_byte w

-- letters, digits, `_` and `-`
abbrev pub is_name_byte : ℕ → Bool
is_name_byte b = is_word_byte b || b == 45

-- the last byte is `-`
abbrev pub ends_in_dash : List ℕ → Bool
ends_in_dash w = slice_index w (length w - 1) == 45

-- a letter or `_`, then letters, digits, `_` and `-`, where the last byte isn't `-`
abbrev pub is_word : List ℕ → Bool
is_word w = begins_word w && (list_all is_name_byte w && not (ends_in_dash w))

-- a word that isn't reserved and isn't too long: a name of one of the editions
abbrev pub is_name : List ℕ → Bool
is_name w = is_word w && (nat_le (length w) most_name && not (is_reserved w))

-- the words that only the third edition reserves
abbrev pub later_reserved : List (List ℕ)
later_reserved =
    codes "flow" ∷ codes "packets" ∷ codes "bytes" ∷ codes "per" ∷ codes "by" ∷ codes "tcpflags" ∷ codes "pcp" ∷ codes "ethertype" ∷ codes "any" ∷ []

abbrev pub is_later_reserved : List ℕ → Bool
is_later_reserved w = list_any (bytes_eq w) later_reserved

-- what one edition asks of a name: the classic one has no `-` in names, and the third one reserves
-- more words
abbrev pub has_name : Edition → List ℕ → Bool
has_name Classic w = list_all is_word_byte w
has_name Third w = not (is_later_reserved w)

-- a name of this edition
abbrev pub is_name_in : Edition → List ℕ → Bool
is_name_in e w = is_name w && has_name e w

-- the reserved words that denote numbers in expressions
abbrev pub variables : List (List ℕ)
variables = codes "len" ∷ codes "now" ∷ codes "prio" ∷ codes "weight" ∷ codes "slack" ∷ codes "rank" ∷ []

abbrev pub is_variable : List ℕ → Bool
is_variable w = list_any (bytes_eq w) variables

-- a name, or one of these
abbrev pub is_operand : List ℕ → Bool
is_operand w = is_name w || is_variable w

-- a name, or `rank`
abbrev pub is_target : List ℕ → Bool
is_target w = is_name w || bytes_eq w (codes "rank")

abbrev pub some_if : Bool → List ℕ → Option (List ℕ)
some_if passes w = if passes then Some w else None

-- the word, if it passes a test
abbrev pub passing : (List ℕ → Bool) → List ℕ → Option (List ℕ)
passing test w = some_if (test w) w

-- the function that a word names
abbrev pub function_of : List ℕ → Option Function
function_of w =
    if bytes_eq w (codes "min") then Some (function.Two op.Min)
    else (if bytes_eq w (codes "max") then Some (function.Two op.Max)
    else (if bytes_eq w (codes "and") then Some (function.Two op.And)
    else (if bytes_eq w (codes "or") then Some (function.Two op.Or)
    else (if bytes_eq w (codes "not") then Some function.Not
    else (if bytes_eq w (codes "if") then Some function.If
    else None)))))

-- the word that begins a statement
abbrev pub keyword_of : List ℕ → Option Keyword
keyword_of w =
    if bytes_eq w (codes "policy") then Some keyword.Policy
    else (if bytes_eq w (codes "transaction") then Some keyword.Transaction
    else (if bytes_eq w (codes "keep") then Some keyword.Keep
    else (if bytes_eq w (codes "each") then Some keyword.Each
    else (if bytes_eq w (codes "push") then Some keyword.Push
    else (if bytes_eq w (codes "pop") then Some keyword.Pop
    else (if bytes_eq w (codes "class") then Some keyword.Class
    else (if bytes_eq w (codes "leaf") then Some keyword.Leaf
    else (if bytes_eq w (codes "node") then Some keyword.Node
    else None))))))))

-- how an attribute is written
abbrev pub attribute_word : Attribute → List ℕ
attribute_word attribute.Prio = codes "prio"
attribute_word attribute.Weight = codes "weight"
attribute_word attribute.Slack = codes "slack"

abbrev pub attribute_of : List ℕ → Option Attribute
attribute_of w =
    if bytes_eq w (codes "prio") then Some attribute.Prio
    else (if bytes_eq w (codes "weight") then Some attribute.Weight
    else (if bytes_eq w (codes "slack") then Some attribute.Slack
    else None))

abbrev pub attribute_setting : Option Attribute → Option Setting
attribute_setting None = None
attribute_setting (Some k) = Some (setting.Attribute k)

-- the setting of a leaf or node that a word begins
abbrev pub setting_of : List ℕ → Option Setting
setting_of w =
    if bytes_eq w (codes "limit") then Some setting.Limit
    else (if bytes_eq w (codes "flow") then Some setting.Flow
    else attribute_setting (attribute_of w))

-- what a limit counts whose unit begins with the word
abbrev pub bound_of : List ℕ → Option Bound
bound_of w =
    if bytes_eq w (codes "packets") then Some bound.Packets
    else (if bytes_eq w (codes "bytes") then Some bound.Bytes
    else (if bytes_eq w (codes "per") then Some bound.PerFlow
    else None))

-- by what flows are told apart if the keys are this word, or begin with it
abbrev pub group_of : List ℕ → Option FlowGroup
group_of w =
    if bytes_eq w (codes "src") then Some Source
    else (if bytes_eq w (codes "dst") then Some Target
    else (if bytes_eq w (codes "5tuple") then Some FiveTuple
    else None))

-- how a field is written
abbrev pub field_word : FieldName → List ℕ
field_word field.Vlan = codes "vlan"
field_word field.Dscp = codes "dscp"
field_word field.Proto = codes "proto"
field_word field.Sport = codes "sport"
field_word field.Dport = codes "dport"
field_word field.Len = codes "len"

-- the subject that the first word of a condition names
abbrev pub subject_of : List ℕ → Option Subject
subject_of w =
    if bytes_eq w (codes "vlan") then Some (subject.Field field.Vlan)
    else (if bytes_eq w (codes "dscp") then Some (subject.Field field.Dscp)
    else (if bytes_eq w (codes "proto") then Some (subject.Field field.Proto)
    else (if bytes_eq w (codes "sport") then Some (subject.Field field.Sport)
    else (if bytes_eq w (codes "dport") then Some (subject.Field field.Dport)
    else (if bytes_eq w (codes "len") then Some (subject.Field field.Len)
    else (if bytes_eq w (codes "src") then Some subject.Source
    else (if bytes_eq w (codes "dst") then Some subject.Dest
    else (if bytes_eq w (codes "ipv4") then Some subject.Ipv4
    else (if bytes_eq w (codes "ipv6") then Some subject.Ipv6
    else None)))))))))

-- the protocol that a word names (IANA protocol numbers)
abbrev pub protocol_of : List ℕ → Option ℕ
protocol_of w =
    if bytes_eq w (codes "tcp") then Some 6
    else (if bytes_eq w (codes "udp") then Some 17
    else (if bytes_eq w (codes "icmp") then Some 1
    else None))

-- each word of the language, listed a second time
no_word_of_the_language_is_a_name : list_any is_name (
    codes "policy" ∷ codes "transaction" ∷ codes "keep" ∷ codes "each" ∷ codes "push" ∷ codes "pop" ∷ codes "class" ∷ codes "leaf" ∷ codes "node" ∷
    codes "using" ∷ codes "classes" ∷ codes "children" ∷ codes "when" ∷ codes "limit" ∷ codes "shape" ∷
    codes "and" ∷ codes "or" ∷ codes "not" ∷ codes "min" ∷ codes "max" ∷ codes "if" ∷
    codes "prio" ∷ codes "weight" ∷ codes "slack" ∷ codes "len" ∷ codes "now" ∷ codes "rank" ∷
    codes "src" ∷ codes "dst" ∷ codes "sport" ∷ codes "dport" ∷ codes "proto" ∷ codes "dscp" ∷ codes "vlan" ∷ codes "ipv4" ∷ codes "ipv6" ∷
    codes "tcp" ∷ codes "udp" ∷ codes "icmp" ∷ []) ≡ false
no_word_of_the_language_is_a_name = refl

-- case is significant, and a name may begin or end with a word of the language
names : list_all is_name (codes "root" ∷ codes "fifo" ∷ codes "Leaf" ∷ codes "LEN" ∷ codes "leafs" ∷ codes "key" ∷ codes "min_" ∷ codes "ip" ∷ codes "icmpv6" ∷ codes "_" ∷ codes "w1" ∷ []) ≡ true
names = refl

no_names : list_any is_name (codes "" ∷ codes "1w" ∷ codes "a b" ∷ codes "-a" ∷ codes "a-" ∷ codes "a:b" ∷ []) ≡ false
no_names = refl

-- only the third edition has names with `-`, and only there these words are reserved
names_of_the_third_edition : map (is_name_in Third) (codes "a-b" ∷ codes "a--b_1" ∷ codes "a-" ∷ codes "flow" ∷ codes "flows" ∷ codes "any" ∷ codes "leaf" ∷ codes "web" ∷ []) ≡ true ∷ true ∷ false ∷ false ∷ true ∷ false ∷ false ∷ true ∷ []
names_of_the_third_edition = refl

names_of_the_classic_edition : map (is_name_in Classic) (codes "a-b" ∷ codes "flow" ∷ codes "any" ∷ codes "leaf" ∷ codes "web" ∷ []) ≡ false ∷ true ∷ true ∷ false ∷ true ∷ []
names_of_the_classic_edition = refl

no_later_word_is_a_name : list_any (is_name_in Third) later_reserved ≡ false
no_later_word_is_a_name = refl

sixty_four_bytes_are_a_name : map (λ n. is_name (replicate n 97)) (1 ∷ 64 ∷ 65 ∷ []) ≡ true ∷ true ∷ false ∷ []
sixty_four_bytes_are_a_name = refl

-- an expression may read any variable, a push may set only the rank, and a keyword is neither
operands : map is_operand (codes "vt" ∷ codes "rank" ∷ codes "len" ∷ codes "leaf" ∷ []) ≡ true ∷ true ∷ true ∷ false ∷ []
operands = refl

targets : map is_target (codes "vt" ∷ codes "rank" ∷ codes "len" ∷ codes "leaf" ∷ []) ≡ true ∷ true ∷ false ∷ false ∷ []
targets = refl

-- `by` and the units follow other words of a setting
words_of_settings : map setting_of (codes "weight" ∷ codes "limit" ∷ codes "flow" ∷ codes "by" ∷ codes "bytes" ∷ []) ≡ Some (setting.Attribute attribute.Weight) ∷ Some setting.Limit ∷ Some setting.Flow ∷ None ∷ None ∷ []
words_of_settings = refl

numbers_of_protocols : map protocol_of (codes "tcp" ∷ codes "udp" ∷ codes "icmp" ∷ codes "TCP" ∷ codes "icmpv6" ∷ []) ≡ Some 6 ∷ Some 17 ∷ Some 1 ∷ None ∷ None ∷ []
numbers_of_protocols = refl
