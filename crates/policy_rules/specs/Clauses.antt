-- The clauses that a single statement can fail, each over the whole list.
use Rattle.std.specs.Prelude.{ℕ, ◌≡◌, ◌≤◌, ◌==◌, nat_le, Bool, true, false, not, ◌&&◌, ◌||◌, IsTrue, Option, Some, None, MatchOption, is_some, List, [], ◌∷◌, length, filter, All, Any, codes}
use Rattle.std.specs.List.{list_all}
use Rattle.std.specs.Option.{option_map_or}
use Rattle.std.specs.Str.{bytes_eq}
use Rattle.tree_defs.specs.Tree.{most_nodes}
use Rattle.rank_defs.specs.Builtins.{builtin}
use Rattle.policy_text_defs.specs.Words.{is_variable}
use Rattle.policy_text_defs.specs.Phrase.{Phrase, number, word, two, negation, choice}
use Rattle.policy_text_defs.specs.Sense.{Sense, Entry, version, transaction, keep, each, push, pop, class, filter as filtered, leaf, node}
use Rattle.policy_rules.specs.Names.{Name, has, is_once, transaction_name, class_name, node_name, variable_name, declared, children, leaf_classes, listed, before}
use Rattle.policy_rules.specs.Bodies.{stage, is_body, is_assignment, open_body}

-- n is the number of a line in error, and no line in error has a lower one
pub record IsLeastLine (Fails : Entry → Type 0) (entries : List Entry) (n : ℕ) : Type 0 where
  pub there : Any (λ e. Fails e × (e.0 ≡ n)) entries
  pub least : All (λ e. Fails e → n ≤ e.0) entries

abbrev pub NoLine : (Entry → Type 0) → List Entry → Type 0
NoLine Fails entries = All (λ e. ¬ Fails e) entries

-- the first line in error, if there is one
abbrev pub IsFirstLine : (Entry → Type 0) → List Entry → Option ℕ → Type 0
IsFirstLine Fails entries found = MatchOption found (NoLine Fails entries) (IsLeastLine Fails entries)

-- ---- 1: a statement is out of order
abbrev pub is_version : Sense → Bool
is_version (version v) = true
is_version s = false

-- the last statement, if there is one
abbrev pub last_of : List Entry → Option Entry
last_of [] = None
last_of (e ∷ []) = Some e
last_of (e ∷ f ∷ es) = last_of (f ∷ es)

-- a line of a body may follow a line of the same or an earlier stage
abbrev pub may_follow : Option ℕ → Option ℕ → Bool
may_follow (Some earlier) (Some own) = nat_le earlier own
may_follow None (Some own) = false
may_follow earlier None = true

-- `policy` is the first statement and no other. A line of a body directly follows its transaction's
-- line or another line of the body. Variables come before push lines, and push lines before pop
-- lines.
abbrev pub is_placed : List Entry → Sense → Bool
is_placed [] s = is_version s
is_placed (e ∷ es) s = not (is_version s) && (not (is_body s) || may_follow (option_map_or (λ f. stage f.1) (last_of (e ∷ es)) None) (stage s))

abbrev pub IsMisplaced : List Entry → Entry → Type 0
IsMisplaced entries e = IsTrue (not (is_placed (before e.0 entries) e.1))

-- ---- 2: a name declared on an earlier line of its space, or a transaction with a built-in name
abbrev pub is_declared : List Entry → Sense → Bool
is_declared earlier (version v) = false
is_declared earlier (transaction n) = is_some (builtin n) || has (declared transaction_name earlier) n
is_declared earlier (keep n s) = has (declared variable_name (open_body earlier)) n
is_declared earlier (each n s) = has (declared variable_name (open_body earlier)) n
is_declared earlier (push n t) = false
is_declared earlier (pop n t) = false
is_declared earlier (class n a cs) = has (declared class_name earlier) n
is_declared earlier (filtered n a ts) = has (declared class_name earlier) n
is_declared earlier (leaf n u a q ns) = has (declared node_name earlier) n
is_declared earlier (node n u a q ns) = has (declared node_name earlier) n

abbrev pub IsRepeated : List Entry → Entry → Type 0
IsRepeated entries e = IsTrue (is_declared (before e.0 entries) e.1)

-- ---- 3: a name that isn't declared
-- each word of an expression is a number of the packet, its class or its path, or one of these
-- variables
abbrev pub are_operands_known : List Name → Phrase → Bool
are_operands_known variables (number n) = true
are_operands_known variables (word w) = is_variable w || has variables w
are_operands_known variables (two op a b) = are_operands_known variables a && are_operands_known variables b
are_operands_known variables (negation a) = are_operands_known variables a
are_operands_known variables (choice c a b) = are_operands_known variables c && (are_operands_known variables a && are_operands_known variables b)

abbrev pub is_transaction_known : List Entry → Name → Bool
is_transaction_known entries n = is_some (builtin n) || has (declared transaction_name entries) n

-- the names that a statement uses are declared; the variables are those of its body, declared
-- before its push and pop lines
abbrev pub is_known : List Entry → List Entry → Sense → Bool
is_known entries earlier (push n t) =
    (bytes_eq n (codes "rank") || has (declared variable_name (open_body earlier)) n) && are_operands_known (declared variable_name (open_body earlier)) t
is_known entries earlier (pop n t) =
    has (declared variable_name (open_body earlier)) n && are_operands_known (declared variable_name (open_body earlier)) t
is_known entries earlier (leaf n u a q ns) = is_transaction_known entries u && list_all (has (declared class_name entries)) ns
is_known entries earlier (node n u a q ns) = is_transaction_known entries u && list_all (has (declared node_name entries)) ns
is_known entries earlier s = true

abbrev pub IsUnknown : List Entry → Entry → Type 0
IsUnknown entries e = IsTrue (not (is_known entries (before e.0 entries) e.1))

-- ---- 4: one too many
abbrev pub most_classes : ℕ
most_classes = 256

abbrev pub most_transactions : ℕ
most_transactions = 64

abbrev pub most_variables : ℕ
most_variables = 16

abbrev pub most_assignments : ℕ
most_assignments = 64

-- the number of assignments in a body
abbrev pub assignments_in : List Entry → ℕ
assignments_in body = length (filter (λ e. is_assignment e.1) body)

-- the limit was already reached on earlier lines
abbrev pub is_one_too_many : List Entry → Sense → Bool
is_one_too_many earlier (version v) = false
is_one_too_many earlier (transaction n) = length (declared transaction_name earlier) == most_transactions
is_one_too_many earlier (keep n s) = length (declared variable_name (open_body earlier)) == most_variables
is_one_too_many earlier (each n s) = length (declared variable_name (open_body earlier)) == most_variables
is_one_too_many earlier (push n t) = assignments_in (open_body earlier) == most_assignments
is_one_too_many earlier (pop n t) = assignments_in (open_body earlier) == most_assignments
is_one_too_many earlier (class n a cs) = length (declared class_name earlier) == most_classes
is_one_too_many earlier (filtered n a ts) = length (declared class_name earlier) == most_classes
is_one_too_many earlier (leaf n u a q ns) = length (declared node_name earlier) == most_nodes
is_one_too_many earlier (node n u a q ns) = length (declared node_name earlier) == most_nodes

abbrev pub IsOneTooMany : List Entry → Entry → Type 0
IsOneTooMany entries e = IsTrue (is_one_too_many (before e.0 entries) e.1)

-- ---- 8 and 9: parents, and the root
abbrev pub root : Name
root = codes "root"

-- a node or leaf that isn't the root is not listed exactly once
abbrev pub is_orphan : List Name → Sense → Bool
is_orphan all s = option_map_or (λ n. not (bytes_eq n root) && not (is_once all n)) (node_name s) false

abbrev pub IsOrphan : List Entry → Entry → Type 0
IsOrphan entries e = IsTrue (is_orphan (listed children entries) e.1)

abbrev pub has_root : List Entry → Bool
has_root entries = has (declared node_name entries) root

-- ---- 12 and 13: the leaf of a class, and the class for all packets
-- a class is not listed by leaves exactly once
abbrev pub is_not_listed_once : List Name → Sense → Bool
is_not_listed_once all s = option_map_or (λ n. not (is_once all n)) (class_name s) false

abbrev pub IsNotListedOnce : List Entry → Entry → Type 0
IsNotListedOnce entries e = IsTrue (is_not_listed_once (listed leaf_classes entries) e.1)

-- whether the last class, if there is one, has no condition; `found` is the result so far
abbrev pub has_catch_all_behind : Bool → List Entry → Bool
has_catch_all_behind found [] = found
has_catch_all_behind found ((n, class c a []) ∷ es) = has_catch_all_behind true es
has_catch_all_behind found ((n, filtered c a []) ∷ es) = has_catch_all_behind true es
has_catch_all_behind found ((n, class c a (x ∷ cs)) ∷ es) = has_catch_all_behind false es
has_catch_all_behind found ((n, filtered c a (x ∷ cs)) ∷ es) = has_catch_all_behind false es
has_catch_all_behind found (e ∷ es) = has_catch_all_behind found es

abbrev pub has_catch_all : List Entry → Bool
has_catch_all entries = has_catch_all_behind false entries

-- ---- 14: a limit in version 1, which has none
-- the version that the first statement gives, or 0
abbrev pub version_of : List Entry → ℕ
version_of ((n, version v) ∷ es) = v
version_of es = 0

abbrev pub has_limit : Sense → Bool
has_limit (leaf n u a q ns) = is_some q.packets
has_limit s = false

abbrev pub NeedsVersion2 : List Entry → Entry → Type 0
NeedsVersion2 entries e = IsTrue (version_of entries == 1 && has_limit e.1)
