-- The names that statements declare and list. A name is its bytes.
use Rattle.std.specs.Prelude.{ℕ, nat_lt, nat_eq, Bool, Option, Some, None, List, [], filter, count_by, filter_map, flat_map}
use Rattle.std.specs.List.{list_any}
use Rattle.std.specs.Str.{bytes_eq}
use Rattle.policy_text_defs.specs.Sense.{Sense, Entry, transaction, keep, each, class, filter as filtered, leaf, node}

abbrev pub Name : Type 0
Name = List ℕ

-- whether a name is among the names
abbrev pub has : List Name → Name → Bool
has names a = list_any (bytes_eq a) names

-- how often a name occurs
abbrev pub times : List Name → Name → ℕ
times names a = count_by (bytes_eq a) names

-- whether a name occurs exactly once
abbrev pub is_once : List Name → Name → Bool
is_once names a = nat_eq (times names a) 1

-- ---- the spaces: transactions; classes; nodes and leaves together; a transaction's variables
abbrev pub transaction_name : Sense → Option Name
transaction_name (transaction n) = Some n
transaction_name s = None

abbrev pub class_name : Sense → Option Name
class_name (class n a cs) = Some n
class_name (filtered n a ts) = Some n
class_name s = None

abbrev pub node_name : Sense → Option Name
node_name (leaf n u a q ns) = Some n
node_name (node n u a q ns) = Some n
node_name s = None

-- a variable of the node, and one of each child or flow
abbrev pub keep_name : Sense → Option Name
keep_name (keep n s) = Some n
keep_name s = None

abbrev pub each_name : Sense → Option Name
each_name (each n s) = Some n
each_name s = None

abbrev pub variable_name : Sense → Option Name
variable_name (keep n s) = Some n
variable_name (each n s) = Some n
variable_name s = None

-- the names that statements declare in a space, in order
abbrev pub declared : (Sense → Option Name) → List Entry → List Name
declared space entries = filter_map (λ e. space e.1) entries

-- ---- the names that statements list
abbrev pub children : Sense → List Name
children (node n u a q ns) = ns
children s = []

abbrev pub leaf_classes : Sense → List Name
leaf_classes (leaf n u a q ns) = ns
leaf_classes s = []

-- all names that statements list, as often as they list them
abbrev pub listed : (Sense → List Name) → List Entry → List Name
listed names entries = flat_map (λ e. names e.1) entries

-- the statements on earlier lines
abbrev pub before : ℕ → List Entry → List Entry
before n entries = filter (λ e. nat_lt e.0 n) entries
