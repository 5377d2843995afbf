-- Examples of statements with the results of the clauses.
use Rattle.std.specs.Prelude.{◌≡◌, refl, ℕ, true, false, Some, None, List, [], ◌∷◌, ◌++◌, map, replicate, codes}
use Rattle.rank_defs.specs.declared.expression.Op.TheVariants.{Add}
use Rattle.rank_defs.specs.declared.expression.Var.TheVariants as var
use Rattle.rank_defs.specs.declared.transaction.Aim.TheVariants as aim
use Rattle.rank_defs.specs.declared.flow_group.FlowGroup.TheVariants.{FiveTuple, Source}
use Rattle.rank_defs.specs.Formulas as formula
use Rattle.rank_defs.specs.Builtins.{fifo}
use Rattle.policy_text_defs.specs.declared.attribute.Attrs.{Attrs}
use Rattle.policy_text_defs.specs.declared.queueing.Queueing.{Queueing}
use Rattle.policy_text_defs.specs.Phrase.{number, word, two}
use Rattle.policy_text_defs.specs.Settings.{no_queueing, only_packets}
use Rattle.policy_text_defs.specs.Sense.{Sense, Entry, entry, numbered, version, transaction, keep, each, push, pop, class, leaf, node}
use Rattle.policy_defs.specs.Policy.{no_marks, at_most}
use Rattle.policy_rules.specs.Names.{before, listed, leaf_classes}
use Rattle.policy_rules.specs.Clauses.{is_placed, is_declared, is_known, is_one_too_many, is_not_listed_once, has_root, has_catch_all, version_of, NeedsVersion2}
use Rattle.policy_rules.specs.Programs.{programs}
use Rattle.policy_rules.specs.Graph.{node_in}

abbrev pub nothing_set : Attrs
nothing_set = record { prio = None; weight = None; slack = None }

-- one leaf, one class, and a transaction that counts
abbrev pub counting : List Entry
counting = numbered 1 (
    version 1 ∷ class (codes "all") nothing_set [] ∷ leaf (codes "root") (codes "count") nothing_set no_queueing (codes "all" ∷ []) ∷
    transaction (codes "count") ∷ keep (codes "n") (record { low = 0; high = 9; first = 0 }) ∷
    push (codes "n") (two Add (word (codes "n")) (number 1)) ∷ push (codes "rank") (word (codes "n")) ∷ [])

pub programs-counting : programs counting ≡ record {
  keeps = record { low = 0; high = 9; first = 0 } ∷ [];
  eaches = [];
  push = record { line = 6; aim = aim.Keep 0; formula = formula.two Add (formula.variable (var.Keep 0)) (formula.number 1) } ∷ record { line = 7; aim = aim.Rank; formula = formula.variable (var.Keep 0) } ∷ [];
  pop = [];
} ∷ []
programs-counting = refl

pub is_placed-a_push_line : is_placed (before 6 counting) (push (codes "n") (number 1)) ≡ true
is_placed-a_push_line = refl

pub is_placed-a_variable_behind_a_push_line : is_placed counting (keep (codes "m") (record { low = 0; high = 9; first = 0 })) ≡ false
is_placed-a_variable_behind_a_push_line = refl

pub is_placed-a_push_line_behind_a_leaf : is_placed (before 4 counting) (push (codes "rank") (number 1)) ≡ false
is_placed-a_push_line_behind_a_leaf = refl

pub is_placed-a_second_version : is_placed counting (version 1) ≡ false
is_placed-a_second_version = refl

pub is_declared-a_builtin : is_declared [] (transaction (codes "stfq")) ≡ true
is_declared-a_builtin = refl

pub is_declared-a_variable : is_declared (before 6 counting) (each (codes "n") (record { low = 0; high = 9; first = 0 })) ≡ true
is_declared-a_variable = refl

pub is_known-another_variable : is_known counting (before 6 counting) (push (codes "n") (word (codes "m"))) ≡ false
is_known-another_variable = refl

abbrev a_transaction : Sense
a_transaction = transaction (codes "t")

abbrev a_keep : Sense
a_keep = keep (codes "k") (record { low = 0; high = 9; first = 0 })

abbrev an_each : Sense
an_each = each (codes "e") (record { low = 0; high = 9; first = 0 })

abbrev a_push : Sense
a_push = push (codes "k") (number 1)

abbrev a_pop : Sense
a_pop = pop (codes "k") (number 1)

abbrev a_class : Sense
a_class = class (codes "c") nothing_set []

abbrev a_leaf : Sense
a_leaf = leaf (codes "l") (codes "fifo") nothing_set no_queueing []

abbrev a_node : Sense
a_node = node (codes "n") (codes "fifo") nothing_set no_queueing []

-- N statements of one form
abbrev so_many : ℕ → Sense → List Entry
so_many n s = replicate n (entry 1 s)

-- a 256th class is within the limit, and a 257th isn't
pub is_one_too_many-classes : map (λ n. is_one_too_many (so_many n a_class) a_class) (255 ∷ 256 ∷ []) ≡ false ∷ true ∷ []
is_one_too_many-classes = refl

-- nodes and leaves are counted together
pub is_one_too_many-nodes_and_leaves : map (λ s. map (λ n. is_one_too_many (so_many 1000 a_leaf ++ so_many n a_node) s) (23 ∷ 24 ∷ [])) (a_leaf ∷ a_node ∷ []) ≡ replicate 2 (false ∷ true ∷ [])
is_one_too_many-nodes_and_leaves = refl

-- classes and nodes are counted separately
pub is_one_too_many-each_its_own : map (is_one_too_many (so_many 256 a_class ++ so_many 64 a_transaction)) (a_node ∷ a_leaf ∷ version 1 ∷ a_keep ∷ a_push ∷ []) ≡ replicate 5 false
is_one_too_many-each_its_own = refl

pub is_one_too_many-transactions : map (λ n. is_one_too_many (so_many n a_transaction) a_transaction) (63 ∷ 64 ∷ []) ≡ false ∷ true ∷ []
is_one_too_many-transactions = refl

-- both kinds of variables are counted together, and those of an earlier transaction aren't counted
pub is_one_too_many-variables : map (λ s. map (λ n. is_one_too_many (so_many 1 a_transaction ++ so_many 8 a_keep ++ so_many n an_each) s) (7 ∷ 8 ∷ [])) (a_keep ∷ an_each ∷ []) ≡ replicate 2 (false ∷ true ∷ [])
is_one_too_many-variables = refl

pub is_one_too_many-variables_of_another : is_one_too_many (so_many 1 a_transaction ++ so_many 16 a_keep ++ so_many 1 a_transaction) a_keep ≡ false
is_one_too_many-variables_of_another = refl

-- push and pop lines are counted together
pub is_one_too_many-assignments : map (λ s. map (λ n. is_one_too_many (so_many 1 a_transaction ++ so_many 40 a_push ++ so_many n a_pop) s) (23 ∷ 24 ∷ [])) (a_push ∷ a_pop ∷ []) ≡ replicate 2 (false ∷ true ∷ [])
is_one_too_many-assignments = refl

pub is_one_too_many-assignments_of_another : is_one_too_many (so_many 1 a_transaction ++ so_many 64 a_push ++ so_many 1 a_transaction) a_push ≡ false
is_one_too_many-assignments_of_another = refl

pub is_not_listed_once-listed_once : is_not_listed_once (listed leaf_classes counting) (class (codes "all") nothing_set []) ≡ false
is_not_listed_once-listed_once = refl

pub has_root-counting : has_root counting ≡ true
has_root-counting = refl

pub has_catch_all-counting : has_catch_all counting ≡ true
has_catch_all-counting = refl

-- one leaf with a limit of ten packets
abbrev pub limited : ℕ → List Entry
limited v = numbered 1 (version v ∷ class (codes "all") nothing_set [] ∷ leaf (codes "root") (codes "fifo") nothing_set (only_packets (Some 10)) (codes "all" ∷ []) ∷ [])

pub version_of-limited : version_of (limited 2) ≡ 2
version_of-limited = refl

pub NeedsVersion2-a_limit_in_version_1 : NeedsVersion2 (limited 1) (entry 3 (leaf (codes "root") (codes "fifo") nothing_set (only_packets (Some 10)) (codes "all" ∷ [])))
NeedsVersion2-a_limit_in_version_1 = refl

pub NeedsVersion2-a_limit_in_version_2 : ¬ NeedsVersion2 (limited 2) (entry 3 (leaf (codes "root") (codes "fifo") nothing_set (only_packets (Some 10)) (codes "all" ∷ [])))
NeedsVersion2-a_limit_in_version_2 h = cc

pub NeedsVersion2-a_limit_in_version_3 : ¬ NeedsVersion2 (limited 3) (entry 3 (leaf (codes "root") (codes "fifo") nothing_set (only_packets (Some 10)) (codes "all" ∷ [])))
NeedsVersion2-a_limit_in_version_3 h = cc

pub NeedsVersion2-a_leaf_without_a_limit : ¬ NeedsVersion2 counting (entry 3 (leaf (codes "root") (codes "count") nothing_set no_queueing (codes "all" ∷ [])))
NeedsVersion2-a_leaf_without_a_limit h = cc

-- a leaf with each setting
abbrev each_setting : Queueing
each_setting = record { packets = Some 100; bytes = Some 65536; per_flow = Some 4; by = Some Source }

pub node_in-a_leaf_with_each_setting : node_in [] (leaf (codes "l") (codes "fifo") (record { prio = Some 2; weight = Some 3; slack = Some 5 }) each_setting (codes "all" ∷ [])) ≡ Some (record {
  name = codes "l";
  using = codes "fifo";
  program = fifo;
  marks = record { prio = 2; weight = 3; slack = 5 };
  limits = record { packets = Some 100; bytes = Some 65536; per_flow = Some 4 };
  group = Source;
})
node_in-a_leaf_with_each_setting = refl

-- an inner node with a limit in packets
pub node_in-an_inner_node_with_a_limit : node_in [] (node (codes "n") (codes "fifo") nothing_set (only_packets (Some 10)) (codes "l" ∷ [])) ≡ Some (record {
  name = codes "n";
  using = codes "fifo";
  program = fifo;
  marks = no_marks;
  limits = at_most (Some 10);
  group = FiveTuple;
})
node_in-an_inner_node_with_a_limit = refl
