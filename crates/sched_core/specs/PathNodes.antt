-- The nodes on the paths of a policy's classes, as the code has them.
use Rattle.std.specs.Prelude.{◌≡◌, ◌+◌, ℕ, List, [], ◌∷◌, Option, Some, None, length, slice_get, take, drop}
use Rattle.std.specs.Coded.{Coded, Coded-set, coded_ℕ, coded_option, coded_list}
use Rattle.tree_defs.specs.Tree.{Tree, leaf, inner, root_of}
use Rattle.rank_defs.specs.declared.expression.Var.TheVariants.{Prio, Weight, Slack}
use Rattle.rank_defs.specs.declared.transaction.Aim.{Aim}
use Rattle.rank_defs.specs.declared.transaction.Aim.TheVariants.{Rank}
use Rattle.rank_defs.specs.Formulas.{Formula, variable}
use Rattle.rank_defs.specs.declared.flow_group.FlowGroup.{FlowGroup}
use Rattle.rank_defs.specs.contracts.flow_group.FlowGroup as group_row
use Rattle.rank_defs.specs.Programs.{Assignment, Program, program_of}
use Rattle.rank_core.specs.Forms.{IsForm, IsForm-prop}
use Rattle.range_core.specs.Codes.{program_code}
use Rattle.policy_defs.specs.Policy.{Policy, Node, Class, Marks, limits_at, group_at}
use Rattle.policy_defs.specs.Numbers.{number_at}
use Rattle.policy_core.specs.Codes.{marks_code}
use Rattle.policy_core.specs.Parts.{told}
use Rattle.sched_defs.specs.Visits.{child_marks}
use Rattle.sched_core.specs.declared.path_node.PathNode.{PathNode}
use Rattle.sched_core.specs.declared.path_node.ClassPath.{ClassPath}
use Rattle.sched_core.specs.Kept.{part_at}

-- the marks that a step gets, if the path of a class follows these digits from the root of this
-- part
abbrev pub marks_on : Tree Node → List ℕ → Class → Marks
marks_on (leaf n) digits c = c.marks
marks_on (inner n ts) [] c = c.marks
marks_on (inner n ts) (i ∷ digits) c = child_marks ts i

-- the rank of a push step whose one line gives a mark
abbrev pub mark_told : Aim → Formula → Marks → Option ℕ
mark_told Rank (variable Prio) m = Some m.prio
mark_told Rank (variable Weight) m = Some m.weight
mark_told Rank (variable Slack) m = Some m.slack
mark_told aim formula m = None

-- the rank of a push step, if marks alone determine it and the step does nothing else
abbrev pub rank_told : List Assignment → Marks → Option ℕ
rank_told [] m = Some 0
rank_told (a ∷ []) m = mark_told a.aim a.formula m
rank_told (a ∷ b ∷ rest) m = None

-- the program of a node on the path
abbrev pub program_at : PathNode → Program
program_at s = program_of s.transaction.now

-- how a group is stored as a ghost value
abbrev pub group_code : Coded FlowGroup
group_code = group_row.the_row.coded

-- the entry for the node at a level of a class's path; the root's level is 0
pub record IsPathNode (tree : Tree Node) (c : Class) (level : ℕ) (s : PathNode) : Type 0 where
  pub node : s.node ≡ number_at tree (take level c.leaf)
  pub program : program_at s ≡ (root_of (part_at tree (take level c.leaf))).program
  pub group : s.group ≡ (root_of (part_at tree (take level c.leaf))).group
  pub marks : told s.marks ≡ marks_on (part_at tree (take level c.leaf)) (drop level c.leaf) c
  pub rank : s.told ≡ rank_told (program_at s).push (told s.marks)
  pub push_form : IsForm (program_at s) (program_at s).push s.push
  pub pop_form : IsForm (program_at s) (program_at s).pop s.pop

-- one entry for each node on the path
pub record ArePathNodes (tree : Tree Node) (c : Class) (path_nodes : List PathNode) : Type 0 where
  pub count : length path_nodes ≡ length c.leaf + 1
  pub each : (level : ℕ) (s : PathNode) → slice_get path_nodes level ≡ Some s → IsPathNode tree c level s

-- what the events of a class need
pub record IsClassPath (policy : Policy) (c : Class) (k : ClassPath) : Type 0 where
  pub leaf : k.leaf ≡ number_at policy.tree c.leaf
  pub limit : k.limit ≡ (limits_at policy c.leaf).packets
  pub group : k.group ≡ group_at policy c.leaf
  pub digits : k.digits.now ≡ c.leaf
  pub nodes : ArePathNodes policy.tree c k.nodes.items

-- the same for each class
pub record AreWays (policy : Policy) (paths : List ClassPath) : Type 0 where
  pub count : length paths ≡ length policy.classes
  pub each : (i : ℕ) (c : Class) (k : ClassPath) → slice_get policy.classes i ≡ Some c → slice_get paths i ≡ Some k → IsClassPath policy c k

IsPathNode-prop : (tree : Tree Node) (c : Class) (level : ℕ) (s : PathNode) → IsProp (IsPathNode tree c level s)
IsPathNode-prop tree c level s a b i = record {
  node = Coded-set coded_ℕ _ _ a.node b.node i;
  program = Coded-set program_code _ _ a.program b.program i;
  group = Coded-set group_code _ _ a.group b.group i;
  marks = Coded-set marks_code _ _ a.marks b.marks i;
  rank = Coded-set (coded_option coded_ℕ) _ _ a.rank b.rank i;
  push_form = IsForm-prop (program_at s) (program_at s).push s.push a.push_form b.push_form i;
  pop_form = IsForm-prop (program_at s) (program_at s).pop s.pop a.pop_form b.pop_form i;
}

ArePathNodes-prop : (tree : Tree Node) (c : Class) (path_nodes : List PathNode) → IsProp (ArePathNodes tree c path_nodes)
ArePathNodes-prop tree c path_nodes a b i = record {
  count = Coded-set coded_ℕ _ _ a.count b.count i;
  each = λ level s at. IsPathNode-prop tree c level s (a.each level s at) (b.each level s at) i;
}

IsClassPath-prop : (policy : Policy) (c : Class) (k : ClassPath) → IsProp (IsClassPath policy c k)
IsClassPath-prop policy c k a b i = record {
  leaf = Coded-set coded_ℕ _ _ a.leaf b.leaf i;
  limit = Coded-set (coded_option coded_ℕ) _ _ a.limit b.limit i;
  group = Coded-set group_code _ _ a.group b.group i;
  digits = Coded-set (coded_list coded_ℕ) _ _ a.digits b.digits i;
  nodes = ArePathNodes-prop policy.tree c k.nodes.items a.nodes b.nodes i;
}

-- all proofs of it are equal
pub AreWays-prop : (policy : Policy) (paths : List ClassPath) → IsProp (AreWays policy paths)
AreWays-prop policy paths a b i = record {
  count = Coded-set coded_ℕ _ _ a.count b.count i;
  each = λ n c k known kept. IsClassPath-prop policy c k (a.each n c k known kept) (b.each n c k known kept) i;
}
