-- The policy that accepted statements give.
use Rattle.std.specs.Prelude.{◌≡◌, Option, Some, None, unwrap_or, List, [], ◌∷◌, map, Any, Contains, filter_map}
use Rattle.tree_defs.specs.Tree.{Tree, leaf as leaf_of, inner, Trees, none, more, Address, LeadsToLeaf, root_of}
use Rattle.rank_defs.specs.declared.flow_group.FlowGroup.{FlowGroup}
use Rattle.rank_defs.specs.declared.flow_group.FlowGroup.TheVariants.{FiveTuple}
use Rattle.policy_text_defs.specs.declared.attribute.Attrs.{Attrs}
use Rattle.policy_text_defs.specs.declared.queueing.Queueing.{Queueing}
use Rattle.policy_text_defs.specs.declared.test.Test.{Test}
use Rattle.policy_text_defs.specs.Sense.{Sense, Entry, class, filter as filtered, leaf, node}
use Rattle.policy_defs.specs.declared.limits.Limits.{Limits}
use Rattle.policy_defs.specs.Policy.{Policy, Node, Class, Marks, no_marks, node_at}
use Rattle.policy_rules.specs.Names.{Name}
use Rattle.policy_rules.specs.Clauses.{root, version_of}
use Rattle.policy_rules.specs.Programs.{program_named}
use Rattle.policy_rules.specs.Alternatives.{alternatives_of}

-- a policy, with the conditions of its classes in order: for each class its alternatives, of which
-- one must hold; without any, each packet belongs to the class
pub record Resolved : Type 0 where
  pub policy : Policy
  pub conditions : List (List (List Test))

-- the marks that attributes set; the others have their defaults
abbrev pub marks_of : Attrs → Marks
marks_of a = record { prio = unwrap_or a.prio no_marks.prio; weight = unwrap_or a.weight no_marks.weight; slack = unwrap_or a.slack no_marks.slack }

-- the limits that a leaf or node sets
abbrev pub limits_of : Queueing → Limits
limits_of q = record { packets = q.packets; bytes = q.bytes; per_flow = q.per_flow }

-- the fields by which it groups packets into flows: all five by default
abbrev pub group_of : Queueing → FlowGroup
group_of q = unwrap_or q.by FiveTuple

-- a node has this name, this transaction and its program, the marks of these attributes, and these
-- limits and flows
pub record IsNodeOf (entries : List Entry) (n : Node) (name used : Name) (a : Attrs) (q : Queueing) : Type 0 where
  pub name_is : n.name ≡ name
  pub using_is : n.using ≡ used
  pub program_is : program_named entries used ≡ Some n.program
  pub marks_are : n.marks ≡ marks_of a
  pub limits_are : n.limits ≡ limits_of q
  pub group_is : n.group ≡ group_of q

-- the statement declares this leaf, or this inner node whose children have these names
abbrev pub IsLeafOf : List Entry → Node → Sense → Type 0
IsLeafOf entries n (leaf name used a q ns) = IsNodeOf entries n name used a q
IsLeafOf entries n s = ⊥

abbrev pub IsInnerOf : List Entry → Node → List Name → Sense → Type 0
IsInnerOf entries n names (node name used a q ns) = IsNodeOf entries n name used a q × (names ≡ ns)
IsInnerOf entries n names s = ⊥

abbrev pub names_of : Trees Node → List Name
names_of none = []
names_of (more t ts) = (root_of t).name ∷ names_of ts

-- each node of the tree is declared by a statement, and the children are in the order of their list
abbrev mutual
  pub IsTreeIn : List Entry → Tree Node → Type 0
  IsTreeIn entries (leaf_of n) = Any (λ e. IsLeafOf entries n e.1) entries
  IsTreeIn entries (inner n ts) = Any (λ e. IsInnerOf entries n (names_of ts) e.1) entries × AreTreesIn entries ts

  pub AreTreesIn : List Entry → Trees Node → Type 0
  AreTreesIn entries none = Unit {0}
  AreTreesIn entries (more t ts) = IsTreeIn entries t × AreTreesIn entries ts

-- a statement of this leaf lists the class
abbrev pub ListsClass : Name → Name → Sense → Type 0
ListsClass leaf_name class_name (leaf name used a q ns) = (name ≡ leaf_name) × Contains ns class_name
ListsClass leaf_name class_name s = ⊥

-- the leaf at the address lists the class
pub record IsLeafFor (entries : List Entry) (tree : Tree Node) (class_name : Name) (a : Address) : Type 0 where
  pub leaf_address : LeadsToLeaf tree a
  pub node_is : Node
  pub at : node_at tree a ≡ Some node_is
  pub lists : Any (λ e. ListsClass node_is.name class_name e.1) entries

-- the classes that statements declare, in order: the name, the marks and the conditions
pub record Declared : Type 0 where
  pub name : Name
  pub marks : Marks
  pub conditions : List (List Test)

abbrev pub class_in : Sense → Option Declared
class_in (class n a cs) = Some (record { name = n; marks = marks_of a; conditions = alternatives_of cs })
class_in (filtered n a ts) = Some (record { name = n; marks = marks_of a; conditions = ts })
class_in s = None

abbrev pub classes_in : List Entry → List Declared
classes_in entries = filter_map (λ e. class_in e.1) entries

-- for each class: its marks, and the leaf that lists it
abbrev pub AreClassesOf : List Entry → Tree Node → List Declared → List Class → Type 0
AreClassesOf entries tree [] [] = Unit {0}
AreClassesOf entries tree (d ∷ ds) (c ∷ cs) = (c.marks ≡ d.marks) × IsLeafFor entries tree d.name c.leaf × AreClassesOf entries tree ds cs
AreClassesOf entries tree ds cs = ⊥

-- the statements give this policy
pub record IsResolved (entries : List Entry) (r : Resolved) : Type 0 where
  pub version_is : r.policy.version ≡ version_of entries
  pub root_is : (root_of r.policy.tree).name ≡ root
  pub tree : IsTreeIn entries r.policy.tree
  pub classes : AreClassesOf entries r.policy.tree (classes_in entries) r.policy.classes
  pub conditions : r.conditions ≡ map (λ d. d.conditions) (classes_in entries)
