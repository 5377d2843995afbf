-- The leaves that queue the packets of classes.
use Rattle.std.specs.Prelude.{◌≡◌, ◌<◌, ℕ, true, if◌then◌else◌, slice_index, List, [], ◌∷◌, length, Any}
use Rattle.std.specs.List.{AllZip}
use Rattle.policy_text_defs.specs.Sense.{Entry}
use Rattle.policy_defs.specs.Policy.{Class}
use Rattle.policy_rules.specs.Names.{Name, has, class_name, declared}
use Rattle.policy_rules.specs.Programs.{place}
use Rattle.policy_rules.specs.Graph.{graph_of, nodes_in}
use Rattle.policy_rules.specs.Resolved.{Declared, ListsClass}
use Rattle.tree_graph.specs.Descent.{children}
use Rattle.tree_graph.specs.Row.{Row, row_at}
use Rattle.policy_core.specs.Labels.{node_numbered}

-- the leaf with this number, in the order of the statements, lists the class
pub record IsLeafWith (entries : List Entry) (class_name : Name) (i : ℕ) : Type 0 where
  pub within : i < length (nodes_in entries)
  pub childless : children (graph_of entries) i ≡ []
  pub lists : Any (λ e. ListsClass (node_numbered entries i).name class_name e.1) entries

-- the row with this number belongs to a leaf that lists the class
pub record IsHome (entries : List Entry) (rows : List Row) (class_name : Name) (number : ℕ) : Type 0 where
  pub within : number < length rows
  pub leaf : IsLeafWith entries class_name (row_at rows number).node

-- for each declared class, in order, the row of a leaf that lists it
abbrev pub AreHomes : List Entry → List Row → List ℕ → Type 0
AreHomes entries rows numbers = AllZip (IsHome entries rows) (declared class_name entries) numbers

-- the listed classes have the leaf, and the others are unchanged
pub record ArePut (classes listed : List Name) (leaf : ℕ) (old new : List ℕ) : Type 0 where
  pub len : length new ≡ length old
  pub put : (a : Name) → has classes a ≡ true → slice_index new (place classes a) ≡ (if has listed a then leaf else slice_index old (place classes a))

-- the declared classes, each with the address of its row
abbrev pub classes_at : List Row → List Declared → List ℕ → List Class
classes_at rows [] numbers = []
classes_at rows (d ∷ ds) [] = []
classes_at rows (d ∷ ds) (n ∷ numbers) = record { marks = d.marks; leaf = (row_at rows n).address } ∷ classes_at rows ds numbers
