-- The state that passes keep about earlier statements.
use Rattle.std.specs.Prelude.{◌≡◌, ◌+◌, ◌++◌, ◌∷◌, [], ℕ, Bool, false, not, ◌&&◌, ◌||◌, Option, Some, None, List, length, option_map}
use Rattle.policy_text_defs.specs.Sense.{Sense, Entry, entry}
use Rattle.policy_rules.specs.declared.spaces.Spaces.{Spaces}
use Rattle.policy_rules.specs.declared.room.Room.{Room}
use Rattle.policy_rules.specs.Names.{Name, has, transaction_name, class_name, node_name, variable_name, declared}
use Rattle.policy_rules.specs.Bodies.{stage, is_body, open_body}
use Rattle.policy_rules.specs.Clauses.{is_version, may_follow, last_of, most_classes, most_transactions, most_variables, most_assignments, assignments_in, is_declared}
use Rattle.tree_defs.specs.Tree.{most_nodes}

-- the last statement, if there is one
abbrev pub last_sense : List Entry → Option Sense
last_sense entries = option_map (λ e. e.1) (last_of entries)

-- whether a statement may follow another, or come first
abbrev pub is_placed_behind : Option Sense → Sense → Bool
is_placed_behind None s = is_version s
is_placed_behind (Some last) s = not (is_version s) && (not (is_body s) || may_follow (stage last) (stage s))

-- the names that all statements declare in the three spaces
pub record AreSpaces (entries : List Entry) (spaces : Spaces) : Type 0 where
  pub transactions_are : spaces.transactions ≡ declared transaction_name entries
  pub classes_are : spaces.classes ≡ declared class_name entries
  pub nodes_are : spaces.nodes ≡ declared node_name entries

-- the spaces after one more statement, whose name is new
abbrev pub AreSpacesAfter : Spaces → Sense → Spaces → Type 0
AreSpacesAfter before s after =
    (earlier : List Entry) (line : ℕ) → AreSpaces earlier before → is_declared earlier s ≡ false → AreSpaces (earlier ++ entry line s ∷ []) after

-- the variables of the last transaction
abbrev pub open_variables : List Entry → List Name
open_variables entries = declared variable_name (open_body entries)

-- a name is among these variables exactly if the last transaction declares it
abbrev pub AreVariables : List Entry → List Name → Type 0
AreVariables entries variables = (n : Name) → has variables n ≡ has (open_variables entries) n

-- the variables after one more statement
abbrev pub AreVariablesAfter : List Name → Sense → List Name → Type 0
AreVariablesAfter before s after = (earlier : List Entry) (line : ℕ) → AreVariables earlier before → AreVariables (earlier ++ entry line s ∷ []) after

-- how many more are allowed; variables and assignments are counted in the last transaction
pub record IsRoom (entries : List Entry) (room : Room) : Type 0 where
  pub for_classes : length (declared class_name entries) + room.classes ≡ most_classes
  pub for_nodes : length (declared node_name entries) + room.nodes ≡ most_nodes
  pub for_transactions : length (declared transaction_name entries) + room.transactions ≡ most_transactions
  pub for_variables : length (open_variables entries) + room.variables ≡ most_variables
  pub for_assignments : assignments_in (open_body entries) + room.assignments ≡ most_assignments

-- the room after one more statement within the limits
abbrev pub IsRoomAfter : Room → Sense → Room → Type 0
IsRoomAfter before s after = (earlier : List Entry) (line : ℕ) → IsRoom earlier before → IsRoom (earlier ++ entry line s ∷ []) after
