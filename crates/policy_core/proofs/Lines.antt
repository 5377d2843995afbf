-- The line of a node, from the remaining statements.
use Rattle.policy_core.proofs.Prelude.{List, ◌≡◌, ℕ, length, ◌<◌, Entry, node_entries, line_at}

-- among these statements, `left` nodes come before the node of the line
pub record StandsAt (entries : List Entry) (left line : ℕ) : Type 0 where
  pub within : left < length (node_entries entries)
  pub at : line_at entries left ≡ line
