-- The values that a table of flows keeps.
use Rattle.std.specs.Prelude.{ℕ, List, Vec, Option, Some, None, option_map, slice_get}
use Rattle.std.specs.declared.alloc.Global.{Global}
use Rattle.std.specs.Map.{lookup}
use Rattle.rank_defs.specs.declared.environment.FlowKey.{FlowKey}
use Rattle.rank_core.specs.declared.flows.FlowTable.{FlowTable}
use Rattle.rank_core.specs.FlowKeys.{has_key}

-- the numbers of a vector
abbrev pub items_of : Vec ℕ Global → List ℕ
items_of v = v.items

-- the values at an index, if it is known
abbrev pub numbers_at : List (Vec ℕ Global) → Option ℕ → Option (List ℕ)
numbers_at numbers None = None
numbers_at numbers (Some i) = option_map items_of (slice_get numbers i)

-- the index of a flow
abbrev pub place_of : FlowTable → FlowKey → Option ℕ
place_of t f = lookup (has_key f) t.places.entries

-- the values kept for a flow
abbrev pub numbers_of : FlowTable → FlowKey → Option (List ℕ)
numbers_of t f = numbers_at t.numbers.items (place_of t f)
