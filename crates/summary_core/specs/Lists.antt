-- Lists by index.
use Rattle.std.specs.Prelude.{ℕ, unwrap_or, Vec, List, []}
use Rattle.std.specs.declared.alloc.Global.{Global}
use Rattle.summary_core.specs.Summing.{items_at}

-- the list at an index, or no delay if there is none
abbrev pub list_at : List (Vec ℕ Global) → ℕ → List ℕ
list_at lists i = unwrap_or (items_at lists i) []
