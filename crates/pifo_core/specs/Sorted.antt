-- The invariant of a queue kept in dequeue order.
use Rattle.std.specs.Prelude.{ℕ, List}
use Rattle.tree_defs.specs.Queue.{Queue}
use Rattle.pifo_core.specs.declared.held.Held.{Held}
use Rattle.pifo_core.specs.Held.{InLeavingOrder, ArrivedBefore}

-- the part of a queue that contracts see
pub record Contents : Type 0 where
  pub entries : Queue
  pub pushes : ℕ
  pub spare : ℕ

pub record IsKept (held : List Held) (pushed : ℕ) : Type 0 where
  pub in_order : InLeavingOrder held
  pub earlier : ArrivedBefore pushed held
