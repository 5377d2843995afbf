-- The memory of queues that are as deep as they have to be.
use Rattle.std.specs.Prelude.{ℕ, ◌+◌, ◌*◌, ◌-◌, ◌^◌, min, List}
use Rattle.std.specs.List.{sum_by}
use Rattle.size_core.specs.declared.memory.Widths.{Widths}
use Rattle.size_core.specs.declared.size.NodeSize.{NodeSize}

-- the bits of a queue that is as deep as the node's maximum number of entries
abbrev pub queue_bits : Widths → NodeSize → ℕ
queue_bits w n = n.most * (w.rank + w.entry)

-- the bits of all queues together, or 2^128 - 1 if that is less
abbrev pub memory_of : Widths → List NodeSize → ℕ
memory_of w ns = min (sum_by (queue_bits w) ns) (2 ^ 128 - 1)
