-- Limits of a node's queue.
use Rattle.std.specs.Prelude.{ℕ, ◌^◌, nat_le, Bool, false, if◌then◌else◌, Option, None, Some}
use Rattle.size_core.specs.declared.limits.Limits.{Limits}
use Rattle.size_core.specs.declared.limits.Limit.{Limit}
use Rattle.size_core.specs.declared.limits.Limit.TheVariants as limit

-- a queue with this number of entries has no room for another one
abbrev pub is_full : Option ℕ → ℕ → Bool
is_full None len = false
is_full (Some most) len = nat_le most len

-- a rank doesn't fit in this number of bits
abbrev pub is_wide : Option ℕ → ℕ → Bool
is_wide None rank = false
is_wide (Some bits) rank = nat_le (2 ^ bits) rank

-- the limit that a push of a rank passes at a queue with this number of entries
abbrev pub passes : Limits → ℕ → ℕ → Option Limit
passes limits len rank = if is_full limits.entries len then Some limit.Entries else (if is_wide limits.bits rank then Some limit.Bits else None)

-- the first of two that is there
abbrev pub first_of : {A : Type 0} → Option A → Option A → Option A
first_of None o = o
first_of (Some x) o = Some x
