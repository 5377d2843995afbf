-- The taps of this crate as a kind and a state.
use Rattle.std.specs.Prelude.{ℕ, List, [], ◌∷◌}
use Rattle.tap_core.specs.declared.kinds.TapKind.{TapKind}
use Rattle.tap_core.specs.declared.kinds.TapKind.TheVariants.{First}
use Rattle.tap_core.specs.declared.tally.Tally.{Tally}
use Rattle.tap_core.specs.declared.bytes.BytesTap.{BytesTap}
use Rattle.tap_core.specs.declared.drops.DropsTap.{DropsTap}
use Rattle.tap_core.specs.declared.order.OrderTap.{OrderTap}
use Rattle.tap_core.specs.declared.first.FirstTap.{FirstTap}

-- a count of packets, and of their bytes
abbrev pub numbers_of : Tally → List ℕ
numbers_of t = t.packets ∷ t.bytes ∷ []

abbrev pub bytes_state : BytesTap → List ℕ
bytes_state tap = numbers_of tap.tally

abbrev pub drops_state : DropsTap → List ℕ
drops_state tap = numbers_of tap.tally

abbrev pub order_state : OrderTap → List ℕ
order_state tap = tap.greatest ∷ tap.late ∷ []

abbrev pub first_kind : FirstTap → TapKind
first_kind tap = First tap.limit

abbrev pub numbers_seen : FirstTap → List ℕ
numbers_seen tap = tap.seen.items
