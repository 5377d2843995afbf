-- The kinds of taps that the command line names.
use Rattle.std.specs.Prelude.{◌≡◌, refl, ℕ, Bool, true, false, if◌then◌else◌, Option, None, Some, List, [], codes}
use Rattle.std.specs.Str.{bytes_eq}
use Rattle.tap_core.specs.declared.watch.Named.{Named}
use Rattle.tap_core.specs.Lines.{name_of}
use Rattle.tap_core.specs.declared.kinds.TapKind.TheVariants.{Bytes, Order, Drops}

abbrev pub none_named : Named
none_named = record { bytes = false; order = false; first = false; drops = false }

-- some kinds and one more, unless that is named already
abbrev pub named_once : Bool → Named → Option Named
named_once true more = None
named_once false more = Some more

-- these kinds and the kind with this name, if there is one and it isn't named already
abbrev pub named_with : Named → List ℕ → Option Named
named_with n name =
    if bytes_eq name (name_of Bytes) then named_once n.bytes (record { bytes = true; order = n.order; first = n.first; drops = n.drops })
    else (if bytes_eq name (name_of Order) then named_once n.order (record { bytes = n.bytes; order = true; first = n.first; drops = n.drops })
    else (if bytes_eq name (codes "first") then named_once n.first (record { bytes = n.bytes; order = n.order; first = true; drops = n.drops })
    else (if bytes_eq name (name_of Drops) then named_once n.drops (record { bytes = n.bytes; order = n.order; first = n.first; drops = true }) else None)))

named_with-first : named_with none_named (codes "first") ≡ Some (record { bytes = false; order = false; first = true; drops = false })
named_with-first = refl

named_with-twice : named_with (record { bytes = false; order = true; first = false; drops = false }) (codes "order") ≡ None
named_with-twice = refl

named_with-unknown : named_with none_named (codes "Bytes") ≡ None
named_with-unknown = refl

named_with-drops : named_with none_named (codes "drops") ≡ Some (record { bytes = false; order = false; first = false; drops = true })
named_with-drops = refl

-- in any order, and the other kinds stay
named_with-more : named_with (record { bytes = false; order = true; first = false; drops = true }) (codes "bytes") ≡ Some (record { bytes = true; order = true; first = false; drops = true })
named_with-more = refl

named_with-order_last : named_with (record { bytes = true; order = false; first = true; drops = false }) (codes "order") ≡ Some (record { bytes = true; order = true; first = true; drops = false })
named_with-order_last = refl

named_with-cut : named_with none_named (codes "byte") ≡ None
named_with-cut = refl

named_with-nothing : named_with none_named [] ≡ None
named_with-nothing = refl
