-- Examples of lists of taps.
use Rattle.std.specs.Prelude.{◌≡◌, refl, ℕ, true, false, List, [], ◌∷◌, Some, None, Vec, map, codes}
use Rattle.std.specs.Fmt.{digits}
use Rattle.std.specs.declared.alloc.Global.{Global}
use Rattle.tap_core.specs.declared.kinds.TapKind.TheVariants.{Bytes, Order, First, Drops}
use Rattle.tap_core.specs.declared.watch.Named.{Named}
use Rattle.tap_core.specs.Lists.{Shown, departed, dropped, Entry, entry, is_named, named_entries, left_after_one, entry_after, answers_done, left_after, lines_of, Tracks, waiting}

-- a departed packet of 100 bytes, and a dropped packet of 60 bytes
abbrev left : ℕ → Shown
left packet = departed (record { packet = packet; class = 0; leaf = 0; len = 100 })

abbrev lost : ℕ → Shown
lost packet = dropped (record { packet = packet; class = 0; leaf = 0; len = 60 })

abbrev order : ℕ → ℕ → Entry
order greatest late = entry Order (greatest ∷ late ∷ [])

abbrev bytes : ℕ → ℕ → Entry
bytes packets sum = entry Bytes (packets ∷ sum ∷ [])

abbrev drops : ℕ → ℕ → Entry
drops packets sum = entry Drops (packets ∷ sum ∷ [])

-- two taps of one kind, with others between them
abbrev five_taps : List Entry
five_taps = order 0 0 ∷ entry (First 2) [] ∷ bytes 0 0 ∷ order 5 1 ∷ drops 0 0 ∷ []

abbrev bytes_and_order : Named
bytes_and_order = record { bytes = true; order = true; first = false; drops = false }

named_by_kind : map (is_named (record { bytes = true; order = false; first = true; drops = false })) (Bytes ∷ Order ∷ First 2 ∷ Drops ∷ []) ≡ true ∷ false ∷ true ∷ false ∷ []
named_by_kind = refl

named_by_the_other_kinds : map (is_named (record { bytes = false; order = true; first = false; drops = true })) (Bytes ∷ Order ∷ First 2 ∷ Drops ∷ []) ≡ false ∷ true ∷ false ∷ true ∷ []
named_by_the_other_kinds = refl

-- both taps of a kind stay, and the list keeps its order, which isn't the order of the kinds
named_twice : named_entries bytes_and_order five_taps ≡ order 0 0 ∷ bytes 0 0 ∷ order 5 1 ∷ []
named_twice = refl

none_named : named_entries (record { bytes = false; order = false; first = false; drops = false }) five_taps ≡ []
none_named = refl

-- each tap continues from its own state
one_departure : left_after_one (left 3) five_taps ≡ order 3 0 ∷ entry (First 2) (3 ∷ []) ∷ bytes 1 100 ∷ order 5 2 ∷ drops 0 0 ∷ []
one_departure = refl

one_drop : left_after_one (lost 3) five_taps ≡ order 0 0 ∷ entry (First 2) [] ∷ bytes 0 0 ∷ order 5 1 ∷ drops 1 60 ∷ []
one_drop = refl

-- the tap for the first two packets is done at the second departure, and the others see all events
three_shown : left_after (left 3 ∷ lost 4 ∷ left 2 ∷ left 7 ∷ []) five_taps ≡ order 7 1 ∷ bytes 3 300 ∷ order 7 3 ∷ drops 1 60 ∷ []
three_shown = refl

-- the events are seen in order
first_of_two : entry_after (left 3 ∷ left 2 ∷ []) (entry (First 2) []) ≡ entry (First 2) (3 ∷ 2 ∷ [])
first_of_two = refl

-- a tap for no packets is done at the first departure, but not at a drop
not_done_at_a_drop : left_after (lost 3 ∷ []) (entry (First 0) [] ∷ []) ≡ entry (First 0) [] ∷ []
not_done_at_a_drop = refl

done_at_a_departure : left_after (lost 3 ∷ left 4 ∷ lost 5 ∷ []) (entry (First 0) [] ∷ []) ≡ []
done_at_a_departure = refl

done_at_the_limit : map (λ shown. answers_done (First 2) shown []) ((left 3 ∷ []) ∷ (left 3 ∷ left 3 ∷ []) ∷ (left 3 ∷ lost 4 ∷ []) ∷ []) ≡ false ∷ true ∷ false ∷ []
done_at_the_limit = refl

pub lines_in_order : lines_of (order 7 1 ∷ bytes 3 300 ∷ order 7 3 ∷ []) ≡ codes "tap order 1 7\ntap bytes 3 300\ntap order 3 7\n"
unfolding digits
lines_in_order = refl

-- the slots of three taps, of which the second is done
waiting-two : (said : Vec ℕ Global) → waiting (None ∷ Some said ∷ None ∷ []) ≡ 2
waiting-two said = refl

pub tracks-two : (said : Vec ℕ Global) → said.items ≡ codes "tap first 3 2\n"
    → Tracks (order 7 1 ∷ entry (First 2) (3 ∷ 2 ∷ []) ∷ bytes 3 300 ∷ []) (None ∷ Some said ∷ None ∷ []) (order 7 1 ∷ bytes 3 300 ∷ [])
unfolding digits
tracks-two said is = (refl, (refl, is, (refl, tt)))
