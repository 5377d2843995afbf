-- Lists of taps as their kinds and states, and the events that they observe.
use Rattle.std.specs.Prelude.{◌≡◌, ℕ, ◌+◌, Bool, true, false, not, ◌||◌, List, [], ◌∷◌, ◌++◌, Option, Some, None, Vec, map, filter}
use Rattle.std.specs.declared.alloc.Global.{Global}
use Rattle.packet_defs.specs.declared.packet.Departed.{Departed}
use Rattle.tap_core.specs.declared.kinds.TapKind.{TapKind}
use Rattle.tap_core.specs.declared.kinds.TapKind.TheVariants.{Bytes, Order, First, Drops}
use Rattle.tap_core.specs.declared.kinds.Dropped.{Dropped}
use Rattle.tap_core.specs.declared.watch.Named.{Named}
use Rattle.tap_core.specs.Steps.{departure_step, drop_step, is_full}
use Rattle.tap_core.specs.Lines.{line}

-- an event that taps observe: a packet that departed, or a packet that was dropped
pub data Shown : Type 0 where
  departed : Departed → Shown
  dropped : Dropped → Shown

-- a tap as its kind and state
abbrev pub Entry : Type 0
Entry = TapKind × List ℕ

abbrev pub entry : TapKind → List ℕ → Entry
entry kind state = (kind, state)

-- a list of taps as their kinds and states
abbrev pub entries : {T : Type 0} → (T → TapKind) → (T → List ℕ) → List T → List Entry
entries kind_of state_of taps = map (λ t. entry (kind_of t) (state_of t)) taps

-- whether a kind is named
abbrev pub is_named : Named → TapKind → Bool
is_named named Bytes = named.bytes
is_named named Order = named.order
is_named named (First limit) = named.first
is_named named Drops = named.drops

-- the taps whose kind is named
abbrev pub named_entries : Named → List Entry → List Entry
named_entries named taps = filter (λ e. is_named named e.0) taps

-- the state after an event
abbrev pub step : TapKind → Shown → List ℕ → List ℕ
step kind (departed d) state = departure_step kind d state
step kind (dropped d) state = drop_step kind d state

-- a tap after an event
abbrev pub stepped : Shown → Entry → Entry
stepped s e = entry e.0 (step e.0 s e.1)

-- whether a tap needs no more departures
abbrev pub full : Entry → Bool
full e = is_full e.0 e.1

-- whether a tap that observed this event, and is now in this state, returned `Done`; only a
-- departure can lead to that
abbrev pub is_done : Shown → Entry → Bool
is_done (departed d) e = full e
is_done (dropped d) e = false

-- the taps left after an event: those that didn't return `Done`
abbrev pub left_after_one : Shown → List Entry → List Entry
left_after_one s taps = filter (λ e. not (is_done s e)) (map (stepped s) taps)

-- the state after all events, in order
abbrev pub state_after : TapKind → List Shown → List ℕ → List ℕ
state_after kind [] state = state
state_after kind (s ∷ shown) state = state_after kind shown (step kind s state)

-- a tap after all events
abbrev pub entry_after : List Shown → Entry → Entry
entry_after shown e = entry e.0 (state_after e.0 shown e.1)

-- whether a tap returns `Done` at any of the events
abbrev pub answers_done : TapKind → List Shown → List ℕ → Bool
answers_done kind [] state = false
answers_done kind (s ∷ shown) state =
    is_done s (entry kind (step kind s state)) || answers_done kind shown (step kind s state)

-- the taps that never return `Done`, each with its state after all events
abbrev pub left_after : List Shown → List Entry → List Entry
left_after shown taps = map (entry_after shown) (filter (λ e. not (answers_done e.0 shown e.1)) taps)

-- the lines of taps, one after another
abbrev pub lines_of : List Entry → List ℕ
lines_of [] = []
lines_of (e ∷ taps) = line e.0 e.1 ++ lines_of taps

-- a slot for each tap, in order; it holds the line of a tap that is done
abbrev pub Slot : Type 0
Slot = Option (Vec ℕ Global)

-- The slots of all taps match the taps that are left: these belong to the slots without a line, in
-- order, and each line is the line of a tap that needs no more departures.
abbrev pub Tracks : List Entry → List Slot → List Entry → Type 0
Tracks [] [] [] = Unit {0}
Tracks (e ∷ all) (None ∷ slots) (t ∷ taps) = (t ≡ e) × Tracks all slots taps
Tracks (e ∷ all) (Some said ∷ slots) taps = (full e ≡ true) × (said.items ≡ line e.0 e.1) × Tracks all slots taps
Tracks all slots taps = ⊥

-- the number of slots without a line
abbrev pub waiting : List Slot → ℕ
waiting [] = 0
waiting (None ∷ slots) = waiting slots + 1
waiting (Some said ∷ slots) = waiting slots
