-- Taps that observe a run, and the events that they observe.
use Rattle.std.specs.Prelude.{◌≡◌, ◌≤◌, ℕ, List, length, map}
use Rattle.tap_core.specs.declared.kinds.TapKind.{TapKind}
use Rattle.tap_core.specs.declared.watch.Named.{Named}
use Rattle.tap_core.specs.declared.watching.Watching.{Watching}
use Rattle.tap_core.specs.Lists.{Shown, Entry, Slot, entries, Tracks, named_entries, entry_after, left_after}

-- the named kinds, and the taps that are left, with a slot for each tap that observed the run
pub record Sight : Type 0 where
  pub named : Named
  pub slots : List Slot
  pub taps : List Entry

abbrev pub sight_of : {T : Type 0} → (T → TapKind) → (T → List ℕ) → Watching T → Sight
sight_of kind_of state_of w =
    record { named = w.named; slots = w.slots.items; taps = entries kind_of state_of w.taps.items }

-- the taps of the named kinds are left, and none of them is done
pub record Begins (a b : Sight) : Type 0 where
  pub named : b.named ≡ a.named
  pub taps : b.taps ≡ named_entries a.named a.taps
  pub tracked : Tracks b.taps b.slots b.taps

-- the taps observed these events; taps that are done were removed, and their lines stored
pub record Shows (shown : List Shown) (a b : Sight) : Type 0 where
  pub named : b.named ≡ a.named
  pub left : (all : List Entry) → Tracks all a.slots a.taps → b.taps ≡ left_after shown a.taps
  pub tracked : (all : List Entry) → Tracks all a.slots a.taps → Tracks (map (entry_after shown) all) b.slots b.taps

-- taps of the named kinds observed these events from the beginning of the run
pub record Watches (shown : List Shown) (a b : Sight) : Type 0 where
  pub named : b.named ≡ a.named
  pub left : b.taps ≡ left_after shown (named_entries a.named a.taps)
  pub tracked : Tracks (map (entry_after shown) (named_entries a.named a.taps)) b.slots b.taps

-- there are at most as many taps as before
abbrev pub AreNoMore : Sight → Sight → Type 0
AreNoMore a b = length b.taps ≤ length a.taps
