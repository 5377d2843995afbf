-- The state in which the program leaves the fabric and the taps.
use Rattle.std.specs.Prelude.{ℕ, Option, List}
use Rattle.tap_core.specs.Lists.{Entry, Shown}
use Rattle.replay_app.specs.Behind.{AreLeft, UsesNoFabric, UsesNoTaps, tap_list}
use Rattle.block_replay.specs.Output.{IsBlockOutput}
use Rattle.block_replay.specs.Words.{BlockForm, shared, calm}

-- `calm` runs nothing
abbrev pub UsesNoBlocks : BlockForm → Type 0
UsesNoBlocks (shared form) = UsesNoFabric form
UsesNoBlocks (calm latest p t) = Unit {0}

-- `calm` shows nothing to taps
abbrev pub ShowsNoTaps : BlockForm → Type 0
ShowsNoTaps (shared form) = UsesNoTaps form
ShowsNoTaps (calm latest p t) = Unit {0}

-- the taps that a run leaves; `calm` leaves all of them unchanged
abbrev pub block_tap_list : BlockForm → Option (List Shown) → List Entry → List Entry
block_tap_list (shared form) shown taps = tap_list form shown taps
block_tap_list (calm latest p t) shown taps = taps

-- if nothing stopped the program, these taps are left
abbrev pub AreBlockTapsLeft : BlockForm → (List ℕ → List ℕ) → ℕ → List Entry → List Entry → Type 0
AreBlockTapsLeft form contents status old new =
    AreLeft (IsBlockOutput form contents old) (λ a. block_tap_list form a.shown old) status new
