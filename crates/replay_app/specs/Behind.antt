-- The state in which the program leaves the fabric and the taps.
use Rattle.std.specs.Prelude.{◌≡◌, ℕ, Option, Some, List, Result}
use Rattle.fabric_core.specs.declared.fabric.Fabric.{Ghosts}
use Rattle.sched_embedded.specs.Fabrics.{Leaves, LeavesPart}
use Rattle.outside_core.specs.declared.stop.Stop.{Stop}
use Rattle.replay_app.specs.declared.status.Status.{Status}
use Rattle.replay_app.specs.Answer.{Answer, Each, IsDone}
use Rattle.replay_app.specs.Output.{IsOutput}
use Rattle.replay_app.specs.Statuses.{IsStop}
use Rattle.replay_app.specs.Words.{Form, replay, script, soak, via}
use Rattle.tap_core.specs.Lists.{Shown, Entry, named_entries, left_after}

-- If nothing stopped the program, the fabric holds the result of every output's run. Otherwise it
-- is unchanged, or holds the result of a prefix of the run.
pub record HoldsLeft {F : Type 0} (fabrics : Ghosts F) (output : Answer → Type 0) (status : ℕ) (old new : F) : Type 0 where
  pub whole : ¬ IsStop status → Each output (λ a. Leaves fabrics a.run old new)
  pub part : IsStop status → Each output (λ a. LeavesPart fabrics a.run old new)

abbrev pub IsLeftBehind : {F : Type 0} → Ghosts F → Form → (List ℕ → List ℕ) → List Entry → ℕ → F → F → Type 0
IsLeftBehind fabrics form contents taps = HoldsLeft fabrics (IsOutput form contents taps)

-- only `replay`, `link`, `forward`, `soak` and `via` use the fabric
abbrev pub UsesNoFabric : Form → Type 0
UsesNoFabric (replay latest p t c pacing) = ⊥
UsesNoFabric (soak load) = ⊥
UsesNoFabric (via latest p g m t c e) = ⊥
UsesNoFabric form = Unit {0}

-- ---- taps
-- After a run that a script paces, the taps of the named kinds that didn't answer Done are left, in
-- order, each in its state after all that it was shown. In every other case all taps are unchanged.
abbrev pub tap_list : Form → Option (List Shown) → List Entry → List Entry
tap_list (replay latest p t c (script e named)) (Some shown) taps = left_after shown (named_entries named taps)
tap_list form shown taps = taps

-- if nothing stopped the program, the taps are those that every output leaves
abbrev pub AreLeft : (Answer → Type 0) → (Answer → List Entry) → ℕ → List Entry → Type 0
AreLeft output left status new = ¬ IsStop status → Each output (λ a. new ≡ left a)

abbrev pub AreTapsLeft : Form → (List ℕ → List ℕ) → ℕ → List Entry → List Entry → Type 0
AreTapsLeft form contents status old new = AreLeft (IsOutput form contents old) (λ a. tap_list form a.shown old) status new

-- only a run that a script paces shows anything to taps
abbrev pub UsesNoTaps : Form → Type 0
UsesNoTaps (replay latest p t c (script e named)) = ⊥
UsesNoTaps form = Unit {0}

-- the fabric and the taps if nothing stopped the program
pub record LeavesAll {F : Type 0} (fabrics : Ghosts F) (form : Form) (old new : F) (before after : List Entry) (a : Answer) : Type 0 where
  pub fabric : Leaves fabrics a.run old new
  pub taps : after ≡ tap_list form a.shown before

-- the fabric and the taps are those that the run leaves; or the call was stopped, and the fabric
-- holds the result of a prefix of the run
abbrev pub IsLeftOf : {F : Type 0} → Ghosts F → Form → (List ℕ → List ℕ) → Result Status Stop → F → F → List Entry → List Entry → Type 0
IsLeftOf fabrics form contents r old new before after =
    IsDone (IsOutput form contents before) r (LeavesAll fabrics form old new before after) (λ a. LeavesPart fabrics a.run old new)
