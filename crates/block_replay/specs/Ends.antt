-- How a program ends: its guarantees, for a form of arguments and an exit status.
use Rattle.std.specs.Prelude.{◌≡◌, ℕ, Option, List, [], ◌∷◌}
use Rattle.fabric_core.specs.declared.fabric.Fabric.{Ghosts}
use Rattle.sched_embedded.specs.Fabrics.{IsAsItWas}
use Rattle.tap_core.specs.Lists.{Entry}
use Rattle.replay_app.specs.Answer.{IsGiven}
use Rattle.replay_app.specs.Behind.{HoldsLeft}
use Rattle.replay_app.specs.Statuses.{IsOneOf, IsRefusal}
use Rattle.replay_app.specs.Words.{no_form}
use Rattle.block_replay.specs.Behind.{AreBlockTapsLeft, UsesNoBlocks, ShowsNoTaps}
use Rattle.block_replay.specs.Output.{IsBlockOutput}
use Rattle.block_replay.specs.Words.{BlockForm, CanBlockEnd, shared}

-- For these file contents, the output is written whole with its status, or a prefix of it with
-- status 8, 9 or 10. The fabric is unchanged, or holds the result of the run or of a prefix of it.
-- The taps are those that the run leaves.
pub record IsBlockEndOf {F : Type 0} (fabrics : Ghosts F) (form : BlockForm) (contents : List ℕ → List ℕ) (status : ℕ)
    (written_before written_after : Option (List ℕ)) (old new : F) (before after : List Entry) : Type 0 where
  pub answer : IsGiven (IsBlockOutput form contents before) status written_before written_after
  pub fabric : HoldsLeft fabrics (IsBlockOutput form contents before) status old new
  pub taps : AreBlockTapsLeft form contents status before after

-- for any file contents, the status is one that the form allows, and the fabric and the taps are
-- unchanged if an input is rejected, and if the form doesn't use them
pub record KeepsToBlocks {F : Type 0} (fabrics : Ghosts F) (form : BlockForm) (status : ℕ) (old new : F) (before after : List Entry) : Type 0 where
  pub statuses : CanBlockEnd form status
  pub malformed : status ≡ 2 → form ≡ shared no_form
  pub told_so : form ≡ shared no_form → IsOneOf (2 ∷ 9 ∷ 10 ∷ []) status
  pub refused : IsRefusal status → IsAsItWas fabrics old new
  pub untouched : UsesNoBlocks form → IsAsItWas fabrics old new
  pub unwatched : IsRefusal status → after ≡ before
  pub unshown : ShowsNoTaps form → after ≡ before
