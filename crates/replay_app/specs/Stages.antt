-- The outputs of a run after each of its inputs is accepted.
use Rattle.std.specs.Prelude.{◌≡◌, ℕ, List}
use Rattle.tree_defs.specs.Topology.{topology_of}
use Rattle.policy_rules.specs.Resolved.{Resolved}
use Rattle.policy_text_defs.specs.declared.edition.Edition.{Edition}
use Rattle.target_core.specs.declared.target.Target.{Target}
use Rattle.sched_embedded.specs.Laid.{Laid}
use Rattle.replay_app.specs.Answer.{Answer}
use Rattle.replay_app.specs.Output.{direct_run, laid_run, IsPaced}
use Rattle.replay_app.specs.Policies.{UnderPolicy}
use Rattle.replay_app.specs.Scripts.{AlongScript, script_pace}
use Rattle.replay_app.specs.Targets.{ForTarget, WithRoom}
use Rattle.tap_core.specs.Lists.{Entry, named_entries}
use Rattle.tap_core.specs.Watching.{Sight}
use Rattle.replay_app.specs.Words.{Pacing}

-- after the policy, for a run without a fabric
abbrev pub BehindPolicy : Resolved → List ℕ → List ℕ → Answer → Type 0
BehindPolicy policy text capture = AlongScript text (λ steps b. b ≡ direct_run policy (script_pace steps) capture)

-- the taps that watch: those of the named kinds
abbrev pub watching_in : Sight → List Entry
watching_in sight = named_entries sight.named sight.taps

-- after the placement of a policy's tree, if these taps watch
abbrev pub BehindRoom : List Entry → Resolved → Laid → Pacing → List ℕ → (List ℕ → List ℕ) → Answer → Type 0
BehindRoom watching policy laid pacing capture contents = IsPaced watching policy laid pacing (contents capture) contents

-- the same for a run that a script paces
abbrev pub BehindScript : List Entry → Resolved → Laid → List ℕ → List ℕ → (List ℕ → List ℕ) → Answer → Type 0
BehindScript watching policy laid name capture contents =
    AlongScript (contents name) (λ steps b. b ≡ laid_run policy laid (script_pace steps) (contents capture) watching)

-- after the target is read
abbrev pub BehindTarget : List Entry → Resolved → Target → Pacing → List ℕ → (List ℕ → List ℕ) → Answer → Type 0
BehindTarget watching policy target pacing capture contents =
    WithRoom (topology_of policy.policy.tree) target (λ laid. BehindRoom watching policy laid pacing capture contents)

-- after the policy, for a run through a fabric
abbrev pub BehindTargetText : List Entry → Resolved → List ℕ → Pacing → List ℕ → (List ℕ → List ℕ) → Answer → Type 0
BehindTargetText watching policy target pacing capture contents =
    ForTarget (contents target) (λ read. BehindTarget watching policy read pacing capture contents)

-- after the arguments, for a run through a fabric
abbrev pub BehindWords : List Entry → Edition → List ℕ → List ℕ → Pacing → List ℕ → (List ℕ → List ℕ) → Answer → Type 0
BehindWords watching latest policy target pacing capture contents =
    UnderPolicy latest (contents policy) (λ policy_file. BehindTargetText watching policy_file.policy target pacing capture contents)
