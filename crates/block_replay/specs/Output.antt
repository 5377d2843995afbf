-- The output of the program for its arguments and files. A reader of the program's contract has to
-- trust these definitions.
use Rattle.std.specs.Prelude.{◌≡◌, refl, ℕ, Bool, true, false, List, [], ◌∷◌, codes}
use Rattle.tree_defs.specs.Topology.{topology_of}
use Rattle.policy_defs.specs.Policy.{Policy}
use Rattle.policy_rules.specs.Resolved.{Resolved}
use Rattle.policy_text_defs.specs.declared.edition.Edition.{Edition}
use Rattle.outside_core.specs.Report.{line_of}
use Rattle.target_core.specs.declared.target.Target.{Target}
use Rattle.sched_embedded.specs.Laid.{Laid}
use Rattle.tap_core.specs.Lists.{Entry}
use Rattle.block_replay.specs.CalmPolicies.{is_calm}
use Rattle.replay_app.specs.Answer.{Answer, text_alone}
use Rattle.replay_app.specs.Output.{IsOutput}
use Rattle.replay_app.specs.Policies.{UnderPolicy}
use Rattle.replay_app.specs.Targets.{ForTarget, WithRoom}
use Rattle.block_replay.specs.Spills.{IsCounted}
use Rattle.block_replay.specs.Words.{BlockForm, shared, calm}

abbrev pub yes_or_no : Bool → List ℕ
yes_or_no true = codes "yes"
yes_or_no false = codes "no"

-- the line that says whether a policy is calm
abbrev pub calm_line : Bool → List ℕ
calm_line is = line_of (codes "calm" ∷ yes_or_no is ∷ [])

-- the output for a policy whose tree is placed in a target
abbrev pub calm_answer : Policy → Laid → Answer
calm_answer policy laid = text_alone 0 (calm_line (is_calm policy.tree laid.images))

-- the output once the target is read; nothing runs, and the least height isn't reported
abbrev pub BehindTarget : Resolved → Target → Answer → Type 0
BehindTarget policy target = WithRoom (topology_of policy.policy.tree) target (λ laid b. b ≡ calm_answer policy.policy laid)

-- outputs that depend on the text of a target, under an accepted policy
abbrev pub BehindPolicy : Resolved → List ℕ → Answer → Type 0
BehindPolicy policy target = ForTarget target (BehindTarget policy)

-- outputs that depend on the texts of a policy and a target
abbrev pub IsCalmTold : Edition → List ℕ → List ℕ → Answer → Type 0
IsCalmTold latest policy target = UnderPolicy latest policy (λ policy_file. BehindPolicy policy_file.policy target)

-- The output for these arguments, file contents and taps: that of the program over plain queues,
-- followed by the spills of its run; or whether a policy is calm.
abbrev pub IsBlockOutput : BlockForm → (List ℕ → List ℕ) → List Entry → Answer → Type 0
IsBlockOutput (shared form) contents taps a = IsCounted (IsOutput form contents taps) a
IsBlockOutput (calm latest p t) contents taps a = IsCalmTold latest (contents p) (contents t) a

calm_line-yes : calm_line true ≡ codes "calm yes\n"
calm_line-yes = refl

calm_line-no : calm_line false ≡ codes "calm no\n"
calm_line-no = refl
