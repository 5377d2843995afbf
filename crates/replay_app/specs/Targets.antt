-- Reading the text of a target, and embedding a topology into the target.
use Rattle.std.specs.Prelude.{◌≡◌, ℕ, Bool, true, false, List, ◌++◌, length, codes}
use Rattle.tree_defs.specs.Tree.{Tree, Address}
use Rattle.tree_defs.specs.Topology.{Topology, complete}
use Rattle.embed_defs.specs.Levels.{levels}
use Rattle.target_core.specs.TargetText.{IsTargetText, IsRefused}
use Rattle.target_core.specs.declared.target.Target.{Target}
use Rattle.embed_defs.specs.Canonical.{IsCanonical}
use Rattle.embed_defs.specs.Embedding.{IsEmbedding, HasEmbedding}
use Rattle.embed_defs.specs.Images.{image_map}
use Rattle.policy_defs.specs.Policy.{Policy}
use Rattle.embed_plan.specs.Plan.{IsPlan}
use Rattle.outside_core.specs.Report.{fault_line}
use Rattle.report_core.specs.declared.fault.FaultKind.TheVariants as kind
use Rattle.sched_embedded.specs.Laid.{Laid}
use Rattle.replay_app.specs.Answer.{Answer, text_alone}
use Rattle.replay_app.specs.Follows.{Follows}

-- a target's text is rejected with the code of its first fault, which has no position
abbrev pub IsTargetRefused : List ℕ → ℕ → ℕ → Type 0
IsTargetRefused text code place = IsRefused text code × (place ≡ 0)

abbrev pub IsTargetOf : List ℕ → Target → Type 0
IsTargetOf text target = IsTargetText text target.arities target.above

-- outputs that depend on the text of a target
abbrev pub ForTarget : List ℕ → (Target → Answer → Type 0) → Answer → Type 0
ForTarget text after = Follows kind.Target (IsTargetRefused text) (IsTargetOf text) after

-- ---- room for a topology
-- no map of the topology into the target keeps root, leaves and prefixes
abbrev pub HasNoRoom : Topology → Target → ℕ → ℕ → Type 0
HasNoRoom s target code place = (HasEmbedding s (complete target.arities) → ⊥) × (code ≡ 1) × (place ≡ 0)

-- the image of each node under the canonical placement, which is such a map
pub record IsPlacement (s : Topology) (target : Target) (images : Tree Address) : Type 0 where
  pub canonical : IsCanonical (levels target.arities target.above) (length target.arities) s images
  pub embedding : IsEmbedding s (complete target.arities) (image_map images)

-- outputs that depend on whether the target has room for a topology
abbrev pub WithRoom : Topology → Target → (Laid → Answer → Type 0) → Answer → Type 0
WithRoom s target after = Follows kind.Size (HasNoRoom s target) (IsPlacement s target) (λ images. after (record { images = images; arities = target.arities }))

-- ---- plans
-- the output of a plan; if there is no room, the error line follows the least height
abbrev pub plan_answer : Bool → List ℕ → Answer
plan_answer true text = text_alone 0 text
plan_answer false text = text_alone 5 (text ++ fault_line (codes "size") 1 0)

-- the output for a policy and a target
pub data IsPlanned (policy : Policy) (target : Target) : Answer → Type 0 where
  planned : (fits : Bool) (text : List ℕ) → IsPlan policy target.arities target.above fits text → IsPlanned policy target (plan_answer fits text)
