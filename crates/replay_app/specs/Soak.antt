-- The output of a generated load.
use Rattle.std.specs.Prelude.{◌≡◌, refl, ℕ, None, Some, List, [], ◌∷◌, ◌++◌, decimal, codes}
use Rattle.std.specs.Fmt.{digits}
use Rattle.tree_defs.specs.Tree.{Tree, Address}
use Rattle.tree_defs.specs.Topology.{topology_of}
use Rattle.policy_defs.specs.Policy.{Policy}
use Rattle.policy_rules.specs.Resolved.{Resolved, IsResolved}
use Rattle.policy_core.specs.Office.{office_lines}
use Rattle.target_core.specs.declared.target.Target.{Target}
use Rattle.sched_embedded.specs.Laid.{Laid}
use Rattle.sched_capture.specs.Loads.{load_counts, load_through}
use Rattle.sched_capture.specs.declared.load.LoadCounts.{LoadCounts}
use Rattle.sched_capture.specs.declared.load.LoadSize.{LoadSize}
use Rattle.replay_app.specs.Answer.{Answer}
use Rattle.replay_app.specs.Targets.{IsPlacement}

-- a label and its count, with a space before each
abbrev pub counted : List ℕ → ℕ → List ℕ
counted word n = (32 ∷ word) ++ (32 ∷ decimal n)

-- the line of a load: the numbers of packets pushed and popped, the number of departures that found
-- no packet, and the sum over the departed packets
abbrev pub soak_line : LoadCounts → List ℕ
soak_line n =
    ((((codes "soak" ++ counted (codes "pushed") n.pushed) ++ counted (codes "popped") n.popped) ++ counted (codes "empty") n.empty)
    ++ counted (codes "sum") n.sum) ++ 10 ∷ []

-- three levels of arity 4
abbrev pub soak_target : Target
soak_target = record { arities = 4 ∷ 4 ∷ 4 ∷ []; above = 4 }

-- the output of a load under a policy whose tree is placed in a target
abbrev pub soak_answer : Policy → Laid → LoadSize → Answer
soak_answer policy laid load = record { status = 0; text = soak_line (load_counts policy load); run = Some (load_through policy laid load); shown = None }

-- the load runs under the office policy, placed in its target by the canonical placement
pub record IsSoaked (load : LoadSize) (a : Answer) : Type 0 where
  pub policy : Resolved
  pub resolved : IsResolved office_lines policy
  pub images : Tree Address
  pub placed : IsPlacement (topology_of policy.policy.tree) soak_target images
  pub is : a ≡ soak_answer policy.policy (record { images = images; arities = soak_target.arities }) load

soak_line-one : soak_line (record { pushed = 1; popped = 1; empty = 0; sum = 1 }) ≡ codes "soak pushed 1 popped 1 empty 0 sum 1\n"
unfolding digits
soak_line-one = refl
