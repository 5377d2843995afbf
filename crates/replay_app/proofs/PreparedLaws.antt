-- The inputs of commands, one by one: each is accepted, or the command ends with it.
use Rattle.replay_app.proofs.Prelude.{ℕ, List, ◌≡◌, sym, subst, Err, Result, Answer, Laid, Resolved, Target, Topology, topology, topology_of, policy_file_of, PolicyFile, IsScript, IsScriptRefused, AlongScript, IsTargetOf, IsTargetRefused, IsTreeText, IsTreeRefused, Given, Policy, Edition, Bool, IsPlanned, planned, plan_answer}
use Rattle.report_core.specs.declared.fault.FaultKind.TheVariants as kind
use Rattle.events_core.specs.declared.step.Step.{Step}
use Rattle.tree_core.specs.declared.topo.Topo.{Topo}
use Rattle.sched_capture.specs.Placements.{Placed, laid_by}
use Rattle.replay_app.specs.Policies.{UnderPolicy, IsPolicy, IsPolicyRefused}
use Rattle.replay_app.specs.Targets.{ForTarget, WithRoom, HasNoRoom}
use Rattle.replay_app.specs.Via.{ForTopology, WithRoomAlong}
use Rattle.replay_app.specs.declared.policies.PolicyFile as code
use Rattle.replay_app.specs.declared.not_run.NotRun.{NotRun}
use Rattle.replay_app.specs.Decided.{AreSame, IsInput, IsOfKind, IsDecided}
use Rattle.replay_app.specs.Placing.{IsLaidAs, IsLaidAlong}
use Rattle.replay_app.proofs.DecidedLaws.{input_same, input_out, exact, same_trans}
use Rattle.replay_app.proofs.Inputs.{policies_are_one, targets_are_one, scripts_are_one, rooms_are_one}
use Rattle.embed_plan.specs.Plan.{IsPlan}
use Rattle.replay_app.proofs.OneAnswer.{one-planned}
use Rattle.replay_app.proofs.ViaInputs.{topologies_are_one, carried_are_one}

-- ---- a policy
module _ (latest : Edition) (text : List ℕ) (after : PolicyFile → Answer → Type 0) where
  pub policy_same : (j : code.PolicyFile) → IsPolicy latest text (policy_file_of j) → AreSame (UnderPolicy latest text after) (after (policy_file_of j))
  policy_same j = input_same kind.Policy _ _ after (policies_are_one latest text) (policy_file_of j)

  pub policy_out : {J : Type 0} (run : J → Answer → Type 0) (e : NotRun) → IsInput {T = code.PolicyFile} (IsPolicyRefused latest text) (λ j. IsPolicy latest text (policy_file_of j)) (Err e)
      → IsOfKind {T = code.PolicyFile} kind.Policy (Err e) → (r : Result J NotRun) → r ≡ Err e → IsDecided (UnderPolicy latest text after) run r
  policy_out = input_out kind.Policy _ _ after (policies_are_one latest text)

-- ---- a target
module _ (text : List ℕ) (after : Target → Answer → Type 0) where
  pub target_same : (t : Target) → IsTargetOf text t → AreSame (ForTarget text after) (after t)
  target_same = input_same kind.Target _ _ after (targets_are_one text)

  pub target_out : {J : Type 0} (run : J → Answer → Type 0) (e : NotRun) → IsInput (IsTargetRefused text) (IsTargetOf text) (Err e) → IsOfKind {T = Target} kind.Target (Err e)
      → (r : Result J NotRun) → r ≡ Err e → IsDecided (ForTarget text after) run r
  target_out = input_out kind.Target _ _ after (targets_are_one text)

-- ---- a script
module _ (text : List ℕ) (after : List Step → Answer → Type 0) where
  pub script_same : (steps : List Step) → IsScript text steps → AreSame (AlongScript text after) (after steps)
  script_same = input_same kind.Script _ _ after (scripts_are_one text)

  pub script_out : {J : Type 0} (run : J → Answer → Type 0) (e : NotRun) → IsInput (IsScriptRefused text) (IsScript text) (Err e) → IsOfKind {T = List Step} kind.Script (Err e)
      → (r : Result J NotRun) → r ≡ Err e → IsDecided (AlongScript text after) run r
  script_out = input_out kind.Script _ _ after (scripts_are_one text)

-- ---- a topology
module _ (text : List ℕ) (after : Topology → Answer → Type 0) where
  pub topology_same : (t : Topo) → IsTreeText text (topology t) → AreSame (ForTopology text after) (after (topology t))
  topology_same t = input_same kind.Tree _ _ after (topologies_are_one text) (topology t)

  pub topology_out : {J : Type 0} (run : J → Answer → Type 0) (e : NotRun) → IsInput {T = Topo} (IsTreeRefused text) (λ t. IsTreeText text (topology t)) (Err e) → IsOfKind {T = Topo} kind.Tree (Err e)
      → (r : Result J NotRun) → r ≡ Err e → IsDecided (ForTopology text after) run r
  topology_out = input_out kind.Tree _ _ after (topologies_are_one text)

-- ---- room
module _ (policy : Resolved) (target : Target) (after : Laid → Answer → Type 0) where
  pub room_same : (laid : Placed) → IsLaidAs policy target laid → AreSame (WithRoom (topology_of policy.policy.tree) target after) (after (record { images = laid.map; arities = target.arities }))
  room_same laid is = input_same kind.Size _ _ _ (rooms_are_one (topology_of policy.policy.tree) target) laid.map is.placed

  pub room_out : {J : Type 0} (run : J → Answer → Type 0) (e : NotRun) → IsInput (HasNoRoom (topology_of policy.policy.tree) target) (IsLaidAs policy target) (Err e) → IsOfKind {T = Placed} kind.Size (Err e)
      → (r : Result J NotRun) → r ≡ Err e → IsDecided (WithRoom (topology_of policy.policy.tree) target after) run r
  room_out = input_out kind.Size _ _ _ (rooms_are_one (topology_of policy.policy.tree) target)

module _ (policy : Resolved) (given : Given) (middle : Topology) (target : Target) (after : Laid → Answer → Type 0) where
  pub room_same_along : (laid : Placed) → IsLaidAlong policy given middle target laid → AreSame (WithRoomAlong policy.policy given middle target after) (after (record { images = laid.map; arities = target.arities }))
  room_same_along laid is = input_same kind.Size _ _ _ (carried_are_one policy.policy given middle target) laid.map is.carried

  pub room_out_along : {J : Type 0} (run : J → Answer → Type 0) (e : NotRun) → IsInput (HasNoRoom middle target) (IsLaidAlong policy given middle target) (Err e) → IsOfKind {T = Placed} kind.Size (Err e)
      → (r : Result J NotRun) → r ≡ Err e → IsDecided (WithRoomAlong policy.policy given middle target after) run r
  room_out_along = input_out kind.Size _ _ _ (carried_are_one policy.policy given middle target)

-- the outputs of a run are those of the policy where it is laid
pub laid_same : (policy : Resolved) (target : Target) (laid : Placed) → laid ≡ record { policy = policy; target = target; map = laid.map } → (run : Resolved → Laid → Answer)
    → AreSame (λ b. b ≡ run policy (record { images = laid.map; arities = target.arities })) (λ a. a ≡ run laid.policy (laid_by laid))
laid_same policy target laid is run =
    subst (λ (l : Placed). AreSame (λ b. b ≡ run policy (record { images = laid.map; arities = target.arities })) (λ a. a ≡ run l.policy (laid_by l))) (sym is) (exact _)

-- the inputs of a run through the fabric are accepted, up to the room for the policy's tree
pub laid_chain : (latest : Edition) (p t : List ℕ) (after : Resolved → Laid → Answer → Type 0) (j : code.PolicyFile) → IsPolicy latest p (policy_file_of j) → (target : Target) → IsTargetOf t target
    → (laid : Placed) → IsLaidAs j.policy target laid
    → AreSame (UnderPolicy latest p (λ policy_file. ForTarget t (λ u. WithRoom (topology_of policy_file.policy.policy.tree) u (λ l. after policy_file.policy l)))) (after j.policy (record { images = laid.map; arities = target.arities }))
laid_chain latest p t after j is target is' laid placed =
    same_trans _ _ _ (policy_same latest p (λ policy_file. ForTarget t (λ u. WithRoom (topology_of policy_file.policy.policy.tree) u (λ l. after policy_file.policy l))) j is)
    (same_trans _ _ _ (target_same t (λ u. WithRoom (topology_of j.policy.policy.tree) u (λ l. after j.policy l)) target is')
    (room_same j.policy target (λ l. after j.policy l) laid placed))

-- a plan has one text
pub planned_same : (policy : Policy) (target : Target) (fits : Bool) (text : List ℕ) → IsPlan policy target.arities target.above fits text → AreSame (IsPlanned policy target) (λ a. a ≡ plan_answer fits text)
planned_same policy target fits text is = record {
  to = λ a h. one-planned policy target a (plan_answer fits text) h (planned fits text is);
  from = λ a e. subst (IsPlanned policy target) (sym e) (planned fits text is);
}
