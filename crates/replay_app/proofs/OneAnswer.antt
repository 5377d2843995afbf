-- For given arguments and file contents there is only one correct output.
use Rattle.replay_app.proofs.Prelude.{sym, ℕ, List, ◌≡◌, ◌∙◌, Policy, Resolved, Link, plain_rate, Laid, Target, topology_of, Answer, laid_run, forward_run, IsPaced, watchers, script_pace, IsPlanned, planned, plan_answer, names_of, Pacing, forward, link, replay, script, via, check, direct, no_form, plan, soak}
use Rattle.report_core.specs.declared.fault.FaultKind.TheVariants as kind
use Rattle.embed_plan.proofs.OnePlan.{one_plan}
use Rattle.replay_app.specs.Laws.{HaveOneAnswer}
use Rattle.tap_core.specs.Lists.{Entry}
use Rattle.replay_app.proofs.FollowLaws.{one-follows}
use Rattle.replay_app.proofs.Inputs.{policies_are_one, targets_are_one, rooms_are_one, scripts_are_one}
use Rattle.replay_app.proofs.ViaInputs.{topologies_are_one, maps_are_one, carried_are_one}
use Rattle.replay_app.proofs.ViaLaws.{one-unbroken}
use Rattle.replay_app.proofs.SoakLaws.{one-soaked}

pub one-planned : (policy : Policy) (target : Target) (a b : Answer) → IsPlanned policy target a → IsPlanned policy target b → a ≡ b
one-planned policy target _ _ (planned fits text h) (planned others other k) =
    let same = one_plan policy target.arities target.above fits others text other h k in
    λ i. plan_answer (same.0 i) (same.1 i)

pub same-answer : (x a b : Answer) → a ≡ x → b ≡ x → a ≡ b
same-answer x a b e f = e ∙ sym f

one-paced : (watching : List Entry) (policy : Resolved) (laid : Laid) (pacing : Pacing) (capture : List ℕ) (contents : List ℕ → List ℕ) (a b : Answer)
    → IsPaced watching policy laid pacing capture contents a → IsPaced watching policy laid pacing capture contents b → a ≡ b
one-paced watching policy laid (script e named) capture contents =
    one-follows kind.Script _ _ _ (scripts_are_one (contents e)) (λ steps. same-answer (laid_run policy laid (script_pace steps) capture watching))
one-paced watching policy laid (link rate) capture contents = same-answer (laid_run policy laid (Link (plain_rate rate)) capture watching)
one-paced watching policy laid (forward rate) capture contents = same-answer (forward_run policy laid (plain_rate rate) capture)

pub one-answer : HaveOneAnswer
one-answer (replay latest p t c pacing) contents taps a b x y =
    one-follows kind.Policy _ _ _ (policies_are_one latest (contents p)) (λ policy_file.
    one-follows kind.Target _ _ _ (targets_are_one (contents t)) (λ target.
    one-follows kind.Size _ _ _ (rooms_are_one (topology_of policy_file.policy.policy.tree) target) (λ images.
    one-paced (watchers pacing taps) policy_file.policy (record { images = images; arities = target.arities }) pacing (contents c) contents))) a b x y
one-answer (check latest p) contents taps a b x y = one-follows kind.Policy _ _ _ (policies_are_one latest (contents p)) (λ policy_file. same-answer _) a b x y
one-answer (plan latest p t) contents taps a b x y =
    one-follows kind.Policy _ _ _ (policies_are_one latest (contents p)) (λ policy_file.
    one-follows kind.Target _ _ _ (targets_are_one (contents t)) (λ target. one-planned policy_file.policy.policy target)) a b x y
one-answer (direct latest p c e) contents taps a b x y =
    one-follows kind.Policy _ _ _ (policies_are_one latest (contents p)) (λ policy_file.
    one-follows kind.Script _ _ _ (scripts_are_one (contents e)) (λ steps. same-answer _)) a b x y
one-answer (soak load) contents taps a b x y = one-soaked load a b x y
one-answer (via latest p g m t c e) contents taps a b x y =
    one-follows kind.Policy _ _ _ (policies_are_one latest (contents p)) (λ policy_file.
    one-follows kind.Tree _ _ _ (topologies_are_one (contents g)) (λ middle.
    one-follows kind.Map _ _ _ (maps_are_one policy_file.policy.policy middle (contents m)) (λ map_file.
    one-unbroken (names_of policy_file.policy.policy) map_file.fault _ (
    one-follows kind.Target _ _ _ (targets_are_one (contents t)) (λ target.
    one-follows kind.Size _ _ _ (carried_are_one policy_file.policy.policy map_file.given middle target) (λ images.
    one-follows kind.Script _ _ _ (scripts_are_one (contents e)) (λ steps. same-answer _))))))) a b x y
one-answer no_form contents taps a b x y = same-answer _ a b x y
