-- For all arguments and file contents there is a correct output.
use Rattle.replay_app.proofs.Prelude.{subst, sym, ℕ, List, ◌≡◌, refl, inr, length, inl, heights_in_range-holds, HasEmbedding, IsEmbedding, image_map, AreWide, levels, IsInRange, IsScript, Step, a_policy, Policy, AreAccepted, line_of, Resolved, most_text, HasEntries, Fault, not_text, shaping, syntax_fault, Link, plain_rate, Laid, Target, topology_of, Topology, complete, Tree, Address, Answer, laid_run, forward_run, IsPaced, watchers, IsPolicyRefused, IsPolicy, PolicyFile, statements_refused, text_refused, soak_target, IsPlacement, HasNoRoom, IsTargetOf, IsTargetRefused, IsPlanned, planned, plan_answer, names_of, Pacing, replay, via, check, direct, no_form, plan, soak, Edition}
use Rattle.std.proofs.lemmas.Bool.{cases_lt}
use Rattle.embed_defs.proofs.RoomOrNone.{there_or_none}
use Rattle.target_core.proofs.TextAnswers.{an_answer-holds}
use Rattle.target_core.proofs.ArityRanges.{in_range-holds}
use Rattle.embed_plan.proofs.PlanExists.{all_levels, a_plan}
use Rattle.policy_text_defs.specs.Sense.{Entry}
use Rattle.policy_text_defs.specs.Text.{IsFirstFault}
use Rattle.policy_text.specs.declared.fault.TextFault.TheVariants as fault
use Rattle.policy_core.proofs.FaultlessStatements.{accepted}
use Rattle.policy_core.proofs.TextAnswers.{an_answer, sound_entries}
use Rattle.policy_rules.specs.Codes.{code_of}
use Rattle.events_core.specs.Script.{most_bytes, code_of as script_code, place_of as script_place}
use Rattle.events_core.proofs.ScriptAnswers.{an_answer as script_answer}
use Rattle.report_core.specs.declared.fault.FaultKind.TheVariants as kind
use Rattle.replay_app.specs.Laws.{HaveAnAnswer}
use Rattle.replay_app.specs.Policies.{at_fault}
use Rattle.replay_app.specs.Scripts as scripts
use Rattle.tap_core.specs.Lists as lists
use Rattle.replay_app.specs.Words as words
use Rattle.replay_app.proofs.FollowLaws.{some-follows}
use Rattle.replay_app.proofs.ViaInputs.{read_topologies, read_maps, map_fits, read_carried}
use Rattle.replay_app.proofs.ViaLaws.{some-unbroken}
use Rattle.replay_app.proofs.OfficeRoom.{in-range}
use Rattle.replay_app.proofs.SoakLaws.{some-soaked}

-- ---- each input is rejected or accepted
policy_of_text : (latest : Edition) (text : List ℕ) → ((j : PolicyFile) → IsPolicy latest text j → ⊥) → ((code line : ℕ) → IsPolicyRefused latest text code line → ⊥) → (es : List Entry) → HasEntries latest text es → ⊥
policy_of_text latest text none none' es has =
    let sound = sound_entries latest text es has in
    let are : AreAccepted es = accepted es (λ f some is. none' (code_of f) (line_of f) (statements_refused es f has some is)) in
    let r = a_policy es sound.rising sound.valid are in
    none (record { entries = es; policy = r.0 }) (record { has = has; accepted = are; gives = r.1 })

refused_at : (latest : Edition) (text : List ℕ) (n : ℕ) (f : Fault) → IsFirstFault latest text n f → ((code line : ℕ) → IsPolicyRefused latest text code line → ⊥) → ⊥
refused_at latest text n not_text first none' = none' 22 n (text_refused 22 n (at_fault (fault.NotText n) first))
refused_at latest text n syntax_fault first none' = none' 23 n (text_refused 23 n (at_fault (fault.Syntax n) first))
refused_at latest text n shaping first none' = none' 24 n (text_refused 24 n (at_fault (fault.Shaping n) first))

pub read_policies : (latest : Edition) (text : List ℕ) → ((j : PolicyFile) → IsPolicy latest text j → ⊥) → ((code line : ℕ) → IsPolicyRefused latest text code line → ⊥) → ⊥
read_policies latest text none none' = elim (cases_lt most_text (length text)) [
  | inl long ↦ none' 21 0 (text_refused 21 0 (at_fault fault.TooLong long))
  | inr short ↦ an_answer latest text short (policy_of_text latest text none none') (λ n f first. refused_at latest text n f first none')
]

pub read_targets : (text : List ℕ) → ((t : Target) → IsTargetOf text t → ⊥) → ((code place : ℕ) → IsTargetRefused text code place → ⊥) → ⊥
read_targets text none none' = elim (an_answer-holds text) [
  | inl (arities, (above, is)) ↦ none (record { arities = arities; above = above }) is
  | inr (code, is) ↦ none' code 0 (is, refl)
]

pub read_rooms : (s : Topology) (t : Target) → IsInRange t.arities t.above → ((images : Tree Address) → IsPlacement s t images → ⊥) → ((code place : ℕ) → HasNoRoom s t code place → ⊥) → ⊥
read_rooms s t range none none' =
    let wide : AreWide (levels t.arities t.above) = λ h. (heights_in_range-holds t.arities t.above range h).0 in
    elim (there_or_none (levels t.arities t.above) (length t.arities) s wide) [
      | inl (images, canonical, embeds) ↦ none images (record {
        canonical = canonical;
        embedding = subst (λ (ds : List ℕ). IsEmbedding s (complete ds) (image_map images)) (all_levels t.arities t.above) embeds;
      })
      | inr unfit ↦ none' 1 0 (λ has. unfit (subst (λ (ds : List ℕ). HasEmbedding s (complete ds)) (sym (all_levels t.arities t.above)) has), refl, refl)
    ]

read_scripts : (text : List ℕ) → ((steps : List Step) → IsScript text steps → ⊥) → ((code line : ℕ) → scripts.IsScriptRefused text code line → ⊥) → ⊥
read_scripts text none none' = elim (cases_lt most_bytes (length text)) [
  | inl long ↦ none' 4 0 (scripts.too_long long)
  | inr short ↦ script_answer text short none (λ f first. none' (script_code f) (script_place f) (scripts.at_fault f first))
]

-- ---- arguments and file contents
pub exactly : (x : Answer) → ((a : Answer) → a ≡ x → ⊥) → ⊥
exactly x none = none x refl

a_plan_of : (policy : Policy) (t : Target) → IsInRange t.arities t.above → ((a : Answer) → IsPlanned policy t a → ⊥) → ⊥
a_plan_of policy t range none =
    let p = a_plan policy t.arities t.above range in
    none (plan_answer p.0 p.1.0) (planned p.0 p.1.0 p.1.1)

some-paced : (watching : List lists.Entry) (policy : Resolved) (laid : Laid) (pacing : Pacing) (capture : List ℕ) (contents : List ℕ → List ℕ)
    → ((a : Answer) → IsPaced watching policy laid pacing capture contents a → ⊥) → ⊥
some-paced watching policy laid (words.script e named) capture contents =
    some-follows kind.Script _ _ _ (read_scripts (contents e)) (λ steps is. exactly (laid_run policy laid (scripts.script_pace steps) capture watching))
some-paced watching policy laid (words.link rate) capture contents = exactly (laid_run policy laid (Link (plain_rate rate)) capture watching)
some-paced watching policy laid (words.forward rate) capture contents = exactly (forward_run policy laid (plain_rate rate) capture)

pub some-answer : HaveAnAnswer
some-answer (replay latest p t c pacing) contents taps =
    some-follows kind.Policy _ _ _ (read_policies latest (contents p)) (λ policy_file policy.
    some-follows kind.Target _ _ _ (read_targets (contents t)) (λ target is.
    some-follows kind.Size _ _ _ (read_rooms (topology_of policy_file.policy.policy.tree) target (in_range-holds (contents t) target.arities target.above is)) (λ images placed.
    some-paced (watchers pacing taps) policy_file.policy (record { images = images; arities = target.arities }) pacing (contents c) contents)))
some-answer (check latest p) contents taps = some-follows kind.Policy _ _ _ (read_policies latest (contents p)) (λ policy_file policy. exactly _)
some-answer (plan latest p t) contents taps =
    some-follows kind.Policy _ _ _ (read_policies latest (contents p)) (λ policy_file policy.
    some-follows kind.Target _ _ _ (read_targets (contents t)) (λ target is. a_plan_of policy_file.policy.policy target (in_range-holds (contents t) target.arities target.above is)))
some-answer (direct latest p c e) contents taps =
    some-follows kind.Policy _ _ _ (read_policies latest (contents p)) (λ policy_file policy.
    some-follows kind.Script _ _ _ (read_scripts (contents e)) (λ steps script. exactly _))
some-answer (soak load) contents taps = some-soaked load (λ policy room none. read_rooms (topology_of policy.policy.tree) soak_target in-range none (λ code place no. no.0 room))
some-answer (via latest p g m t c e) contents taps =
    some-follows kind.Policy _ _ _ (read_policies latest (contents p)) (λ policy_file policy.
    some-follows kind.Tree _ _ _ (read_topologies (contents g)) (λ middle is_tree.
    some-follows kind.Map _ _ _ (read_maps policy_file.policy.policy middle (contents m)) (λ map_file is_tried.
    some-unbroken (names_of policy_file.policy.policy) map_file.fault _ (
    some-follows kind.Target _ _ _ (read_targets (contents t)) (λ target is.
    some-follows kind.Size _ _ _ (read_carried policy_file.policy.policy map_file.given middle target (map_fits policy_file.policy.policy middle (contents m) map_file is_tried)
    (read_rooms middle target (in_range-holds (contents t) target.arities target.above is))) (λ images carried.
    some-follows kind.Script _ _ _ (read_scripts (contents e)) (λ steps script. exactly _)))))))
some-answer no_form contents taps = exactly _
