-- A run has the same report with a map and without one.
use Rattle.replay_app.proofs.Prelude.{subst, sym, ℕ, List, ◌≡◌, refl, ap, ◌∙◌, [], ◌∷◌, Option, Some, None, append-nil, false, Step, Resolved, paced_answer, shown_by, Ending, BadCapture, PastLast, Whole, Laid, Shown, named_entries, is_named, none_named, Named, Target, topology_of, Topology, Tree, Address, Answer, refusal, Follows, laid_run, direct_run, IsPolicyRefused, IsPolicy, PolicyFile, lines_behind, script_pace, AlongScript, BehindPolicy, BehindRoom, BehindTarget, BehindTargetText, IsPlacement, HasNoRoom, IsTargetOf, IsTargetRefused, script}
use Rattle.report_core.specs.declared.fault.FaultKind.TheVariants as kind
use Rattle.sched_defs.specs.Pace.{Pace}
use Rattle.tap_core.specs.Lists.{Entry}
use Rattle.tap_core.specs.declared.kinds.TapKind.{TapKind}
use Rattle.tap_core.specs.declared.kinds.TapKind.TheVariants as tap
use Rattle.replay_app.specs.Laws.{ReportsTheSame, ReplayReportsWhatDirectReports}
use Rattle.replay_app.proofs.FollowLaws.{each-follows, refused-each, accepted-each}
use Rattle.replay_app.proofs.Inputs.{policies_are_one, targets_are_one, scripts_are_one}

-- ---- no taps
unnamed : (k : TapKind) → is_named none_named k ≡ false
unnamed tap.Bytes = refl
unnamed tap.Order = refl
unnamed (tap.First n) = refl
unnamed tap.Drops = refl

none-watch : (taps : List Entry) → named_entries none_named taps ≡ []
none-watch [] = refl
none-watch (e ∷ taps) = rw (unnamed e.0) (none-watch taps)

no-lines : (ending : Ending) (watching : List Entry) (shown : Option (List Shown)) → watching ≡ [] → lines_behind ending watching shown ≡ []
no-lines (Whole unsent) watching (Some shown) none = ap (λ (es : List Entry). lines_behind (Whole unsent) es (Some shown)) none
no-lines (Whole unsent) watching None none = refl
no-lines (BadCapture c p) watching shown none = refl
no-lines (PastLast event) watching shown none = refl

-- ---- one run
same-refusal : (named : Named) (a : Answer) → ReportsTheSame named a a
same-refusal named a = record { status = refl; lines = []; report = sym (append-nil a.text); untapped = λ none. refl }

same-run : (named : Named) (policy : Resolved) (laid : Laid) (pace : Pace) (capture : List ℕ) (taps : List Entry)
    → ReportsTheSame named (laid_run policy laid pace capture (named_entries named taps)) (direct_run policy pace capture)
same-run named policy laid pace capture taps =
    let r = paced_answer policy pace capture in
    record {
      status = refl;
      lines = lines_behind r.ending (named_entries named taps) (shown_by policy.policy r);
      report = refl;
      untapped = λ none. no-lines r.ending (named_entries named taps) (shown_by policy.policy r)
          (ap (λ (n : Named). named_entries n taps) none ∙ none-watch taps);
    }

along-script : (named : Named) (policy : Resolved) (laid : Laid) (text capture : List ℕ) (taps : List Entry) (a b : Answer)
    → AlongScript text (λ steps c. c ≡ laid_run policy laid (script_pace steps) capture (named_entries named taps)) a
    → AlongScript text (λ steps c. c ≡ direct_run policy (script_pace steps) capture) b → ReportsTheSame named a b
along-script named policy laid text capture taps a b x y =
    let laid_after : List Step → Answer → Type 0 = λ steps c. c ≡ laid_run policy laid (script_pace steps) capture (named_entries named taps) in
    let direct_after : List Step → Answer → Type 0 = λ steps c. c ≡ direct_run policy (script_pace steps) capture in
    each-follows kind.Script _ _ laid_after (λ c. ReportsTheSame named c b)
    (λ code place h. refused-each kind.Script _ _ direct_after (scripts_are_one text) (λ d. ReportsTheSame named (refusal kind.Script code place) d) code place h (same-refusal named (refusal kind.Script code place)) b y)
    (λ steps c h e. accepted-each kind.Script _ _ direct_after (scripts_are_one text) (λ d. ReportsTheSame named c d) steps h
    (λ d f. subst (λ (v : Answer). ReportsTheSame named v d) (sym e) (subst (ReportsTheSame named (laid_run policy laid (script_pace steps) capture (named_entries named taps))) (sym f) (same-run named policy laid (script_pace steps) capture taps))) b y)
    a x

pub replay_reports_what_direct_reports-holds : ReplayReportsWhatDirectReports
replay_reports_what_direct_reports-holds latest p t c e named contents taps policy_file target policy is embeds a b x y =
    let policies = policies_are_one latest (contents p) in
    let tree : Topology = topology_of policy_file.policy.policy.tree in
    let watching : List Entry = named_entries named taps in
    let behind_policy : PolicyFile → Answer → Type 0 = λ j. BehindTargetText watching j.policy t (script e named) c contents in
    let behind_target : Target → Answer → Type 0 = λ u. BehindTarget watching policy_file.policy u (script e named) c contents in
    let behind_room : Tree Address → Answer → Type 0 = λ images. BehindRoom watching policy_file.policy (record { images = images; arities = target.arities }) (script e named) c contents in
    let direct_behind : PolicyFile → Answer → Type 0 = λ j. BehindPolicy j.policy (contents e) (contents c) in
    let room : (d : Answer) → Follows kind.Size (HasNoRoom tree target) (IsPlacement tree target) behind_room d → ReportsTheSame named d b =
    each-follows kind.Size (HasNoRoom tree target) (IsPlacement tree target) behind_room (λ d. ReportsTheSame named d b)
    (λ code place none. absurd (none.0 embeds))
    (λ images d placed m. accepted-each kind.Policy (IsPolicyRefused latest (contents p)) (IsPolicy latest (contents p)) direct_behind policies (ReportsTheSame named d) policy_file policy
    (λ f n. along-script named policy_file.policy (record { images = images; arities = target.arities }) (contents e) (contents c) taps d f m n) b y) in
    accepted-each kind.Policy (IsPolicyRefused latest (contents p)) (IsPolicy latest (contents p)) behind_policy policies (λ d. ReportsTheSame named d b) policy_file policy
    (accepted-each kind.Target (IsTargetRefused (contents t)) (IsTargetOf (contents t)) behind_target (targets_are_one (contents t)) (λ d. ReportsTheSame named d b) target is room)
    a x
