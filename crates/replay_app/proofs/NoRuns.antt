-- Commands that use no fabric run nothing.
use Rattle.replay_app.proofs.Prelude.{ℕ, List, ◌≡◌, refl, ap, None, false, true, Policy, Target, Answer, UsesNoFabric, IsOutput, IsPlanned, planned, replay, via, check, direct, no_form, plan, soak, Form}
use Rattle.report_core.specs.declared.fault.FaultKind.TheVariants as kind
use Rattle.tap_core.specs.Lists.{Entry}
use Rattle.replay_app.proofs.FollowLaws.{each-follows}

planned_alone : (policy : Policy) (target : Target) (a : Answer) → IsPlanned policy target a → a.run ≡ None
planned_alone policy target a (planned true text h) = refl
planned_alone policy target a (planned false text h) = refl

-- nothing runs
pub no_run : (form : Form) (contents : List ℕ → List ℕ) (taps : List Entry) → UsesNoFabric form → (a : Answer) → IsOutput form contents taps a → a.run ≡ None
no_run (replay latest p t c pacing) contents taps none a is = absurd none
no_run (check latest p) contents taps none a is = each-follows kind.Policy _ _ _ (λ b. b.run ≡ None) (λ code place h. refl) (λ policy_file b h e. ap (λ (x : Answer). x.run) e) a is
no_run (plan latest p t) contents taps none a is =
    each-follows kind.Policy _ _ _ (λ b. b.run ≡ None) (λ code place h. refl) (λ policy_file b h k.
    each-follows kind.Target _ _ _ (λ d. d.run ≡ None) (λ code place l. refl) (λ target d l m. planned_alone policy_file.policy.policy target d m) b k) a is
no_run (direct latest p c e) contents taps none a is =
    each-follows kind.Policy _ _ _ (λ b. b.run ≡ None) (λ code place h. refl) (λ policy_file b h k.
    each-follows kind.Script _ _ _ (λ d. d.run ≡ None) (λ code place l. refl) (λ steps d l m. ap (λ (x : Answer). x.run) m) b k) a is
no_run (soak load) contents taps none a is = absurd none
no_run (via latest p g m t c e) contents taps none a is = absurd none
no_run no_form contents taps none a is = ap (λ (x : Answer). x.run) is
