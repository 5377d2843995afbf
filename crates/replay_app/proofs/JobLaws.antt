-- The job of a command, in the words of its arguments.
use Rattle.replay_app.proofs.Prelude.{refl, ℕ, List, ◌≡◌, ◌∷◌, [], Option, Some, None, inl, inr, Shown, tap_list, UsesNoFabric, IsOneOf, IsRefusal, Form, Ghosts, Stop, Status, Result, IsLeftOf, IsOutput, on_ok_weaker, ◌∙◌, replay, via, direct, script, link, forward, check, plan, soak, no_form, arith, status_code, IfOk, Ok, Err}
use Rattle.std.specs.List.{AllByRecursion}
use Rattle.tap_core.specs.Lists.{Entry}
use Rattle.replay_app.specs.Behind.{UsesNoTaps}
use Rattle.replay_app.specs.Statuses.{statuses_of}
use Rattle.replay_app.specs.Words.{file_words}
use Rattle.replay_app.specs.declared.job.Job.{Job}
use Rattle.replay_app.specs.Jobs.{IsJobOf, checks, plans, goes_direct, replays, links, forwards, loads, goes_along, job_files, job_taps, job_statuses, LeavesFabric, LeavesTaps, IsLeftSo}
use Rattle.replay_app.specs.declared.job.Job.TheVariants.{Write, Own, Watched, Alone, Load}
use Rattle.replay_app.specs.declared.job.Drive.TheVariants as drive
use Rattle.replay_app.proofs.AnswerLaws.{no_refusal, no_refusal_forward}

-- the capture that a job reads is a file of the arguments
pub of_files : (P : List ℕ → Type 0) (form : Form) (job : Job) → IsJobOf form job → AllByRecursion P (file_words form) → AllByRecursion P (job_files job)
of_files P form job (checks latest p text) all = tt
of_files P form job (plans latest p t text) all = tt
of_files P form job (goes_direct latest p e policy steps capture) all = (all.1.0, tt)
of_files P form job (replays latest p t e named laid steps capture) all = (all.1.1.0, tt)
of_files P form job (links latest p t n laid rate capture) all = (all.1.1.0, tt)
of_files P form job (forwards latest p t n laid rate capture) all = (all.1.1.0, tt)
of_files P form job (loads load) all = tt
of_files P form job (goes_along latest p g m t e laid steps capture) all = (all.1.1.1.1.0, tt)

pub no_files : (form : Form) (job : Job) → IsJobOf form job → file_words form ≡ [] → job_files job ≡ []
no_files form job (checks latest p text) none = refl
no_files form job (plans latest p t text) none = refl
no_files form job (goes_direct latest p e policy steps capture) none = cc
no_files form job (replays latest p t e named laid steps capture) none = cc
no_files form job (links latest p t n laid rate capture) none = cc
no_files form job (forwards latest p t n laid rate capture) none = cc
no_files form job (loads load) none = refl
no_files form job (goes_along latest p g m t e laid steps capture) none = cc

pub no_fabric : (form : Form) (job : Job) → IsJobOf form job → UsesNoFabric form → LeavesFabric job
no_fabric form job (checks latest p text) none = tt
no_fabric form job (plans latest p t text) none = tt
no_fabric form job (goes_direct latest p e policy steps capture) none = tt
no_fabric form job (replays latest p t e named laid steps capture) none = none
no_fabric form job (links latest p t n laid rate capture) none = none
no_fabric form job (forwards latest p t n laid rate capture) none = none
no_fabric form job (loads load) none = none
no_fabric form job (goes_along latest p g m t e laid steps capture) none = none

pub no_taps : (form : Form) (job : Job) → IsJobOf form job → UsesNoTaps form → LeavesTaps job
no_taps form job (checks latest p text) none = tt
no_taps form job (plans latest p t text) none = tt
no_taps form job (goes_direct latest p e policy steps capture) none = tt
no_taps form job (replays latest p t e named laid steps capture) none = none
no_taps form job (links latest p t n laid rate capture) none = tt
no_taps form job (forwards latest p t n laid rate capture) none = tt
no_taps form job (loads load) none = tt
no_taps form job (goes_along latest p g m t e laid steps capture) none = tt

same_taps : (form : Form) (job : Job) → IsJobOf form job → (shown : Option (List Shown)) (taps : List Entry) → job_taps job shown taps ≡ tap_list form shown taps
same_taps form job (checks latest p text) shown taps = refl
same_taps form job (plans latest p t text) shown taps = refl
same_taps form job (goes_direct latest p e policy steps capture) shown taps = refl
same_taps form job (replays latest p t e named laid steps capture) None taps = refl
same_taps form job (replays latest p t e named laid steps capture) (Some shown) taps = refl
same_taps form job (links latest p t n laid rate capture) shown taps = refl
same_taps form job (forwards latest p t n laid rate capture) shown taps = refl
same_taps form job (loads load) shown taps = refl
same_taps form job (goes_along latest p g m t e laid steps capture) shown taps = refl

pub of_statuses : (form : Form) (job : Job) → IsJobOf form job → (n : ℕ) → IsOneOf (job_statuses job) n → IsOneOf (statuses_of form) n
of_statuses form job (checks latest p text) n one = inr one
of_statuses form job (plans latest p t text) n one = inr (inr (inr one))
of_statuses form job (goes_direct latest p e policy steps capture) n one = inr one
of_statuses form job (replays latest p t e named laid steps capture) n one = inr (inr (inr one))
of_statuses form job (links latest p t m laid rate capture) n one = inr (inr (inr one))
of_statuses form job (forwards latest p t m laid rate capture) n one = inr (inr (inr one))
of_statuses form job (loads load) n one = one
of_statuses form job (goes_along latest p g m t e laid steps capture) n one = inr (inr (inr (inr (inr one))))

-- a job that is done doesn't end with the status of a rejected input
done : (n : ℕ) → IsOneOf (0 ∷ []) n → IsRefusal n → ⊥
done n (inl e) (inl r) = omega (arith, e, r.0)
done n (inl e) (inr r) = omega (arith, e, r.0)
done n (inr e) r = e

job_no_refusal : (job : Job) (n : ℕ) → IsOneOf (job_statuses job) n → IsRefusal n → ⊥
job_no_refusal (Write text) n one r = done n one r
job_no_refusal (Own policy steps capture) n one r = no_refusal n one r
job_no_refusal (Watched laid steps named capture) n one r = no_refusal n one r
job_no_refusal (Alone laid (drive.Script steps) capture) n one r = no_refusal n one r
job_no_refusal (Alone laid (drive.Link rate) capture) n one r = no_refusal n (inr one) r
job_no_refusal (Alone laid (drive.Forward rate) capture) n one r = no_refusal_forward n one r
job_no_refusal (Load load) n one r = done n one r

pub never_refused : (job : Job) (r : Result Status Stop) (A : Type 0) → IfOk r (λ s. IsOneOf (job_statuses job) (status_code s)) → IfOk r (λ s. IsRefusal (status_code s) → A)
never_refused job (Ok s) A one = λ refused. absurd (job_no_refusal job (status_code s) one refused)
never_refused job (Err e) A one = tt

-- the state that a job leaves, in the words of the arguments
pub left_of_form : {F : Type 0} (fabrics : Ghosts F) (form : Form) (job : Job) → IsJobOf form job → (contents : List ℕ → List ℕ) (r : Result Status Stop) (old new : F) (before after : List Entry)
    → IsLeftSo fabrics (job_taps job) (IsOutput form contents before) r old new before after → IsLeftOf fabrics form contents r old new before after
left_of_form fabrics form job is contents r old new before after left = record {
  whole = on_ok_weaker r (λ each a o. let l = each a o in record { fabric = l.fabric; taps = l.taps ∙ same_taps form job is a.shown before }) left.whole;
  part = left.part;
}

-- taps that are shown nothing are unchanged
pub tap_list_none : (form : Form) (taps : List Entry) → taps ≡ tap_list form None taps
tap_list_none (replay latest p t c (script e named)) taps = refl
tap_list_none (replay latest p t c (link rate)) taps = refl
tap_list_none (replay latest p t c (forward rate)) taps = refl
tap_list_none (check latest p) taps = refl
tap_list_none (plan latest p t) taps = refl
tap_list_none (direct latest p c e) taps = refl
tap_list_none (soak load) taps = refl
tap_list_none (via latest p g m t c e) taps = refl
tap_list_none no_form taps = refl
