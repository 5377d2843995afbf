-- Contents that are known to the contract, and the statuses of endings.
use Rattle.replay_app.proofs.Prelude.{subst, sym, ℕ, List, ◌≡◌, refl, ap, ◌∙◌, [], ◌∷◌, Option, arith, inr, inl, map, ◌<◌, Bool, ◌⊎◌, Stop, Sense, ForwardEnding, Ending, BadCapture, PastLast, Whole, CanEndSo, entries_in, senses_of, ending_status, status_code, IsOneOf, IsStop, forward_status, run_status, IsRefusal, forward_statuses, pace_statuses, run_statuses, AreTold, Status, Done, BadMap, BadPolicy, BadScript, BadTarget, BadTree, LateStart, NoForm, NoRoom, OtherLink, OverLimit}
use Rattle.std.specs.Prelude.{IsTrue}
use Rattle.outside_core.specs.Files.{KeepsFiles}
use Rattle.replay_app.specs.Words.{AreLent}
use Rattle.policy_text_defs.specs.Canonical.{canonical_text}
use Rattle.policy_text.specs.Entries.{Numbered, entry_of, sense_at}
use Rattle.policy_text.specs.declared.lines.Lines.{Lines}
use Rattle.replay_app.specs.Stops.{stop_status}
use Rattle.replay_app.specs.declared.status.Status.TheVariants as status
use Rattle.outside_core.specs.declared.stop.Stop.TheVariants.{Source, Sink, Memory}
use Rattle.sched_capture.specs.declared.departures.ForwardEnding.TheVariants as forward_ending
use Rattle.sched_run.specs.declared.pace.Pace.{Pace}
use Rattle.sched_run.specs.declared.pace.Pace.TheVariants as pace

-- a content that was known is still known after other files were read
pub told-later : {S : Type 0} (lends : S → List ℕ → Bool) (content : S → List ℕ → Option (List ℕ)) (old new : S) (contents : List ℕ → List ℕ) (names : List (List ℕ))
    → KeepsFiles lends content old new → AreTold (content old) contents names → AreTold (content new) contents names
told-later lends content old new contents [] keeps told = tt
told-later lends content old new contents (name ∷ names) keeps told = (keeps.contents name ∙ told.0, told-later lends content old new contents names keeps told.1)

-- a name that could be opened still can be
pub lent-later : {S : Type 0} (lends : S → List ℕ → Bool) (content : S → List ℕ → Option (List ℕ)) (old new : S) (names : List (List ℕ)) → KeepsFiles lends content old new → AreLent (lends old) names → AreLent (lends new) names
lent-later lends content old new [] keeps lent = tt
lent-later lends content old new (name ∷ names) keeps lent = (subst IsTrue (sym (keeps.lent name)) lent.0, lent-later lends content old new names keeps lent.1)

-- ---- printed statements
senses-held : (xs : List Numbered) → map sense_at xs ≡ senses_of (map entry_of xs)
senses-held [] = refl
senses-held (x ∷ xs) = ap (λ (ys : List Sense). sense_at x ∷ ys) (senses-held xs)

-- the printed text is the canonical one
pub printed : (lines : Lines) (text : List ℕ) → text ≡ canonical_text (map sense_at lines.held) → text ≡ canonical_text (senses_of (entries_in lines))
printed lines text e = e ∙ ap canonical_text (senses-held lines.held)

-- ---- the status of a run
pub same_status : (e : Ending) → status_code (run_status e) ≡ ending_status e
same_status (Whole n) = refl
same_status (BadCapture c p) = refl
same_status (PastLast n) = refl

pub run_ends : (e : Ending) → IsOneOf run_statuses (status_code (run_status e))
run_ends (Whole n) = inr (inr (inl refl))
run_ends (BadCapture c p) = inr (inl refl)
run_ends (PastLast n) = inl refl

pub pace_ends : (p : Pace) (e : Ending) → CanEndSo p e → IsOneOf (pace_statuses p) (status_code (run_status e))
pace_ends (pace.Script steps) e can = run_ends e
pace_ends (pace.Link rate) (Whole n) can = inr (inl refl)
pace_ends (pace.Link rate) (BadCapture c p) can = inl refl
pace_ends (pace.Link rate) (PastLast n) can = absurd can

-- a run that began doesn't end with the status of a rejected input
pub no_refusal : (n : ℕ) → IsOneOf run_statuses n → IsRefusal n → ⊥
no_refusal n (inl e) (inl r) = omega (arith, e, r.1)
no_refusal n (inl e) (inr r) = omega (arith, e, r.0)
no_refusal n (inr (inl e)) (inl r) = omega (arith, e, r.1)
no_refusal n (inr (inl e)) (inr r) = omega (arith, e, r.0)
no_refusal n (inr (inr (inl e))) (inl r) = omega (arith, e, r.0)
no_refusal n (inr (inr (inl e))) (inr r) = omega (arith, e, r.0)
no_refusal n (inr (inr (inr e))) r = e

pub no_refusal_forward : (n : ℕ) → IsOneOf forward_statuses n → IsRefusal n → ⊥
no_refusal_forward n (inl e) (inl r) = omega (arith, e, r.1)
no_refusal_forward n (inl e) (inr r) = omega (arith, e, r.0)
no_refusal_forward n (inr (inl e)) (inl r) = omega (arith, e, r.1)
no_refusal_forward n (inr (inl e)) (inr r) = omega (arith, e, r.1)
no_refusal_forward n (inr (inr (inl e))) (inl r) = omega (arith, e, r.1)
no_refusal_forward n (inr (inr (inl e))) (inr r) = omega (arith, e, r.1)
no_refusal_forward n (inr (inr (inr (inl e)))) (inl r) = omega (arith, e, r.0)
no_refusal_forward n (inr (inr (inr (inl e)))) (inr r) = omega (arith, e, r.0)
no_refusal_forward n (inr (inr (inr (inr e)))) r = e

pub forward_ends : (e : ForwardEnding) → IsOneOf forward_statuses (status_code (forward_status e))
forward_ends forward_ending.Whole = inr (inr (inr (inl refl)))
forward_ends (forward_ending.BadCapture c p) = inl refl
forward_ends (forward_ending.OtherLink n) = inr (inl refl)
forward_ends forward_ending.Late = inr (inr (inl refl))

-- ---- statuses, and stops
apart : (s : Status) → (status_code s < 8) ⊎ (10 < status_code s)
apart Done = inl (omega arith)
apart NoForm = inl (omega arith)
apart BadPolicy = inl (omega arith)
apart BadTarget = inl (omega arith)
apart NoRoom = inl (omega arith)
apart BadScript = inl (omega arith)
apart status.BadCapture = inl (omega arith)
apart BadTree = inr (omega arith)
apart BadMap = inr (omega arith)
apart LateStart = inr (omega arith)
apart OtherLink = inr (omega arith)
apart OverLimit = inl (omega arith)

outside : (n : ℕ) → (n < 8) ⊎ (10 < n) → IsStop n → ⊥
outside n (inl low) (inl e) = omega (arith, low, e)
outside n (inl low) (inr (inl e)) = omega (arith, low, e)
outside n (inl low) (inr (inr (inl e))) = omega (arith, low, e)
outside n (inl low) (inr (inr (inr e))) = e
outside n (inr high) (inl e) = omega (arith, high, e)
outside n (inr high) (inr (inl e)) = omega (arith, high, e)
outside n (inr high) (inr (inr (inl e))) = omega (arith, high, e)
outside n (inr high) (inr (inr (inr e))) = e

-- the status of a program that isn't stopped differs from that of each stop
pub no_stop : (s : Status) → IsStop (status_code s) → ⊥
no_stop s = outside (status_code s) (apart s)

pub is_stop : (stop : Stop) → IsStop (stop_status stop)
is_stop Source = inl refl
is_stop Sink = inr (inl refl)
is_stop Memory = inr (inr (inl refl))
