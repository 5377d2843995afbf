-- The end of a program that runs nothing.
use Rattle.block_replay.proofs.Prelude.{refl, ◌≡◌, [], ℕ, arith, ◌∷◌, List, ap, None, inl, inr, Option, ◌⊎◌, Err, IfOk, IsErrOf, Ok, Result, Ghosts, is_stop, no_stop, each-follows, unchanged, Answer, IsGiven, IsTold, HoldsLeft, IsStop, status_code, IsOneOf, IsCalmTold, end_status, Edition, ◌∙◌, IsBlockOutput, shared, no_form}
use Rattle.tap_core.specs.Lists.{Entry}
use Rattle.outside_core.specs.declared.stop.Stop.{Stop}
use Rattle.outside_core.specs.declared.stop.Stop.TheVariants.{Source, Sink, Memory}
use Rattle.report_core.specs.declared.fault.FaultKind.TheVariants as kind
use Rattle.replay_app.specs.declared.status.Status.{Status}

-- ---- statuses
pub ends_given : (output : Answer → Type 0) (r : Result Status Stop) (old new : Option (List ℕ)) → IsTold output r old new → IsGiven output (end_status r) old new
ends_given output (Ok s) old new told = inl told.whole
ends_given output (Err stop) old new told = inr (record { stop = is_stop stop; part = told.part })

pub ends_with : (statuses : List ℕ) (r : Result Status Stop) → IfOk r (λ s. IsOneOf statuses (status_code s)) → IsOneOf statuses (end_status r) ⊎ IsStop (end_status r)
ends_with statuses (Ok s) one = inl one
ends_with statuses (Err stop) one = inr (is_stop stop)

-- status 8 means that the source stopped the program, and status 9 that the sink did
pub at_source : (A : Type 0) (r : Result Status Stop) → (IsErrOf r Source → A) → end_status r ≡ 8 → A
at_source A (Ok s) cause e = absurd (no_stop s (inl e))
at_source A (Err Source) cause e = cause refl
at_source A (Err Sink) cause e = absurd (omega (arith, e))
at_source A (Err Memory) cause e = absurd (omega (arith, e))

pub at_sink : (A : Type 0) (r : Result Status Stop) → (IsErrOf r Sink → A) → end_status r ≡ 9 → A
at_sink A (Ok s) cause e = absurd (no_stop s (inr (inl e)))
at_sink A (Err Source) cause e = absurd (omega (arith, e))
at_sink A (Err Sink) cause e = cause refl
at_sink A (Err Memory) cause e = absurd (omega (arith, e))

-- malformed arguments end with status 2, 9 or 10
pub told_so : (r : Result Status Stop) → IfOk r (λ s. status_code s ≡ 2) → (IsErrOf r Source → ⊥) → IsOneOf (2 ∷ 9 ∷ 10 ∷ []) (end_status r)
told_so (Ok s) e unread = inl e
told_so (Err Source) e unread = absurd (unread refl)
told_so (Err Sink) e unread = inr (inl refl)
told_so (Err Memory) e unread = inr (inr (inl refl))

-- `calm` doesn't end with the status of malformed arguments
pub in_form : (status : ℕ) → IsOneOf (3 ∷ 4 ∷ 5 ∷ 0 ∷ []) status ⊎ IsStop status → status ≡ 2 → ⊥
in_form status (inl (inl e)) two = omega (arith, e, two)
in_form status (inl (inr (inl e))) two = omega (arith, e, two)
in_form status (inl (inr (inr (inl e)))) two = omega (arith, e, two)
in_form status (inl (inr (inr (inr (inl e))))) two = omega (arith, e, two)
in_form status (inl (inr (inr (inr (inr e))))) two = e
in_form status (inr (inl e)) two = omega (arith, e, two)
in_form status (inr (inr (inl e))) two = omega (arith, e, two)
in_form status (inr (inr (inr (inl e)))) two = omega (arith, e, two)
in_form status (inr (inr (inr (inr e)))) two = e

-- ---- the fabric
-- if nothing runs, the fabric is unchanged
pub still : {F : Type 0} (fabrics : Ghosts F) (f : F) (output : Answer → Type 0) (status : ℕ) → ((a : Answer) → output a → a.run ≡ None) → HoldsLeft fabrics output status f f
still fabrics f output status none = record {
  whole = λ below a is. rw (none a is) (unchanged fabrics f);
  part = λ stop a is. rw (none a is) (unchanged fabrics f);
}

pub calm_runs_nothing : (latest : Edition) (policy target : List ℕ) (a : Answer) → IsCalmTold latest policy target a → a.run ≡ None
calm_runs_nothing latest policy target a is =
    each-follows kind.Policy _ _ _ (λ b. b.run ≡ None) (λ code place h. refl) (λ policy_file b h k.
    each-follows kind.Target _ _ _ (λ d. d.run ≡ None) (λ code place l. refl) (λ read d l m.
    each-follows kind.Size _ _ _ (λ f. f.run ≡ None) (λ code place n. refl) (λ images f n o. ap (λ (x : Answer). x.run) o) d m) b k) a is

pub no_form_runs_nothing : (contents : List ℕ → List ℕ) (taps : List Entry) (a : Answer) → IsBlockOutput (shared no_form) contents taps a → a.run ≡ None
no_form_runs_nothing contents taps a is = ap (λ (x : Answer). x.run) is.counted_is ∙ ap (λ (x : Answer). x.run) is.is
