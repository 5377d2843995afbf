-- Laws of a run whose departures are written as a capture.
use Rattle.replay_app.proofs.Prelude.{subst, sym, ℕ, List, ◌≡◌, ap, Option, Some, None, Err, Ok, IfSome, Ghosts, Appended, AppendedPrefix, Stop, Resolved, ForwardEnding, LeavesPart, Leaves, run_of, Laid, Answer, IsTold, HoldsRun, forward_run, status_code, forward_status, Status}
use Rattle.sched_capture.specs.Forwards.{forward_answer}
use Rattle.replay_app.proofs.FollowLaws.{exactly_told}
use Rattle.sched_defs.specs.declared.rate.LinkRate.{LinkRate}

module _ (policy : Resolved) (laid : Laid) (rate : LinkRate) where
  abbrev answer : List ℕ → Answer
  answer file = forward_run policy laid rate file

  -- the bytes are written whole, with the status of the ending
  pub forward_told : (told : Option (List ℕ)) (e : ForwardEnding) (old new : Option (List ℕ)) → IfSome told (λ file. e ≡ (forward_answer policy rate file).ending)
      → IfSome told (λ file. Appended old new (forward_answer policy rate file).text) → IfSome told (λ file. IsTold (λ a. a ≡ answer file) (Ok (forward_status e)) old new)
  forward_told None e old new is text = tt
  forward_told (Some file) e old new is text = exactly_told (answer file) (Ok (forward_status e)) old new (ap (λ (x : ForwardEnding). status_code (forward_status x)) is) text tt

  -- a prefix of the bytes is written
  pub forward_cut : (told : Option (List ℕ)) (stop : Stop) (old new : Option (List ℕ)) → IfSome told (λ file. AppendedPrefix old new (forward_answer policy rate file).text)
      → IfSome told (λ file. IsTold (λ a. a ≡ answer file) (Err stop) old new)
  forward_cut None stop old new part = tt
  forward_cut (Some file) stop old new part = exactly_told (answer file) (Err stop) old new tt tt part

  module _ {F : Type 0} (fabrics : Ghosts F) (old new : F) where
    pub forward_holds : (told : Option (List ℕ)) (s : Status) → IfSome told (λ file. Leaves fabrics (run_of policy.policy laid (forward_answer policy rate file).events) old new)
        → IfSome told (λ file. HoldsRun fabrics (λ a. a ≡ answer file) (Ok s) old new)
    forward_holds None s leaves = tt
    forward_holds (Some file) s leaves = record { whole = λ a is. subst (λ (b : Answer). Leaves fabrics b.run old new) (sym is) leaves; part = tt }

    pub forward_holds_part : (told : Option (List ℕ)) (stop : Stop) → IfSome told (λ file. LeavesPart fabrics (run_of policy.policy laid (forward_answer policy rate file).events) old new)
        → IfSome told (λ file. HoldsRun fabrics (λ a. a ≡ answer file) (Err stop) old new)
    forward_holds_part None stop leaves = tt
    forward_holds_part (Some file) stop leaves = record { whole = tt; part = λ a is. subst (λ (b : Answer). LeavesPart fabrics b.run old new) (sym is) leaves }
