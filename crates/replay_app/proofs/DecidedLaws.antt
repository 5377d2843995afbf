-- Inputs that are accepted before anything runs.
use Rattle.replay_app.proofs.Prelude.{subst, sym, ap, refl, ◌∙◌, ℕ, List, ◌≡◌, Option, None, Err, Ok, Result, on_ok_weaker, on_err_weaker, IfOk-weaker, Stop, FaultKind, Answer, IsTold, IsDone, Follows, goes_on, stops, refusal, status_code, kind_status, Status}
use Rattle.std.specs.Prelude.{IsErrAnd, ◌≤◌, ◌≢◌, [], ◌∷◌}
use Rattle.outside_core.proofs.FaultLaws.{rose_after}
use Rattle.outside_core.specs.declared.stop.Stop.TheVariants.{Source, Sink, Memory}
use Rattle.replay_app.specs.declared.not_run.NotRun.{NotRun}
use Rattle.replay_app.specs.declared.not_run.NotRun.TheVariants.{Rejected, Stopped}
use Rattle.replay_app.specs.declared.not_run.Rejection.{Rejection}
use Rattle.replay_app.specs.Words.{Form, file_words}
use Rattle.replay_app.specs.Statuses.{IsOneOf, statuses_of}
use Rattle.replay_app.specs.declared.job.Job.{Job}
use Rattle.replay_app.specs.Jobs.{FitsForm}
use Rattle.replay_app.specs.Decided.{rejected, AreSame, IsInput, IsOfKind, IsDecided, StopsReading}
use Rattle.replay_app.proofs.FollowLaws.{AreOne, refused-each, accepted-each}

-- the line of a rejected input, with nothing before it
pub alone : (kind : FaultKind) (r : Rejection) → r.kind ≡ kind → r.before ≡ None → rejected r ≡ refusal kind r.cause.code r.cause.place
alone kind r same none = rw (same, none) refl

-- ---- outputs
pub exact : (output : Answer → Type 0) → AreSame output output
exact output = record { to = λ a h. h; from = λ a h. h }

pub same_trans : (P Q R : Answer → Type 0) → AreSame P Q → AreSame Q R → AreSame P R
same_trans P Q R one other = record { to = λ a p. other.to a (one.to a p); from = λ a r. one.from a (other.from a r) }

module _ {T : Type 0} (kind : FaultKind) (refused : ℕ → ℕ → Type 0) (accepted : T → Type 0) (after : T → Answer → Type 0) (are : AreOne refused accepted) where
  -- the input is accepted
  pub input_same : (t : T) → accepted t → AreSame (Follows kind refused accepted after) (after t)
  input_same t is = record {
    to = accepted-each kind refused accepted after are (after t) t is (λ a h. h);
    from = λ a h. goes_on t a is h;
  }

  -- the input is rejected, or can't be read, and a `?` passes that on
  pub input_out : {J : Type 0} (run : J → Answer → Type 0) (e : NotRun) → IsInput refused accepted (Err e) → IsOfKind {T = T} kind (Err e) → (r : Result J NotRun) → r ≡ Err e → IsDecided (Follows kind refused accepted after) run r
  input_out run e is same r left = subst (IsDecided (Follows kind refused accepted after) run) (sym left) (by e is same)
    where
      by : (e : NotRun) → IsInput refused accepted (Err e) → IsOfKind {T = T} kind (Err e) → IsDecided (Follows kind refused accepted after) run (Err e)
      by (Rejected x) is same = record {
        to = refused-each kind refused accepted after are (λ a. a ≡ rejected x) x.cause.code x.cause.place is.0 (sym (alone kind x same is.1));
        from = λ a e. subst (Follows kind refused accepted after) (sym (e ∙ alone kind x same is.1)) (stops x.cause.code x.cause.place is.0);
      }
      by (Stopped stop) is same = tt

-- ---- a step further
pub decided_so : {J : Type 0} (one other : Answer → Type 0) (run : J → Answer → Type 0) (r : Result J NotRun) → AreSame one other → IsDecided other run r → IsDecided one run r
decided_so one other run (Ok job) same is = same_trans one other (run job) same is
decided_so one other run (Err (Rejected r)) same is = same_trans one other (λ a. a ≡ rejected r) same is
decided_so one other run (Err (Stopped stop)) same is = tt

-- ---- leaving early
-- a `?` passes the error on
pub passed : {J : Type 0} (r : Result J NotRun) (e : NotRun) → IsErrAnd r (λ y. y ≡ e) → r ≡ Err e
passed (Ok j) e is = absurd is
passed (Err y) e is = ap (λ (x : NotRun). Err x) is

pub some_file : (name : List ℕ) (names : List (List ℕ)) → name ∷ names ≢ []
some_file name names none = cc

-- the arguments allow the status of an input that is rejected
pub fits_out : (form : Form) (kind : FaultKind) (e : NotRun) → IsOfKind {T = Job} kind (Err e) → IsOneOf (statuses_of form) (status_code (kind_status kind)) → file_words form ≢ []
    → (r : Result Job NotRun) → r ≡ Err e → FitsForm form r
fits_out form kind e is one some r left = subst (FitsForm form) (sym left) (by e is)
  where
    by : (e : NotRun) → IsOfKind {T = Job} kind (Err e) → FitsForm form (Err e)
    by (Rejected r) is = subst (λ (k : FaultKind). IsOneOf (statuses_of form) (status_code (kind_status k))) (sym is) one
    by (Stopped stop) is = some

-- reading fails only if the source did
pub stops_out : {J : Type 0} (e : NotRun) (before mid after : ℕ) → before ≤ mid → StopsReading {T = J} (Err e) mid after → (r : Result J NotRun) → r ≡ Err e → StopsReading r before after
stops_out {J} e before mid after low is r left = subst (λ (x : Result J NotRun). StopsReading x before after) (sym left) (by e is)
  where
    by : (e : NotRun) → StopsReading {T = J} (Err e) mid after → StopsReading {T = J} (Err e) before after
    by (Rejected r) h = tt
    by (Stopped Source) h = rose_after before mid after low h
    by (Stopped Sink) h = h
    by (Stopped Memory) h = tt

-- ---- the effect of a call
module _ (one other : Answer → Type 0) (same : AreSame one other) (r : Result Status Stop) where
  pub told_so : (old new : Option (List ℕ)) → IsTold other r old new → IsTold one r old new
  told_so old new told = record {
    whole = IfOk-weaker r _ _ (λ s given. record { answer = given.answer; is = same.from given.answer given.is; status_is = given.status_is; text = given.text }) told.whole;
    part = on_err_weaker r (λ p. λ a h. p a (same.to a h)) told.part;
  }

  pub done_so : (whole part : Answer → Type 0) → IsDone other r whole part → IsDone one r whole part
  done_so whole part done = record {
    whole = on_ok_weaker r (λ p. λ a h. p a (same.to a h)) done.whole;
    part = on_err_weaker r (λ p. λ a h. p a (same.to a h)) done.part;
  }
