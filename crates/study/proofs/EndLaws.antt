-- The end of a study.
use Rattle.study.proofs.Prelude.{ap, ◌≡◌, refl, List, inl, ℕ, Option, inr, Err, Ok, Result, Stop, is_stop, status_code, Status, LateStart, IsSummedUp, IsToldOr}
use Rattle.replay_app.specs.Stops.{stop_status}
use Rattle.study.specs.Studied.{IsStudied, IsAnswered}
use Rattle.study.specs.declared.parts.Study.{Study}

is_late : (s : Status) (r : Result Status Stop) → r ≡ Ok s → r ≡ Ok LateStart → s ≡ LateStart
is_late s (Ok t) same late = cc
is_late s (Err stop) same late = cc

pub answered_ok : (study : Study) (contents : List ℕ → List ℕ) (s : Status) (old new : Option (List ℕ)) → IsToldOr (IsSummedUp study.drive study.view) (IsStudied study contents) (Ok s) old new
    → IsAnswered study contents (status_code s) old new
answered_ok study contents s old new (inl told) = inl (inl told.whole)
answered_ok study contents s old new (inr lacks) = inr (record { summed_up = lacks.summed_up; status_is = ap status_code (is_late s (Ok s) refl lacks.ends); nothing = lacks.nothing })

pub answered_err : (study : Study) (contents : List ℕ → List ℕ) (stop : Stop) (old new : Option (List ℕ)) → IsToldOr (IsSummedUp study.drive study.view) (IsStudied study contents) (Err stop) old new
    → IsAnswered study contents (stop_status stop) old new
answered_err study contents stop old new (inl told) = inl (inr (record { stop = is_stop stop; part = told.part }))
answered_err study contents stop old new (inr lacks) = absurd (let e = lacks.ends in cc)
