-- Runs of which a result is written in place of the outcomes.
use Rattle.study.proofs.Prelude.{ap, ◌∙◌, ◌≡◌, List, inl, ℕ, Option, None, Some, sym, [], inr, subst, ◌++◌, Err, Ok, Result, IfOk, IfSome, OnErr, OnOk, appended_nothing, prefix_of_nothing, Appended, AppendedPrefix, Stop, Policy, same_status, IsTold, Answer, text_alone, ending_status, run_status, status_code, Status, RunAnswer, Event, Outcome, Captured, Ending, IsPartOf, IsRefusedRun, IsWholeRun, ending_line, IsResult, results}
use Rattle.sched_run.specs.declared.recorder.Recorder as recorder
use Rattle.study.specs.SumRuns.{none_begun}

-- what holds of every content holds of one that is known
pub if_told : {X : Type 0} (told : Option X) {P : X → Type 0} → ((x : X) → P x) → IfSome told P
if_told None each = tt
if_told (Some x) each = each x

none_some : {X A : Type 0} (o : Option X) (x : X) → o ≡ None → o ≡ Some x → A
none_some None x none some = cc
none_some (Some y) x none some = cc

same_some : {X : Type 0} (o : Option X) (x y : X) → o ≡ Some x → o ≡ Some y → x ≡ y
same_some o x y p q = let e : Some x ≡ Some y = sym p ∙ q in cc

module _ {X : Type 0} (of_run : List Event → X → Type 0) (status : X → Ending → ℕ) (text : X → List ℕ) (answer : RunAnswer) where
  abbrev IsOut : Answer → Type 0
  IsOut = IsResult of_run status text answer

  abbrev out_at : Ending → X → List ℕ
  out_at e x = text x ++ ending_line e

  -- P holds of each output's text, if it holds of that of one
  each_result : (P : List ℕ → Type 0) → ((events : List Event) (x y : X) → of_run events x → of_run events y → text x ≡ text y) → (events : List Event) (x : X) → answer.events ≡ Some events → of_run events x
      → P (out_at answer.ending x) → (a : Answer) → IsOut a → P a.text
  each_result P once events x are is p a (none_begun none) = none_some answer.events events none are
  each_result P once events x are is p a (results events' y are' is') =
      let others : of_run events y = subst (λ (es : List Event). of_run es y) (same_some answer.events events' events are' are) is' in
      subst (λ (t : List ℕ). P (t ++ ending_line answer.ending)) (once events x y is others) p

  each_none : (P : List ℕ → Type 0) → answer.events ≡ None → P answer.text → (a : Answer) → IsOut a → P a.text
  each_none P none p a (none_begun none') = p
  each_none P none p a (results events x are is) = none_some answer.events events none are

  -- nothing is written
  pub nothing_out : (stop : Stop) (a b : Option (List ℕ)) → Appended a b [] → IsTold IsOut (Err stop) a b
  nothing_out stop a b none = record { whole = tt; part = λ x is. prefix_of_nothing a b _ none }

  pub unwritten_out : (stop : Stop) (a b : Option (List ℕ)) → b ≡ a → IsTold IsOut (Err stop) a b
  unwritten_out stop a b same = nothing_out stop a b (subst (λ (c : Option (List ℕ)). Appended a c []) (sym same) (appended_nothing a))

  -- the file is no capture
  pub refused_out : (e : Ending) (a b : Option (List ℕ)) → IsRefusedRun answer a e b → IsTold IsOut (Ok (run_status e)) a b
  refused_out e a b run = record {
    whole = record {
      answer = text_alone (ending_status answer.ending) answer.text;
      is = none_begun run.none;
      status_is = same_status e ∙ ap (λ (x : Ending). ending_status x) run.ends;
      text = run.text;
    };
    part = tt;
  }

  -- a result is written with this ending
  abbrev Told : X → Ending → Result Status Stop → Option (List ℕ) → Option (List ℕ) → Type 0
  Told x e r a b = IfOk r (λ s. status_code s ≡ status x e) × OnOk r (Appended a b (out_at e x)) × OnErr r (AppendedPrefix a b (out_at e x))

  module _ {W : Type 0} (R : recorder.Ghosts W) (w : W) (policy : Policy) where
    -- the run was stopped, and its recorder writes nothing
    pub stopped_out : ((captured : Captured) (a b : Option (List ℕ)) (os : List Outcome) → R.cuts captured w a policy 1 os b → b ≡ a) → (o : Option (List Event)) (stop : Stop) (a b : Option (List ℕ)) → answer.events ≡ o
        → IsPartOf R policy o answer.text w a b → IsTold IsOut (Err stop) a b
    stopped_out cuts None stop a b is part = record { whole = tt; part = each_none (AppendedPrefix a b) is part }
    stopped_out cuts (Some events) stop a b is (inl part) = unwritten_out stop a b (cuts part.0 a b _ part.1)
    stopped_out cuts (Some events) stop a b is (inr none) = nothing_out stop a b none

    -- the run was recorded, and a result of it is written
    pub result_out : ((events : List Event) (x y : X) → of_run events x → of_run events y → text x ≡ text y) → (v : W) (e : Ending) (x : X) (r : Result Status Stop) (a b c : Option (List ℕ))
        → (run : IsWholeRun R policy answer w a e v b) → b ≡ a → of_run run.events x
        → Told x e r b c → IsTold IsOut r a c
    result_out once v e x r a b c run same is told =
        by r (subst (λ (f : Ending). Told x f r a c) run.ends (subst (λ (o : Option (List ℕ)). Told x e r o c) same told))
      where
        by : (r : Result Status Stop) → Told x answer.ending r a c → IsTold IsOut r a c
        by (Ok s) told = record {
          whole = record { answer = text_alone (status x answer.ending) (out_at answer.ending x); is = results run.events x run.are is; status_is = told.0; text = told.1 };
          part = tt;
        }
        by (Err stop) told = record { whole = tt; part = each_result (AppendedPrefix a c) once run.events x run.are is told.2 }
