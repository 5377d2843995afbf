-- A sum as a recorder: the numbers of departed packets are folded into it, and nothing is written.
use Rattle.std.specs.Prelude.{◌≡◌, refl, ℕ, Option, List, [], ◌∷◌, ◌++◌}
use Rattle.std.proofs.Common.{◌∙◌, ap, sym}
use Rattle.policy_defs.specs.Policy.{Policy}
use Rattle.sched_defs.specs.Events.{Outcome}
use Rattle.sched_run.specs.Load.{sum_with, sum_of}
use Rattle.sched_run.specs.Recording.{AreJoined}

-- the sum of the outcomes, with nothing written
pub record AddsUp (sum : ℕ) (a : Option (List ℕ)) (policy : Policy) (event : ℕ) (os : List Outcome) (sum' : ℕ) (b : Option (List ℕ)) : Type 0 where
  pub total : sum' ≡ sum_of sum os
  pub unwritten : b ≡ a

-- nothing is written
abbrev pub StaysUnwritten : ℕ → Option (List ℕ) → Policy → ℕ → List Outcome → Option (List ℕ) → Type 0
StaysUnwritten sum a policy event os b = b ≡ a

sum_of-append : (sum : ℕ) (os ps : List Outcome) → sum_of sum (os ++ ps) ≡ sum_of (sum_of sum os) ps
sum_of-append sum [] ps = refl
sum_of-append sum (o ∷ os) ps = sum_of-append (sum_with sum o) os ps

pub sums_are_joined : AreJoined AddsUp StaysUnwritten
sums_are_joined = record {
  none = λ policy event w a. record { total = refl; unwritten = refl };
  both = λ policy event os ps w v x a b c first second. record {
    total = second.total ∙ ap (λ (n : ℕ). sum_of n ps) first.total ∙ sym (sum_of-append w os ps);
    unwritten = second.unwritten ∙ first.unwritten;
  };
  written = λ policy event os w v a b all. all.unwritten;
  longer = λ policy event os ps w a b same. same;
  later = λ policy event os ps w v a b c first same. same ∙ first.unwritten;
}
