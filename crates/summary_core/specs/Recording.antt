-- A summary as a recorder: outcomes add to its sums, and nothing is written.
use Rattle.std.specs.Prelude.{◌≡◌, refl, ℕ, Option, List}
use Rattle.std.proofs.Common.{◌∙◌}
use Rattle.policy_defs.specs.Policy.{Policy}
use Rattle.sched_defs.specs.Events.{Outcome}
use Rattle.sched_run.specs.Recording.{AreJoined}
use Rattle.summary_core.specs.declared.summary.Summary.{Summary}
use Rattle.summary_core.specs.Summary.{Sums}
use Rattle.summary_core.specs.JoinedSums.{sums_nothing, sums_in_turn}

pub record RecordsSums (w : Summary) (a : Option (List ℕ)) (policy : Policy) (event : ℕ) (os : List Outcome) (v : Summary) (b : Option (List ℕ)) : Type 0 where
  pub sums : Sums w v os
  pub unwritten : b ≡ a

-- nothing is written
abbrev pub StaysUnwritten : Summary → Option (List ℕ) → Policy → ℕ → List Outcome → Option (List ℕ) → Type 0
StaysUnwritten w a policy event os b = b ≡ a

pub sums_are_joined : AreJoined RecordsSums StaysUnwritten
sums_are_joined = record {
  none = λ policy event w a. record { sums = sums_nothing w; unwritten = refl };
  both = λ policy event os ps w v x a b c first second. record {
    sums = sums_in_turn w v x os ps first.sums second.sums;
    unwritten = second.unwritten ∙ first.unwritten;
  };
  written = λ policy event os w v a b all. all.unwritten;
  longer = λ policy event os ps w a b same. same;
  later = λ policy event os ps w v a b c first same. same ∙ first.unwritten;
}
