-- A sizing as a recorder: outcomes change the uses of nodes, and nothing is written.
use Rattle.std.specs.Prelude.{◌≡◌, refl, ℕ, Option, List}
use Rattle.std.proofs.Common.{◌∙◌}
use Rattle.policy_defs.specs.Policy.{Policy}
use Rattle.sched_defs.specs.Events.{Outcome}
use Rattle.sched_run.specs.Recording.{AreJoined}
use Rattle.size_core.specs.declared.sizing.Sizing.{Sizing}
use Rattle.size_core.specs.Watching.{WatchesAll}
use Rattle.size_core.specs.JoinedUses.{watches_none, watches_in_turn}

pub record RecordsUses (w : Sizing) (a : Option (List ℕ)) (policy : Policy) (event : ℕ) (os : List Outcome) (v : Sizing) (b : Option (List ℕ)) : Type 0 where
  pub uses : WatchesAll w event os v
  pub unwritten : b ≡ a

-- nothing is written
abbrev pub StaysUnwritten : Sizing → Option (List ℕ) → Policy → ℕ → List Outcome → Option (List ℕ) → Type 0
StaysUnwritten w a policy event os b = b ≡ a

pub uses_are_joined : AreJoined RecordsUses StaysUnwritten
uses_are_joined = record {
  none = λ policy event w a. record { uses = watches_none event w; unwritten = refl };
  both = λ policy event os ps w v x a b c first second. record {
    uses = watches_in_turn event w v x os ps first.uses second.uses;
    unwritten = second.unwritten ∙ first.unwritten;
  };
  written = λ policy event os w v a b all. all.unwritten;
  longer = λ policy event os ps w a b same. same;
  later = λ policy event os ps w v a b c first same. same ∙ first.unwritten;
}
