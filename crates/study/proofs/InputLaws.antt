-- Inputs of a study that are accepted before it runs.
use Rattle.study.proofs.Prelude.{◌≡◌, sym, subst, inr, ℕ, List, Option, None, Some, option_map, Err, Result, Answer, IsOneOf, Topology, with_target, target_of}
use Rattle.std.proofs.Common.{Bor}
use Rattle.std.specs.List.{AllByRecursion}
use Rattle.sched_embedded.specs.Laid.{Laid}
use Rattle.replay_app.specs.Decided.{IsDecided, RejectsWith}
use Rattle.replay_app.specs.Targets.{ForTarget, WithRoom}
use Rattle.replay_app.specs.declared.not_run.NotRun.{NotRun}
use Rattle.replay_app.specs.declared.not_run.NotRun.TheVariants.{Rejected, Stopped}
use Rattle.study.specs.Files.{target_statuses}
use Rattle.study.specs.Studied.{InTarget}
use Rattle.study.specs.declared.parts.Study.{Study}

-- what holds of each file is so without the target
pub later_files : (P : List ℕ → Type 0) (target : Option (List ℕ)) (names : List (List ℕ)) → AllByRecursion P (with_target target names) → AllByRecursion P names
later_files P None names all = all
later_files P (Some t) names all = all.1

-- the target is read
pub by_target : {J : Type 0} (s : Study) (name : Bor (List ℕ)) (tree : Topology) (contents : List ℕ → List ℕ) (after : Option Laid → Answer → Type 0) (run : J → Answer → Type 0) (r : Result J NotRun) → s.target ≡ Some name
    → IsDecided (ForTarget (contents name.now) (λ target. WithRoom tree target (λ laid. after (Some laid)))) run r → IsDecided (InTarget (target_of s) tree contents after) run r
by_target s name tree contents after run r is = subst (λ (t : Option (Bor (List ℕ))). IsDecided (InTarget (option_map (λ n. n.now) t) tree contents after) run r) (sym is)

-- an error is passed on
pub decided_out : {J K : Type 0} (output : Answer → Type 0) (some : J → Answer → Type 0) (run : K → Answer → Type 0) (e : NotRun) → IsDecided output some (Err e) → (r : Result K NotRun) → r ≡ Err e → IsDecided output run r
decided_out output some run (Rejected x) is r left = subst (IsDecided output run) (sym left) is
decided_out output some run (Stopped stop) is r left = subst (IsDecided output run) (sym left) tt

-- ---- statuses
pub target_later : (target : Option (List ℕ)) (others : List ℕ) (n : ℕ) → IsOneOf others n → IsOneOf (target_statuses target others) n
target_later None others n one = one
target_later (Some t) others n one = inr (inr one)

pub rejects_out : (T U : Type 0) (some others : List ℕ) → ((n : ℕ) → IsOneOf some n → IsOneOf others n) → (e : NotRun) → RejectsWith {T = T} some (Err e) → (r : Result U NotRun) → r ≡ Err e → RejectsWith others r
rejects_out T U some others within (Rejected x) one r left = subst (RejectsWith others) (sym left) (within _ one)
rejects_out T U some others within (Stopped stop) one r left = subst (RejectsWith others) (sym left) tt
