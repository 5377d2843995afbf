-- The lines of taps that watched a run, and the state in which they are left.
use Rattle.replay_app.proofs.Prelude.{subst, ℕ, List, ◌≡◌, refl, ap, Option, Some, None, on_ok_weaker, Result, Ghosts, Stop, Resolved, shown_by, HaveWatched, answer_over, paced_answer, Ending, BadCapture, PastLast, Whole, Shown, named_entries, left_after, Sight, Watches, Named, IfSome, Laid, laid_run, Answer, IsLeft, HoldsRun, OfLines, lines_behind, watching_in, Status}
use Rattle.pcap_defs.specs.Contents.{FileContents, no_capture, holds}
use Rattle.pcapng_defs.specs.NgContents.{in_file}
use Rattle.sched_defs.specs.Pace.{Pace}
use Rattle.tap_core.specs.Lists.{Entry}
use Rattle.replay_app.specs.Jobs.{taps_after, IsLeftSo}
use Rattle.replay_app.proofs.FollowLaws.{unchanged, always_ok, always_err, exactly_done}

-- ---- lines
lines_by : (e : Ending) (shown : List Shown) (before after : Sight) (P : List ℕ → Type 0) → Watches shown before after → OfLines e after P → P (lines_behind e (watching_in before) (Some shown))
lines_by (Whole n) shown before after P watched of = of _ watched.tracked
lines_by (BadCapture c p) shown before after P watched of = of
lines_by (PastLast n) shown before after P watched of = of

-- properties of the lines of taps that watched a run over a capture
lines_over : (policy : Resolved) (pace : Pace) (file : FileContents) (e : Ending) (before after : Sight) (P : List ℕ → Type 0) → e ≡ (answer_over policy pace file).ending
    → HaveWatched (shown_by policy.policy (answer_over policy pace file)) before after → OfLines e after P
    → P (lines_behind (answer_over policy pace file).ending (watching_in before) (shown_by policy.policy (answer_over policy pace file)))
lines_over policy pace (no_capture fault) e before after P is watched of = subst (λ (x : Ending). OfLines x after P) is of
lines_over policy pace (holds contents) e before after P is watched of =
    lines_by _ _ before after P watched (subst (λ (x : Ending). OfLines x after P) is of)

pub lines_told : (policy : Resolved) (pace : Pace) (file : List ℕ) (e : Ending) (before after : Sight) (P : List ℕ → Type 0) → e ≡ (paced_answer policy pace file).ending
    → HaveWatched (shown_by policy.policy (paced_answer policy pace file)) before after → OfLines e after P
    → P (lines_behind (paced_answer policy pace file).ending (watching_in before) (shown_by policy.policy (paced_answer policy pace file)))
lines_told policy pace file = lines_over policy pace (in_file file)

-- ---- the list
taps_left : (named : Named) (shown : Option (List Shown)) (before after : Sight) → before.named ≡ named → HaveWatched shown before after → after.taps ≡ taps_after named shown before.taps
taps_left named None before after same watched = ap (λ (s : Sight). s.taps) watched
taps_left named (Some shown) before after same watched = subst (λ (n : Named). after.taps ≡ left_after shown (named_entries n before.taps)) same watched.left

-- the fabric and the taps after a run that taps of these kinds watched
watched_left : {F : Type 0} (fabrics : Ghosts F) (output : Answer → Type 0) (r : Result Status Stop) (old new : F) (before after : Sight) (named : Named) (taps left : List Entry)
    → before.named ≡ named → before.taps ≡ taps → after.taps ≡ left → IsLeft fabrics output r old new before after → IsLeftSo fabrics (taps_after named) output r old new taps left
watched_left fabrics output r old new before after named taps left same first last is =
    let all : IsLeftSo fabrics (taps_after named) output r old new before.taps after.taps = record {
      whole = on_ok_weaker r (λ each a o. let both = each a o in record { fabric = both.fabric; taps = taps_left named a.shown before after same both.taps }) is.whole;
      part = is.part;
    } in
    subst (λ (ts : List Entry). IsLeftSo fabrics (taps_after named) output r old new taps ts) last
    (subst (λ (ts : List Entry). IsLeftSo fabrics (taps_after named) output r old new ts after.taps) first all)

-- a run over a capture whose content is known
module _ {F : Type 0} (fabrics : Ghosts F) (policy : Resolved) (laid : Laid) (pace : Pace) (r : Result Status Stop) (old new : F) (before after : Sight) where
  -- the fabric alone
  pub fabric_left : (watching : List Entry) (told : Option (List ℕ)) → IfSome told (λ file. IsLeft fabrics (λ a. a ≡ laid_run policy laid pace file watching) r old new before after)
      → IfSome told (λ file. HoldsRun fabrics (λ a. a ≡ laid_run policy laid pace file watching) r old new)
  fabric_left watching None left = tt
  fabric_left watching (Some file) left = record { whole = on_ok_weaker r (λ each a is. (each a is).fabric) left.whole; part = left.part }

  pub watched_so : (named : Named) (taps rest : List Entry) → before.named ≡ named → before.taps ≡ taps → after.taps ≡ rest → (told : Option (List ℕ))
      → IfSome told (λ file. IsLeft fabrics (λ a. a ≡ laid_run policy laid pace file (watching_in before)) r old new before after)
      → IfSome told (λ file. IsLeftSo fabrics (taps_after named) (λ a. a ≡ laid_run policy laid pace file (named_entries named taps)) r old new taps rest)
  watched_so named taps rest same first last None left = tt
  watched_so named taps rest same first last (Some file) left =
      let watching : watching_in before ≡ named_entries named taps = rw (same, first) refl in
      subst (λ (es : List Entry). IsLeftSo fabrics (taps_after named) (λ a. a ≡ laid_run policy laid pace file es) r old new taps rest) watching
      (watched_left fabrics (λ a. a ≡ laid_run policy laid pace file (watching_in before)) r old new before after named taps rest same first last left)

-- taps that were shown nothing
pub untapped : {F : Type 0} (fabrics : Ghosts F) (output : Answer → Type 0) (r : Result Status Stop) (old new : F) (taps : List Entry)
    → HoldsRun fabrics output r old new → IsLeftSo fabrics (λ shown ts. ts) output r old new taps taps
untapped fabrics output r old new taps held = record { whole = on_ok_weaker r (λ each a is. record { fabric = each a is; taps = refl }) held.whole; part = held.part }

-- nothing ran
pub nothing_left : {F : Type 0} (fabrics : Ghosts F) (x : Answer) (r : Result Status Stop) (f : F) (taps : List Entry) → x.run ≡ None → IsLeftSo fabrics (λ shown ts. ts) (λ a. a ≡ x) r f f taps taps
nothing_left fabrics x r f taps none = untapped fabrics (λ a. a ≡ x) r f f taps
    (exactly_done x r _ _ (always_ok r (rw none (unchanged fabrics f))) (always_err r (rw none (unchanged fabrics f))))
