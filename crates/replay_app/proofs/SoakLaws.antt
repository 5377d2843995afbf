-- A generated load has exactly one correct output; the text written for it, and the state left.
use Rattle.replay_app.proofs.Prelude.{subst, sym, ℕ, List, ◌≡◌, refl, ap, ◌∙◌, [], ◌∷◌, Option, Some, ◌++◌, suc, append_assoc, All-cons, All-nil, Err, Result, Ok, OnOk, if◌then◌else◌, is_ok, HasEmbedding, Ghosts, appended_nothing, prefix_of_nothing, Appended, AppendedPrefix, Stop, one-policy, a_policy, office_lines, office_statements, AreRising, Resolved, IsResolved, Sense, numbered, LeavesPart, Leaves, FabricRun, Target, topology_of, complete, Tree, Address, Answer, IsTold, IsDone, soak_line, soak_target, IsSoaked, soak_answer, status_code, IsPlacement, Status, Done}
use Rattle.std.specs.List.{AllByRecursion}
use Rattle.policy_text_defs.specs.Sense.{Entry}
use Rattle.policy_text_defs.specs.Valid.{IsValid}
use Rattle.policy_text.proofs.EntryLaws.{numbered_rises}
use Rattle.policy_core.specs.PlaceLaws.{AreValid}
use Rattle.policy_core.proofs.OfficeStatements.{office-valid, office-accepted}
use Rattle.sched_capture.specs.Loads.{load_counts, load_through}
use Rattle.sched_capture.specs.declared.load.LoadCounts.{LoadCounts}
use Rattle.sched_capture.specs.declared.load.LoadSize.{LoadSize}
use Rattle.replay_app.proofs.CaptureLaws.{whole_part}
use Rattle.replay_app.proofs.Inputs.{rising, rooms_are_one}
use Rattle.replay_app.proofs.OfficeRoom.{office-has-room}

office-rising : AreRising office_lines
office-rising = rising 1 office_lines (numbered_rises 1 office_statements)

all-valid : (n : ℕ) (ss : List Sense) → AllByRecursion IsValid ss → AreValid (numbered n ss)
all-valid n [] each = All-nil (λ (e : Entry). IsValid e.1)
all-valid n (s ∷ ss) each = All-cons (λ (e : Entry). IsValid e.1) _ (numbered (suc n) ss) each.0 (all-valid (suc n) ss each.1)

-- there is only one office policy, and it has only one placement
pub one-soaked : (load : LoadSize) (a b : Answer) → IsSoaked load a → IsSoaked load b → a ≡ b
one-soaked load a b x y =
    let policies : x.policy ≡ y.policy = one-policy office_lines x.policy y.policy office-rising office-accepted x.resolved y.resolved in
    let placed : IsPlacement (topology_of y.policy.policy.tree) soak_target x.images = subst (λ (r : Resolved). IsPlacement (topology_of r.policy.tree) soak_target x.images) policies x.placed in
    let images : x.images ≡ y.images = (rooms_are_one (topology_of y.policy.policy.tree) soak_target).one x.images y.images placed y.placed in
    x.is
    ∙ ap (λ (r : Resolved). soak_answer r.policy (record { images = x.images; arities = soak_target.arities }) load) policies
    ∙ ap (λ (t : Tree Address). soak_answer y.policy.policy (record { images = t; arities = soak_target.arities }) load) images
    ∙ sym y.is

-- there is an office policy, and the target has room for it
pub some-soaked : (load : LoadSize)
    → ((policy : Resolved) → (HasEmbedding (topology_of policy.policy.tree) (complete soak_target.arities)) → ((images : Tree Address) → IsPlacement (topology_of policy.policy.tree) soak_target images → ⊥) → ⊥)
    → ((a : Answer) → IsSoaked load a → ⊥) → ⊥
some-soaked load rooms none =
    let r = a_policy office_lines office-rising (all-valid 1 office_statements office-valid) office-accepted in
    rooms r.0 (office-has-room (topology_of r.0.policy.tree) r.0 r.1 refl) (λ images placed.
    none (soak_answer r.0.policy (record { images = images; arities = soak_target.arities }) load)
    (record { policy = r.0; resolved = r.1; images = images; placed = placed; is = refl }))

-- ---- the text written and the state left
-- bytes appended in two steps
pub grown : (o a i b j : List ℕ) → i ≡ o ++ a → j ≡ i ++ b → j ≡ o ++ (a ++ b)
grown o a i b j first second = second ∙ ap (λ (l : List ℕ). l ++ b) first ∙ append_assoc o a b

-- nothing is written yet
pub soaked_none : (load : LoadSize) (stop : Stop) (old : Option (List ℕ)) → IsTold (IsSoaked load) (Err stop) old old
soaked_none load stop old = record { whole = tt; part = λ a is. prefix_of_nothing old old a.text (appended_nothing old) }

-- a list that grew if a call succeeded
pub when_ok : {T E : Type 0} (r : Result T E) (l a b : List ℕ) → l ≡ (if is_ok r then a else b) → OnOk r (l ≡ a)
when_ok (Ok t) l a b e = e
when_ok (Err x) l a b e = tt

module _ (load : LoadSize) (policy : Resolved) (target : Target) (images : Tree Address) (same : target ≡ soak_target) (resolved : IsResolved office_lines policy) (placed : IsPlacement (topology_of policy.policy.tree) target images) where
  abbrev answer : Answer
  answer = soak_answer policy.policy (record { images = images; arities = soak_target.arities }) load

  is-soaked : IsSoaked load answer
  is-soaked = record { policy = policy; resolved = resolved; images = images; placed = subst (λ (t : Target). IsPlacement (topology_of policy.policy.tree) t images) same placed; is = refl }

  only : (a : Answer) → IsSoaked load a → a ≡ answer
  only a is = one-soaked load a answer is is-soaked

  -- the line
  pub soaked_whole : (s : Status) (counts : LoadCounts) (line : List ℕ) (old mid new : Option (List ℕ)) → s ≡ Done → counts ≡ load_counts policy.policy load → line ≡ soak_line counts → mid ≡ old → Appended mid new line → IsTold (IsSoaked load) (Ok s) old new
  soaked_whole s counts line old mid new done are spelt unwritten text = record {
    whole = record {
      answer = answer;
      is = is-soaked;
      status_is = ap status_code done;
      text = subst (λ (o : Option (List ℕ)). Appended o new (soak_line (load_counts policy.policy load))) unwritten
          (subst (λ (n : LoadCounts). Appended mid new (soak_line n)) are (subst (Appended mid new) spelt text));
    };
    part = tt;
  }

  -- a prefix of the line
  pub soaked_part : (stop : Stop) (counts : LoadCounts) (line : List ℕ) (old mid new : Option (List ℕ)) → counts ≡ load_counts policy.policy load → line ≡ soak_line counts → mid ≡ old → AppendedPrefix mid new line → IsTold (IsSoaked load) (Err stop) old new
  soaked_part stop counts line old mid new are spelt unwritten text = record {
    whole = tt;
    part = λ a is. subst (λ (x : Answer). AppendedPrefix old new x.text) (sym (only a is))
        (subst (λ (o : Option (List ℕ)). AppendedPrefix o new (soak_line (load_counts policy.policy load))) unwritten
        (subst (λ (n : LoadCounts). AppendedPrefix mid new (soak_line n)) are (subst (AppendedPrefix mid new) spelt text)));
  }

  -- the fabric
  module _ {F : Type 0} (fabrics : Ghosts F) (old new : F) where
    abbrev Left : (Option FabricRun → F → F → Type 0) → Type 0
    Left P = P (Some (load_through policy.policy (record { images = images; arities = target.arities }) load)) old new

    of-answer : (P : Option FabricRun → F → F → Type 0) → Left P → (a : Answer) → IsSoaked load a → P a.run old new
    of-answer P left a is = subst (λ (x : Answer). P x.run old new) (sym (only a is))
        (subst (λ (t : Target). P (Some (load_through policy.policy (record { images = images; arities = t.arities }) load)) old new) same left)

    pub left_whole : (s : Status) → Left (Leaves fabrics) → IsDone (IsSoaked load) (Ok s) (λ a. Leaves fabrics a.run old new) (λ a. LeavesPart fabrics a.run old new)
    left_whole s left = record { whole = of-answer (Leaves fabrics) left; part = tt }

    pub left_part : (stop : Stop) → Left (LeavesPart fabrics) → IsDone (IsSoaked load) (Err stop) (λ a. Leaves fabrics a.run old new) (λ a. LeavesPart fabrics a.run old new)
    left_part stop left = record { whole = tt; part = of-answer (LeavesPart fabrics) left }

    -- the whole run was made before the stop
    pub left_written : (stop : Stop) → Left (Leaves fabrics) → IsDone (IsSoaked load) (Err stop) (λ a. Leaves fabrics a.run old new) (λ a. LeavesPart fabrics a.run old new)
    left_written stop left = left_part stop (whole_part fabrics (Some (load_through policy.policy (record { images = images; arities = target.arities }) load)) old new left)
