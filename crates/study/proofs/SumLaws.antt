-- Runs that are summed up.
use Rattle.policy_text_defs.specs.declared.edition.Edition.{Edition}
use Rattle.study.proofs.Prelude.{ap, ◌∙◌, ◌≡◌, refl, List, inl, ℕ, Option, None, Some, sym, ◌∷◌, [], inr, subst, ◌++◌, arith, length, ◌≤◌, ◌⊎◌, Err, Ok, Result, IfOk, IfSome, OnErr, OnOk, codes, IsTrue, Vec, Appended, AppendedPrefix, Stop, IsAccepted, number_at, Node, AreClassesOf, Declared, classes_in, pace_ends, same_status, IsTold, Answer, IsPolicy, PolicyFile, ending_status, run_status, status_code, IsOneOf, pace_statuses, Status, LateStart, RunAnswer, Event, outcomes, CanMake, Pace, start, Ending, CanEndSo, Label, Tree, leaf_index, class_labels, leaf_table, all_leaf_labels, IsWholeRun, IsToldOr, ending_line, AreRunSums, AreSumsWritten, HasNames, IsSummed, IsTextOf, LacksRoom, render, sum_rate, Form, Json, Text}
use Rattle.std.proofs.lemmas.List.{length-map}
use Rattle.std.specs.declared.alloc.Global.{Global}
use Rattle.std.specs.declared.alloc.AllocError.{AllocError}
use Rattle.policy_text_defs.specs.Sense.{Entry}
use Rattle.policy_defs.specs.Policy.{Class}
use Rattle.sched_run.specs.declared.pace.Pace as code
use Rattle.summary_core.specs.declared.group.Groups.{Groups}
use Rattle.summary_core.specs.declared.summary.Summary.{Summary}
use Rattle.summary_core.specs.Figures.{HasGroups}
use Rattle.summary_core.specs.Json.{figures_json, array_json, end_json}
use Rattle.summary_core.specs.Summary.{Sums, SumsNothing}
use Rattle.summary_core.specs.Text.{figures_text, groups_text, fairness_text}
use Rattle.summary_core.proofs.GroupsOnce.{sums_once}
use Rattle.summary_core.specs.OfRun.{AreSame}
use Rattle.summary_core.proofs.RunGroups.{groups_are_of_the_run}
use Rattle.summary_core.specs.contracts.recorder.SummaryRecorder.TheImpl.{ghosts}
use Rattle.study.proofs.ResultLaws.{nothing_out, result_out}

-- ---- one of the outputs, or sums without room
pub or_told : (sums : Type 0) {P Q : Answer → Type 0} {r : Result Status Stop} {old new : Option (List ℕ)} → (IsTold P r old new → IsTold Q r old new) → IsToldOr sums P r old new → IsToldOr sums Q r old new
or_told sums f (inl told) = inl (f told)
or_told sums f (inr lacks) = inr lacks

-- a run that isn't summed up
pub only_told : (sums : Type 0) (told : Option (List ℕ)) (P : List ℕ → Answer → Type 0) (r : Result Status Stop) (old new : Option (List ℕ)) → IfSome told (λ file. IsTold (P file) r old new)
    → IfSome told (λ file. IsToldOr sums (P file) r old new)
only_told sums None P r old new is = tt
only_told sums (Some file) P r old new is = inl is

-- ---- names
as_many : (entries : List Entry) (tree : Tree Node) (ds : List Declared) (cs : List Class) → AreClassesOf entries tree ds cs → length ds ≡ length cs
as_many entries tree [] [] are = refl
as_many entries tree [] (c ∷ cs) are = absurd are
as_many entries tree (d ∷ ds) [] are = absurd are
as_many entries tree (d ∷ ds) (c ∷ cs) are = let rest = as_many entries tree ds cs are.2 in omega (arith, rest)

pub named_classes : (latest : Edition) (text : List ℕ) (j : PolicyFile) → IsPolicy latest text j → HasNames j
named_classes latest text j is =
    let many : length (classes_in j.entries) ≡ length j.policy.policy.classes = as_many j.entries j.policy.policy.tree (classes_in j.entries) j.policy.policy.classes is.gives.classes in
    omega (arith, many, length-map (classes_in j.entries) (λ d. let l : Label = record { name = d.name; weight = d.marks.weight } in l))

-- ---- renderings
render_same : (form : Form) (gs hs : Groups) → AreSame gs hs → render form gs ≡ render form hs
render_same Text gs hs same =
    λ i. codes "all" ++ (figures_text (same.all i) ++ (groups_text (codes "leaf ") (same.leaves i) ++ (groups_text (codes "class ") (same.classes i) ++ fairness_text (same.fairness i))))
render_same Json gs hs same =
    λ i. codes "{\"all\":{" ++ (figures_json (same.all i) ++ ((array_json (codes ",\"leaves\":[") (same.leaves i) ++ array_json (codes "],\"classes\":[") (same.classes i)) ++ end_json (same.fairness i)))

-- the text of a summary's groups, if there was memory for it
pub text_made : (form : Form) (s : Summary) (leaves classes held : List Label) (gs : Groups) (r : Result (Vec ℕ Global) AllocError) → HasGroups s leaves classes gs → classes ≡ held
    → IfOk r (λ t. t.items ≡ render form gs) → IfOk r (λ t. IsTextOf form s leaves held t.items)
text_made form s leaves classes held gs (Ok t) has same is = record { groups = gs; has = subst (λ (l : List Label). HasGroups s leaves l gs) same has; is = is }
text_made form s leaves classes held gs (Err e) has same is = tt

-- ---- the output of a run that was recorded: its sums are told, or a sum had no room
module _ (policy_file : PolicyFile) (pace : Pace) (form : Form) (accepted : IsAccepted policy_file.policy.policy) (names : HasNames policy_file) (w : Summary) (table : List ℕ) (leaves classes : List Label)
    (nothing : SumsNothing (sum_rate pace) table (length leaves) w)
    (table_is : table ≡ leaf_table policy_file.policy.policy) (leaves_are : leaves ≡ all_leaf_labels policy_file.policy.policy.tree) (classes_are : classes ≡ class_labels policy_file.entries) where
  groups_of_run : (events : List Event) (v : Summary) (gs : Groups) → CanMake policy_file.policy.policy events (start policy_file.policy.policy) → Sums w v (outcomes policy_file.policy.policy events (start policy_file.policy.policy)) → IsTrue v.whole
      → HasGroups v leaves classes gs → AreRunSums policy_file (sum_rate pace) events gs
  groups_of_run events v gs can sums_are whole has =
      let few : length classes ≤ length table = omega (arith, names, ap (λ (l : List Label). length l) classes_are, ap (λ (l : List ℕ). length l) table_is, length-map policy_file.policy.policy.classes (λ (c : Class). leaf_index policy_file.policy.policy.tree (number_at policy_file.policy.policy.tree c.leaf))) in
      let are = groups_are_of_the_run policy_file.policy.policy events (sum_rate pace) table (length leaves) w v leaves classes gs accepted can nothing sums_are whole (omega arith) few has in
      rw (sym table_is, sym leaves_are, sym classes_are) are

  pub sums_closed : (sums : Type 0) (answer : RunAnswer) (v : Summary) (e : Ending) (r : Result Status Stop) (a b c : Option (List ℕ)) → IsWholeRun ghosts policy_file.policy.policy answer w a e v b
      → (IsTrue v.whole ⊎ LacksRoom sums r b c)
      → (IsTrue v.whole → IfOk r (λ s. s ≡ run_status e))
      → (IsTrue v.whole → OnOk r (AreSumsWritten form v leaves classes e (Appended b c)))
      → (IsTrue v.whole → OnErr r (AreSumsWritten form v leaves classes e (AppendedPrefix b c) ⊎ Appended b c []))
      → IsToldOr sums (IsSummed (render form) policy_file pace answer) r a c
  sums_closed sums answer v e r a b c run room status text part = by r room status text part
    where
      same : b ≡ a
      same = run.recorded.1.unwritten

      told : (r : Result Status Stop) (P : List ℕ → Type 0) (t : AreSumsWritten form v leaves classes e P) → IsTrue v.whole
          → IfOk r (λ s. status_code s ≡ ending_status e) × OnOk r (Appended b c (render form t.is.groups ++ ending_line e)) × OnErr r (AppendedPrefix b c (render form t.is.groups ++ ending_line e))
          → IsToldOr sums (IsSummed (render form) policy_file pace answer) r a c
      told r P t whole is = inl (result_out _ _ _ answer ghosts w policy_file.policy.policy (λ events gs hs. λ one other. render_same form gs hs (sums_once _ (sum_rate pace) _ _ _ gs hs one other)) v e t.is.groups r a b c run same
          (groups_of_run run.events v t.is.groups run.can run.recorded.1.sums whole t.is.has) is)

      by : (r : Result Status Stop) → (IsTrue v.whole ⊎ LacksRoom sums r b c) → (IsTrue v.whole → IfOk r (λ s. s ≡ run_status e)) → (IsTrue v.whole → OnOk r (AreSumsWritten form v leaves classes e (Appended b c)))
          → (IsTrue v.whole → OnErr r (AreSumsWritten form v leaves classes e (AppendedPrefix b c) ⊎ Appended b c [])) → IsToldOr sums (IsSummed (render form) policy_file pace answer) r a c
      by r (inr lacks) status text part = inr (record { summed_up = lacks.summed_up; ends = lacks.ends; nothing = subst (λ (x : Option (List ℕ)). Appended x c []) same lacks.nothing })
      by (Ok s) (inl whole) status text part =
          let t = text whole in
          told (Ok s) (Appended b c) t whole (ap status_code (status whole) ∙ same_status e, subst (λ (l : List ℕ). Appended b c (l ++ ending_line e)) t.is.is t.written, tt)
      by (Err stop) (inl whole) status text part = by_part (part whole)
        where
          by_part : AreSumsWritten form v leaves classes e (AppendedPrefix b c) ⊎ Appended b c [] → IsToldOr sums (IsSummed (render form) policy_file pace answer) (Err stop) a c
          by_part (inl t) = told (Err stop) (AppendedPrefix b c) t whole (tt, tt, subst (λ (l : List ℕ). AppendedPrefix b c (l ++ ending_line e)) t.is.is t.written)
          by_part (inr none) = inl (nothing_out _ _ _ answer stop a c (subst (λ (x : Option (List ℕ)). Appended x c []) same none))

-- ---- statuses
pub sum_statuses : (pace : code.Pace) (e : Ending) (r : Result Status Stop) → CanEndSo pace e → IfOk r (λ s. (s ≡ run_status e) ⊎ (s ≡ LateStart)) → IfOk r (λ s. IsOneOf (14 ∷ pace_statuses pace) (status_code s))
sum_statuses pace e (Err stop) can is = tt
sum_statuses pace e (Ok s) can (inl is) = inr (rw is (pace_ends pace e can))
sum_statuses pace e (Ok s) can (inr is) = inl (ap status_code is)
