-- The files that a study reads, and the statuses with which it can end.
use Rattle.std.specs.Prelude.{◌⊎◌, ℕ, Option, None, Some, option_map, List, [], ◌∷◌}
use Rattle.sched_defs.specs.SendTime.{IsRate}
use Rattle.replay_app.specs.Statuses.{IsOneOf, IsStop, run_statuses, link_statuses, forward_statuses}
use Rattle.study.specs.declared.parts.Drive.{Drive}
use Rattle.study.specs.declared.parts.Drive.TheVariants.{Script, Link, Forward}
use Rattle.study.specs.declared.parts.Study.{Study}
use Rattle.study.specs.declared.parts.View.{View}
use Rattle.study.specs.declared.parts.View.TheVariants.{Report, Json, Summary, JsonSummary, Size, JsonSize}

-- the name of the target, if there is one
abbrev pub target_of : Study → Option (List ℕ)
target_of s = option_map (λ t. t.now) s.target

-- the names of the target, if there is one, and of other files
abbrev pub with_target : Option (List ℕ) → List (List ℕ) → List (List ℕ)
with_target None names = names
with_target (Some t) names = t ∷ names

-- the name of the script, if there is one
abbrev pub drive_files : Drive → List (List ℕ)
drive_files (Script e) = e.now ∷ []
drive_files (Link rate) = []
drive_files (Forward rate) = []

-- the names of the files, in the order in which they are read except for the capture
abbrev pub study_files : Study → List (List ℕ)
study_files s = s.policy.now ∷ with_target (target_of s) (s.capture.now ∷ drive_files s.drive)

-- a link's rate is in range
abbrev pub HasLinkRate : Drive → Type 0
HasLinkRate (Script e) = Unit {0}
HasLinkRate (Link rate) = IsRate rate
HasLinkRate (Forward rate) = IsRate rate

-- ---- statuses
-- the views that sum a run up
abbrev pub IsSum : View → Type 0
IsSum Report = ⊥
IsSum Json = ⊥
IsSum Summary = Unit {0}
IsSum JsonSummary = Unit {0}
IsSum (Size m) = ⊥
IsSum (JsonSize m) = ⊥

-- whether a run is summed up; the view of a forward is ignored
abbrev pub IsSummedUp : Drive → View → Type 0
IsSummedUp (Script e) view = IsSum view
IsSummedUp (Link rate) view = IsSum view
IsSummedUp (Forward rate) view = ⊥

-- a sum may have no room, and a queue may pass a limit
abbrev pub view_statuses : View → List ℕ → List ℕ
view_statuses Report others = others
view_statuses Json others = others
view_statuses Summary others = 14 ∷ others
view_statuses JsonSummary others = 14 ∷ others
view_statuses (Size m) others = 1 ∷ others
view_statuses (JsonSize m) others = 1 ∷ others

abbrev pub drive_statuses : Drive → View → List ℕ
drive_statuses (Script e) view = view_statuses view run_statuses
drive_statuses (Link rate) view = view_statuses view link_statuses
drive_statuses (Forward rate) view = forward_statuses

-- a target may be rejected, or may have no room for the policy's tree
abbrev pub target_statuses : Option (List ℕ) → List ℕ → List ℕ
target_statuses None others = others
target_statuses (Some t) others = 4 ∷ 5 ∷ others

-- the possible statuses, if nothing stops the program
abbrev pub study_statuses : Study → List ℕ
study_statuses s = 3 ∷ target_statuses (target_of s) (drive_statuses s.drive s.view)

-- a study can end with this status
abbrev pub CanStudyEnd : Study → ℕ → Type 0
CanStudyEnd s status = IsOneOf (study_statuses s) status ⊎ IsStop status
