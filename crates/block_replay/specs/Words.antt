-- The arguments after the program's name, and their forms.
use Rattle.std.specs.Prelude.{◌≡◌, refl, ◌⊎◌, ℕ, if◌then◌else◌, List, [], ◌∷◌, codes, String, Result, Ok, Err}
use Rattle.std.specs.List.{list_any}
use Rattle.std.specs.Str.{bytes_eq}
use Rattle.std.specs.declared.alloc.Global.{Global}
use Rattle.outside_core.specs.declared.stop.Stop.{Stop}
use Rattle.policy_text_defs.specs.declared.edition.Edition.{Edition}
use Rattle.policy_text_defs.specs.declared.edition.Edition.TheVariants.{Classic, Third}
use Rattle.tap_core.specs.Names.{none_named}
use Rattle.replay_app.specs.Statuses.{IsOneOf, IsStop, status_code, statuses_of}
use Rattle.replay_app.specs.Stops.{stop_status}
use Rattle.replay_app.specs.Words.{Form, replay, script, plan, soak, no_form, form_of, file_words, texts}
use Rattle.replay_app.specs.declared.status.Status.{Status}
use Rattle.block_replay.specs.declared.words.CalmFiles.{CalmFiles}
use Rattle.block_replay.specs.declared.words.Task.{Task}
use Rattle.block_replay.specs.declared.words.Task.TheVariants.{Calm, Shared, NoForm}

-- a command with its file names
pub data BlockForm : Type 0 where
  -- a command of the program over plain queues
  shared : Form → BlockForm
  -- a policy, which is read up to an edition of the language, and a target
  calm : Edition → List ℕ → List ℕ → BlockForm

-- the commands that only the program over plain queues has
abbrev pub left_out : List (List ℕ)
left_out = codes "via" ∷ codes "forward" ∷ []

-- the form of `calm`, from the names of the policy and of a target
abbrev pub calm_by : Edition → List (List ℕ) → BlockForm
calm_by latest (p ∷ t ∷ []) = calm latest p t
calm_by latest names = shared no_form

-- the form of arguments whose policy is read up to an edition
abbrev pub block_form_of : Edition → List (List ℕ) → BlockForm
block_form_of latest [] = shared no_form
block_form_of latest (w ∷ more) =
    if list_any (bytes_eq w) left_out then shared no_form
    else (if bytes_eq w (codes "calm") then calm_by latest more else shared (form_of latest (w ∷ more)))

-- the form of the arguments, for a reader of the editions up to `latest`
abbrev pub block_form_up_to : Edition → List (String Global) → BlockForm
block_form_up_to latest words = block_form_of latest (texts words)

-- the form of the arguments, for a reader of versions 1 and 2
abbrev pub block_form_in : List (String Global) → BlockForm
block_form_in words = block_form_up_to Classic words

-- the arguments that name files
abbrev pub block_file_words : BlockForm → List (List ℕ)
block_file_words (shared form) = file_words form
block_file_words (calm latest p t) = p ∷ t ∷ []

-- the possible statuses for a form, if nothing stops the program
abbrev pub block_statuses : BlockForm → List ℕ
block_statuses (shared form) = statuses_of form
block_statuses (calm latest p t) = 3 ∷ 4 ∷ 5 ∷ 0 ∷ []

-- arguments of this form can end with this status
abbrev pub CanBlockEnd : BlockForm → ℕ → Type 0
CanBlockEnd form status = IsOneOf (block_statuses form) status ⊎ IsStop status

-- the exit status: that of the run, or that of the stop that ended it
abbrev pub end_status : Result Status Stop → ℕ
end_status (Ok status) = status_code status
end_status (Err stop) = stop_status stop

abbrev pub calm_form : CalmFiles → BlockForm
calm_form files = calm files.latest files.policy.now files.target.now

-- the form of the arguments that give this task
abbrev pub task_form : Edition → List (List ℕ) → Task → BlockForm
task_form latest words (Calm files) = calm_form files
task_form latest words Shared = shared (form_of latest words)
task_form latest words NoForm = shared no_form

pub block_form_of-calm : block_form_of Classic (codes "calm" ∷ codes "p" ∷ codes "t" ∷ []) ≡ calm Classic (codes "p") (codes "t")
block_form_of-calm = refl

pub block_form_of-calm_without_a_target : block_form_of Classic (codes "calm" ∷ codes "p" ∷ []) ≡ shared no_form
block_form_of-calm_without_a_target = refl

pub block_form_of-replay : block_form_of Classic (codes "replay" ∷ codes "p" ∷ codes "t" ∷ codes "c" ∷ codes "e" ∷ []) ≡ shared (replay Classic (codes "p") (codes "t") (codes "c") (script (codes "e") none_named))
block_form_of-replay = refl

pub block_form_of-plan : block_form_of Classic (codes "plan" ∷ codes "p" ∷ codes "t" ∷ []) ≡ shared (plan Classic (codes "p") (codes "t"))
block_form_of-plan = refl

pub block_form_of-soak : block_form_of Classic (codes "soak" ∷ codes "7" ∷ codes "0200" ∷ []) ≡ shared (soak (record { seed = 7; count = 200 }))
block_form_of-soak = refl

pub block_form_of-via : block_form_of Classic (codes "via" ∷ codes "p" ∷ codes "g" ∷ codes "m" ∷ codes "t" ∷ codes "c" ∷ codes "e" ∷ []) ≡ shared no_form
block_form_of-via = refl

pub block_form_of-forward : block_form_of Classic (codes "forward" ∷ codes "p" ∷ codes "t" ∷ codes "c" ∷ codes "10" ∷ []) ≡ shared no_form
block_form_of-forward = refl

pub block_form_of-nothing : block_form_of Classic [] ≡ shared no_form
block_form_of-nothing = refl

-- a reader of version 3 has the same forms, and reads its policies up to that version
pub block_form_of-calm_in_version_3 : block_form_of Third (codes "calm" ∷ codes "p" ∷ codes "t" ∷ []) ≡ calm Third (codes "p") (codes "t")
block_form_of-calm_in_version_3 = refl
