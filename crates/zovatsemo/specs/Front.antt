-- What the options ask for: a run with the replayer's arguments that they give, or a study.
use Rattle.std.specs.Prelude.{◌≡◌, refl, ℕ, nat_le, ◌&&◌, Bool, true, false, if◌then◌else◌, Option, None, Some, option_map, List, [], ◌∷◌, codes}
use Rattle.std.specs.Borrow.{Bor}
use Rattle.std.specs.Option.{option_and_then}
use Rattle.sched_defs.specs.SendTime.{most_rate, most_overhead}
use Rattle.sched_defs.specs.declared.rate.LinkRate.{LinkRate}
use Rattle.policy_text_defs.specs.declared.edition.Edition.{Edition}
use Rattle.policy_text_defs.specs.declared.edition.Edition.TheVariants.{Third}
use Rattle.tap_core.specs.Lists.{Entry}
use Rattle.front_defs.specs.Options.{words_of, has_words}
use Rattle.front_defs.specs.declared.command.Command.{Command}
use Rattle.front_defs.specs.declared.command.Command.TheVariants as command
use Rattle.front_defs.specs.declared.options.Options.{Options}
use Rattle.front_defs.specs.declared.sizes.Sizes.{Sizes}
use Rattle.front_defs.specs.declared.view.View.{View}
use Rattle.front_defs.specs.declared.view.View.TheVariants as view
use Rattle.replay_app.specs.Answer.{IsGiven}
use Rattle.replay_app.specs.Output.{Answers}
use Rattle.replay_app.specs.Statuses.{CanEnd}
use Rattle.replay_app.specs.Words.{Form, check, form_of, file_words}
use Rattle.block_replay.specs.Output.{IsBlockOutput}
use Rattle.block_replay.specs.Words.{BlockForm, calm, CanBlockEnd, block_form_of, block_file_words}
use Rattle.front_upgrade.specs.Upgraded.{IsUpgraded}
use Rattle.study.specs.Files.{study_files, CanStudyEnd}
use Rattle.study.specs.Studied.{IsAnswered}
use Rattle.study.specs.declared.parts.Drive.{Drive}
use Rattle.study.specs.declared.parts.Drive.TheVariants.{Script, Link, Forward}
use Rattle.study.specs.declared.parts.Measure.{Measure}
use Rattle.study.specs.declared.parts.Study.{Study}
use Rattle.study.specs.declared.parts.View as study
use Rattle.study.specs.declared.parts.View.TheVariants as studied

-- the latest edition of the language that the program reads
abbrev pub latest : Edition
latest = Third

-- ---- studies
-- the limits and widths of `size`, on rank stores or not
abbrev pub measure : Bool → Sizes → Measure
measure block sizes = record {
  stores = block;
  limits = record { entries = sizes.entries; bits = sizes.bits };
  widths = option_map (λ w. record { rank = w.rank; entry = w.entry }) sizes.widths;
}

-- sizes are written as one JSON object if events would be JSON lines, and otherwise as text
abbrev pub size_view : View → Measure → study.View
size_view view.Json wanted = studied.JsonSize wanted
size_view other wanted = studied.Size wanted

abbrev pub run_view : View → study.View
run_view view.Report = studied.Report
run_view view.Json = studied.Json
run_view view.Summary = studied.Summary
run_view view.JsonSummary = studied.JsonSummary

-- how the outcomes of a command are written
abbrev pub study_view : Command → View → Measure → study.View
study_view command.Size shown wanted = size_view shown wanted
study_view other shown wanted = run_view shown

-- a link of this many bytes per second, and bytes for each packet besides its length, if both are in
-- range
abbrev pub link_rate : Option ℕ → ℕ → Option LinkRate
link_rate bytes overhead =
    option_and_then (λ b. if nat_le 1 b && nat_le b most_rate && nat_le overhead most_overhead
    then Some (record { bytes = b; overhead = overhead }) else None) bytes

-- a script paces a run over a capture, with or without a target
abbrev pub scripted : Bor (List ℕ) → Option (Bor (List ℕ)) → Bor (List ℕ) → Bor (List ℕ) → study.View → Study
scripted p target c e shown = record { latest = latest; policy = p; target = target; capture = c; drive = Script e; view = shown }

-- a link paces a run: the files are a policy and a capture, and a target may be between them
abbrev pub linked : List (Bor (List ℕ)) → Drive → study.View → Option Study
linked (p ∷ c ∷ []) drive shown = Some (record { latest = latest; policy = p; target = None; capture = c; drive = drive; view = shown })
linked (p ∷ t ∷ c ∷ []) drive shown = Some (record { latest = latest; policy = p; target = Some t; capture = c; drive = drive; view = shown })
linked files drive shown = None

-- a script paces a run through the policy's own tree
abbrev pub directed : List (Bor (List ℕ)) → study.View → Option Study
directed (p ∷ c ∷ e ∷ []) shown = Some (scripted p None c e shown)
directed files shown = None

-- a script paces a run through the queues of a target
abbrev pub replayed : List (Bor (List ℕ)) → study.View → Option Study
replayed (p ∷ t ∷ c ∷ e ∷ []) shown = Some (scripted p (Some t) c e shown)
replayed files shown = None

-- a link paces a run through the queues of a target
abbrev pub linked_through : List (Bor (List ℕ)) → LinkRate → study.View → Option Study
linked_through (p ∷ t ∷ c ∷ []) rate shown = Some (record { latest = latest; policy = p; target = Some t; capture = c; drive = Link rate; view = shown })
linked_through files rate shown = None

-- a link paces the run of `size` if it has a rate, and otherwise a script
abbrev pub sized : List (Bor (List ℕ)) → Option LinkRate → study.View → Option Study
sized files None shown = replayed files shown
sized files (Some rate) shown = linked_through files rate shown

-- the study of a command with these files, and with this link if it has one
abbrev pub study_by : Command → List (Bor (List ℕ)) → Option LinkRate → study.View → Option Study
study_by command.Direct files rate shown = directed files shown
study_by command.Replay files rate shown = replayed files shown
study_by command.Link files rate shown = option_and_then (λ r. linked files (Link r) shown) rate
study_by command.Forward files rate shown = option_and_then (λ r. linked files (Forward r) shown) rate
study_by command.Size files rate shown = sized files rate shown
study_by other files rate shown = None

-- the study that the options ask for, if the replayer has no arguments for them
abbrev pub study_asked : Options → Option Study
study_asked o = if has_words o then None else study_by o.command o.files.items (link_rate o.rate o.overhead) (study_view o.command o.view (measure o.block o.sizes))

-- ---- a policy as one of version 3
abbrev pub only_file : List (Bor (List ℕ)) → Option (Bor (List ℕ))
only_file (p ∷ []) = Some p
only_file files = None

-- the policy that is written so; of all commands, `check` alone has one file
abbrev pub upgrade_by : Bool → List (Bor (List ℕ)) → Option (Bor (List ℕ))
upgrade_by upgrade files = if upgrade then only_file files else None

abbrev pub upgrade_asked : Options → Option (Bor (List ℕ))
upgrade_asked o = upgrade_by o.upgrade o.files.items

-- ---- what a command line asks for
pub data Asked : Type 0 where
  -- the policy of this name as one of version 3
  upgrade_of : List ℕ → Asked
  -- a study
  study_of : Study → Asked
  -- a run with the replayer's arguments
  run_of : Form → Asked
  -- such a run on rank stores
  block_of : BlockForm → Asked

-- the forms of the replayer's arguments that the options give
abbrev pub form_asked : Options → Form
form_asked o = form_of latest (words_of o)

abbrev pub block_form_asked : Options → BlockForm
block_form_asked o = block_form_of latest (words_of o)

abbrev pub words_asked_by : Bool → Form → BlockForm → Asked
words_asked_by false form block_form = run_of form
words_asked_by true form block_form = block_of block_form

-- the run with the replayer's arguments
abbrev pub words_asked : Options → Asked
words_asked o = words_asked_by o.block (form_asked o) (block_form_asked o)

-- a study, or otherwise the run
abbrev pub asked_by : Option Study → Asked → Asked
asked_by (Some wanted) run = study_of wanted
asked_by None run = run

abbrev pub run_asked : Options → Asked
run_asked o = asked_by (study_asked o) (words_asked o)

-- an upgrade, or otherwise the study or the run
abbrev pub asked_first : Option (Bor (List ℕ)) → Asked → Asked
asked_first (Some policy) other = upgrade_of policy.now
asked_first None other = other

abbrev pub asked : Options → Asked
asked o = asked_first (upgrade_asked o) (run_asked o)

-- the names of the files that are read
abbrev pub asked_files : Asked → List (List ℕ)
asked_files (upgrade_of policy) = policy ∷ []
asked_files (study_of wanted) = study_files wanted
asked_files (run_of form) = file_words form
asked_files (block_of form) = block_file_words form

-- the output for the contents of these files and for taps, with its status
abbrev pub AnswersAsked : Asked → (List ℕ → List ℕ) → List Entry → ℕ → Option (List ℕ) → Option (List ℕ) → Type 0
AnswersAsked (upgrade_of policy) contents taps status old new = IsGiven (IsUpgraded (contents policy)) status old new
AnswersAsked (study_of wanted) contents taps status old new = IsAnswered wanted contents status old new
AnswersAsked (run_of form) contents taps status old new = Answers form contents taps status old new
AnswersAsked (block_of form) contents taps status old new = IsGiven (IsBlockOutput form contents taps) status old new

-- the status is possible
abbrev pub CanEndAsked : Asked → ℕ → Type 0
CanEndAsked (upgrade_of policy) status = CanEnd (check latest policy) status
CanEndAsked (study_of wanted) status = CanStudyEnd wanted status
CanEndAsked (run_of form) status = CanEnd form status
CanEndAsked (block_of form) status = CanBlockEnd form status

the_only_file_is_upgraded : (p t : Bor (List ℕ)) → (upgrade_by true (p ∷ []) ≡ Some p) × (upgrade_by false (p ∷ []) ≡ None) × (upgrade_by true (p ∷ t ∷ []) ≡ None)
the_only_file_is_upgraded p t = (refl, refl, refl)

a_link_with_overhead : link_rate (Some 1250000) 24 ≡ Some (record { bytes = 1250000; overhead = 24 })
a_link_with_overhead = refl

a_link_of_no_rate : link_rate (Some 0) 24 ≡ None
a_link_of_no_rate = refl

direct_as_json : (p c e : Bor (List ℕ)) → study_by command.Direct (p ∷ c ∷ e ∷ []) None studied.Json ≡ Some (scripted p None c e studied.Json)
direct_as_json p c e = refl

replay_in_sums : (p t c e : Bor (List ℕ)) → study_by command.Replay (p ∷ t ∷ c ∷ e ∷ []) None studied.Summary ≡ Some (scripted p (Some t) c e studied.Summary)
replay_in_sums p t c e = refl

link_without_a_target : (p c : Bor (List ℕ)) (rate : LinkRate) → study_by command.Link (p ∷ c ∷ []) (Some rate) studied.Report
    ≡ Some (record { latest = latest; policy = p; target = None; capture = c; drive = Link rate; view = studied.Report })
link_without_a_target p c rate = refl

forward_with_a_target : (p t c : Bor (List ℕ)) (rate : LinkRate) → study_by command.Forward (p ∷ t ∷ c ∷ []) (Some rate) studied.Report
    ≡ Some (record { latest = latest; policy = p; target = Some t; capture = c; drive = Forward rate; view = studied.Report })
forward_with_a_target p t c rate = refl

size_with_a_script : (p t c e : Bor (List ℕ)) (wanted : Measure) → study_by command.Size (p ∷ t ∷ c ∷ e ∷ []) None (studied.Size wanted) ≡ Some (scripted p (Some t) c e (studied.Size wanted))
size_with_a_script p t c e wanted = refl

size_with_a_rate : (p t c : Bor (List ℕ)) (rate : LinkRate) (wanted : Measure) → study_by command.Size (p ∷ t ∷ c ∷ []) (Some rate) (study_view command.Size view.Json wanted)
    ≡ Some (record { latest = latest; policy = p; target = Some t; capture = c; drive = Link rate; view = studied.JsonSize wanted })
size_with_a_rate p t c rate wanted = refl

size_needs_a_target : (p c : Bor (List ℕ)) (rate : LinkRate) (wanted : Measure) → study_by command.Size (p ∷ c ∷ []) (Some rate) (studied.Size wanted) ≡ None
size_needs_a_target p c rate wanted = refl

a_plan_is_no_study : (p t : Bor (List ℕ)) → study_by command.Plan (p ∷ t ∷ []) None studied.Json ≡ None
a_plan_is_no_study p t = refl

rank_stores_have_a_form : words_asked_by true (form_of Third (codes "calm" ∷ codes "p" ∷ codes "t" ∷ [])) (block_form_of Third (codes "calm" ∷ codes "p" ∷ codes "t" ∷ []))
    ≡ block_of (calm Third (codes "p") (codes "t"))
rank_stores_have_a_form = refl
