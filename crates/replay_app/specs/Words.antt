-- The arguments after the program's name, and their forms.
use Rattle.std.specs.Prelude.{◌≡◌, refl, ℕ, nat_le, ◌&&◌, Bool, true, false, IsTrue, if◌then◌else◌, Option, None, Some, option_map, List, [], ◌∷◌, map, codes, String, string_bytes}
use Rattle.std.specs.List.{AllByRecursion}
use Rattle.std.specs.Option.{option_and_then, option_map_or}
use Rattle.std.specs.Str.{bytes_eq}
use Rattle.std.specs.declared.alloc.Global.{Global}
use Rattle.sched_defs.specs.SendTime.{most_rate}
use Rattle.text_core.specs.Decimals.{number_of}
use Rattle.rank_defs.specs.Programs.{max_rank}
use Rattle.policy_text_defs.specs.declared.edition.Edition.{Edition}
use Rattle.policy_text_defs.specs.declared.edition.Edition.TheVariants.{Classic, Third}
use Rattle.sched_run.specs.Drawings.{most_load}
use Rattle.sched_capture.specs.declared.load.LoadSize.{LoadSize}
use Rattle.tap_core.specs.Names.{none_named, named_with}
use Rattle.tap_core.specs.declared.watch.Named.{Named}

-- the bytes of each argument
abbrev pub texts : List (String Global) → List (List ℕ)
texts words = map string_bytes words

-- what paces a run: the script of this name, with the kinds of taps that watch; a link at this rate
-- in bytes per second; or such a link whose departures are written as a capture
pub data Pacing : Type 0 where
  script : List ℕ → Named → Pacing
  link : ℕ → Pacing
  forward : ℕ → Pacing

-- a command with its file names; a policy is read up to an edition of the language
pub data Form : Type 0 where
  -- a policy, a target, a capture, and what paces the run
  replay : Edition → List ℕ → List ℕ → List ℕ → Pacing → Form
  -- a policy
  check : Edition → List ℕ → Form
  -- a policy and a target
  plan : Edition → List ℕ → List ℕ → Form
  -- a policy, a capture and a script
  direct : Edition → List ℕ → List ℕ → List ℕ → Form
  -- a generated load
  soak : LoadSize → Form
  -- a policy, a topology, a map of the policy's tree into it, a target, a capture and a script
  via : Edition → List ℕ → List ℕ → List ℕ → List ℕ → List ℕ → List ℕ → Form
  no_form : Form

-- the rate that an argument gives, in bytes per second
abbrev pub rate_of : List ℕ → Option ℕ
rate_of w = option_and_then (λ n. if nat_le 1 n && nat_le n most_rate then Some n else None) (number_of w)

-- the number that an argument gives, if it is at most `most`
abbrev pub number_within : ℕ → List ℕ → Option ℕ
number_within most w = option_and_then (λ n. if nat_le n most then Some n else None) (number_of w)

-- the load that the arguments after `soak` give: a seed, and how many events are drawn
abbrev pub load_of : List ℕ → List ℕ → Option LoadSize
load_of seed count =
    option_and_then (λ s. option_map (λ n. record { seed = s; count = n }) (number_within most_load count)) (number_within max_rank seed)

-- the form of three arguments
abbrev pub three_words : Edition → List ℕ → List ℕ → List ℕ → Form
three_words latest w second third =
    if bytes_eq w (codes "plan") then plan latest second third
    else (if bytes_eq w (codes "soak") then option_map_or soak (load_of second third) no_form else no_form)

-- these kinds of taps and those that the arguments name in pairs; each kind may be named only once
abbrev pub named_in : Named → List (List ℕ) → Option Named
named_in named [] = Some named
named_in named (w ∷ []) = None
named_in named (w ∷ name ∷ more) = if bytes_eq w (codes "tap") then option_and_then (λ n. named_in n more) (named_with named name) else None

-- a rate that is the last argument
abbrev pub last_rate : List ℕ → List (List ℕ) → Option ℕ
last_rate rate [] = rate_of rate
last_rate rate (w ∷ more) = None

-- what paces a run through the fabric, from the first argument, the fifth, and those after it
abbrev pub pacing_by : List ℕ → List ℕ → List (List ℕ) → Option Pacing
pacing_by w fifth more =
    if bytes_eq w (codes "replay") then option_map (script fifth) (named_in none_named more)
    else (if bytes_eq w (codes "link") then option_map link (last_rate fifth more)
    else (if bytes_eq w (codes "forward") then option_map forward (last_rate fifth more) else None))

-- a run along a given map: the names of a policy, a topology, a map and a target, followed by
-- exactly two more
abbrev pub via_by : Edition → List ℕ → List ℕ → List ℕ → List ℕ → List (List ℕ) → Form
via_by latest p g m t (c ∷ e ∷ []) = via latest p g m t c e
via_by latest p g m t more = no_form

-- the form of arguments whose policy is read up to an edition
abbrev pub form_of : Edition → List (List ℕ) → Form
form_of latest (w ∷ p ∷ []) = if bytes_eq w (codes "check") then check latest p else no_form
form_of latest (w ∷ second ∷ third ∷ []) = three_words latest w second third
form_of latest (w ∷ p ∷ c ∷ e ∷ []) = if bytes_eq w (codes "direct") then direct latest p c e else no_form
form_of latest (w ∷ p ∷ second ∷ third ∷ fourth ∷ more) =
    if bytes_eq w (codes "via") then via_by latest p second third fourth more
    else option_map_or (replay latest p second third) (pacing_by w fourth more) no_form
form_of latest words = no_form

-- the name of the script, if there is one
abbrev pub pacing_words : Pacing → List (List ℕ)
pacing_words (script e named) = e ∷ []
pacing_words (link rate) = []
pacing_words (forward rate) = []

-- the arguments that name files
abbrev pub file_words : Form → List (List ℕ)
file_words (replay latest p t c pacing) = p ∷ t ∷ c ∷ pacing_words pacing
file_words (check latest p) = p ∷ []
file_words (plan latest p t) = p ∷ t ∷ []
file_words (direct latest p c e) = p ∷ c ∷ e ∷ []
file_words (soak load) = []
file_words (via latest p g m t c e) = p ∷ g ∷ m ∷ t ∷ c ∷ e ∷ []
file_words no_form = []

-- each of the named files may be opened
abbrev pub AreLent : (List ℕ → Bool) → List (List ℕ) → Type 0
AreLent lends names = AllByRecursion (λ name. IsTrue (lends name)) names

-- the content of each of the named files is known to the contract
abbrev pub AreTold : (List ℕ → Option (List ℕ)) → (List ℕ → List ℕ) → List (List ℕ) → Type 0
AreTold content contents names = AllByRecursion (λ name. content name ≡ Some (contents name)) names

-- P holds of the contents of the named files, if these are known to the contract
abbrev pub WhereTold : (List ℕ → Option (List ℕ)) → List (List ℕ) → ((List ℕ → List ℕ) → Type 0) → Type 0
WhereTold content names P = (contents : List ℕ → List ℕ) → AreTold content contents names → P contents

-- the form of the arguments, for a reader of the editions up to `latest`
abbrev pub form_up_to : Edition → List (String Global) → Form
form_up_to latest words = form_of latest (texts words)

-- the form of the arguments, for a reader of versions 1 and 2
abbrev pub form_in : List (String Global) → Form
form_in words = form_up_to Classic words

pub form_of-replay : form_of Classic (codes "replay" ∷ codes "p" ∷ codes "t" ∷ codes "c" ∷ codes "e" ∷ []) ≡ replay Classic (codes "p") (codes "t") (codes "c") (script (codes "e") none_named)
form_of-replay = refl

pub form_of-replay_with_taps : form_of Classic (codes "replay" ∷ codes "p" ∷ codes "t" ∷ codes "c" ∷ codes "e" ∷ codes "tap" ∷ codes "first" ∷ codes "tap" ∷ codes "bytes" ∷ [])
    ≡ replay Classic (codes "p") (codes "t") (codes "c") (script (codes "e") (record { bytes = true; order = false; first = true; drops = false }))
form_of-replay_with_taps = refl

pub form_of-replay_with_a_tap_twice : form_of Classic (codes "replay" ∷ codes "p" ∷ codes "t" ∷ codes "c" ∷ codes "e" ∷ codes "tap" ∷ codes "order" ∷ codes "tap" ∷ codes "order" ∷ []) ≡ no_form
form_of-replay_with_a_tap_twice = refl

pub form_of-replay_with_half_a_pair : form_of Classic (codes "replay" ∷ codes "p" ∷ codes "t" ∷ codes "c" ∷ codes "e" ∷ codes "tap" ∷ []) ≡ no_form
form_of-replay_with_half_a_pair = refl

pub form_of-link_with_a_tap : form_of Classic (codes "link" ∷ codes "p" ∷ codes "t" ∷ codes "c" ∷ codes "10" ∷ codes "tap" ∷ codes "bytes" ∷ []) ≡ no_form
form_of-link_with_a_tap = refl

pub form_of-link : form_of Classic (codes "link" ∷ codes "p" ∷ codes "t" ∷ codes "c" ∷ codes "010" ∷ []) ≡ replay Classic (codes "p") (codes "t") (codes "c") (link 10)
form_of-link = refl

pub form_of-link_too_slow : form_of Classic (codes "link" ∷ codes "p" ∷ codes "t" ∷ codes "c" ∷ codes "0" ∷ []) ≡ no_form
form_of-link_too_slow = refl

pub form_of-link_fastest : form_of Classic (codes "link" ∷ codes "p" ∷ codes "t" ∷ codes "c" ∷ codes "1000000000000" ∷ []) ≡ replay Classic (codes "p") (codes "t") (codes "c") (link 1000000000000)
form_of-link_fastest = refl

pub form_of-link_too_fast : form_of Classic (codes "link" ∷ codes "p" ∷ codes "t" ∷ codes "c" ∷ codes "1000000000001" ∷ []) ≡ no_form
form_of-link_too_fast = refl

pub form_of-forward : form_of Classic (codes "forward" ∷ codes "p" ∷ codes "t" ∷ codes "c" ∷ codes "10" ∷ []) ≡ replay Classic (codes "p") (codes "t") (codes "c") (forward 10)
form_of-forward = refl

pub form_of-forward_with_a_tap : form_of Classic (codes "forward" ∷ codes "p" ∷ codes "t" ∷ codes "c" ∷ codes "10" ∷ codes "tap" ∷ codes "bytes" ∷ []) ≡ no_form
form_of-forward_with_a_tap = refl

pub form_of-replay_alone : form_of Classic (codes "replay" ∷ []) ≡ no_form
form_of-replay_alone = refl

pub form_of-check : form_of Classic (codes "check" ∷ codes "p" ∷ []) ≡ check Classic (codes "p")
form_of-check = refl

pub form_of-plan : form_of Classic (codes "plan" ∷ codes "p" ∷ codes "t" ∷ []) ≡ plan Classic (codes "p") (codes "t")
form_of-plan = refl

pub form_of-direct : form_of Classic (codes "direct" ∷ codes "p" ∷ codes "c" ∷ codes "e" ∷ []) ≡ direct Classic (codes "p") (codes "c") (codes "e")
form_of-direct = refl

pub form_of-soak : form_of Classic (codes "soak" ∷ codes "7" ∷ codes "0200" ∷ []) ≡ soak (record { seed = 7; count = 200 })
form_of-soak = refl

pub form_of-soak_most : form_of Classic (codes "soak" ∷ codes "4611686018427387903" ∷ codes "1000000" ∷ []) ≡ soak (record { seed = 4611686018427387903; count = 1000000 })
form_of-soak_most = refl

pub form_of-soak_too_great_a_seed : form_of Classic (codes "soak" ∷ codes "4611686018427387904" ∷ codes "1" ∷ []) ≡ no_form
form_of-soak_too_great_a_seed = refl

pub form_of-soak_too_many : form_of Classic (codes "soak" ∷ codes "1" ∷ codes "1000001" ∷ []) ≡ no_form
form_of-soak_too_many = refl

pub form_of-via : form_of Classic (codes "via" ∷ codes "p" ∷ codes "g" ∷ codes "m" ∷ codes "t" ∷ codes "c" ∷ codes "e" ∷ []) ≡ via Classic (codes "p") (codes "g") (codes "m") (codes "t") (codes "c") (codes "e")
form_of-via = refl

pub form_of-via_without_a_script : form_of Classic (codes "via" ∷ codes "p" ∷ codes "g" ∷ codes "m" ∷ codes "t" ∷ codes "c" ∷ []) ≡ no_form
form_of-via_without_a_script = refl

pub form_of-via_with_a_tap : form_of Classic (codes "via" ∷ codes "p" ∷ codes "g" ∷ codes "m" ∷ codes "t" ∷ codes "c" ∷ codes "e" ∷ codes "tap" ∷ codes "bytes" ∷ []) ≡ no_form
form_of-via_with_a_tap = refl

-- a reader of version 3 has the same forms, and reads its policies up to that version
pub form_of-check_in_version_3 : form_of Third (codes "check" ∷ codes "p" ∷ []) ≡ check Third (codes "p")
form_of-check_in_version_3 = refl
