-- The meaning of a command line: the replayer's arguments that its options give.
use Rattle.std.specs.Prelude.{◌≡◌, refl, ℕ, ◌==◌, ◌&&◌, not, Bool, true, false, length, Option, None, Some, List, [], ◌∷◌, ◌++◌, map, codes, decimal}
use Rattle.std.specs.Borrow.{Bor}
use Rattle.front_defs.specs.declared.command.Command.{Command}
use Rattle.front_defs.specs.declared.command.Command.TheVariants as c
use Rattle.front_defs.specs.declared.options.Options.{Options}
use Rattle.front_defs.specs.declared.view.View.{View}
use Rattle.front_defs.specs.declared.view.View.TheVariants as v

-- the name of a command, as an argument
abbrev pub command_word : Command → List ℕ
command_word c.Check = codes "check"
command_word c.Plan = codes "plan"
command_word c.Replay = codes "replay"
command_word c.Link = codes "link"
command_word c.Forward = codes "forward"
command_word c.Direct = codes "direct"
command_word c.Via = codes "via"
command_word c.Soak = codes "soak"
command_word c.Calm = codes "calm"
command_word c.Size = codes "size"

-- the argument of a rate in bytes per second, in decimal, if there is a rate
abbrev pub rate_words : Option ℕ → List (List ℕ)
rate_words None = []
rate_words (Some rate) = decimal rate ∷ []

-- a pair of arguments for each tap
abbrev pub tap_words : List (List ℕ) → List (List ℕ)
tap_words [] = []
tap_words (tap ∷ taps) = codes "tap" ∷ tap ∷ tap_words taps

-- the arguments of a command, its files, a rate and taps, in this order
abbrev pub words_by : Command → List (List ℕ) → Option ℕ → List (List ℕ) → List (List ℕ)
words_by command files rate taps = command_word command ∷ (files ++ rate_words rate ++ tap_words taps)

-- the texts of names
abbrev pub names : List (Bor (List ℕ)) → List (List ℕ)
names list = map (λ name. name.now) list

-- the replayer's arguments that options give
abbrev pub words_of : Options → List (List ℕ)
words_of o = words_by o.command (names o.files.items) o.rate (names o.taps.items)

-- ---- what the replayer has no arguments for
-- whether the command's last argument is the rate of a link that paces its run
abbrev pub has_link : Command → Bool
has_link c.Link = true
has_link c.Forward = true
has_link command = false

abbrev pub is_size : Command → Bool
is_size c.Size = true
is_size command = false

-- whether a run writes a line for each event, as the replayer does
abbrev pub is_report : View → Bool
is_report v.Report = true
is_report view = false

-- a link with two files runs through the policy's own tree: they are a policy and a capture
abbrev pub is_own_by : Command → ℕ → Bool
is_own_by command files = has_link command && files == 2

-- whether the replayer has arguments for a command with this number of files, a view, and the bytes
-- that a link takes for each packet besides its length
abbrev pub has_words_by : Command → ℕ → View → ℕ → Bool
has_words_by command files view overhead = is_report view && overhead == 0 && not (is_own_by command files) && not (is_size command)

abbrev pub is_own : Options → Bool
is_own o = is_own_by o.command (length o.files.items)

abbrev pub has_words : Options → Bool
has_words o = has_words_by o.command (length o.files.items) o.view o.overhead

check_has_a_policy : words_by c.Check (codes "p" ∷ []) None [] ≡ codes "check" ∷ codes "p" ∷ []
check_has_a_policy = refl

plan_has_a_target : words_by c.Plan (codes "p" ∷ codes "t" ∷ []) None [] ≡ codes "plan" ∷ codes "p" ∷ codes "t" ∷ []
plan_has_a_target = refl

link_with_a_rate : words_by c.Link (codes "p" ∷ codes "t" ∷ codes "c" ∷ []) (Some 1250000) [] ≡ codes "link" ∷ codes "p" ∷ codes "t" ∷ codes "c" ∷ decimal 1250000 ∷ []
link_with_a_rate = refl

forward_with_a_rate : words_by c.Forward (codes "p" ∷ codes "t" ∷ codes "c" ∷ []) (Some 1) [] ≡ codes "forward" ∷ codes "p" ∷ codes "t" ∷ codes "c" ∷ decimal 1 ∷ []
forward_with_a_rate = refl

taps_are_last : words_by c.Replay (codes "p" ∷ codes "t" ∷ codes "c" ∷ codes "s" ∷ []) None (codes "bytes" ∷ codes "order" ∷ [])
    ≡ codes "replay" ∷ codes "p" ∷ codes "t" ∷ codes "c" ∷ codes "s" ∷ codes "tap" ∷ codes "bytes" ∷ codes "tap" ∷ codes "order" ∷ []
taps_are_last = refl

direct_has_no_target : words_by c.Direct (codes "p" ∷ codes "c" ∷ codes "s" ∷ []) None [] ≡ codes "direct" ∷ codes "p" ∷ codes "c" ∷ codes "s" ∷ []
direct_has_no_target = refl

via_has_six_files : words_by c.Via (codes "p" ∷ codes "g" ∷ codes "m" ∷ codes "t" ∷ codes "c" ∷ codes "s" ∷ []) None []
    ≡ codes "via" ∷ codes "p" ∷ codes "g" ∷ codes "m" ∷ codes "t" ∷ codes "c" ∷ codes "s" ∷ []
via_has_six_files = refl

soak_has_two_numbers : words_by c.Soak (codes "7" ∷ codes "200" ∷ []) None [] ≡ codes "soak" ∷ codes "7" ∷ codes "200" ∷ []
soak_has_two_numbers = refl

calm_has_a_target : words_by c.Calm (codes "p" ∷ codes "t" ∷ []) None [] ≡ codes "calm" ∷ codes "p" ∷ codes "t" ∷ []
calm_has_a_target = refl

rank_stores_take_the_same_words : (o : Options) (block : Bool) → words_of (record o { block = block }) ≡ words_of o
rank_stores_take_the_same_words o block = refl

each_command_with_its_files_has_words : map (λ command. has_words_by command 3 v.Report 0) (c.Plan ∷ c.Link ∷ c.Forward ∷ c.Direct ∷ []) ≡ true ∷ true ∷ true ∷ true ∷ []
each_command_with_its_files_has_words = refl

a_plan_of_two_files_has_words : has_words_by c.Plan 2 v.Report 0 ≡ true
a_plan_of_two_files_has_words = refl

links_without_a_target_have_none : map (λ command. has_words_by command 2 v.Report 0) (c.Link ∷ c.Forward ∷ []) ≡ false ∷ false ∷ []
links_without_a_target_have_none = refl

overhead_has_none : has_words_by c.Link 3 v.Report 24 ≡ false
overhead_has_none = refl

other_views_have_none : map (λ view. has_words_by c.Direct 3 view 0) (v.Json ∷ v.Summary ∷ v.JsonSummary ∷ []) ≡ false ∷ false ∷ false ∷ []
other_views_have_none = refl

sizes_have_none : map (λ files. has_words_by c.Size files v.Report 0) (3 ∷ 4 ∷ []) ≡ false ∷ false ∷ []
sizes_have_none = refl
