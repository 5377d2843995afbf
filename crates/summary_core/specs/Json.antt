-- The sums of a run as one JSON object. The names of a policy have only letters, digits and `_`, so
-- nothing is escaped.
use Rattle.std.specs.Prelude.{◌≡◌, refl, ℕ, Option, None, Some, List, [], ◌∷◌, ◌++◌, codes}
use Rattle.std.specs.Fmt.{digits}
use Rattle.summary_core.specs.Numbers.{number_text, millionths_text}
use Rattle.summary_core.specs.Counting.{throughput_of, mean_delay, jitter_of}
use Rattle.summary_core.specs.Text.{two_sent}
use Rattle.summary_core.specs.declared.counts.Counts.{Counts}
use Rattle.summary_core.specs.declared.delays.Delays.{Delays}
use Rattle.summary_core.specs.declared.fairness.Fairness.{Fairness}
use Rattle.summary_core.specs.declared.fairness.Fairness.TheVariants.{Index, NoShares, TooLarge}
use Rattle.summary_core.specs.declared.group.Figures.{Figures}
use Rattle.summary_core.specs.declared.group.Group.{Group}
use Rattle.summary_core.specs.declared.group.Groups.{Groups}

-- a number after its key, or null if there is none
abbrev pub number_json : List ℕ → Option ℕ → List ℕ
number_json key None = key ++ codes "null"
number_json key (Some n) = number_text key n

unfoldable pub percentiles_json : Delays → List ℕ
percentiles_json d =
    number_text (codes "\"least\":") d.minimum
    ++ (number_text (codes ",\"median\":") d.median
    ++ (number_text (codes ",\"p95\":") d.p95
    ++ (number_text (codes ",\"p99\":") d.p99 ++ number_text (codes ",\"greatest\":") d.maximum)))

-- the delays in nanoseconds
abbrev pub delays_json : Counts → Option Delays → List ℕ
delays_json c None = codes ",\"delay\":null"
delays_json c (Some d) = codes ",\"delay\":{" ++ (percentiles_json d ++ (number_text (codes ",\"mean\":") (mean_delay c) ++ codes "}"))

unfoldable pub packets_json : Counts → List ℕ
packets_json c =
    number_text (codes "\"arrived\":") c.arrived
    ++ (number_text (codes ",\"departed\":") c.departed
    ++ (number_text (codes ",\"dropped\":") c.dropped ++ number_text (codes ",\"queued\":") c.queued))

-- the departed bytes, and the throughput on a link
unfoldable pub bytes_json : Counts → List ℕ
bytes_json c = number_text (codes ",\"bytes\":") c.bytes ++ number_json (codes ",\"throughput\":") (throughput_of c)

-- the greatest backlog, and the end of the group's object
unfoldable pub backlog_json : Counts → List ℕ
backlog_json c = number_text (codes ",\"most_queued\":") c.most_queued ++ (number_text (codes ",\"most_queued_bytes\":") c.most_queued_bytes ++ codes "}")

-- the members of a group's object, to its end
unfoldable pub figures_json : Figures → List ℕ
figures_json f =
    packets_json f.counts
    ++ (bytes_json f.counts
    ++ (delays_json f.counts f.delays ++ (number_json (codes ",\"jitter\":") (jitter_of f.counts) ++ backlog_json f.counts)))

unfoldable pub group_json : Group → List ℕ
group_json g = codes "{\"name\":\"" ++ (g.label.name ++ (codes "\"," ++ figures_json g.figures))

-- groups after others
abbrev pub more_json : List Group → List ℕ
more_json [] = []
more_json (g ∷ gs) = codes "," ++ (group_json g ++ more_json gs)

abbrev pub groups_json : List Group → List ℕ
groups_json [] = []
groups_json (g ∷ gs) = group_json g ++ more_json gs

-- Jain's index, or null if there is none
abbrev pub fairness_json : Fairness → List ℕ
fairness_json (Index n) = millionths_text n
fairness_json NoShares = codes "null"
fairness_json TooLarge = codes "null"

-- groups after the words before them
unfoldable pub array_json : List ℕ → List Group → List ℕ
array_json words gs = words ++ groups_json gs

abbrev pub arrays_json : Groups → List ℕ
arrays_json gs = array_json (codes ",\"leaves\":[") gs.leaves.items ++ array_json (codes "],\"classes\":[") gs.classes.items

-- Jain's index, and the end of the object
unfoldable pub end_json : Fairness → List ℕ
end_json f = codes "],\"jain\":" ++ (fairness_json f ++ codes "}\n")

abbrev pub summary_json : Groups → List ℕ
summary_json gs = codes "{\"all\":{" ++ (figures_json gs.all ++ (arrays_json gs ++ end_json gs.fairness))

figures_json-link : figures_json (record { counts = two_sent; delays = Some (record { minimum = 100; median = 100; p95 = 450; p99 = 450; maximum = 450 }) }) ≡
    codes "\"arrived\":2,\"departed\":2,\"dropped\":1,\"queued\":0,\"bytes\":150,\"throughput\":272727272,\"delay\":{\"least\":100,\"median\":100,\"p95\":450,\"p99\":450,\"greatest\":450,\"mean\":275},\"jitter\":350,\"most_queued\":2,\"most_queued_bytes\":150}"
unfolding figures_json packets_json bytes_json percentiles_json backlog_json number_text digits
figures_json-link = refl

figures_json-script : figures_json (record { counts = record two_sent { finish = 0; delays = 0; delay_sum = 0; last = None; jitter_sum = 0 }; delays = None }) ≡
    codes "\"arrived\":2,\"departed\":2,\"dropped\":1,\"queued\":0,\"bytes\":150,\"throughput\":null,\"delay\":null,\"jitter\":null,\"most_queued\":2,\"most_queued_bytes\":150}"
unfolding figures_json packets_json bytes_json backlog_json number_text digits
figures_json-script = refl

end_json-rows : end_json (Index 987654) ∷ end_json NoShares ∷ [] ≡ codes "],\"jain\":0.987654}\n" ∷ codes "],\"jain\":null}\n" ∷ []
unfolding end_json millionths_text digits
end_json-rows = refl
