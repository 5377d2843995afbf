-- The sums of a run as text.
use Rattle.std.specs.Prelude.{◌≡◌, refl, ℕ, Option, None, Some, List, [], ◌∷◌, ◌++◌, codes}
use Rattle.std.specs.Fmt.{digits}
use Rattle.summary_core.specs.Numbers.{number_text, millionths_text}
use Rattle.summary_core.specs.Counting.{throughput_of, mean_delay, jitter_of}
use Rattle.summary_core.specs.declared.counts.Counts.{Counts}
use Rattle.summary_core.specs.declared.delays.Delays.{Delays}
use Rattle.summary_core.specs.declared.fairness.Fairness.{Fairness}
use Rattle.summary_core.specs.declared.fairness.Fairness.TheVariants.{Index, NoShares, TooLarge}
use Rattle.summary_core.specs.declared.group.Figures.{Figures}
use Rattle.summary_core.specs.declared.group.Group.{Group}
use Rattle.summary_core.specs.declared.group.Groups.{Groups}

-- the throughput on a link
abbrev pub rate_text : Option ℕ → List ℕ
rate_text None = []
rate_text (Some rate) = number_text (codes "; ") rate ++ codes " bytes a second"

abbrev pub jitter_text : Option ℕ → List ℕ
jitter_text None = []
jitter_text (Some jitter) = number_text (codes "; jitter ") jitter

-- five numbers of nanoseconds
unfoldable pub percentiles_text : Delays → List ℕ
percentiles_text d =
    number_text (codes "least ") d.minimum
    ++ (number_text (codes ", median ") d.median
    ++ (number_text (codes ", 95 % ") d.p95
    ++ (number_text (codes ", 99 % ") d.p99 ++ number_text (codes ", greatest ") d.maximum)))

-- the line of a group's delays, if it has any
abbrev pub delays_text : Counts → Option Delays → List ℕ
delays_text c None = []
delays_text c (Some d) =
    codes "  delay in ns: "
    ++ (percentiles_text d ++ (number_text (codes ", mean ") (mean_delay c) ++ (jitter_text (jitter_of c) ++ codes "\n")))

unfoldable pub backlog_text : Counts → List ℕ
backlog_text c = number_text (codes "  backlog: at most ") c.most_queued ++ (number_text (codes " packets, at most ") c.most_queued_bytes ++ codes " bytes\n")

-- the packets and the bytes of a group
unfoldable pub packets_text : Counts → List ℕ
packets_text c =
    number_text (codes ": ") c.departed
    ++ (number_text (codes " packets departed, ") c.dropped
    ++ (number_text (codes " dropped, ") c.queued ++ (number_text (codes " queued; ") c.bytes ++ codes " bytes")))

-- the lines of a group, after its name
unfoldable pub figures_text : Figures → List ℕ
figures_text f = packets_text f.counts ++ (rate_text (throughput_of f.counts) ++ (codes "\n" ++ (delays_text f.counts f.delays ++ backlog_text f.counts)))

-- groups of one kind, each after its kind and its name
abbrev pub groups_text : List ℕ → List Group → List ℕ
groups_text kind [] = []
groups_text kind (g ∷ gs) = kind ++ (g.label.name ++ (figures_text g.figures ++ groups_text kind gs))

abbrev pub index_text : Fairness → List ℕ
index_text (Index n) = millionths_text n
index_text NoShares = codes "no bytes departed"
index_text TooLarge = codes "too large"

unfoldable pub fairness_text : Fairness → List ℕ
fairness_text f = codes "fairness of the leaves by weight (Jain): " ++ (index_text f ++ codes "\n")

-- all packets, the leaves, the classes, and the fairness
abbrev pub summary_text : Groups → List ℕ
summary_text gs = codes "all" ++ (figures_text gs.all ++ (groups_text (codes "leaf ") gs.leaves.items ++ (groups_text (codes "class ") gs.classes.items ++ fairness_text gs.fairness)))

-- of three packets two departed and one was dropped
abbrev pub two_sent : Counts
two_sent = record {
  arrived = 2;
  departed = 2;
  dropped = 1;
  bytes = 150;
  queued = 0;
  queued_bytes = 0;
  most_queued = 2;
  most_queued_bytes = 150;
  first = Some 0;
  finish = 550;
  delays = 2;
  delay_sum = 550;
  last = Some 450;
  jitter_sum = 350;
}

figures_text-link : figures_text (record { counts = two_sent; delays = Some (record { minimum = 100; median = 100; p95 = 450; p99 = 450; maximum = 450 }) }) ≡
    codes ": 2 packets departed, 1 dropped, 0 queued; 150 bytes; 272727272 bytes a second\n  delay in ns: least 100, median 100, 95 % 450, 99 % 450, greatest 450, mean 275; jitter 350\n  backlog: at most 2 packets, at most 150 bytes\n"
unfolding figures_text packets_text percentiles_text backlog_text number_text digits
figures_text-link = refl

-- a script has no clock, so there is no delay and no throughput
figures_text-script : figures_text (record { counts = record two_sent { finish = 0; delays = 0; delay_sum = 0; last = None; jitter_sum = 0 }; delays = None }) ≡
    codes ": 2 packets departed, 1 dropped, 0 queued; 150 bytes\n  backlog: at most 2 packets, at most 150 bytes\n"
unfolding figures_text packets_text backlog_text number_text digits
figures_text-script = refl

-- one delay has no jitter
delays_text-one : delays_text (record two_sent { delays = 1; delay_sum = 7; jitter_sum = 0 }) (Some (record { minimum = 7; median = 7; p95 = 7; p99 = 7; maximum = 7 })) ≡
    codes "  delay in ns: least 7, median 7, 95 % 7, 99 % 7, greatest 7, mean 7\n"
unfolding percentiles_text number_text digits
delays_text-one = refl

fairness_text-rows : fairness_text (Index 987654) ∷ fairness_text NoShares ∷ fairness_text TooLarge ∷ []
    ≡ codes "fairness of the leaves by weight (Jain): 0.987654\n" ∷ codes "fairness of the leaves by weight (Jain): no bytes departed\n" ∷ codes "fairness of the leaves by weight (Jain): too large\n" ∷ []
unfolding fairness_text millionths_text digits
fairness_text-rows = refl
