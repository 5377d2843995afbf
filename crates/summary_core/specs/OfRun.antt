-- The groups of a run, from its outcomes.
use Rattle.std.specs.Prelude.{◌≡◌, ℕ, Bool, if◌then◌else◌, IfSome, List, [], ◌∷◌, ◌++◌, map, length, slice_get}
use Rattle.sched_defs.specs.Events.{Outcome}
use Rattle.sched_defs.specs.declared.rate.LinkRate.{LinkRate}
use Rattle.summary_core.specs.declared.group.Figures.{Figures}
use Rattle.summary_core.specs.declared.group.Label.{Label}
use Rattle.summary_core.specs.declared.group.Group.{Group}
use Rattle.summary_core.specs.declared.group.Groups.{Groups}
use Rattle.summary_core.specs.declared.part.Part.{Part}
use Rattle.summary_core.specs.declared.part.Part.TheVariants as part
use Rattle.summary_core.specs.declared.part.Kind.{Kind}
use Rattle.summary_core.specs.declared.part.Kind.TheVariants as kind
use Rattle.summary_core.specs.Counting.{no_counts}
use Rattle.summary_core.specs.Fairness.{fairness_of}
use Rattle.summary_core.specs.Summing.{ClassEvent, class_events, counted, delay_of, delays_in}
use Rattle.summary_core.specs.Parts.{is_in, part_at, joined}
use Rattle.summary_core.specs.Figures.{HasPercentiles}

-- the delays of a part, one class after another, each class's in the order of its departures
abbrev pub delays_of : List ℕ → Part → List ClassEvent → List ℕ
delays_of table p es = joined (is_in table p) (λ k. delays_in k es) (length table)

-- the delays of a part, in the order of its departures
abbrev pub part_delays : (ℕ → Bool) → List ClassEvent → List ℕ
part_delays member [] = []
part_delays member (e ∷ es) = (if member e.class then delay_of e.event else []) ++ part_delays member es

-- the sums of a part's events, and the percentiles of its delays
pub record AreFiguresOf (table : List ℕ) (es : List ClassEvent) (p : Part) (f : Figures) : Type 0 where
  pub counts : f.counts ≡ counted (is_in table p) no_counts es
  pub delays : HasPercentiles (delays_of table p es) f.delays

pub record AreGroupsOf (table : List ℕ) (es : List ClassEvent) (k : Kind) (names : List Label) (gs : List Group) : Type 0 where
  pub labels : map (λ g. g.label) gs ≡ names
  pub figures : (i : ℕ) → IfSome (slice_get gs i) (λ g. AreFiguresOf table es (part_at k i) g.figures)

-- The groups are those of the outcomes of a run. The table gives the index of each class's leaf.
pub record AreSumsOf (table : List ℕ) (rate : LinkRate) (os : List Outcome) (leaf_names class_names : List Label) (gs : Groups) : Type 0 where
  pub all : AreFiguresOf table (class_events rate os) part.Whole gs.all
  pub leaves : AreGroupsOf table (class_events rate os) kind.Leaf leaf_names gs.leaves.items
  pub classes : AreGroupsOf table (class_events rate os) kind.Class class_names gs.classes.items
  pub fairness : gs.fairness ≡ fairness_of gs.leaves.items

-- the same groups, wherever their lists are in memory
pub record AreSame (gs hs : Groups) : Type 0 where
  pub all : gs.all ≡ hs.all
  pub leaves : gs.leaves.items ≡ hs.leaves.items
  pub classes : gs.classes.items ≡ hs.classes.items
  pub fairness : gs.fairness ≡ hs.fairness
