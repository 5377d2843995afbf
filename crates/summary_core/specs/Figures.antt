-- The sums and the percentiles of the parts of a run's packets.
use Rattle.std.specs.Prelude.{◌≡◌, ◌↔◌, ℕ, Option, unwrap_or, IsNone, IfSome, List, [], map, length, slice_get}
use Rattle.summary_core.specs.Counting.{no_counts}
use Rattle.summary_core.specs.Fairness.{fairness_of}
use Rattle.summary_core.specs.Percentiles.{ArePercentiles}
use Rattle.summary_core.specs.Lists.{list_at}
use Rattle.summary_core.specs.Parts.{is_in, part_at, joined}
use Rattle.summary_core.specs.declared.counts.Counts.{Counts}
use Rattle.summary_core.specs.declared.delays.Delays.{Delays}
use Rattle.summary_core.specs.declared.part.Part.{Part}
use Rattle.summary_core.specs.declared.part.Part.TheVariants as part
use Rattle.summary_core.specs.declared.part.Kind.{Kind}
use Rattle.summary_core.specs.declared.part.Kind.TheVariants as kind
use Rattle.summary_core.specs.declared.group.Figures.{Figures}
use Rattle.summary_core.specs.declared.group.Label.{Label}
use Rattle.summary_core.specs.declared.group.Group.{Group}
use Rattle.summary_core.specs.declared.group.Groups.{Groups}
use Rattle.summary_core.specs.declared.summary.Summary.{Summary}

-- there are percentiles if there is a delay, and they are those of the delays
pub record HasPercentiles (delays : List ℕ) (o : Option Delays) : Type 0 where
  pub none : IsNone o ↔ (delays ≡ [])
  pub some : IfSome o (λ d. (sorted : List ℕ) × ArePercentiles delays sorted d)

-- ---- of a summary
-- the delays of a part's classes, one class after another
abbrev pub gathered : Summary → Part → List ℕ
gathered s p = joined (is_in s.table.items p) (list_at s.delays.items) (length s.table.items)

-- the sums of a part, or those of no packet if there is no such leaf or class
abbrev pub counts_in : Summary → Part → Counts
counts_in s part.Whole = s.all
counts_in s (part.Leaf l) = unwrap_or (slice_get s.leaves.items l) no_counts
counts_in s (part.Class c) = unwrap_or (slice_get s.classes.items c) no_counts

pub record AreFigures (s : Summary) (p : Part) (f : Figures) : Type 0 where
  pub counts : f.counts ≡ counts_in s p
  pub delays : HasPercentiles (gathered s p) f.delays

-- the groups of one kind have these labels, in the order of their indices
pub record AreGroups (s : Summary) (k : Kind) (names : List Label) (gs : List Group) : Type 0 where
  pub labels : map (λ g. g.label) gs ≡ names
  pub figures : (i : ℕ) → IfSome (slice_get gs i) (λ g. AreFigures s (part_at k i) g.figures)

-- all groups of a summary, and Jain's index of the leaves
pub record HasGroups (s : Summary) (leaf_names class_names : List Label) (gs : Groups) : Type 0 where
  pub all : AreFigures s part.Whole gs.all
  pub leaves : AreGroups s kind.Leaf leaf_names gs.leaves.items
  pub classes : AreGroups s kind.Class class_names gs.classes.items
  pub fairness : gs.fairness ≡ fairness_of gs.leaves.items
