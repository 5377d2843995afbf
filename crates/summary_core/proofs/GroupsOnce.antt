-- The groups of a run, and the text of each rendering, are determined by its outcomes.
use Rattle.summary_core.proofs.Prelude.{ℕ, ◌≡◌, arith, List, ap, ◌∙◌, sym, [], ◌∷◌, refl, suc, ◌+◌, subst, Some, Option, IfSome, None, map, slice_index_or, slice_get, Outcome, LinkRate, fairness_of, HasPercentiles, delays_of, AreFiguresOf, AreSame, AreSumsOf, part_at, ArePercentiles, value_at, ClassEvent, class_events, Delays, Figures, Group, Groups, Label, Kind, Part}
use Rattle.summary_core.specs.declared.part.Kind.TheVariants as kind
use Rattle.summary_core.specs.declared.part.Part.TheVariants as part
use Rattle.summary_core.proofs.SortedOnce.{sorted_once}

-- ---- percentiles
by_sorted : (delays s t : List ℕ) (d e : Delays) → s ≡ t → ArePercentiles delays s d → ArePercentiles delays t e → d ≡ e
by_sorted delays s t d e same p q = λ i. record {
  minimum = (p.minimum ∙ ap (λ (l : List ℕ). slice_index_or l 0 0) same ∙ sym q.minimum) i;
  median = (p.median ∙ ap (value_at 50) same ∙ sym q.median) i;
  p95 = (p.p95 ∙ ap (value_at 95) same ∙ sym q.p95) i;
  p99 = (p.p99 ∙ ap (value_at 99) same ∙ sym q.p99) i;
  maximum = (p.maximum ∙ ap (value_at 100) same ∙ sym q.maximum) i;
}

percentiles_once : (delays : List ℕ) (o p : Option Delays) → HasPercentiles delays o → HasPercentiles delays p → o ≡ p
percentiles_once delays None None has has' = refl
percentiles_once delays None (Some e) has has' = absurd (let n = has'.none.1 (has.none.0 refl) in cc)
percentiles_once delays (Some d) None has has' = absurd (let n = has.none.1 (has'.none.0 refl) in cc)
percentiles_once delays (Some d) (Some e) has has' =
    let p = has.some.1 in
    let q = has'.some.1 in
    ap (λ (x : Delays). Some x) (by_sorted delays has.some.0 has'.some.0 d e (sorted_once delays has.some.0 has'.some.0 p.same p.ascend q.same q.ascend) p q)

figures_once : (table : List ℕ) (es : List ClassEvent) (p : Part) (f g : Figures) → AreFiguresOf table es p f → AreFiguresOf table es p g → f ≡ g
figures_once table es p f g are are' = λ i. record {
  counts = (are.counts ∙ sym are'.counts) i;
  delays = percentiles_once (delays_of table p es) f.delays g.delays are.delays are'.delays i;
}

-- ---- lists of groups
abbrev AreFrom : List ℕ → List ClassEvent → Kind → ℕ → List Group → Type 0
AreFrom table es k first gs = (i : ℕ) → IfSome (slice_get gs i) (λ g. AreFiguresOf table es (part_at k (first + i)) g.figures)

-- the groups after the first one
others : (table : List ℕ) (es : List ClassEvent) (k : Kind) (first : ℕ) (g : Group) (gs : List Group) → AreFrom table es k first (g ∷ gs) → AreFrom table es k (suc first) gs
others table es k first g gs are i =
    subst (λ (n : ℕ). IfSome (slice_get gs i) (λ h. AreFiguresOf table es (part_at k n) h.figures)) (let e : first + suc i ≡ suc first + i = omega arith in e) (are (suc i))

from_start : (table : List ℕ) (es : List ClassEvent) (k : Kind) (gs : List Group) → ((i : ℕ) → IfSome (slice_get gs i) (λ g. AreFiguresOf table es (part_at k i) g.figures)) → AreFrom table es k 0 gs
from_start table es k gs are i = subst (λ (n : ℕ). IfSome (slice_get gs i) (λ g. AreFiguresOf table es (part_at k n) g.figures)) (let e : i ≡ 0 + i = omega arith in e) (are i)

one_group : (g h : Group) → g.label ≡ h.label → g.figures ≡ h.figures → g ≡ h
one_group g h labels figures = λ i. record { label = labels i; figures = figures i }

groups_once : (table : List ℕ) (es : List ClassEvent) (k : Kind) (first : ℕ) (gs hs : List Group) → map (λ g. g.label) gs ≡ map (λ h. h.label) hs
    → AreFrom table es k first gs → AreFrom table es k first hs → gs ≡ hs
groups_once table es k first [] [] labels are are' = refl
groups_once table es k first [] (h ∷ hs) labels are are' = cc
groups_once table es k first (g ∷ gs) [] labels are are' = cc
groups_once table es k first (g ∷ gs) (h ∷ hs) labels are are' =
    let same : g ≡ h = one_group g h (let e = labels in cc) (figures_once table es (part_at k (first + 0)) g.figures h.figures (are 0) (are' 0)) in
    let rest : gs ≡ hs = groups_once table es k (suc first) gs hs (let e = labels in cc) (others table es k first g gs are) (others table es k first h hs are') in
    ap (λ (x : Group). x ∷ gs) same ∙ ap (λ (xs : List Group). h ∷ xs) rest

pub sums_once : (table : List ℕ) (rate : LinkRate) (os : List Outcome) (leaf_names class_names : List Label) (gs hs : Groups)
    → AreSumsOf table rate os leaf_names class_names gs → AreSumsOf table rate os leaf_names class_names hs → AreSame gs hs
sums_once table rate os leaf_names class_names gs hs are are' =
    let leaves : gs.leaves.items ≡ hs.leaves.items = groups_once table (class_events rate os) kind.Leaf 0 gs.leaves.items hs.leaves.items (are.leaves.labels ∙ sym are'.leaves.labels) (from_start table (class_events rate os) kind.Leaf gs.leaves.items are.leaves.figures) (from_start table (class_events rate os) kind.Leaf hs.leaves.items are'.leaves.figures) in
    record {
      all = figures_once table (class_events rate os) part.Whole gs.all hs.all are.all are'.all;
      leaves = leaves;
      classes = groups_once table (class_events rate os) kind.Class 0 gs.classes.items hs.classes.items (are.classes.labels ∙ sym are'.classes.labels) (from_start table (class_events rate os) kind.Class gs.classes.items are.classes.figures) (from_start table (class_events rate os) kind.Class hs.classes.items are'.classes.figures);
      fairness = are.fairness ∙ ap fairness_of leaves ∙ sym are'.fairness;
    }
