-- The groups of a summary are those of the outcomes that it summed.
use Rattle.summary_core.proofs.Prelude.{ℕ, length, ◌≡◌, arith, List, ap, ◌∙◌, [], ◌∷◌, refl, suc, ◌<◌, subst, zero, Bool, Some, if◌then◌else◌, ◌++◌, Option, IfSome, None, Global, Vec, AllByRecursion, slice_get, option_map, unwrap_or, replicate, outcomes, start, LinkRate, no_counts, AreFigures, HasPercentiles, AreGroups, counts_in, gathered, list_at, delays_of, AreFiguresOf, AreGroupsOf, part_at, is_in, joined, ClassEvent, class_events, delays_in, events_by, items_at, no_timestamps, any_class, counted, is_at_leaf, is_class, Figures, Group, Label, Kind, Part, Summary}
use Rattle.std.proofs.lemmas.List.{length-map}
use Rattle.std.proofs.lemmas.Option.{slice_get_within}
use Rattle.summary_core.specs.declared.counts.Counts.{Counts}
use Rattle.summary_core.specs.declared.part.Part.TheVariants as part
use Rattle.summary_core.specs.declared.part.Kind.TheVariants as kind
use Rattle.summary_core.specs.JoinedSums.{same_events}
use Rattle.summary_core.specs.Summary.{timestamp_at, AddsEvents, SumsNothing}
use Rattle.summary_core.specs.Laws.{GroupsAreOfTheRun}
use Rattle.summary_core.proofs.KeptTimestamps.{events_told}

-- ---- lists
joined-same : (member : ℕ → Bool) (f g : ℕ → List ℕ) (n : ℕ) → ((k : ℕ) → k < n → f k ≡ g k) → joined member f n ≡ joined member g n
joined-same member f g zero same = refl
joined-same member f g (suc n) same =
    ap (λ (l : List ℕ). l ++ (if member n then f n else [])) (joined-same member f g n (λ k less. same k (omega (arith, less))))
    ∙ ap (λ (l : List ℕ). joined member g n ++ (if member n then l else [])) (same n (omega arith))

-- each list of a list of empty lists is empty
empty_at : (lists : List (Vec ℕ Global)) (k : ℕ) → AllByRecursion (λ l. l.items ≡ []) lists → k < length lists → items_at lists k ≡ Some []
empty_at [] k all less = absurd (omega (arith, less))
empty_at (v ∷ vs) zero all less = ap (λ (l : List ℕ). Some l) all.0
empty_at (v ∷ vs) (suc k) all less = empty_at vs k all.1 (omega (arith, less))

copy_at : {X : Type 0} (n k : ℕ) (x : X) → k < n → slice_get (replicate n x) k ≡ Some x
copy_at zero k x less = absurd (omega (arith, less))
copy_at (suc n) zero x less = refl
copy_at (suc n) (suc k) x less = copy_at n k x (omega (arith, less))

each_then : {X : Type 0} (P Q : X → Type 0) (o : Option X) → ((x : X) → o ≡ Some x → P x → Q x) → IfSome o P → IfSome o Q
each_then P Q None given h = tt
each_then P Q (Some x) given h = given x refl h

-- ---- sums
-- the sums of an empty group, with these events
counted_from_none : (f : Counts → Counts) (now before : Option Counts) → now ≡ option_map f before → before ≡ Some no_counts → unwrap_or now no_counts ≡ f no_counts
counted_from_none f now before is was = ap (λ (o : Option Counts). unwrap_or o no_counts) (is ∙ ap (λ (o : Option Counts). option_map f o) was)

module _ (rate : LinkRate) (table : List ℕ) (leaves : ℕ) (before after : Summary) (nothing : SumsNothing rate table leaves before) (es : List ClassEvent) (added : AddsEvents before after es) where
  same_table : after.table.items ≡ table
  same_table = ap (λ t. t.items) added.table ∙ nothing.table

  -- a part that the summary has a sum for
  abbrev IsKept : Part → Type 0
  IsKept part.Whole = Unit {0}
  IsKept (part.Leaf l) = l < leaves
  IsKept (part.Class c) = c < length table

  counts_of : (p : Part) → IsKept p → counts_in after p ≡ counted (is_in table p) no_counts es
  counts_of part.Whole kept = added.all ∙ ap (λ (c : Counts). counted any_class c es) nothing.all
  counts_of (part.Leaf l) kept =
      counted_from_none (λ c. counted (is_at_leaf before.table.items l) c es) (slice_get after.leaves.items l) (slice_get before.leaves.items l) (added.leaves l)
      (ap (λ (cs : List Counts). slice_get cs l) nothing.leaves ∙ copy_at leaves l no_counts kept)
      ∙ ap (λ (t : List ℕ). counted (is_at_leaf t l) no_counts es) nothing.table
  counts_of (part.Class c) kept =
      counted_from_none (λ d. counted (is_class c) d es) (slice_get after.classes.items c) (slice_get before.classes.items c) (added.classes c)
      (ap (λ (cs : List Counts). slice_get cs c) nothing.classes ∙ copy_at (length table) c no_counts kept)

  list_of : (k : ℕ) → k < length table → list_at after.delays.items k ≡ delays_in k es
  list_of k less =
      ap (λ (o : Option (List ℕ)). unwrap_or o [])
      (added.delays k ∙ ap (λ (o : Option (List ℕ)). option_map (λ l. l ++ delays_in k es) o) (empty_at before.delays.items k nothing.delays (omega (arith, less, nothing.lists))))

  delays_are : (p : Part) → gathered after p ≡ delays_of table p es
  delays_are p =
      ap (λ (t : List ℕ). joined (is_in t p) (list_at after.delays.items) (length t)) same_table
      ∙ joined-same (is_in table p) (list_at after.delays.items) (λ k. delays_in k es) (length table) list_of

  figures_of : (p : Part) (f : Figures) → IsKept p → AreFigures after p f → AreFiguresOf table es p f
  figures_of p f kept are = record {
    counts = are.counts ∙ counts_of p kept;
    delays = subst (λ (ds : List ℕ). HasPercentiles ds f.delays) (delays_are p) are.delays;
  }

  groups_of : (k : Kind) (names : List Label) (gs : List Group) → ((i : ℕ) → i < length names → IsKept (part_at k i)) → AreGroups after k names gs → AreGroupsOf table es k names gs
  groups_of k names gs kept are = record {
    labels = are.labels;
    figures = λ i.
        each_then (λ g. AreFigures after (part_at k i) g.figures) (λ g. AreFiguresOf table es (part_at k i) g.figures) (slice_get gs i)
        (λ g at. figures_of (part_at k i) g.figures
        (kept i (omega (arith, slice_get_within gs i g at, ap (λ (l : List Label). length l) are.labels, length-map gs (λ (x : Group). x.label)))))
        (are.figures i);
  }

-- ---- the run
pub groups_are_of_the_run : GroupsAreOfTheRun
groups_are_of_the_run policy events rate table leaves before after leaf_names class_names gs accepted can nothing sums whole few_leaves few_classes has =
    let os = outcomes policy events (start policy) in
    let by_own : events_by before.rate (timestamp_at before) os ≡ class_events rate os =
    ap (λ r. events_by r (timestamp_at before) os) nothing.rate ∙ same_events rate (timestamp_at before) no_timestamps os nothing.timestamps ∙ events_told policy accepted rate events can in
    let added : AddsEvents before after (class_events rate os) = subst (λ es. AddsEvents before after es) by_own (sums.sums whole) in
    let es = class_events rate os in
    record {
      all = figures_of rate table leaves before after nothing es added part.Whole gs.all tt has.all;
      leaves = groups_of rate table leaves before after nothing es added kind.Leaf leaf_names gs.leaves.items (λ i less. omega (arith, less, few_leaves)) has.leaves;
      classes = groups_of rate table leaves before after nothing es added kind.Class class_names gs.classes.items (λ i less. omega (arith, less, few_classes)) has.classes;
      fairness = has.fairness;
    }
