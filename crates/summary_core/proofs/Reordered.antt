-- Delays in another order have the same percentiles, so the groups are the same.
use Rattle.summary_core.proofs.Prelude.{ℕ, length, ◌≡◌, arith, List, ap, ◌∙◌, sym, [], ◌∷◌, refl, suc, subst, zero, Bool, Some, if◌then◌else◌, Option, false, true, IfSome, None, Err, IfOk, Ok, Result, IsPermutation-trans, IsPermutation-refl, length_permutation, IsPermutation-append, slice_get, unwrap_or, no_counts, AreFigures, HasPercentiles, AreGroups, counts_in, gathered, HasGroups, list_at, part_at, is_in, joined, ArePercentiles, Delays, Figures, Group, Groups, Label, Kind, Part, Summary}
use Rattle.std.specs.declared.alloc.AllocError.{AllocError}
use Rattle.std.specs.List.Sorted.{IsPermutation}
use Rattle.summary_core.specs.declared.part.Part.TheVariants as part
use Rattle.summary_core.specs.declared.part.Kind.TheVariants as kind
use Rattle.summary_core.specs.Summary.{IsReordered}

-- ---- lists
pub no_items : (xs : List ℕ) → length xs ≡ 0 → xs ≡ []
no_items [] none = refl
no_items (x ∷ xs) none = absurd (omega (arith, none))

pub empty_before : (xs ys : List ℕ) → IsPermutation xs ys → ys ≡ [] → xs ≡ []
empty_before xs ys moved none = no_items xs (omega (arith, length_permutation xs ys moved, ap (λ (l : List ℕ). length l) none))

pub empty_then : (xs ys : List ℕ) → IsPermutation xs ys → xs ≡ [] → ys ≡ []
empty_then xs ys moved none = no_items ys (omega (arith, length_permutation xs ys moved, ap (λ (l : List ℕ). length l) none))

if_wanted : (b : Bool) (f g : List ℕ) → IsPermutation f g → IsPermutation (if b then f else []) (if b then g else [])
if_wanted true f g moved = moved
if_wanted false f g moved = IsPermutation-refl []

joined-reordered : (member : ℕ → Bool) (f g : ℕ → List ℕ) (n : ℕ) → ((k : ℕ) → IsPermutation (f k) (g k)) → IsPermutation (joined member f n) (joined member g n)
joined-reordered member f g zero moved = IsPermutation-refl []
joined-reordered member f g (suc n) moved =
    IsPermutation-append (joined member f n) (joined member g n) (if member n then f n else []) (if member n then g n else [])
    (joined-reordered member f g n moved) (if_wanted (member n) (f n) (g n) (moved n))

-- ---- percentiles
some_before : (xs ys : List ℕ) (o : Option Delays) → IsPermutation xs ys → IfSome o (λ d. (sorted : List ℕ) × ArePercentiles ys sorted d) → IfSome o (λ d. (sorted : List ℕ) × ArePercentiles xs sorted d)
some_before xs ys None moved has = tt
some_before xs ys (Some d) moved has =
    let p = has.1 in (
      has.0,
      record {
        same = IsPermutation-trans xs ys has.0 moved p.same;
        ascend = p.ascend;
        minimum = p.minimum;
        median = p.median;
        p95 = p.p95;
        p99 = p.p99;
        maximum = p.maximum;
      },
    )

percentiles_before : (xs ys : List ℕ) (o : Option Delays) → IsPermutation xs ys → HasPercentiles ys o → HasPercentiles xs o
percentiles_before xs ys o moved has = record {
  none = (λ none. empty_before xs ys moved (has.none.0 none), λ empty. has.none.1 (empty_then xs ys moved empty));
  some = some_before xs ys o moved has.some;
}

-- ---- groups
each_then : {X : Type 0} (P Q : X → Type 0) (o : Option X) → ((x : X) → P x → Q x) → IfSome o P → IfSome o Q
each_then P Q None given h = tt
each_then P Q (Some x) given h = given x h

module _ (w v : Summary) (moved : IsReordered w v) where
  counts_before : (p : Part) → counts_in v p ≡ counts_in w p
  counts_before part.Whole = moved.all
  counts_before (part.Leaf l) = ap (λ t. unwrap_or (slice_get t.items l) no_counts) moved.leaves
  counts_before (part.Class c) = ap (λ t. unwrap_or (slice_get t.items c) no_counts) moved.classes

  gathered_before : (p : Part) → IsPermutation (gathered w p) (gathered v p)
  gathered_before p =
      subst (λ t. IsPermutation (gathered w p) (joined (is_in t.items p) (list_at v.delays.items) (length t.items))) (sym moved.table)
      (joined-reordered (is_in w.table.items p) (list_at w.delays.items) (list_at v.delays.items) (length w.table.items) moved.delays)

  figures_before : (p : Part) (f : Figures) → AreFigures v p f → AreFigures w p f
  figures_before p f are = record {
    counts = are.counts ∙ counts_before p;
    delays = percentiles_before (gathered w p) (gathered v p) f.delays (gathered_before p) are.delays;
  }

  listed_before : (k : Kind) (names : List Label) (gs : List Group) → AreGroups v k names gs → AreGroups w k names gs
  listed_before k names gs are = record {
    labels = are.labels;
    figures = λ i. each_then (λ g. AreFigures v (part_at k i) g.figures) (λ g. AreFigures w (part_at k i) g.figures) (slice_get gs i) (λ g. figures_before (part_at k i) g.figures) (are.figures i);
  }

  has_before : (leaves classes : List Label) (gs : Groups) → HasGroups v leaves classes gs → HasGroups w leaves classes gs
  has_before leaves classes gs has = record {
    all = figures_before part.Whole gs.all has.all;
    leaves = listed_before kind.Leaf leaves gs.leaves.items has.leaves;
    classes = listed_before kind.Class classes gs.classes.items has.classes;
    fairness = has.fairness;
  }

  pub groups_before : (leaves classes : List Label) (r : Result Groups AllocError) → IfOk r (λ gs. HasGroups v leaves classes gs) → IfOk r (λ gs. HasGroups w leaves classes gs)
  groups_before leaves classes (Ok gs) has = has_before leaves classes gs has
  groups_before leaves classes (Err e) has = tt
