-- Steps from a node to its descendants. Each node of a forest is reached from the root.
use Rattle.tree_graph.proofs.Prelude.{arith, ℕ, length, ap, sym, ◌<◌, ◌≡◌, subst, ◌∙◌, List, [], ◌+◌, suc, refl, ◌∷◌, ◌≤◌, inl, inr, zero, ◌≢◌, false, slice_index, true≢false, true, ◌⊎◌, ◌||◌, get_or-eq_default, cases_eq, cases_lt, eqb-true, cases_Bool, or_cases, IsDistinct-cons, length-le_from_distinct_below, list_any, AllByRecursion, Graph, IsChild, Leads, children, IsForest, IsDeep, AreParents, IsBelow, AreInRange}
use Rattle.std.specs.List.{IsDistinct}
use Rattle.std.specs.Bool.{nat_eq}

-- one more step at the end
pub Leads-push : (g : Graph) (k : ℕ) (a b c : ℕ) → Leads g k a b → IsChild g b c → Leads g (suc k) a c
Leads-push g zero a b c same step = (c, subst (λ (x : ℕ). IsChild g x c) (sym same) step, refl)
Leads-push g (suc k) a b c way step = (way.0, way.1, Leads-push g k way.0 b c way.2 step)

pub Leads-append : (g : Graph) (j k : ℕ) (a b c : ℕ) → Leads g j a b → Leads g k b c → Leads g (j + k) a c
Leads-append g zero k a b c same way = (let e : 0 + k ≡ k = omega arith in subst (λ (n : ℕ). Leads g n a c) (sym e) (subst (λ (x : ℕ). Leads g k x c) (sym same) way))
Leads-append g (suc j) k a b c first way = (let e : suc j + k ≡ suc (j + k) = omega arith in subst (λ (n : ℕ). Leads g n a c) (sym e) (first.0, first.1, Leads-append g j k first.0 b c first.2 way))

-- the last step
pub Leads-last : (g : Graph) (k : ℕ) (a c : ℕ) → Leads g (suc k) a c → (m : ℕ) × Leads g k a m × IsChild g m c
Leads-last g zero a c way = (a, refl, subst (λ (x : ℕ). IsChild g a x) way.2 way.1)
Leads-last g (suc k) a c way = (let r : (m : ℕ) × Leads g k way.0 m × IsChild g m c = Leads-last g k way.0 c way.2 in (r.0, (way.0, way.1, r.1), r.2))

-- a child of a node or of its descendant is its descendant
pub below-step : (g : Graph) (a b c : ℕ) → (b ≡ a) ⊎ IsBelow g a b → IsChild g b c → IsBelow g a c
below-step g a b c (inl same) step = (0, (c, subst (λ (x : ℕ). IsChild g x c) same step, refl))
below-step g a b c (inr way) step = (suc way.0, Leads-push g (suc way.0) a b c way.1 step)

-- a path down that begins one step higher
higher : (g : Graph) (p c q : ℕ) → IsChild g p c → IsBelow g c q → IsBelow g p q
higher g p c q step way = (suc way.0, (c, step, way.1))

-- ---- every node of a forest is below the root

pub none_equal : (c : ℕ) (path : List ℕ) → list_any (nat_eq c) path ≡ false → AllByRecursion (λ y. nat_eq c y ≡ false) path
none_equal c [] h = tt
none_equal c (x ∷ path) h = elim (cases_Bool (nat_eq c x)) [
  | inl same ↦ absurd (true≢false (sym (ap (λ b. b || list_any (nat_eq c) path) same) ∙ h))
  | inr other ↦ (other, none_equal c path (sym (ap (λ b. b || list_any (nat_eq c) path) other) ∙ h))
]

-- the nodes on a path up, from the lowest to just below c: each once, and each a descendant of c
record IsWayUp (g : Graph) (c : ℕ) (path : List ℕ) : Type 0 where
  distinct : IsDistinct nat_eq path
  inside : (q : ℕ) → list_any (nat_eq q) path ≡ true → q < length g
  below : (q : ℕ) → list_any (nat_eq q) path ≡ true → IsBelow g c q

way-more : (g : Graph) (root p c : ℕ) (path : List ℕ) → IsForest g root → c < length g → IsChild g p c → IsWayUp g c path → IsWayUp g p (c ∷ path)
way-more g root p c path forest within step way = record {
  distinct = IsDistinct-cons nat_eq c path (none_equal c path new) way.distinct;
  inside = λ q h. elim (or_cases (nat_eq q c) (list_any (nat_eq q) path) h) [ inl same ↦ (let e : q ≡ c = eqb-true q c same in omega arith) | inr old ↦ way.inside q old ];
  below = λ q h. elim (or_cases (nat_eq q c) (list_any (nat_eq q) path) h) [
    | inl same ↦ (0, (c, step, sym (eqb-true q c same)))
    | inr old ↦ higher g p c q step (way.below q old)
  ];
}
  where
    new : list_any (nat_eq c) path ≡ false
    new = elim (cases_Bool (list_any (nat_eq c) path)) [ inl there ↦ absurd (forest.acyclic c (way.below c there)) | inr absent ↦ absent ]

too_long : (g : Graph) (root p c : ℕ) (path : List ℕ) → IsForest g root → c < length g → IsChild g p c → IsWayUp g c path → suc (length path) ≤ length g
too_long g root p c path forest within step way = (let more : IsWayUp g p (c ∷ path) = way-more g root p c path forest within step way in length-le_from_distinct_below (c ∷ path) (length g) more.distinct more.inside)

climb : (g : Graph) (root : ℕ) → IsForest g root → (fuel c : ℕ) (path : List ℕ) → c < length g → IsWayUp g c path → fuel + length path ≡ length g → (k : ℕ) × Leads g k root c
climb g root forest zero c path within way left = elim (cases_eq c root) [
  | inl here ↦ (0, sym here)
  | inr other ↦ absurd (omega (arith, left, too_long g root (forest.one c within other).parent c path forest within (forest.one c within other).lists_it way))
]
climb g root forest (suc f) c path within way left = elim (cases_eq c root) [
  | inl here ↦ (0, sym here)
  | inr other ↦ (
      let one = forest.one c within other in
      let inside : one.parent < length g = parent_inside g one.parent c one.lists_it in
      let r : (k : ℕ) × Leads g k root one.parent = climb g root forest f one.parent (c ∷ path) inside (way-more g root one.parent c path forest within one.lists_it way) (omega (arith, left)) in
      (suc r.0, Leads-push g r.0 root one.parent c r.1 one.lists_it))
]
  where
    parent_inside : (g : Graph) (p c : ℕ) → IsChild g p c → p < length g
    parent_inside g p c step = elim (cases_lt p (length g)) [
      | inl short ↦ short
      | inr long ↦ (let none : children g p ≡ [] = get_or-eq_default g [] long in
          let at : step.0 < length (children g p) = step.1 in
          let zero' : length (children g p) ≡ 0 = ap length none in
          absurd (omega arith))
    ]

pub nothing : IsDistinct nat_eq []
unfolding IsDistinct
nothing = tt

-- every node of a forest is the root or below it
pub reached : (g : Graph) (root c : ℕ) → IsForest g root → c < length g → (k : ℕ) × Leads g k root c
reached g root c forest within = climb g root forest (length g) c [] within (record { distinct = nothing; inside = λ q h. absurd (true≢false (sym h)); below = λ q h. absurd (true≢false (sym h)) }) (omega arith)

-- the root isn't a child of any node
pub unlisted : (g : Graph) (root p : ℕ) → IsForest g root → p < length g → IsChild g p root → ⊥
unlisted g root p forest within step = (let r : (k : ℕ) × Leads g k root p = reached g root p forest within in forest.acyclic root (r.0, Leads-push g r.0 root p root r.1 step))

-- a node has one depth
pub one_depth : (g : Graph) (root : ℕ) → IsForest g root → (j k c : ℕ) → Leads g j root c → Leads g k root c → j ≡ k
one_depth g root forest zero zero c a b = refl
one_depth g root forest zero (suc k) c a b = absurd (forest.acyclic root (k, subst (λ (x : ℕ). Leads g (suc k) root x) (sym a) b))
one_depth g root forest (suc j) zero c a b = absurd (forest.acyclic root (j, subst (λ (x : ℕ). Leads g (suc j) root x) (sym b) a))
one_depth g root forest (suc j) (suc k) c a b =
    let x : (m : ℕ) × Leads g j root m × IsChild g m c = Leads-last g j root c a in
    let y : (m : ℕ) × Leads g k root m × IsChild g m c = Leads-last g k root c b in
    elim (cases_eq c root) [
      | inl top ↦ absurd (forest.acyclic root (j, subst (λ (z : ℕ). Leads g (suc j) root z) top a))
      | inr other ↦ (
          let one = forest.one c (forest.in_range x.0 c x.2) other in
          let same : y.0 ≡ x.0 = one.only y.0 y.2 ∙ sym (one.only x.0 x.2) in
          ap (λ n. suc n) (one_depth g root forest j k x.0 x.1 (subst (λ (z : ℕ). Leads g k root z) same y.1)))
    ]

-- a descendant is a node of the graph
pub below-within : (g : Graph) (a b : ℕ) → AreInRange g → IsBelow g a b → b < length g
below-within g a b in_range way = (let r : (m : ℕ) × Leads g way.0 a m × IsChild g m b = Leads-last g way.0 a b way.1 in in_range r.0 b r.2)

-- the root at the upper end of a path of d steps
pub depth-found : (g : Graph) (d at root node : ℕ) → Leads g d at node → at ≡ root → Leads g d root node
depth-found g d at root node way same = subst (λ (x : ℕ). Leads g d x node) same way

-- a node that is 65 steps below another is too deep
pub depth-none : (g : Graph) (root at node : ℕ) → IsForest g root → at < length g → Leads g 65 at node → IsDeep g root node
depth-none g root at node forest within way = (let r : (k : ℕ) × Leads g k root at = reached g root at forest within in (r.0 + 65, omega arith, Leads-append g r.0 65 root at node r.1 way))

-- one step up
pub depth-up : (g : Graph) (root : ℕ) (parents : List ℕ) (d at node : ℕ) → IsForest g root → AreParents g parents → at < length parents → at ≢ root → Leads g d at node → Leads g (suc d) (slice_index parents at) node
depth-up g root parents d at node forest p within other way = (at, p.each at (forest.one at (omega (arith, within, p.len)) other).parent (forest.one at (omega (arith, within, p.len)) other).lists_it, way)
