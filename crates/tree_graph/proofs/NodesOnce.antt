-- The tree of a forest contains each node once, and no part of it contains a node twice.
use Rattle.tree_graph.proofs.Prelude.{arith, ℕ, length, ap, sym, ◌<◌, ◌≡◌, subst, ◌∙◌, List, [], ◌+◌, suc, refl, ◌∷◌, ◌≤◌, ◌++◌, inl, inr, zero, Contains, ◌≢◌, false, length-append, true≢false, true, cond, ◌||◌, sum_by, get_or-eq_default, cases_eq, cases_lt, eqb-true, cases_Bool, eq-eqb, ne_eqb, Contains-get_or, Contains-append_right, sum_by-cons, sum_by-append, IsDistinct-cons, length-le_from_distinct_below, le-length_from_below, list_any, IsDistinct, inner, Tree, Trees, leaf, more, none, nodes, root_of, nodes_below, Graph, IsChild, Leads, children, IsForest, AreInRange, HasOneParent, times, HasRoom, ArePartsOf, IsPartOf, AreTreesOf, IsTreeOf, labels, preorder, preorder_below}
use Rattle.std.specs.Bool.{nat_eq}
use Rattle.tree_graph.proofs.Steps.{reached, unlisted, Leads-last, none_equal, nothing}

-- 1 for the same node, 0 for another
abbrev pub is : ℕ → ℕ → ℕ
is c x = cond (nat_eq c x) 1 0

times-cons : (c x : ℕ) (xs : List ℕ) → times c (x ∷ xs) ≡ is c x + times c xs
times-cons c x xs = sum_by-cons (is c) x xs

times-append : (c : ℕ) (xs ys : List ℕ) → times c (xs ++ ys) ≡ times c xs + times c ys
times-append c xs ys = sum_by-append (is c) xs ys

-- the number of times that the nodes of a list name a child
abbrev pub named : Graph → ℕ → List ℕ → ℕ
named g c qs = sum_by (λ q. times c (children g q)) qs

same-is : (p q : ℕ) → p ≡ q → is p q ≡ 1
same-is p q e = ap (λ b. cond b 1 0) (eq-eqb p q e)

other-is : (p q : ℕ) → p ≢ q → is p q ≡ 0
other-is p q ne = ap (λ b. cond b 1 0) (ne_eqb p q ne)

true-is : (c x : ℕ) → nat_eq c x ≡ true → is c x ≡ 1
true-is c x same = ap (λ b. cond b 1 0) same

false-is : (c x : ℕ) → nat_eq c x ≡ false → is c x ≡ 0
false-is c x other = ap (λ b. cond b 1 0) other

-- ---- a node's number, and how often a list of nodes names it
mutual
  times-preorder : (g : Graph) (c : ℕ) (t : Tree ℕ) → IsTreeOf g t → times c (preorder t) ≡ is c (root_of t) + named g c (preorder t)
  times-preorder g c (leaf i) h =
      let none_named : times c (children g i) ≡ 0 = ap (times c) h in
      omega (arith, none_named, times-cons c i [], sum_by-cons (λ q. times c (children g q)) i [])
  times-preorder g c (inner i ts) h =
      let below : times c (preorder_below ts) ≡ times c (labels ts) + named g c (preorder_below ts) = times-preorder_below g c ts h.2 in
      let own : times c (labels ts) ≡ times c (children g i) = ap (times c) h.1 in
      omega (arith, below, own, times-cons c i (preorder_below ts), sum_by-cons (λ q. times c (children g q)) i (preorder_below ts))

  times-preorder_below : (g : Graph) (c : ℕ) (ts : Trees ℕ) → AreTreesOf g ts → times c (preorder_below ts) ≡ times c (labels ts) + named g c (preorder_below ts)
  times-preorder_below g c none h = refl
  times-preorder_below g c (more t ts) h =
      let first : times c (preorder t) ≡ is c (root_of t) + named g c (preorder t) = times-preorder g c t h.0 in
      let rest : times c (preorder_below ts) ≡ times c (labels ts) + named g c (preorder_below ts) = times-preorder_below g c ts h.1 in
      omega (arith, first, rest, times-append c (preorder t) (preorder_below ts), sum_by-append (λ q. times c (children g q)) (preorder t) (preorder_below ts), times-cons c (root_of t) (labels ts))

mutual
  times-part : (g : Graph) (c : ℕ) (t : Tree ℕ) → IsPartOf g t → times c (preorder t) ≤ is c (root_of t) + named g c (preorder t)
  times-part g c (leaf i) h = omega (arith, times-cons c i [])
  times-part g c (inner i ts) h =
      let below : times c (preorder_below ts) ≤ times c (labels ts) + named g c (preorder_below ts) = times-part_below g c ts h.1 in
      let own : times c (labels ts) + times c h.0.0 ≡ times c (children g i) = sym (times-append c (labels ts) h.0.0) ∙ ap (times c) h.0.1 in
      omega (arith, below, own, times-cons c i (preorder_below ts), sum_by-cons (λ q. times c (children g q)) i (preorder_below ts))

  times-part_below : (g : Graph) (c : ℕ) (ts : Trees ℕ) → ArePartsOf g ts → times c (preorder_below ts) ≤ times c (labels ts) + named g c (preorder_below ts)
  times-part_below g c none h = omega arith
  times-part_below g c (more t ts) h =
      let first : times c (preorder t) ≤ is c (root_of t) + named g c (preorder t) = times-part g c t h.0 in
      let rest : times c (preorder_below ts) ≤ times c (labels ts) + named g c (preorder_below ts) = times-part_below g c ts h.1 in
      omega (arith, first, rest, times-append c (preorder t) (preorder_below ts), sum_by-append (λ q. times c (children g q)) (preorder t) (preorder_below ts), times-cons c (root_of t) (labels ts))

none-there : (c : ℕ) (xs : List ℕ) → (Contains xs c → ⊥) → times c xs ≡ 0
none-there c [] h = refl
none-there c (x ∷ xs) h =
    let rest : times c xs ≡ 0 = none-there c xs (λ there. h (Contains-append_right (x ∷ []) xs c there)) in
    let here : is c x ≡ 0 = elim (cases_Bool (nat_eq c x)) [
      | inl same ↦ absurd (h (subst (λ (y : ℕ). Contains (x ∷ xs) y) (sym (eqb-true c x same)) (Contains-get_or (x ∷ xs) 0 x (omega arith))))
      | inr other ↦ ap (λ b. cond b 1 0) other
    ] in
    omega (arith, rest, here, times-cons c x xs)

-- a node is named as often as its parent occurs
named-parent : (g : Graph) (c : ℕ) (one : HasOneParent g c) (qs : List ℕ) → named g c qs ≡ times one.parent qs
named-parent g c one [] = refl
named-parent g c one (q ∷ qs) =
    let here : times c (children g q) ≡ is one.parent q = elim (cases_eq one.parent q) [
      | inl same ↦ ap (λ k. times c (children g k)) (sym same) ∙ one.once ∙ sym (same-is one.parent q same)
      | inr other ↦ none-there c (children g q) (λ there. other (sym (one.only q there))) ∙ sym (other-is one.parent q other)
    ] in
    omega (arith, here, named-parent g c one qs, times-cons one.parent q qs, sum_by-cons (λ k. times c (children g k)) q qs)

-- a number that no node lists is never named
unnamed : (g : Graph) (c : ℕ) → ((q : ℕ) → IsChild g q c → ⊥) → (qs : List ℕ) → named g c qs ≡ 0
unnamed g c never [] = refl
unnamed g c never (q ∷ qs) = omega (arith, none-there c (children g q) (never q), unnamed g c never qs, sum_by-cons (λ k. times c (children g k)) q qs)

root-unlisted : (g : Graph) (root : ℕ) → IsForest g root → (q : ℕ) → IsChild g q root → ⊥
root-unlisted g root forest q there = elim (cases_lt q (length g)) [
  | inl short ↦ unlisted g root q forest short there
  | inr long ↦ (let none' : children g q ≡ [] = get_or-eq_default g [] long in
      let at : there.0 < length (children g q) = there.1 in
      let empty : length (children g q) ≡ 0 = ap length none' in
      absurd (omega arith))
]

at-depth : (g : Graph) (root : ℕ) (t : Tree ℕ) → IsForest g root → IsTreeOf g t → root_of t ≡ root → (k c : ℕ) → Leads g k root c → times c (preorder t) ≡ 1
at-depth g root t forest tree top zero c same =
    let h : times root (preorder t) ≡ is root (root_of t) + named g root (preorder t) = times-preorder g root t tree in
    let r : times root (preorder t) ≡ 1 = omega (arith, h, same-is root (root_of t) (sym top), unnamed g root (root-unlisted g root forest) (preorder t)) in
    subst (λ (x : ℕ). times x (preorder t) ≡ 1) same r
at-depth g root t forest tree top (suc k) c way =
    let last : (m : ℕ) × Leads g k root m × IsChild g m c = Leads-last g k root c way in
    let other : c ≢ root = λ same. forest.acyclic root (k, subst (λ (x : ℕ). Leads g (suc k) root x) same way) in
    let one : HasOneParent g c = forest.one c (forest.in_range last.0 c last.2) other in
    let up : times last.0 (preorder t) ≡ 1 = at-depth g root t forest tree top k last.0 last.1 in
    let up' : times one.parent (preorder t) ≡ 1 = subst (λ (x : ℕ). times x (preorder t) ≡ 1) (one.only last.0 last.2) up in
    omega (arith, times-preorder g c t tree, other-is c (root_of t) (λ same. other (same ∙ top)), named-parent g c one (preorder t), up')

at-most : (g : Graph) (root : ℕ) (t : Tree ℕ) → IsForest g root → IsPartOf g t → root_of t ≡ root → (k c : ℕ) → Leads g k root c → times c (preorder t) ≤ 1
at-most g root t forest part top zero c same =
    let h : times root (preorder t) ≤ is root (root_of t) + named g root (preorder t) = times-part g root t part in
    let r : times root (preorder t) ≤ 1 = omega (arith, h, same-is root (root_of t) (sym top), unnamed g root (root-unlisted g root forest) (preorder t)) in
    subst (λ (x : ℕ). times x (preorder t) ≤ 1) same r
at-most g root t forest part top (suc k) c way =
    let last : (m : ℕ) × Leads g k root m × IsChild g m c = Leads-last g k root c way in
    let other : c ≢ root = λ same. forest.acyclic root (k, subst (λ (x : ℕ). Leads g (suc k) root x) same way) in
    let one : HasOneParent g c = forest.one c (forest.in_range last.0 c last.2) other in
    let up : times last.0 (preorder t) ≤ 1 = at-most g root t forest part top k last.0 last.1 in
    let up' : times one.parent (preorder t) ≤ 1 = subst (λ (x : ℕ). times x (preorder t) ≤ 1) (one.only last.0 last.2) up in
    omega (arith, times-part g c t part, other-is c (root_of t) (λ same. other (same ∙ top)), named-parent g c one (preorder t), up')

-- each node of a forest occurs once in the tree below the root
pub each_once : (g : Graph) (root : ℕ) (t : Tree ℕ) → IsForest g root → IsTreeOf g t → root_of t ≡ root → (c : ℕ) → c < length g → times c (preorder t) ≡ 1
each_once g root t forest tree top c within = (let r : (k : ℕ) × Leads g k root c = reached g root c forest within in at-depth g root t forest tree top r.0 c r.1)

-- ---- so the tree has as many nodes as the graph
there-some : (c : ℕ) (xs : List ℕ) → list_any (nat_eq c) xs ≡ true → 1 ≤ times c xs
there-some c [] h = absurd (true≢false (sym h))
there-some c (x ∷ xs) h = elim (cases_Bool (nat_eq c x)) [
  | inl same ↦ omega (arith, times-cons c x xs, true-is c x same)
  | inr other ↦ omega (arith, times-cons c x xs, there-some c xs (sym (ap (λ b. b || list_any (nat_eq c) xs) other) ∙ h))
]

absent-none : (c : ℕ) (xs : List ℕ) → list_any (nat_eq c) xs ≡ false → times c xs ≡ 0
absent-none c [] h = refl
absent-none c (x ∷ xs) h = elim (cases_Bool (nat_eq c x)) [
  | inl same ↦ absurd (true≢false (sym (ap (λ b. b || list_any (nat_eq c) xs) same) ∙ h))
  | inr other ↦ omega (arith, times-cons c x xs, false-is c x other, absent-none c xs (sym (ap (λ b. b || list_any (nat_eq c) xs) other) ∙ h))
]

distinct-once : (xs : List ℕ) → ((c : ℕ) → times c xs ≤ 1) → IsDistinct nat_eq xs
distinct-once [] h = nothing
distinct-once (x ∷ xs) h = IsDistinct-cons nat_eq x xs (none_equal x xs (elim (cases_Bool (list_any (nat_eq x) xs)) [
  | inl there ↦ absurd (omega (arith, there-some x xs there, h x, times-cons x x xs, same-is x x refl))
  | inr absent ↦ absent
])) (distinct-once xs (λ c. omega (arith, h c, times-cons c x xs)))

-- a part of the tree contains only nodes of the graph
beyond-none : (g : Graph) (t : Tree ℕ) → AreInRange g → IsPartOf g t → root_of t < length g → (c : ℕ) → length g ≤ c → times c (preorder t) ≡ 0
beyond-none g t in_range part top c far = omega (arith, times-part g c t part, other-is c (root_of t) (λ same. omega arith), unnamed g c (λ q there. (let r : c < length g = in_range q c there in omega arith)) (preorder t))

mutual
  pub length-preorder : (t : Tree ℕ) → length (preorder t) ≡ nodes t
  length-preorder (leaf i) = refl
  length-preorder (inner i ts) = omega (arith, length-preorder_below ts)

  length-preorder_below : (ts : Trees ℕ) → length (preorder_below ts) ≡ nodes_below ts
  length-preorder_below none = refl
  length-preorder_below (more t ts) = omega (arith, length-preorder t, length-preorder_below ts, length-append (preorder t) (preorder_below ts))

-- no part of the tree has more nodes than the graph
pub room-root : (g : Graph) (root : ℕ) → IsForest g root → HasRoom g root 0 (length g)
room-root g root forest t part top =
    let few : length (preorder t) ≤ length g = length-le_from_distinct_below (preorder t) (length g) (distinct-once (preorder t) most) inside in
    omega (arith, few, length-preorder t)
  where
    within : root_of t < length g
    within = omega (arith, top, forest.root_is)

    most : (c : ℕ) → times c (preorder t) ≤ 1
    most c = elim (cases_lt c (length g)) [
      | inl short ↦ (let r : (k : ℕ) × Leads g k root c = reached g root c forest short in at-most g root t forest part top r.0 c r.1)
      | inr far ↦ omega (arith, beyond-none g t forest.in_range part within c (omega (arith, far)))
    ]

    inside : (q : ℕ) → list_any (nat_eq q) (preorder t) ≡ true → q < length g
    inside q there = elim (cases_lt q (length g)) [
      | inl short ↦ short
      | inr far ↦ absurd (omega (arith, there-some q (preorder t) there, beyond-none g t forest.in_range part within q (omega (arith, far))))
    ]

-- the tree contains each node of the graph
pub nodes-all : (g : Graph) (root : ℕ) (t : Tree ℕ) → IsForest g root → IsTreeOf g t → root_of t ≡ root → length g ≤ nodes t
nodes-all g root t forest tree top =
    let many : length g ≤ length (preorder t) = le-length_from_below (preorder t) (length g) (λ q short. elim (cases_Bool (list_any (nat_eq q) (preorder t))) [
      | inl there ↦ there
      | inr absent ↦ absurd (omega (arith, each_once g root t forest tree top q short, absent-none q (preorder t) absent))
    ]) in
    omega (arith, many, length-preorder t)
