-- Marking the descendants of a node.
use Rattle.tree_graph.proofs.Prelude.{arith, ℕ, length, ap, sym, ◌<◌, ◌≡◌, subst, ◌∙◌, List, [], ◌+◌, suc, refl, ◌∷◌, ◌≤◌, ◌++◌, get_or, inl, inr, zero, Contains, take, ◌≢◌, Bool, drop, false, length-append, true≢false, All, true, ◌↔◌, ◌⊎◌, IsTrue, Vec, cond, not, replicate, set, length-set, cases_eq, take_more, append-nil, take_all, Contains-get_or, Contains-push_cases, Contains-append_left, Contains-push, sum_by-cons, Global, Graph, lists, IsChild, Leads, children, IsBelow, AreInRange, MarksBelow, MarksMore, is_marked, unmarked}
use Rattle.tree_graph.proofs.Steps.{below-step, below-within}

no_member : {X : Type 0} (x : X) → Contains [] x → ⊥
no_member x h = absurd (let l : h.0 < 0 = h.1 in omega arith)

pub marks-none : (marks : List Bool) (work : List ℕ) → MarksMore [] marks work marks work
marks-none marks work = record {
  len = refl;
  kept = λ j h. h;
  marked = λ j h. absurd (no_member j h);
  only = λ j h. inl h;
  work_kept = λ j h. h;
  work_new = λ j h. inl h;
  work_only = λ j h. inl h;
  left = refl;
}

pub marks-seen : (ns : List ℕ) (m m' : List Bool) (w w' : List ℕ) (x : ℕ) → MarksMore ns m w m' w' → is_marked m' x ≡ true → MarksMore (ns ++ x ∷ []) m w m' w'
marks-seen ns m m' w w' x more seen = record {
  len = more.len;
  kept = more.kept;
  marked = λ j h. elim (Contains-push_cases ns x j h) [ inl old ↦ more.marked j old | inr same ↦ subst (λ (y : ℕ). is_marked m' y ≡ true) same seen ];
  only = λ j h. elim (more.only j h) [ inl old ↦ inl old | inr here ↦ inr (Contains-append_left ns (x ∷ []) j here) ];
  work_kept = more.work_kept;
  work_new = more.work_new;
  work_only = λ j h. elim (more.work_only j h) [ inl old ↦ inl old | inr here ↦ inr (Contains-append_left ns (x ∷ []) j here) ];
  left = more.left;
}

-- setting a mark
set-other : (m : List Bool) (x j : ℕ) → j ≢ x → is_marked (set m x true) j ≡ is_marked m j
set-other [] x j ne = refl
set-other (b ∷ m) zero zero ne = absurd (ne refl)
set-other (b ∷ m) zero (suc j) ne = refl
set-other (b ∷ m) (suc x) zero ne = refl
set-other (b ∷ m) (suc x) (suc j) ne = set-other m x j (λ same. ne (ap suc same))

set-here : (m : List Bool) (x : ℕ) → x < length m → is_marked (set m x true) x ≡ true
set-here [] x l = absurd (omega arith)
set-here (b ∷ m) zero l = refl
set-here (b ∷ m) (suc x) l = set-here m x (omega arith)

-- one more mark is one fewer unmarked node
set-left : (m : List Bool) (x : ℕ) → x < length m → is_marked m x ≡ false → suc (unmarked (set m x true)) ≡ unmarked m
set-left [] x l new = absurd (omega arith)
set-left (b ∷ m) zero l new =
    let e : not b ≡ true = ap not new in
    let a : unmarked (b ∷ m) ≡ cond (not b) 1 0 + unmarked m = sum_by-cons (λ x. cond (not x) 1 0) b m in
    let a' : unmarked (b ∷ m) ≡ 1 + unmarked m = a ∙ ap (λ c. cond c 1 0 + unmarked m) e in
    let z : unmarked (true ∷ m) ≡ 0 + unmarked m = sum_by-cons (λ x. cond (not x) 1 0) true m in
    omega (arith, a', z)
set-left (b ∷ m) (suc x) l new =
    let r : suc (unmarked (set m x true)) ≡ unmarked m = set-left m x (omega arith) new in
    let a : unmarked (b ∷ m) ≡ cond (not b) 1 0 + unmarked m = sum_by-cons (λ y. cond (not y) 1 0) b m in
    let z : unmarked (b ∷ set m x true) ≡ cond (not b) 1 0 + unmarked (set m x true) = sum_by-cons (λ y. cond (not y) 1 0) b (set m x true) in
    omega (arith, r, a, z)

pub marks-new : (ns : List ℕ) (m m' : List Bool) (w w' : List ℕ) (x : ℕ) → MarksMore ns m w m' w' → is_marked m' x ≡ false → x < length m' → MarksMore (ns ++ x ∷ []) m w (set m' x true) (w' ++ x ∷ [])
marks-new ns m m' w w' x more new within = record {
  len = length-set m' x true ∙ more.len;
  kept = λ j h. still j (more.kept j h);
  marked = λ j h. elim (Contains-push_cases ns x j h) [ inl old ↦ still j (more.marked j old) | inr same ↦ subst (λ (y : ℕ). is_marked (set m' x true) y ≡ true) same (set-here m' x within) ];
  only = λ j h. elim (cases_eq j x) [
    | inl same ↦ inr (subst (λ (y : ℕ). Contains (ns ++ x ∷ []) y) (sym same) (Contains-push ns x))
    | inr other ↦ elim (more.only j (sym (set-other m' x j other) ∙ h)) [ inl old ↦ inl old | inr here ↦ inr (Contains-append_left ns (x ∷ []) j here) ]
  ];
  work_kept = λ j h. Contains-append_left w' (x ∷ []) j (more.work_kept j h);
  work_new = λ j h. elim (cases_eq j x) [
    | inl same ↦ inr (subst (λ (y : ℕ). Contains (w' ++ x ∷ []) y) (sym same) (Contains-push w' x))
    | inr other ↦ elim (more.work_new j (sym (set-other m' x j other) ∙ h)) [ inl old ↦ inl old | inr here ↦ inr (Contains-append_left w' (x ∷ []) j here) ]
  ];
  work_only = λ j h. elim (Contains-push_cases w' x j h) [
    | inl old ↦ elim (more.work_only j old) [ inl early ↦ inl early | inr here ↦ inr (Contains-append_left ns (x ∷ []) j here) ]
    | inr same ↦ inr (subst (λ (y : ℕ). Contains (ns ++ x ∷ []) y) same (Contains-push ns x))
  ];
  left = (let a : suc (unmarked (set m' x true)) ≡ unmarked m' = set-left m' x within new in
      let b : length (w' ++ x ∷ []) ≡ length w' + 1 = length-append w' (x ∷ []) ∙ omega arith in
      omega (arith, a, b, more.left));
}
  where
    still : (j : ℕ) → is_marked m' j ≡ true → is_marked (set m' x true) j ≡ true
    still j h = elim (cases_eq j x) [ inl same ↦ subst (λ (y : ℕ). is_marked (set m' x true) y ≡ true) (sym same) (set-here m' x within) | inr other ↦ set-other m' x j other ∙ h ]

-- ---- the work on one node
pub marking-more : (g : Graph) (node next : ℕ) (m m' : List Bool) (w w' : List ℕ) → MarksBelow g node m (w ++ next ∷ []) → MarksMore (children g next) m w m' w' → MarksBelow g node m' w'
marking-more g node next m m' w w' so_far more = record {
  len = more.len ∙ so_far.len;
  sound = λ j h. elim (more.only j h) [ inl old ↦ so_far.sound j old | inr step ↦ below-step g node next j at step ];
  work_sound = λ j h. elim (more.work_only j h) [ inl old ↦ so_far.work_sound j (Contains-append_left w (next ∷ []) j old) | inr step ↦ inr (below-step g node next j at step) ];
  closed = λ i h. elim h [
    | inl same ↦ before i (so_far.closed i (inl same))
    | inr marked ↦ elim (more.work_new i marked) [ inl old ↦ before i (so_far.closed i (inr old)) | inr here ↦ inl here ]
  ];
}
  where
    at : (next ≡ node) ⊎ IsBelow g node next
    at = so_far.work_sound next (Contains-push w next)

    before : (i : ℕ) → Contains (w ++ next ∷ []) i ⊎ ((j : ℕ) → IsChild g i j → is_marked m j ≡ true) → Contains w' i ⊎ ((j : ℕ) → IsChild g i j → is_marked m' j ≡ true)
    before i (inr all) = inr (λ j step. more.kept j (all j step))
    before i (inl there) = elim (Contains-push_cases w next i there) [
      | inl old ↦ inl (more.work_kept i old)
      | inr same ↦ inr (λ j step. more.marked j (subst (λ (y : ℕ). IsChild g y j) (sym same) step))
    ]

-- if the work list is empty, exactly the descendants are marked
pub marking-done : (g : Graph) (node : ℕ) (m : List Bool) → MarksBelow g node m [] → (j : ℕ) → IsTrue (is_marked m j) ↔ IsBelow g node j
marking-done g node m done j = (done.sound j, λ way. all way.0 node (inl refl) way.1)
  where
    from : (i : ℕ) → (i ≡ node) ⊎ (is_marked m i ≡ true) → (c : ℕ) → IsChild g i c → is_marked m c ≡ true
    from i h c step = elim (done.closed i h) [ inl there ↦ absurd (no_member i there) | inr marked ↦ marked c step ]

    all : (k a : ℕ) → (a ≡ node) ⊎ (is_marked m a ≡ true) → Leads g (suc k) a j → is_marked m j ≡ true
    all zero a h way = subst (λ (y : ℕ). is_marked m y ≡ true) way.2 (from a h way.0 way.1)
    all (suc k) a h way = all k way.0 (inr (from a h way.0 way.1)) way.2

pub marking-start : (g : Graph) (node n : ℕ) → n ≡ length g → MarksBelow g node (replicate n false) (node ∷ [])
marking-start g node n size = record {
  len = length-fresh n ∙ size;
  sound = λ j h. absurd (true≢false (sym h ∙ fresh n j));
  work_sound = λ j h. elim (Contains-push_cases [] node j h) [ inl none ↦ absurd (no_member j none) | inr same ↦ inl (sym same) ];
  closed = λ i h. elim h [ inl same ↦ inl (subst (λ (y : ℕ). Contains (node ∷ []) y) (sym same) (Contains-push [] node)) | inr marked ↦ absurd (true≢false (sym marked ∙ fresh n i)) ];
}
  where
    fresh : (n j : ℕ) → is_marked (replicate n false) j ≡ false
    fresh zero j = refl
    fresh (suc n) zero = refl
    fresh (suc n) (suc j) = fresh n j

    length-fresh : (n : ℕ) → length (replicate n false) ≡ n
    length-fresh zero = refl
    length-fresh (suc n) = ap suc (length-fresh n)

-- each number in the work list is a node
pub work-within : (g : Graph) (node next : ℕ) (m : List Bool) (w : List ℕ) → node < length g → AreInRange g → MarksBelow g node m w → Contains w next → next < length g
work-within g node next m w within in_range so_far there = elim (so_far.work_sound next there) [
  | inl same ↦ omega arith
  | inr way ↦ below-within g node next in_range way
]

-- the children of a node in a slice of lists
pub children-at : (g : List (Vec ℕ Global)) (i : ℕ) (v : Vec ℕ Global) → i < length g → v ≡ get_or g i v → children (lists g) i ≡ v.items
children-at [] i v l is = absurd (omega arith)
children-at (u ∷ g) zero v l is = ap (λ (x : Vec ℕ Global). x.items) (sym is)
children-at (u ∷ g) (suc i) v l is = children-at g i v (omega arith) is

pub length-lists : (g : List (Vec ℕ Global)) → length (lists g) ≡ length g
length-lists [] = refl
length-lists (v ∷ g) = ap suc (length-lists g)

-- a slice that was borrowed and given back
pub given_back : {X : Type 0} (n : ℕ) (new old : List X) → length new ≡ n → length old ≡ n → take n (new ++ drop (length new) old) ≡ new
given_back n new old a b =
    let none : drop (length new) old ≡ [] = drop-all old (length new) (omega arith) in
    ap (λ l. take n (new ++ l)) none ∙ ap (λ l. take n l) (append-nil new) ∙ take_all n new (omega arith)
  where
    drop-all : {X : Type 0} (xs : List X) (n : ℕ) → length xs ≤ n → drop n xs ≡ []
    drop-all [] zero l = refl
    drop-all [] (suc n) l = refl
    drop-all (x ∷ xs) zero l = absurd (omega arith)
    drop-all (x ∷ xs) (suc n) l = drop-all xs n (omega arith)

-- one node of the list, in terms of the loop
pub seen-at : (ns : List ℕ) (i : ℕ) (m m' m'' : List Bool) (w : List ℕ) (work' work'' : Vec ℕ Global) → i < length ns → MarksMore (take i ns) m w m' work'.items → is_marked m' (get_or ns i 0) ≡ true → m'' ≡ m' → work'' ≡ work'
    → MarksMore (take (i + 1) ns) m w m'' work''.items
seen-at ns i m m' m'' w work' work'' l more seen ms ws =
    subst (λ (v : Vec ℕ Global). MarksMore (take (i + 1) ns) m w m'' v.items) (sym ws)
    (subst (λ (b : List Bool). MarksMore (take (i + 1) ns) m w b work'.items) (sym ms)
    (subst (λ (l : List ℕ). MarksMore l m w m' work'.items) (sym (take_more ns i 0 l)) (marks-seen (take i ns) m m' w work'.items (get_or ns i 0) more seen)))

pub new-at : (ns : List ℕ) (i : ℕ) (m m' m'' : List Bool) (w : List ℕ) (work' work'' pushed : Vec ℕ Global) → i < length ns → MarksMore (take i ns) m w m' work'.items → is_marked m' (get_or ns i 0) ≡ false → get_or ns i 0 < length m'
    → m'' ≡ set m' (get_or ns i 0) true → work'' ≡ pushed → pushed.items ≡ work'.items ++ get_or ns i 0 ∷ [] → MarksMore (take (i + 1) ns) m w m'' work''.items
new-at ns i m m' m'' w work' work'' pushed l more new within ms ws ps =
    subst (λ (v : List ℕ). MarksMore (take (i + 1) ns) m w m'' v) (sym (ap (λ (v : Vec ℕ Global). v.items) ws ∙ ps))
    (subst (λ (b : List Bool). MarksMore (take (i + 1) ns) m w b (work'.items ++ get_or ns i 0 ∷ [])) (sym ms)
    (subst (λ (l : List ℕ). MarksMore l m w (set m' (get_or ns i 0) true) (work'.items ++ get_or ns i 0 ∷ [])) (sym (take_more ns i 0 l)) (marks-new (take i ns) m m' w work'.items (get_or ns i 0) more new within)))

-- the work on the next node, in terms of the loop
pub worked : (g : List (Vec ℕ Global)) (node next : ℕ) (v : Vec ℕ Global) (m lent m' : List Bool) (w w1 w' : List ℕ) → MarksBelow (lists g) node m w → w ≡ w1 ++ next ∷ [] → next < length g → v ≡ get_or g next v → lent ≡ m
    → MarksMore v.items lent w1 m' w' → MarksBelow (lists g) node m' w'
worked g node next v m lent m' w w1 w' so_far popped within is same more =
    marking-more (lists g) node next m m' w1 w' (subst (λ (l : List ℕ). MarksBelow (lists g) node m l) popped so_far)
    (subst (λ (l : List ℕ). MarksMore l m w1 m' w') (sym (children-at g next v within is)) (subst (λ (b : List Bool). MarksMore v.items b w1 m' w') same more))

-- the children of a node are within the marks
pub children-within : (g : List (Vec ℕ Global)) (next : ℕ) (v : Vec ℕ Global) (n : ℕ) → AreInRange (lists g) → next < length g → v ≡ get_or g next v → n ≡ length g → All (λ i. i < n) v.items
children-within g next v n in_range within is size = λ k d short.
    (let child : IsChild (lists g) next (get_or v.items k d) = subst (λ (l : List ℕ). Contains l (get_or v.items k d)) (sym (children-at g next v within is)) (Contains-get_or v.items k d short) in
    let inside : get_or v.items k d < length (lists g) = in_range next (get_or v.items k d) child in
    omega (arith, inside, length-lists g, size))

pub empty : (xs : List ℕ) → length xs ≡ 0 → xs ≡ []
empty [] l = refl
empty (x ∷ xs) l = absurd (omega arith)

-- a number popped from the work list is a node
pub popped-within : (g : List (Vec ℕ Global)) (node next : ℕ) (m : List Bool) (w w1 : List ℕ) → node < length g → AreInRange (lists g) → MarksBelow (lists g) node m w → w ≡ w1 ++ next ∷ [] → next < length g
popped-within g node next m w w1 within in_range so_far popped =
    let there : Contains w next = subst (λ (l : List ℕ). Contains l next) (sym popped) (Contains-push w1 next) in
    let inside : next < length (lists g) = work-within (lists g) node next m w (omega (arith, within, length-lists g)) in_range so_far there in
    omega (arith, inside, length-lists g)
