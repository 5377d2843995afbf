-- The rows of a tree: addresses, children's indices, and leaves.
use Rattle.tree_graph.proofs.Prelude.{arith, ℕ, length, ap, sym, ◌<◌, ◌≡◌, subst, ◌∙◌, List, [], ◌+◌, suc, refl, ◌∷◌, ◌≤◌, ◌++◌, inl, inr, zero, length-append, slice_index, ◌-◌, ◌↔◌, append_assoc, cases_lt, get_or-append-add, get_or_append_left, topologies_of, topology_of, AreBranched, IsBranched, inner, Tree, Trees, leaf, more, none, nodes, Address, LeadsToLeaf, count_of, LeadsBelow, rows, preorder, preorder_below, rows_below, starts, Row, row, nodes_of, row_at}
use Rattle.tree_graph.proofs.GrowthLemmas.{length-rows, nodes-some}

nodes_of-append : (xs ys : List Row) → nodes_of (xs ++ ys) ≡ nodes_of xs ++ nodes_of ys
nodes_of-append [] ys = refl
nodes_of-append (x ∷ xs) ys = ap (λ l. x.node ∷ l) (nodes_of-append xs ys)

mutual
  pub nodes_of-rows : (n : ℕ) (a : Address) (t : Tree ℕ) → nodes_of (rows n a t) ≡ preorder t
  nodes_of-rows n a (leaf i) = refl
  nodes_of-rows n a (inner i ts) = ap (λ l. i ∷ l) (nodes_of-rows_below (n + 1) a 0 ts)

  nodes_of-rows_below : (n : ℕ) (a : Address) (d : ℕ) (ts : Trees ℕ) → nodes_of (rows_below n a d ts) ≡ preorder_below ts
  nodes_of-rows_below n a d none = refl
  nodes_of-rows_below n a d (more t ts) =
      nodes_of-append (rows n (a ++ d ∷ []) t) (rows_below (n + nodes t) a (d + 1) ts)
      ∙ ap (λ l. l ++ nodes_of (rows_below (n + nodes t) a (d + 1) ts)) (nodes_of-rows n (a ++ d ∷ []) t) ∙ ap (λ l. preorder t ++ l) (nodes_of-rows_below (n + nodes t) a (d + 1) ts)

-- the row at an index, in the first or the second of two lists
pub at-first : (xs ys : List Row) (k : ℕ) → k < length xs → row_at (xs ++ ys) k ≡ row_at xs k
at-first xs ys k within = get_or_append_left xs ys (row 0 [] []) k within

pub at-second : (xs ys : List Row) (k : ℕ) → row_at (xs ++ ys) (length xs + k) ≡ row_at ys k
at-second xs ys k = get_or-append-add xs ys k (row 0 [] [])

-- the indices of siblings: each within their rows, with its digit appended to the address
record IsStart (n : ℕ) (a : Address) (d : ℕ) (all : List Row) (e m : ℕ) : Type 0 where
  there : n ≤ m
  within : m < n + length all
  address : (row_at all (m - n)).address ≡ a ++ (d + e) ∷ []

first-address : (n : ℕ) (a : Address) (t : Tree ℕ) (ys : List Row) → (row_at (rows n a t ++ ys) 0).address ≡ a
first-address n a (leaf i) ys = refl
first-address n a (inner i ts) ys = refl

length-starts : (n : ℕ) (ts : Trees ℕ) → length (starts n ts) ≡ count_of ts
length-starts n none = refl
length-starts n (more t ts) = ap suc (length-starts (n + nodes t) ts)

starts-at : (n : ℕ) (a : Address) (d : ℕ) (ts : Trees ℕ) (e : ℕ) → e < length (starts n ts) → IsStart n a d (rows_below n a d ts) e (slice_index (starts n ts) e)
starts-at n a d none e l = absurd (omega arith)
starts-at n a d (more t ts) zero l =
    let zero_off : n - n ≡ 0 = omega arith in
    let same : d ≡ d + 0 = omega arith in
    record {
      there = omega arith;
      within = omega (arith, length-append (rows n (a ++ d ∷ []) t) (rows_below (n + nodes t) a (d + 1) ts), length-rows n (a ++ d ∷ []) t, nodes-some t);
      address = ap (λ k. (row_at (rows n (a ++ d ∷ []) t ++ rows_below (n + nodes t) a (d + 1) ts) k).address) zero_off ∙ first-address n (a ++ d ∷ []) t (rows_below (n + nodes t) a (d + 1) ts) ∙ ap (λ k. a ++ k ∷ []) same;
    }
starts-at n a d (more t ts) (suc e) l =
    let s : IsStart (n + nodes t) a (d + 1) (rows_below (n + nodes t) a (d + 1) ts) e (slice_index (starts (n + nodes t) ts) e) = starts-at (n + nodes t) a (d + 1) ts e (omega arith) in
    let m : ℕ = slice_index (starts (n + nodes t) ts) e in
    let off : m - n ≡ length (rows n (a ++ d ∷ []) t) + (m - (n + nodes t)) = omega (arith, s.there, length-rows n (a ++ d ∷ []) t) in
    let digit : d + 1 + e ≡ d + suc e = omega arith in
    record {
      there = omega (arith, s.there);
      within = omega (arith, s.within, length-append (rows n (a ++ d ∷ []) t) (rows_below (n + nodes t) a (d + 1) ts), length-rows n (a ++ d ∷ []) t);
      address = ap (λ k. (row_at (rows n (a ++ d ∷ []) t ++ rows_below (n + nodes t) a (d + 1) ts) k).address) off ∙ ap (λ (r : Row). r.address) (at-second (rows n (a ++ d ∷ []) t) (rows_below (n + nodes t) a (d + 1) ts) (m - (n + nodes t)))
          ∙ s.address ∙ ap (λ k. a ++ k ∷ []) digit;
    }

-- a child of a row: it comes later, within the rows, with its digit appended to the address
pub record IsChildRow (n : ℕ) (all : List Row) (k d m : ℕ) : Type 0 where
  pub later : n + k < m
  pub within : m < n + length all
  pub address : (row_at all (m - n)).address ≡ (row_at all k).address ++ d ∷ []

first-part : (n : ℕ) (xs ys : List Row) (k d m : ℕ) → k < length xs → IsChildRow n xs k d m → IsChildRow n (xs ++ ys) k d m
first-part n xs ys k d m short c = record {
  later = c.later;
  within = omega (arith, c.within, length-append xs ys);
  address = ap (λ (r : Row). r.address) (at-first xs ys (m - n) (omega (arith, c.later, c.within))) ∙ c.address ∙ ap (λ (r : Row). r.address ++ d ∷ []) (sym (at-first xs ys k short));
}

second-part : (n n' : ℕ) (xs ys : List Row) (k k' d m : ℕ) → n' ≡ n + length xs → k ≡ length xs + k' → IsChildRow n' ys k' d m → IsChildRow n (xs ++ ys) k d m
second-part n n' xs ys k k' d m at here c =
    let off : m - n ≡ length xs + (m - n') = omega (arith, at, c.later) in
    record {
      later = omega (arith, c.later, at, here);
      within = omega (arith, c.within, at, length-append xs ys);
      address = ap (λ j. (row_at (xs ++ ys) j).address) off ∙ ap (λ (r : Row). r.address) (at-second xs ys (m - n')) ∙ c.address ∙ ap (λ (r : Row). r.address ++ d ∷ []) (sym (at-second xs ys k')) ∙ ap (λ j. (row_at (xs ++ ys) j).address ++ d ∷ []) (sym here);
    }

abbrev pub children_at : List Row → ℕ → List ℕ
children_at all k = (row_at all k).children

mutual
  pub child-row : (n : ℕ) (a : Address) (t : Tree ℕ) (k d : ℕ) → k < length (rows n a t) → d < length (children_at (rows n a t) k) → IsChildRow n (rows n a t) k d (slice_index (children_at (rows n a t) k) d)
  child-row n a (leaf i) zero d short there = absurd (omega arith)
  child-row n a (leaf i) (suc k) d short there = absurd (omega arith)
  child-row n a (inner i ts) zero d short there =
      let s : IsStart (n + 1) a 0 (rows_below (n + 1) a 0 ts) d (slice_index (starts (n + 1) ts) d) = starts-at (n + 1) a 0 ts d there in
      let m : ℕ = slice_index (starts (n + 1) ts) d in
      let off : m - n ≡ suc (m - (n + 1)) = omega (arith, s.there) in
      let digit : 0 + d ≡ d = omega arith in
      record {
        later = omega (arith, s.there);
        within = omega (arith, s.within);
        address = ap (λ j. (row_at (rows n a (inner i ts)) j).address) off ∙ s.address ∙ ap (λ j. a ++ j ∷ []) digit;
      }
  child-row n a (inner i ts) (suc k) d short there =
      second-part n (n + 1) (row i a (starts (n + 1) ts) ∷ []) (rows_below (n + 1) a 0 ts) (suc k) k d (slice_index (children_at (rows_below (n + 1) a 0 ts) k) d) refl (omega arith) (child-row_below (n + 1) a 0 ts k d (omega arith) there)

  child-row_below : (n : ℕ) (a : Address) (e : ℕ) (ts : Trees ℕ) (k d : ℕ) → k < length (rows_below n a e ts) → d < length (children_at (rows_below n a e ts) k) → IsChildRow n (rows_below n a e ts) k d (slice_index (children_at (rows_below n a e ts) k) d)
  child-row_below n a e none k d short there = absurd (omega arith)
  child-row_below n a e (more t ts) k d short there = elim (cases_lt k (length (rows n (a ++ e ∷ []) t))) [
    | inl first ↦ (
        let same : row_at (rows n (a ++ e ∷ []) t ++ rows_below (n + nodes t) a (e + 1) ts) k ≡ row_at (rows n (a ++ e ∷ []) t) k = at-first (rows n (a ++ e ∷ []) t) (rows_below (n + nodes t) a (e + 1) ts) k first in
        let lower : d < length (children_at (rows n (a ++ e ∷ []) t) k) = subst (λ (r : Row). d < length r.children) same there in
        subst (λ (r : Row). IsChildRow n (rows_below n a e (more t ts)) k d (slice_index r.children d)) (sym same)
        (first-part n (rows n (a ++ e ∷ []) t) (rows_below (n + nodes t) a (e + 1) ts) k d _ first (child-row n (a ++ e ∷ []) t k d first lower)))
    | inr second ↦ (
        let k' : ℕ = k - length (rows n (a ++ e ∷ []) t) in
        let here : k ≡ length (rows n (a ++ e ∷ []) t) + k' = omega (arith, second) in
        let same : row_at (rows n (a ++ e ∷ []) t ++ rows_below (n + nodes t) a (e + 1) ts) k ≡ row_at (rows_below (n + nodes t) a (e + 1) ts) k' =
        ap (row_at (rows n (a ++ e ∷ []) t ++ rows_below (n + nodes t) a (e + 1) ts)) here ∙ at-second (rows n (a ++ e ∷ []) t) (rows_below (n + nodes t) a (e + 1) ts) k' in
        let lower : d < length (children_at (rows_below (n + nodes t) a (e + 1) ts) k') = subst (λ (r : Row). d < length r.children) same there in
        let short' : k' < length (rows_below (n + nodes t) a (e + 1) ts) = omega (arith, here, short, length-append (rows n (a ++ e ∷ []) t) (rows_below (n + nodes t) a (e + 1) ts)) in
        subst (λ (r : Row). IsChildRow n (rows_below n a e (more t ts)) k d (slice_index r.children d)) (sym same)
        (second-part n (n + nodes t) (rows n (a ++ e ∷ []) t) (rows_below (n + nodes t) a (e + 1) ts) k k' d _ (omega (arith, length-rows n (a ++ e ∷ []) t)) here (child-row_below (n + nodes t) a (e + 1) ts k' d short' lower)))
  ]

-- ---- leaves
append-nil : (xs : List ℕ) → xs ++ [] ≡ xs
append-nil [] = refl
append-nil (x ∷ xs) = ap (λ l. x ∷ l) (append-nil xs)

-- a row below address a has no children exactly if the rest of its address leads to a leaf
record IsPlaced (t : Tree ℕ) (a : Address) (r : Row) : Type 0 where
  rest : Address
  address : r.address ≡ a ++ rest
  childless : (r.children ≡ []) ↔ LeadsToLeaf (topology_of t) rest

record IsPlacedBelow (ts : Trees ℕ) (a : Address) (e : ℕ) (r : Row) : Type 0 where
  digit : ℕ
  rest : Address
  address : r.address ≡ a ++ (e + digit) ∷ rest
  childless : (r.children ≡ []) ↔ LeadsBelow (topologies_of ts) digit rest

mutual
  row-placed : (n : ℕ) (a : Address) (t : Tree ℕ) (k : ℕ) → IsBranched (topology_of t) → k < length (rows n a t) → IsPlaced t a (row_at (rows n a t) k)
  row-placed n a (leaf i) zero branched short = record { rest = []; address = sym (append-nil a); childless = ((λ _. tt), (λ _. refl)) }
  row-placed n a (leaf i) (suc k) branched short = absurd (omega arith)
  row-placed n a (inner i none) k branched short = absurd branched
  row-placed n a (inner i (more t ts)) zero branched short = record { rest = []; address = sym (append-nil a); childless = ((λ none. (let e : suc (length (starts (n + 1 + nodes t) ts)) ≡ 0 = ap length none in absurd (omega arith))), (λ no. absurd no)) }
  row-placed n a (inner i (more t ts)) (suc k) branched short =
      let p : IsPlacedBelow (more t ts) a 0 (row_at (rows_below (n + 1) a 0 (more t ts)) k) = row-placed_below (n + 1) a 0 (more t ts) k branched (omega arith) in
      let digit : 0 + p.digit ≡ p.digit = omega arith in
      record { rest = p.digit ∷ p.rest; address = p.address ∙ ap (λ d. a ++ d ∷ p.rest) digit; childless = p.childless }

  row-placed_below : (n : ℕ) (a : Address) (e : ℕ) (ts : Trees ℕ) (k : ℕ) → AreBranched (topologies_of ts) → k < length (rows_below n a e ts) → IsPlacedBelow ts a e (row_at (rows_below n a e ts) k)
  row-placed_below n a e none k branched short = absurd (omega arith)
  row-placed_below n a e (more t ts) k branched short = elim (cases_lt k (length (rows n (a ++ e ∷ []) t))) [
    | inl first ↦ (
        let p : IsPlaced t (a ++ e ∷ []) (row_at (rows n (a ++ e ∷ []) t) k) = row-placed n (a ++ e ∷ []) t k branched.0 first in
        let digit : e ≡ e + 0 = omega arith in
        subst (λ (r : Row). IsPlacedBelow (more t ts) a e r) (sym (at-first (rows n (a ++ e ∷ []) t) (rows_below (n + nodes t) a (e + 1) ts) k first))
        (record { digit = 0; rest = p.rest; address = p.address ∙ append_assoc a (e ∷ []) p.rest ∙ ap (λ d. a ++ d ∷ p.rest) digit; childless = p.childless }))
    | inr second ↦ (
        let k' : ℕ = k - length (rows n (a ++ e ∷ []) t) in
        let here : k ≡ length (rows n (a ++ e ∷ []) t) + k' = omega (arith, second) in
        let short' : k' < length (rows_below (n + nodes t) a (e + 1) ts) = omega (arith, here, short, length-append (rows n (a ++ e ∷ []) t) (rows_below (n + nodes t) a (e + 1) ts)) in
        let p : IsPlacedBelow ts a (e + 1) (row_at (rows_below (n + nodes t) a (e + 1) ts) k') = row-placed_below (n + nodes t) a (e + 1) ts k' branched.1 short' in
        let digit : e + 1 + p.digit ≡ e + suc p.digit = omega arith in
        subst (λ (r : Row). IsPlacedBelow (more t ts) a e r) (sym (ap (row_at (rows n (a ++ e ∷ []) t ++ rows_below (n + nodes t) a (e + 1) ts)) here ∙ at-second (rows n (a ++ e ∷ []) t) (rows_below (n + nodes t) a (e + 1) ts) k'))
        (record { digit = suc p.digit; rest = p.rest; address = p.address ∙ ap (λ d. a ++ d ∷ p.rest) digit; childless = p.childless }))
  ]

pub leaf-address : (t : Tree ℕ) (k : ℕ) → IsBranched (topology_of t) → k < length (rows 0 [] t) → (children_at (rows 0 [] t) k ≡ []) ↔ LeadsToLeaf (topology_of t) (row_at (rows 0 [] t) k).address
leaf-address t k branched short =
    let p : IsPlaced t [] (row_at (rows 0 [] t) k) = row-placed 0 [] t k branched short in
    subst (λ (b : Address). (children_at (rows 0 [] t) k ≡ []) ↔ LeadsToLeaf (topology_of t) b) (sym p.address) p.childless
