-- The rows of a tree are in the order of the numbers, each with the address of its number.
use Rattle.policy_core.proofs.Prelude.{List, ◌≡◌, ℕ, ap, sym, subst, [], ◌∙◌, arith, length, ◌<◌, ◌∷◌, suc, Some, zero, None, ◌++◌, inl, inr, ◌+◌, append-nil, append_assoc, ◌-◌, cases_lt, get_or-append-add, get_or_append_left, Tree, Trees, inner, more, none, Address, nodes, nodes_below, IsAddressOf, subtree_in, length-rows, rows, rows_below, starts, Row, row_at, row, address_at, address_below, sibling_of}
use Rattle.tree_defs.specs.Tree.{leaf}
use Rattle.policy_core.proofs.NumberedAddresses.{sibling-first, way-first, sibling-later, way-later}

-- a row has this address, and a child at each digit that leads on
pub record IsRowAt (t : Tree ℕ) (a w : Address) (r : Row) : Type 0 where
  pub address : r.address ≡ a ++ w
  pub children : (d : ℕ) → IsAddressOf t (w ++ d ∷ []) → d < length r.children

record IsRowBelow (ts : Trees ℕ) (a : Address) (e i : ℕ) (w : Address) (r : Row) : Type 0 where
  address : r.address ≡ a ++ (e + i) ∷ w
  children : (d : ℕ) → ((u : Tree ℕ) × (subtree_in ts i (w ++ d ∷ []) ≡ Some u)) → d < length r.children

child-starts : (n : ℕ) (ts : Trees ℕ) (d : ℕ) (u : Tree ℕ) → subtree_in ts d [] ≡ Some u → d < length (starts n ts)
child-starts n none d u p = cc
child-starts n (more t ts) zero u p = omega arith
child-starts n (more t ts) (suc d) u p = (let l : d < length (starts (n + nodes t) ts) = child-starts (n + nodes t) ts d u p in omega (arith, l))

mutual
  pub row-numbered : (n : ℕ) (a : Address) (t : Tree ℕ) (k : ℕ) → k < nodes t → IsRowAt t a (address_at t k) (row_at (rows n a t) k)
  row-numbered n a (leaf i) zero l = record { address = sym (append-nil a); children = λ d p. (let e : None ≡ Some p.0 = p.1 in cc) }
  row-numbered n a (leaf i) (suc k) l = absurd (omega arith)
  row-numbered n a (inner i ts) zero l = record { address = sym (append-nil a); children = λ d p. child-starts (n + 1) ts d p.0 p.1 }
  row-numbered n a (inner i ts) (suc k) l =
      let r : IsRowBelow ts a 0 (sibling_of ts k) (address_below ts k) (row_at (rows_below (n + 1) a 0 ts) k) = row-numbered_below (n + 1) a 0 ts k (omega arith) in
      let digit : 0 + sibling_of ts k ≡ sibling_of ts k = omega arith in
      record { address = r.address ∙ ap (λ j. a ++ j ∷ address_below ts k) digit; children = r.children }

  row-numbered_below : (n : ℕ) (a : Address) (e : ℕ) (ts : Trees ℕ) (k : ℕ) → k < nodes_below ts → IsRowBelow ts a e (sibling_of ts k) (address_below ts k) (row_at (rows_below n a e ts) k)
  row-numbered_below n a e none k l = absurd (omega arith)
  row-numbered_below n a e (more t ts) k l = elim (cases_lt k (nodes t)) [
    | inl first ↦ (
        let xs : List Row = rows n (a ++ e ∷ []) t in
        let ys : List Row = rows_below (n + nodes t) a (e + 1) ts in
        let r : IsRowAt t (a ++ e ∷ []) (address_at t k) (row_at xs k) = row-numbered n (a ++ e ∷ []) t k first in
        let digit : e ≡ e + 0 = omega arith in
        subst (λ (s : Row). IsRowBelow (more t ts) a e (sibling_of (more t ts) k) (address_below (more t ts) k) s) (sym (get_or_append_left xs ys (row 0 [] []) k (omega (arith, first, length-rows n (a ++ e ∷ []) t))))
        (subst (λ (i : ℕ). IsRowBelow (more t ts) a e i (address_below (more t ts) k) (row_at xs k)) (sym (sibling-first t ts k first))
        (subst (λ (w : Address). IsRowBelow (more t ts) a e 0 w (row_at xs k)) (sym (way-first t ts k first))
        (record { address = r.address ∙ append_assoc a (e ∷ []) (address_at t k) ∙ ap (λ j. a ++ j ∷ address_at t k) digit; children = r.children }))))
    | inr later ↦ (
        let xs : List Row = rows n (a ++ e ∷ []) t in
        let ys : List Row = rows_below (n + nodes t) a (e + 1) ts in
        let m : ℕ = k - nodes t in
        let same : nodes t + m ≡ k = omega (arith, later) in
        let behind : length xs + m ≡ nodes t + m = omega (arith, length-rows n (a ++ e ∷ []) t) in
        let there : row_at (xs ++ ys) (nodes t + m) ≡ row_at ys m = ap (row_at (xs ++ ys)) (sym behind) ∙ get_or-append-add xs ys m (row 0 [] []) in
        let r : IsRowBelow ts a (e + 1) (sibling_of ts m) (address_below ts m) (row_at ys m) = row-numbered_below (n + nodes t) a (e + 1) ts m (omega (arith, later, l)) in
        let digit : e + 1 + sibling_of ts m ≡ e + suc (sibling_of ts m) = omega arith in
        subst (λ (j : ℕ). IsRowBelow (more t ts) a e (sibling_of (more t ts) j) (address_below (more t ts) j) (row_at (xs ++ ys) j)) same
        (subst (λ (s : Row). IsRowBelow (more t ts) a e (sibling_of (more t ts) (nodes t + m)) (address_below (more t ts) (nodes t + m)) s) (sym there)
        (subst (λ (i : ℕ). IsRowBelow (more t ts) a e i (address_below (more t ts) (nodes t + m)) (row_at ys m)) (sym (sibling-later t ts m))
        (subst (λ (w : Address). IsRowBelow (more t ts) a e (suc (sibling_of ts m)) w (row_at ys m)) (sym (way-later t ts m))
        (record { address = r.address ∙ ap (λ j. a ++ j ∷ address_below ts m) digit; children = r.children })))))
  ]
