-- Leaf addresses, prefixes, and the addresses of complete trees.
use Rattle.tree_defs.proofs.Prelude.{◌≡◌, Some, [], ap, arith, refl, subst, ℕ, ◌∙◌, ◌∷◌, suc, List, length, sym, zero, None, ◌++◌, inl, inr, ◌<◌, eq-eqb, eqb, cases_Bool, eqb-true, Topology, after, IsWithin, complete, copies, leaf, Address, LeadsToLeaf, Trees, inner, more, none, LeadsBelow, Tree, subtree, subtree_in, IsAddressOf}

-- an address leads to a leaf if there is a leaf at it
mutual
  pub leaf_at : {Q : Type 0} (t : Tree Q) (a : Address) → LeadsToLeaf t a → (q : Q) × (subtree t a ≡ Some (leaf q))
  leaf_at (leaf q) [] l = (q, refl)
  leaf_at (leaf q) (i ∷ a) l = absurd l
  leaf_at (inner q ts) [] l = absurd l
  leaf_at (inner q ts) (i ∷ a) l = leaf_in ts i a l

  pub leaf_in : {Q : Type 0} (ts : Trees Q) (i : ℕ) (a : Address) → LeadsBelow ts i a → (q : Q) × (subtree_in ts i a ≡ Some (leaf q))
  leaf_in none i a l = absurd l
  leaf_in (more t ts) zero a l = leaf_at t a l
  leaf_in (more t ts) (suc i) a l = leaf_in ts i a l

mutual
  pub leads_to : {Q : Type 0} (t : Tree Q) (a : Address) (q : Q) → subtree t a ≡ Some (leaf q) → LeadsToLeaf t a
  leads_to (leaf r) [] q p = tt
  leads_to (leaf r) (i ∷ a) q p = cc
  leads_to (inner r ts) [] q p = cc
  leads_to (inner r ts) (i ∷ a) q p = leads_below ts i a q p

  pub leads_below : {Q : Type 0} (ts : Trees Q) (i : ℕ) (a : Address) (q : Q) → subtree_in ts i a ≡ Some (leaf q) → LeadsBelow ts i a
  leads_below none i a q p = cc
  leads_below (more t ts) zero a q p = leads_to t a q p
  leads_below (more t ts) (suc i) a q p = leads_below ts i a q p

-- the remainder after a prefix follows that prefix
pub after-append : (a c : Address) → after a (a ++ c) ≡ Some c
after-append [] c = refl
after-append (x ∷ a) c = rw (eq-eqb x x refl) (after-append a c)

pub after-is : (a b c : Address) → after a b ≡ Some c → b ≡ a ++ c
after-is [] b c p = cc
after-is (x ∷ a) [] c p = cc
after-is (x ∷ a) (y ∷ b) c p =
    elim (cases_Bool (eqb x y)) [
      | inl t ↦ ap (λ (z : ℕ). z ∷ b) (sym (eqb-true x y t)) ∙ ap (λ (z : Address). x ∷ z) (after-is a b c (rw t at p))
      | inr t ↦ let no : None ≡ Some c = rw t at p in cc
    ]

-- each index below the number of copies has a copy
pub copy_at : (n i : ℕ) (t : Topology) (a : Address) → i < n → subtree_in (copies n t) i a ≡ subtree t a
copy_at zero i t a l = absurd (omega (arith, l))
copy_at (suc n) zero t a l = refl
copy_at (suc n) (suc i) t a l = copy_at n i t a (omega (arith, l))

pub copy_below : (n i : ℕ) (t u : Topology) (a : Address) → subtree_in (copies n t) i a ≡ Some u → i < n
copy_below zero i t u a p = cc
copy_below (suc n) zero t u a p = omega arith
copy_below (suc n) (suc i) t u a p = omega (arith, copy_below n i t u a p)

pub within_complete : (arities : List ℕ) (a : Address) → IsAddressOf (complete arities) a → IsWithin arities a
within_complete arities [] h = tt
within_complete [] (x ∷ a) h = let p : None ≡ Some h.0 = h.1 in cc
within_complete (d ∷ arities) (x ∷ a) h =
    let l : x < d = copy_below d x (complete arities) h.0 a h.1 in
    (l, within_complete arities a (h.0, sym (copy_at d x (complete arities) a l) ∙ h.1))

pub address_of_complete : (arities : List ℕ) (a : Address) → IsWithin arities a → IsAddressOf (complete arities) a
address_of_complete [] [] h = (leaf tt, refl)
address_of_complete (d ∷ arities) [] h = (complete (d ∷ arities), refl)
address_of_complete [] (x ∷ a) h = absurd h
address_of_complete (d ∷ arities) (x ∷ a) h =
    let deeper : IsAddressOf (complete arities) a = address_of_complete arities a h.1 in
    (deeper.0, copy_at d x (complete arities) a h.0 ∙ deeper.1)

-- the depth of the leaves equals the number of arities
pub copy_leads : (n i : ℕ) (t : Topology) (a : Address) → i < n → LeadsBelow (copies n t) i a ≡ LeadsToLeaf t a
copy_leads zero i t a l = absurd (omega (arith, l))
copy_leads (suc n) zero t a l = refl
copy_leads (suc n) (suc i) t a l = copy_leads n i t a (omega (arith, l))

pub copy_leads_below : (n i : ℕ) (t : Topology) (a : Address) → LeadsBelow (copies n t) i a → i < n
copy_leads_below zero i t a l = absurd l
copy_leads_below (suc n) zero t a l = omega arith
copy_leads_below (suc n) (suc i) t a l = omega (arith, copy_leads_below n i t a l)

pub deep_leaf : (arities : List ℕ) (a : Address) → LeadsToLeaf (complete arities) a → IsWithin arities a × (length a ≡ length arities)
deep_leaf [] [] l = (tt, refl)
deep_leaf [] (x ∷ a) l = absurd l
deep_leaf (d ∷ arities) [] l = absurd l
deep_leaf (d ∷ arities) (x ∷ a) l =
    let m : x < d = copy_leads_below d x (complete arities) a l in
    let deeper : IsWithin arities a × (length a ≡ length arities) = deep_leaf arities a (subst (λ (A : Type 0). A) (copy_leads d x (complete arities) a m) l) in
    ((m, deeper.0), ap suc deeper.1)

pub leaf_of_complete : (arities : List ℕ) (a : Address) → IsWithin arities a → length a ≡ length arities → LeadsToLeaf (complete arities) a
leaf_of_complete [] [] h e = tt
leaf_of_complete [] (x ∷ a) h e = absurd h
leaf_of_complete (d ∷ arities) [] h e = absurd (omega (arith, e))
leaf_of_complete (d ∷ arities) (x ∷ a) h e =
    subst (λ (A : Type 0). A) (sym (copy_leads d x (complete arities) a h.0)) (leaf_of_complete arities a h.1 (omega (arith, e)))
