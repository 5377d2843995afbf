-- The free slots after one step of a push, of a pop and of a reserve.
use Rattle.tree_core.proofs.Prelude.{arith, ◌≡◌, ap, ◌∙◌, get_or, length, ◌<◌, subst, ◌≤◌, List, [], refl, ◌∷◌, sym, ℕ, ◌+◌, set, suc, zero, ◌-◌, Contents, Tree, Trees, inner, more, LeadsToLeaf, none, leaf, digits_of, without_places, without_places_below, HasNoFewer, HaveNoFewer, TreeContents, forest, branch, grown, spares}
use Rattle.tree_core.proofs.PushSteps.{later, later-cons, child_within}

-- ---- push
pub one_less : (m n : ℕ) → m + 1 ≡ n → m ≡ n - 1
one_less m n e = omega (arith, e)

pub spares-used : (ks : List TreeContents) (i : ℕ) (digits : List ℕ) (k k' : TreeContents) → k ≡ get_or ks i k → i < length ks → k'.spare ≡ without_places k.spare digits
    → spares (set ks i k') ≡ without_places_below (spares ks) i digits
spares-used [] i digits k k' e l p = absurd (omega arith)
spares-used (j ∷ ks) zero digits k k' e l p =
    let q : k'.spare ≡ without_places j.spare digits = p ∙ ap (λ (g : TreeContents). without_places g.spare digits) e in
    ap (λ (t : Tree ℕ). more t (spares ks)) q
spares-used (j ∷ ks) (suc i) digits k k' e l p = ap (more j.spare) (spares-used ks i digits k k' e (omega arith) p)

pub branch-used : (n : ℕ) (t : Tree ℕ) (ts : Trees ℕ) (i : ℕ) (digits : List ℕ) → branch n (without_places_below (more t ts) i digits) ≡ inner n (without_places_below (more t ts) i digits)
branch-used n t ts zero digits = refl
branch-used n t ts (suc i) digits = refl

module _ (s s' : Contents) (ks : List TreeContents) (g : TreeContents) (seen : grown s ks ≡ g) (steps : List (ℕ × ℕ)) (leads : LeadsToLeaf g.tree (digits_of steps)) (used : s'.spare + 1 ≡ s.spare) where
  pub used_at_leaf : length steps < 1 → branch s'.spare (spares ks) ≡ without_places g.spare (digits_of steps)
  used_at_leaf n = at ks steps n (subst (λ (h : TreeContents). LeadsToLeaf h.tree (digits_of steps)) (sym seen) leads) ∙ ap (λ (h : TreeContents). without_places h.spare (digits_of steps)) seen
    where
      at : (ks : List TreeContents) (steps : List (ℕ × ℕ)) → length steps < 1 → LeadsToLeaf (branch s.entries (forest ks)) (digits_of steps) → branch s'.spare (spares ks) ≡ without_places (branch s.spare (spares ks)) (digits_of steps)
      at ks (x ∷ steps) n l = absurd (omega arith)
      at [] [] n l = ap leaf (one_less s'.spare s.spare used)
      at (k ∷ ks) [] n l = absurd l

  pub used_here : (k k' : TreeContents) → 1 ≤ length steps → k ≡ get_or ks (get_or steps 0 (0, 0)).0 k → k'.spare ≡ without_places k.spare (digits_of (later steps))
      → branch s'.spare (spares (set ks (get_or steps 0 (0, 0)).0 k')) ≡ without_places g.spare (digits_of steps)
  used_here k k' n e p = here ks steps n e p (subst (λ (h : TreeContents). LeadsToLeaf h.tree (digits_of steps)) (sym seen) leads) ∙ ap (λ (h : TreeContents). without_places h.spare (digits_of steps)) seen
    where
      here : (ks : List TreeContents) (steps : List (ℕ × ℕ)) → 1 ≤ length steps → k ≡ get_or ks (get_or steps 0 (0, 0)).0 k → k'.spare ≡ without_places k.spare (digits_of (later steps))
          → LeadsToLeaf (branch s.entries (forest ks)) (digits_of steps) → branch s'.spare (spares (set ks (get_or steps 0 (0, 0)).0 k')) ≡ without_places (branch s.spare (spares ks)) (digits_of steps)
      here ks [] n e p l = absurd (omega arith)
      here [] (x ∷ steps) n e p l = absurd l
      here (j ∷ ks) (x ∷ steps) n e p l =
          let q : k'.spare ≡ without_places k.spare (digits_of steps) = subst (λ (z : List (ℕ × ℕ)). k'.spare ≡ without_places k.spare (digits_of z)) (later-cons x steps) p in
          ap (branch s'.spare) (spares-used (j ∷ ks) x.0 (digits_of steps) k k' e (child_within (j ∷ ks) x.0 (digits_of steps) l) q)
          ∙ branch-used s'.spare j.spare (spares ks) x.0 (digits_of steps)
          ∙ ap (λ (m : ℕ). inner m (without_places_below (spares (j ∷ ks)) x.0 (digits_of steps))) (one_less s'.spare s.spare used)

-- ---- steps that use no slot
mutual
  pub no_fewer : (t : Tree ℕ) → HasNoFewer t t
  no_fewer (leaf n) = omega arith
  no_fewer (inner n ts) = (omega arith, none_fewer ts)

  pub none_fewer : (ts : Trees ℕ) → HaveNoFewer ts ts
  none_fewer none = tt
  none_fewer (more t ts) = (no_fewer t, none_fewer ts)

pub no_fewer-same : (g h : TreeContents) → h ≡ g → HasNoFewer g.spare h.spare
no_fewer-same g h e = subst (λ (z : TreeContents). HasNoFewer g.spare z.spare) (sym e) (no_fewer g.spare)

none_fewer-set : (ks : List TreeContents) (i : ℕ) (k k' : TreeContents) → k ≡ get_or ks i k → HasNoFewer k.spare k'.spare → HaveNoFewer (spares ks) (spares (set ks i k'))
none_fewer-set [] i k k' e h = tt
none_fewer-set (j ∷ ks) zero k k' e h = (subst (λ (z : TreeContents). HasNoFewer z.spare k'.spare) e h, none_fewer (spares ks))
none_fewer-set (j ∷ ks) (suc i) k k' e h = (no_fewer j.spare, none_fewer-set ks i k k' e h)

no_fewer-branch : (m n : ℕ) (ts us : Trees ℕ) → m ≤ n → HaveNoFewer ts us → HasNoFewer (branch m ts) (branch n us)
no_fewer-branch m n none none l h = l
no_fewer-branch m n none (more u us) l h = absurd h
no_fewer-branch m n (more t ts) none l h = absurd h
no_fewer-branch m n (more t ts) (more u us) l h = (l, h)

module _ (s s' : Contents) (ks : List TreeContents) (g : TreeContents) (seen : grown s ks ≡ g) (more_here : s.spare ≤ s'.spare) where
  -- only the queue has changed
  pub no_fewer_at_node : HasNoFewer g.spare (branch s'.spare (spares ks))
  no_fewer_at_node = subst (λ (h : TreeContents). HasNoFewer h.spare (branch s'.spare (spares ks))) seen (no_fewer-branch s.spare s'.spare (spares ks) (spares ks) more_here (none_fewer (spares ks)))

  -- a child has changed too
  pub no_fewer_below : (i : ℕ) (k k' : TreeContents) → k ≡ get_or ks i k → HasNoFewer k.spare k'.spare → HasNoFewer g.spare (branch s'.spare (spares (set ks i k')))
  no_fewer_below i k k' e h =
      subst (λ (z : TreeContents). HasNoFewer z.spare (branch s'.spare (spares (set ks i k')))) seen
      (no_fewer-branch s.spare s'.spare (spares ks) (spares (set ks i k')) more_here (none_fewer-set ks i k k' e h))
