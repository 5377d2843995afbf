-- A reserve leaves the tree unchanged, and makes room on the path.
use Rattle.tree_core.proofs.Prelude.{arith, ◌≡◌, ap, ◌∙◌, get_or, length, ◌<◌, subst, ◌≤◌, List, [], refl, ◌∷◌, sym, take, ℕ, set, suc, zero, drop, ◌-◌, Err, Ok, OnOk, Result, take_all, Contents, Queue, IsWellFormed, Tree, more, LeadsToLeaf, HasRoom, HasRoomBelow, TreeContents, forest, branch, HasDigits, IsSound, grown, EachPushed, spares}
use Rattle.tree_core.proofs.PushSteps.{child_within, child_leads, child_pushed, EachPushed-set}

abbrev pub behind : List ℕ → List ℕ
behind digits = take (length digits - 1) (drop 1 digits)

pub behind-cons : (i : ℕ) (digits : List ℕ) → behind (i ∷ digits) ≡ digits
behind-cons i digits = take_all (length (i ∷ digits) - 1) digits (omega arith)

pub forest-set_same : (ks : List TreeContents) (i : ℕ) (k k' : TreeContents) → k ≡ get_or ks i k → k'.tree ≡ k.tree → forest (set ks i k') ≡ forest ks
forest-set_same [] i k k' e p = refl
forest-set_same (j ∷ ks) zero k k' e p = ap (λ (t : Tree Queue). more t (forest ks)) (p ∙ ap (λ (g : TreeContents). g.tree) e)
forest-set_same (j ∷ ks) (suc i) k k' e p = ap (more j.tree) (forest-set_same ks i k k' e p)

pub spares-set : (ks : List TreeContents) (i : ℕ) (k' : TreeContents) (digits : List ℕ) → i < length ks → HasRoom k'.spare digits → HasRoomBelow (spares (set ks i k')) i digits
spares-set [] i k' digits l h = absurd (omega arith)
spares-set (j ∷ ks) zero k' digits l h = h
spares-set (j ∷ ks) (suc i) k' digits l h = spares-set ks i k' digits (omega arith) h

pub HasDigits-set : (ks : List TreeContents) (i : ℕ) (k : TreeContents) (q : Queue) → HasDigits q ks → HasDigits q (set ks i k)
HasDigits-set [] i k q h = tt
HasDigits-set (j ∷ ks) zero k q h = h
HasDigits-set (j ∷ ks) (suc i) k q h = h

module _ (s : Contents) (ks : List TreeContents) (g : TreeContents) (seen : grown s ks ≡ g) (digits : List ℕ) (n : 1 ≤ length digits) (l : LeadsToLeaf g.tree digits) where
  pub goes_within : get_or digits 0 0 < length ks
  goes_within = within ks digits n (subst (λ (h : TreeContents). LeadsToLeaf h.tree digits) (sym seen) l)
    where
      within : (ks : List TreeContents) (digits : List ℕ) → 1 ≤ length digits → LeadsToLeaf (branch s.entries (forest ks)) digits → get_or digits 0 0 < length ks
      within ks [] n l = absurd (omega arith)
      within [] (x ∷ steps) n l = absurd l
      within (k ∷ ks) (x ∷ steps) n l = child_within (k ∷ ks) x steps l

  pub goes_on : (k : TreeContents) → k ≡ get_or ks (get_or digits 0 0) k → LeadsToLeaf k.tree (behind digits)
  goes_on k e = on ks digits n (subst (λ (h : TreeContents). LeadsToLeaf h.tree digits) (sym seen) l) e
    where
      on : (ks : List TreeContents) (digits : List ℕ) → 1 ≤ length digits → LeadsToLeaf (branch s.entries (forest ks)) digits → k ≡ get_or ks (get_or digits 0 0) k → LeadsToLeaf k.tree (behind digits)
      on ks [] n l e = absurd (omega arith)
      on [] (x ∷ steps) n l e = absurd l
      on (j ∷ ks) (x ∷ steps) n l e = subst (LeadsToLeaf k.tree) (sym (behind-cons x steps)) (child_leads (j ∷ ks) x steps k e l)

  module _ (s' : Contents) (k k' : TreeContents) (at : k ≡ get_or ks (get_or digits 0 0) k) (q : s'.entries ≡ s.entries) (t : k'.tree ≡ k.tree) where
    pub same_tree : branch s'.entries (forest (set ks (get_or digits 0 0) k')) ≡ branch s.entries (forest ks)
    same_tree = ap (λ (z : Queue). branch z (forest (set ks (get_or digits 0 0) k'))) q ∙ ap (branch s.entries) (forest-set_same ks (get_or digits 0 0) k k' at t)

    pub still_sound : s'.pushes ≡ s.pushes → k'.pushes ≡ k.pushes → IsSound s ks → IsSound s' (set ks (get_or digits 0 0) k')
    still_sound p c w = record {
      well_formed = subst IsWellFormed (sym same_tree) w.well_formed;
      pushed_below = subst (λ (z : ℕ). EachPushed z (set ks (get_or digits 0 0) k')) (sym p)
          (EachPushed-set ks (get_or digits 0 0) s.pushes k' (omega (arith, child_pushed ks (get_or digits 0 0) s.pushes k at goes_within w.pushed_below)) w.pushed_below);
      digits = subst (λ (z : Queue). HasDigits z (set ks (get_or digits 0 0) k')) (sym q) (HasDigits-set ks (get_or digits 0 0) k' s.entries w.digits);
    }

    pub has_room : 0 < s'.spare → HasRoom k'.spare (behind digits) → HasRoom (branch s'.spare (spares (set ks (get_or digits 0 0) k'))) digits
    has_room f h = roomy ks digits n goes_within h
      where
        roomy : (ks : List TreeContents) (digits : List ℕ) → 1 ≤ length digits → get_or digits 0 0 < length ks → HasRoom k'.spare (behind digits) → HasRoom (branch s'.spare (spares (set ks (get_or digits 0 0) k'))) digits
        roomy ks [] n l h = absurd (omega arith)
        roomy [] (x ∷ steps) n l h = absurd (omega arith)
        roomy (j ∷ ks) (zero ∷ steps) n l h = (f, spares-set (j ∷ ks) zero k' steps l (subst (HasRoom k'.spare) (behind-cons zero steps) h))
        roomy (j ∷ ks) ((suc i) ∷ steps) n l h = (f, spares-set (j ∷ ks) (suc i) k' steps l (subst (HasRoom k'.spare) (behind-cons (suc i) steps) h))

-- only the room of the queue has changed
pub same_sound : (s s' : Contents) (ks : List TreeContents) → s'.entries ≡ s.entries → s'.pushes ≡ s.pushes → IsSound s ks → IsSound s' ks
same_sound s s' ks q p w = record {
  well_formed = subst (λ (z : Queue). IsWellFormed (branch z (forest ks))) (sym q) w.well_formed;
  pushed_below = subst (λ (z : ℕ). EachPushed z ks) (sym p) w.pushed_below;
  digits = subst (λ (z : Queue). HasDigits z ks) (sym q) w.digits;
}

pub OnOk-then : {T E : Type 0} (r : Result T E) (P Q : Type 0) → (P → Q) → OnOk r P → OnOk r Q
OnOk-then (Ok x) P Q f h = f h
OnOk-then (Err e) P Q f h = h
