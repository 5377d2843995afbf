-- One step of a push down a source tree along an address, with the ranks.
use Rattle.tree_core.proofs.Prelude.{arith, ◌≡◌, ap, ◌∙◌, get_or, length, ◌<◌, subst, ◌≤◌, List, [], refl, ◌∷◌, sym, take, ℕ, ◌+◌, ◌^◌, set, drop, ◌-◌, take_all, Contents, IsWellFormed-push, Queue, put, IsWellFormed, push, push_child, Trees, inner, LeadsToLeaf, HasRoom, without_places, without_places_below, TreeContents, forest, branch, HasDigits, IsSound, grown, spares}
use Rattle.tree_core.proofs.PushSteps.{child_within, child_leads, child_room, child_pushed, EachPushed-le, EachPushed-set, forest-set, branch-push_child, HasDigits-put, leads_here}
use Rattle.tree_core.proofs.PlaceLaws.{one_less, spares-used, branch-used}

-- the list after its first element, as a slice pattern extracts it
abbrev pub rest : List ℕ → List ℕ
rest xs = take (length xs - 1) (drop 1 xs)

pub rest-is : (xs : List ℕ) → rest xs ≡ drop 1 xs
rest-is [] = refl
rest-is (x ∷ xs) = take_all (length (x ∷ xs) - 1) xs (omega arith)

-- the first digit leads to child k, which becomes k'
pub record NextStep (s s' : Contents) (ks : List TreeContents) (k k' : TreeContents) (address ranks : List ℕ) (item : ℕ) : Type 0 where
  pub nonempty : 1 ≤ length address
  pub child : k ≡ get_or ks (get_or address 0 0) k
  pub entries : s'.entries ≡ put s.entries (get_or ranks 0 0) (get_or address 0 0)
  pub tree : k'.tree ≡ push k.tree (rest address) (rest ranks) item

pub pushed_next : (s s' : Contents) (ks : List TreeContents) (k k' : TreeContents) (address ranks : List ℕ) (item : ℕ) → LeadsToLeaf (branch s.entries (forest ks)) address
    → NextStep s s' ks k k' address ranks item → branch s'.entries (forest (set ks (get_or address 0 0) k')) ≡ push (branch s.entries (forest ks)) address ranks item
pushed_next s s' ks k k' [] ranks item l h = absurd (omega (arith, h.nonempty))
pushed_next s s' [] k k' (i ∷ address) ranks item l h = absurd l
pushed_next s s' (j ∷ ks) k k' (i ∷ address) ranks item l h =
    let tree : k'.tree ≡ push k.tree address (drop 1 ranks) item
    = h.tree ∙ ap (λ (z : List ℕ). push k.tree z (rest ranks) item) (rest-is (i ∷ address)) ∙ ap (λ (z : List ℕ). push k.tree address z item) (rest-is ranks) in
    ap (λ (z : Trees Queue). branch s'.entries z) (forest-set (j ∷ ks) i address (drop 1 ranks) item k k' h.child (child_within (j ∷ ks) i address l) tree)
    ∙ branch-push_child s'.entries j.tree (forest ks) i address (drop 1 ranks) item
    ∙ ap (λ (z : Queue). inner z (push_child (forest (j ∷ ks)) i address (drop 1 ranks) item)) h.entries

-- the node remains sound
pub sound_next : (s s' : Contents) (ks : List TreeContents) (k k' : TreeContents) (address ranks : List ℕ) (item : ℕ) → LeadsToLeaf (branch s.entries (forest ks)) address
    → NextStep s s' ks k k' address ranks item → s'.pushes ≡ s.pushes + 1 → k'.pushes ≡ k.pushes + 1 → get_or address 0 0 < length ks → get_or address 0 0 < 2 ^ 32 → IsSound s ks
    → IsSound s' (set ks (get_or address 0 0) k')
sound_next s s' ks k k' address ranks item l h p p' n narrow w = record {
  well_formed = subst IsWellFormed (sym (pushed_next s s' ks k k' address ranks item l h)) (IsWellFormed-push (branch s.entries (forest ks)) address ranks item l w.well_formed);
  pushed_below = EachPushed-set ks (get_or address 0 0) s'.pushes k' (omega (arith, child_pushed ks (get_or address 0 0) s.pushes k h.child n w.pushed_below)) (EachPushed-le ks s.pushes s'.pushes (omega arith) w.pushed_below);
  digits = subst (λ (z : Queue). HasDigits z (set ks (get_or address 0 0) k')) (sym h.entries) (HasDigits-put ks s.entries (get_or address 0 0) k' (get_or ranks 0 0) narrow w.digits);
}

-- the preconditions for the child
abbrev pub Needs : TreeContents → List ℕ → List ℕ → Type 0
Needs k address ranks = LeadsToLeaf k.tree address × ((length ranks ≡ length address + 1) × (HasRoom k.spare address × (k.pushes < 2 ^ 62)))

-- facts about the tree as the contract sees it
module _ (s : Contents) (ks : List TreeContents) (g : TreeContents) (e : grown s ks ≡ g) where
  pub digit_within : (address : List ℕ) → 1 ≤ length address → LeadsToLeaf g.tree address → get_or address 0 0 < length ks
  digit_within address n l = within ks address n (leads_here s ks g e address l)
    where
      within : (ks : List TreeContents) (address : List ℕ) → 1 ≤ length address → LeadsToLeaf (branch s.entries (forest ks)) address → get_or address 0 0 < length ks
      within ks [] n l = absurd (omega arith)
      within [] (i ∷ address) n l = absurd l
      within (k ∷ ks) (i ∷ address) n l = child_within (k ∷ ks) i address l

  pub needed_next : (k : TreeContents) (address ranks : List ℕ) → 1 ≤ length address → length ranks ≡ length address + 1 → k ≡ get_or ks (get_or address 0 0) k
      → LeadsToLeaf g.tree address → HasRoom g.spare address → g.pushes < 2 ^ 62 → IsSound s ks → Needs k (rest address) (rest ranks)
  needed_next k address ranks n m at l r p w =
      ready ks address ranks n m at (leads_here s ks g e address l) (subst (λ (h : TreeContents). HasRoom h.spare address) (sym e) r) w (subst (λ (h : TreeContents). h.pushes < 2 ^ 62) (sym e) p)
    where
      ready : (ks : List TreeContents) (address ranks : List ℕ) → 1 ≤ length address → length ranks ≡ length address + 1 → k ≡ get_or ks (get_or address 0 0) k
          → LeadsToLeaf (branch s.entries (forest ks)) address → HasRoom (branch s.spare (spares ks)) address → IsSound s ks → s.pushes < 2 ^ 62 → Needs k (rest address) (rest ranks)
      ready ks [] ranks n m at l r w p = absurd (omega arith)
      ready ks (i ∷ address) [] n m at l r w p = absurd (omega arith)
      ready [] (i ∷ address) (x ∷ ranks) n m at l r w p = absurd l
      ready (j ∷ ks) (i ∷ address) (x ∷ ranks) n m at l r w p =
          subst (λ (z : List ℕ). Needs k z (rest (x ∷ ranks))) (sym (rest-is (i ∷ address))) (subst (λ (z : List ℕ). Needs k address z) (sym (rest-is (x ∷ ranks)))
          (child_leads (j ∷ ks) i address k at l, (omega arith, (child_room (j ∷ ks) i address k at r.1, omega (arith, child_pushed (j ∷ ks) i s.pushes k at (child_within (j ∷ ks) i address l) w.pushed_below)))))

  pub used_next : (s' : Contents) (k k' : TreeContents) (address : List ℕ) → LeadsToLeaf g.tree address → s'.spare + 1 ≡ s.spare → 1 ≤ length address → k ≡ get_or ks (get_or address 0 0) k → k'.spare ≡ without_places k.spare (rest address)
      → branch s'.spare (spares (set ks (get_or address 0 0) k')) ≡ without_places g.spare address
  used_next s' k k' address l used n at p = here ks address n at p (leads_here s ks g e address l) ∙ ap (λ (h : TreeContents). without_places h.spare address) e
    where
      here : (ks : List TreeContents) (address : List ℕ) → 1 ≤ length address → k ≡ get_or ks (get_or address 0 0) k → k'.spare ≡ without_places k.spare (rest address)
          → LeadsToLeaf (branch s.entries (forest ks)) address → branch s'.spare (spares (set ks (get_or address 0 0) k')) ≡ without_places (branch s.spare (spares ks)) address
      here ks [] n at p l = absurd (omega arith)
      here [] (i ∷ address) n at p l = absurd l
      here (j ∷ ks) (i ∷ address) n at p l =
          let q : k'.spare ≡ without_places k.spare address = p ∙ ap (without_places k.spare) (rest-is (i ∷ address)) in
          ap (branch s'.spare) (spares-used (j ∷ ks) i address k k' at (child_within (j ∷ ks) i address l) q)
          ∙ branch-used s'.spare j.spare (spares ks) i address
          ∙ ap (λ (m : ℕ). inner m (without_places_below (spares (j ∷ ks)) i address)) (one_less s'.spare s.spare used)
