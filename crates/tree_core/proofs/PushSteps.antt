-- One step of a push down a source tree: the child that it visits, and the tree after the push to
-- that child.
use Rattle.tree_core.proofs.Prelude.{arith, ◌≡◌, ap, ◌∙◌, get_or, length, ◌<◌, subst, ◌≤◌, List, [], refl, ◌∷◌, sym, take, ℕ, ◌+◌, ◌^◌, set, suc, zero, drop, ◌-◌, take_all, Contents, IsWellFormed-push, Queue, put, IsWellFormed, push, push_child, Tree, Trees, inner, more, LeadsToLeaf, LeadsBelow, digits_of, ranks_of, HasRoom, HasRoomBelow, TreeContents, forest, branch, HasDigits, IsSound, grown, EachPushed, spares, EachBelow}

-- the steps after the first, as a slice pattern extracts them
abbrev pub later : List (ℕ × ℕ) → List (ℕ × ℕ)
later steps = take (length steps - 1) (drop 1 steps)

pub later-cons : (s : ℕ × ℕ) (steps : List (ℕ × ℕ)) → later (s ∷ steps) ≡ steps
later-cons s steps = take_all (length (s ∷ steps) - 1) steps (omega arith)

pub child_within : (ks : List TreeContents) (i : ℕ) (digits : List ℕ) → LeadsBelow (forest ks) i digits → i < length ks
child_within [] i digits l = absurd l
child_within (k ∷ ks) zero digits l = omega arith
child_within (k ∷ ks) (suc i) digits l = omega (arith, child_within ks i digits l)

pub child_leads : (ks : List TreeContents) (i : ℕ) (digits : List ℕ) (k : TreeContents) → k ≡ get_or ks i k → LeadsBelow (forest ks) i digits → LeadsToLeaf k.tree digits
child_leads [] i digits k e l = absurd l
child_leads (j ∷ ks) zero digits k e l = subst (λ (g : TreeContents). LeadsToLeaf g.tree digits) (sym e) l
child_leads (j ∷ ks) (suc i) digits k e l = child_leads ks i digits k e l

pub child_room : (ks : List TreeContents) (i : ℕ) (digits : List ℕ) (k : TreeContents) → k ≡ get_or ks i k → HasRoomBelow (spares ks) i digits → HasRoom k.spare digits
child_room [] i digits k e l = absurd l
child_room (j ∷ ks) zero digits k e l = subst (λ (g : TreeContents). HasRoom g.spare digits) (sym e) l
child_room (j ∷ ks) (suc i) digits k e l = child_room ks i digits k e l

pub child_pushed : (ks : List TreeContents) (i n : ℕ) (k : TreeContents) → k ≡ get_or ks i k → i < length ks → EachPushed n ks → k.pushes ≤ n
child_pushed [] i n k e l h = absurd (omega arith)
child_pushed (j ∷ ks) zero n k e l h = subst (λ (g : TreeContents). g.pushes ≤ n) (sym e) h.0
child_pushed (j ∷ ks) (suc i) n k e l h = child_pushed ks i n k e (omega arith) h.1

pub EachPushed-le : (ks : List TreeContents) (m n : ℕ) → m ≤ n → EachPushed m ks → EachPushed n ks
EachPushed-le [] m n l h = tt
EachPushed-le (k ∷ ks) m n l h = (omega (arith, h.0), EachPushed-le ks m n l h.1)

pub EachPushed-set : (ks : List TreeContents) (i n : ℕ) (k : TreeContents) → k.pushes ≤ n → EachPushed n ks → EachPushed n (set ks i k)
EachPushed-set [] i n k l h = tt
EachPushed-set (j ∷ ks) zero n k l h = (l, h.1)
EachPushed-set (j ∷ ks) (suc i) n k l h = (h.0, EachPushed-set ks i n k l h.1)

pub forest-set : (ks : List TreeContents) (i : ℕ) (digits ranks : List ℕ) (item : ℕ) (k k' : TreeContents) → k ≡ get_or ks i k → i < length ks → k'.tree ≡ push k.tree digits ranks item
    → forest (set ks i k') ≡ push_child (forest ks) i digits ranks item
forest-set [] i digits ranks item k k' e l p = absurd (omega arith)
forest-set (j ∷ ks) zero digits ranks item k k' e l p =
    let q : k'.tree ≡ push j.tree digits ranks item = p ∙ ap (λ (g : TreeContents). push g.tree digits ranks item) e in
    ap (λ (t : Tree Queue). more t (forest ks)) q
forest-set (j ∷ ks) (suc i) digits ranks item k k' e l p = ap (more j.tree) (forest-set ks i digits ranks item k k' e (omega arith) p)

-- facts about an inner node on the path
module _ (s : Contents) (ks : List TreeContents) (g : TreeContents) (e : grown s ks ≡ g) where
  abbrev pub first_digit : List (ℕ × ℕ) → ℕ
  first_digit steps = (get_or steps 0 (0, 0)).0

  pub leads_here : (digits : List ℕ) → LeadsToLeaf g.tree digits → LeadsToLeaf (branch s.entries (forest ks)) digits
  leads_here digits l = subst (λ (h : TreeContents). LeadsToLeaf h.tree digits) (sym e) l

  pub index_within : (steps : List (ℕ × ℕ)) → 1 ≤ length steps → LeadsToLeaf g.tree (digits_of steps) → first_digit steps < length ks
  index_within steps n l = within ks steps n (leads_here (digits_of steps) l)
    where
      within : (ks : List TreeContents) (steps : List (ℕ × ℕ)) → 1 ≤ length steps → LeadsToLeaf (branch s.entries (forest ks)) (digits_of steps) → first_digit steps < length ks
      within ks [] n l = absurd (omega arith)
      within [] (x ∷ steps) n l = absurd l
      within (k ∷ ks) (x ∷ steps) n l = child_within (k ∷ ks) x.0 (digits_of steps) l

pub branch-push_child : (q : Queue) (t : Tree Queue) (ts : Trees Queue) (i : ℕ) (digits ranks : List ℕ) (item : ℕ)
    → branch q (push_child (more t ts) i digits ranks item) ≡ inner q (push_child (more t ts) i digits ranks item)
branch-push_child q t ts zero digits ranks item = refl
branch-push_child q t ts (suc i) digits ranks item = refl

-- the first step goes to child k, which becomes k'
pub record FirstStep (s s' : Contents) (ks : List TreeContents) (k k' : TreeContents) (steps : List (ℕ × ℕ)) (last item : ℕ) : Type 0 where
  pub nonempty : 1 ≤ length steps
  pub child : k ≡ get_or ks (get_or steps 0 (0, 0)).0 k
  pub entries : s'.entries ≡ put s.entries (get_or steps 0 (0, 0)).1 (get_or steps 0 (0, 0)).0
  pub tree : k'.tree ≡ push k.tree (digits_of (later steps)) (ranks_of (later steps) last) item

pub pushed_here : (s s' : Contents) (ks : List TreeContents) (k k' : TreeContents) (steps : List (ℕ × ℕ)) (last item : ℕ) → LeadsToLeaf (branch s.entries (forest ks)) (digits_of steps)
    → FirstStep s s' ks k k' steps last item
    → branch s'.entries (forest (set ks (get_or steps 0 (0, 0)).0 k')) ≡ push (branch s.entries (forest ks)) (digits_of steps) (ranks_of steps last) item
pushed_here s s' ks k k' [] last item l h = absurd (omega (arith, h.nonempty))
pushed_here s s' [] k k' (x ∷ steps) last item l h = absurd l
pushed_here s s' (j ∷ ks) k k' (x ∷ steps) last item l h =
    let tree : k'.tree ≡ push k.tree (digits_of steps) (ranks_of steps last) item
    = subst (λ (z : List (ℕ × ℕ)). k'.tree ≡ push k.tree (digits_of z) (ranks_of z last) item) (later-cons x steps) h.tree in
    ap (λ (z : Trees Queue). branch s'.entries z) (forest-set (j ∷ ks) x.0 (digits_of steps) (ranks_of steps last) item k k' h.child (child_within (j ∷ ks) x.0 (digits_of steps) l) tree)
    ∙ branch-push_child s'.entries j.tree (forest ks) x.0 (digits_of steps) (ranks_of steps last) item
    ∙ ap (λ (z : Queue). inner z (push_child (forest (j ∷ ks)) x.0 (digits_of steps) (ranks_of steps last) item)) h.entries

pub EachBelow-put : (n : ℕ) (q : Queue) (r v : ℕ) → v < n → EachBelow n q → EachBelow n (put q r v)
EachBelow-put n [] r v l h = (l, tt)
EachBelow-put n (e ∷ q) r v l h = (h.0, EachBelow-put n q r v l h.1)

pub HasDigits-put : (ks : List TreeContents) (q : Queue) (i : ℕ) (k : TreeContents) (r : ℕ) → i < 2 ^ 32 → HasDigits q ks → HasDigits (put q r i) (set ks i k)
HasDigits-put [] q i k r l h = tt
HasDigits-put (j ∷ ks) q zero k r l h = EachBelow-put (2 ^ 32) q r zero l h
HasDigits-put (j ∷ ks) q (suc i) k r l h = EachBelow-put (2 ^ 32) q r (suc i) l h

-- the node remains sound
pub sound_here : (s s' : Contents) (ks : List TreeContents) (k k' : TreeContents) (steps : List (ℕ × ℕ)) (last item : ℕ) → LeadsToLeaf (branch s.entries (forest ks)) (digits_of steps)
    → FirstStep s s' ks k k' steps last item → s'.pushes ≡ s.pushes + 1 → k'.pushes ≡ k.pushes + 1 → (get_or steps 0 (0, 0)).0 < length ks → (get_or steps 0 (0, 0)).0 < 2 ^ 32 → IsSound s ks
    → IsSound s' (set ks (get_or steps 0 (0, 0)).0 k')
sound_here s s' ks k k' steps last item l h p p' n narrow w = record {
  well_formed = subst IsWellFormed (sym (pushed_here s s' ks k k' steps last item l h)) (IsWellFormed-push (branch s.entries (forest ks)) (digits_of steps) (ranks_of steps last) item l w.well_formed);
  pushed_below = EachPushed-set ks (get_or steps 0 (0, 0)).0 s'.pushes k' (omega (arith, child_pushed ks (get_or steps 0 (0, 0)).0 s.pushes k h.child n w.pushed_below)) (EachPushed-le ks s.pushes s'.pushes (omega arith) w.pushed_below);
  digits = subst (λ (z : Queue). HasDigits z (set ks (get_or steps 0 (0, 0)).0 k')) (sym h.entries) (HasDigits-put ks s.entries (get_or steps 0 (0, 0)).0 k' (get_or steps 0 (0, 0)).1 narrow w.digits);
}

-- at a leaf only the queue changes
pub sound_leaf : (s s' : Contents) (ks : List TreeContents) (steps : List (ℕ × ℕ)) → length steps < 1 → LeadsToLeaf (branch s.entries (forest ks)) (digits_of steps) → IsSound s' ks
sound_leaf s s' ks (x ∷ steps) n l = absurd (omega arith)
sound_leaf s s' [] [] n l = record { well_formed = tt; pushed_below = tt; digits = tt }
sound_leaf s s' (k ∷ ks) [] n l = absurd l

-- the preconditions for the child
pub child_ready : (s : Contents) (ks : List TreeContents) (k : TreeContents) (steps : List (ℕ × ℕ)) → 1 ≤ length steps → k ≡ get_or ks (get_or steps 0 (0, 0)).0 k
    → LeadsToLeaf (branch s.entries (forest ks)) (digits_of steps) → HasRoom (branch s.spare (spares ks)) (digits_of steps) → IsSound s ks → s.pushes < 2 ^ 62
    → LeadsToLeaf k.tree (digits_of (later steps)) × (HasRoom k.spare (digits_of (later steps)) × (k.pushes < 2 ^ 62))
child_ready s ks k [] n e l r w p = absurd (omega arith)
child_ready s [] k (x ∷ steps) n e l r w p = absurd l
child_ready s (j ∷ ks) k (x ∷ steps) n e l r w p =
    let at : x.0 < length (j ∷ ks) = child_within (j ∷ ks) x.0 (digits_of steps) l in
    subst (λ (z : List (ℕ × ℕ)). LeadsToLeaf k.tree (digits_of z) × (HasRoom k.spare (digits_of z) × (k.pushes < 2 ^ 62))) (sym (later-cons x steps))
    (child_leads (j ∷ ks) x.0 (digits_of steps) k e l, (child_room (j ∷ ks) x.0 (digits_of steps) k e r.1, omega (arith, child_pushed (j ∷ ks) x.0 s.pushes k e at w.pushed_below)))

-- the same, for the tree as the contract sees it
pub child_needs : (s : Contents) (ks : List TreeContents) (g : TreeContents) → grown s ks ≡ g → (k : TreeContents) (steps : List (ℕ × ℕ)) → 1 ≤ length steps → k ≡ get_or ks (get_or steps 0 (0, 0)).0 k
    → LeadsToLeaf g.tree (digits_of steps) → HasRoom g.spare (digits_of steps) → g.pushes < 2 ^ 62 → IsSound s ks
    → LeadsToLeaf k.tree (digits_of (later steps)) × (HasRoom k.spare (digits_of (later steps)) × (k.pushes < 2 ^ 62))
child_needs s ks g e k steps n at l r p w =
    child_ready s ks k steps n at (leads_here s ks g e (digits_of steps) l) (subst (λ (h : TreeContents). HasRoom h.spare (digits_of steps)) (sym e) r) w (subst (λ (h : TreeContents). h.pushes < 2 ^ 62) (sym e) p)
