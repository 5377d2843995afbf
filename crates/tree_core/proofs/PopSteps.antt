-- One step of a pop down a source tree: the child that it visits, and the tree after that child has
-- been popped.
use Rattle.tree_core.proofs.Prelude.{arith, ◌≡◌, ap, ◌∙◌, get_or, length, ◌<◌, subst, ◌≤◌, List, [], refl, ◌∷◌, sym, ℕ, ◌+◌, ◌^◌, set, suc, zero, ◌++◌, Some, append-nil, append_assoc, inl, inr, Contents, IsWellFormed-pop, length-size, taken_names, times-taken, Queue, take_least, Taking, take_from, IsWellFormed, AreWellFormed, NamesChildren, of_first, of_inner, of_later, of_leaf, pop, pop_child, size, times, Tree, Trees, depth, inner, more, nodes, depth_below, none, nodes_below, HasChild, Popping, Way, TreeContents, forest, branch, HasDigits, IsSound, grown, EachBelow, PopsOnto}
use Rattle.std.specs.Prelude.{option_map}
use Rattle.std.proofs.lemmas.Bool.{cases_lt}
use Rattle.tree_defs.proofs.TakeLeast.{take_from-front, take_from-behind}
use Rattle.tree_core.proofs.PushSteps.{EachPushed-set, EachPushed-le, child_pushed}

-- a node contains as many packets as its queue has entries
pub size-length : (q : Queue) (ts : Trees Queue) → IsWellFormed (branch q ts) → size (branch q ts) ≡ length q
size-length q none w = refl
size-length q (more t ts) w = sym (length-size q (more t ts) w)

pub has_below : (ks : List TreeContents) (i : ℕ) → HasChild (forest ks) i → i < length ks
has_below [] i h = absurd h
has_below (k ∷ ks) zero h = omega arith
has_below (k ∷ ks) (suc i) h = omega (arith, has_below ks i h)

-- consequences of the dequeued entry for the node's children
module _ (q : Queue) (e : Taking) (p : take_least q ≡ Some e) where
  pub taken_child : (ts : Trees Queue) → NamesChildren ts q → HasChild ts e.value
  taken_child ts n = named q p n
    where
      named : (q : Queue) → take_least q ≡ Some e → NamesChildren ts q → HasChild ts e.value
      named [] p n = cc
      named (x ∷ q) p n = let m : take_from x.0 x.1 q ≡ e = cc in subst (λ (z : Taking). HasChild ts z.value) m (taken_names ts x.0 x.1 q n.0 n.1)

  pub taken_stands : 0 < times e.value q
  taken_stands = stands q p
    where
      stands : (q : Queue) → take_least q ≡ Some e → 0 < times e.value q
      stands [] p = cc
      stands (x ∷ q) p = let m : take_from x.0 x.1 q ≡ e = cc in subst (λ (z : Taking). 0 < times z.value (x ∷ q)) m (times-taken x.0 x.1 q)

pub EachBelow-taken : (n r v : ℕ) (q : Queue) → v < n → EachBelow n q → ((take_from r v q).value < n) × EachBelow n (take_from r v q).rest
EachBelow-taken n r v [] l h = (l, tt)
EachBelow-taken n r v (e ∷ q) l h =
    let P : Taking → Type 0 = λ t. (t.value < n) × EachBelow n t.rest in
    let ih : ((take_from e.0 e.1 q).value < n) × EachBelow n (take_from e.0 e.1 q).rest = EachBelow-taken n e.0 e.1 q h.0 h.1 in
    elim (cases_lt (take_from e.0 e.1 q).rank r) [
      | inl k ↦ subst P (sym (take_from-behind r v e q k)) (ih.0, (l, ih.1))
      | inr k ↦ subst P (sym (take_from-front r v e q k)) (l, h)
    ]

pub EachBelow-take : (n : ℕ) (q : Queue) (e : Taking) → take_least q ≡ Some e → EachBelow n q → (e.value < n) × EachBelow n e.rest
EachBelow-take n [] e p h = cc
EachBelow-take n (x ∷ q) e p h = let m : take_from x.0 x.1 q ≡ e = cc in subst (λ (z : Taking). (z.value < n) × EachBelow n z.rest) m (EachBelow-taken n x.0 x.1 q h.0 h.1)

pub child_size : (ks : List TreeContents) (i k0 : ℕ) (q : Queue) (k : TreeContents) → k ≡ get_or ks i k → i < length ks → AreWellFormed (forest ks) q k0 → times (i + k0) q ≡ size k.tree
child_size [] i k0 q k e l w = absurd (omega arith)
child_size (j ∷ ks) zero k0 q k e l w =
    let n : 0 + k0 ≡ k0 = omega arith in
    ap (λ (z : ℕ). times z q) n ∙ w.1 ∙ ap (λ (g : TreeContents). size g.tree) (sym e)
child_size (j ∷ ks) (suc i) k0 q k e l w =
    let n : suc i + k0 ≡ i + suc k0 = omega arith in
    ap (λ (z : ℕ). times z q) n ∙ child_size ks i (suc k0) q k e (omega arith) w.2

pub child_depth : (ks : List TreeContents) (i : ℕ) (k : TreeContents) → k ≡ get_or ks i k → i < length ks → depth k.tree + 1 ≤ depth_below (forest ks)
child_depth [] i k e l = absurd (omega arith)
child_depth (j ∷ ks) zero k e l = let d : depth k.tree ≡ depth j.tree = ap (λ (g : TreeContents). depth g.tree) e in omega arith
child_depth (j ∷ ks) (suc i) k e l = omega (arith, child_depth ks i k e (omega arith))

pub child_nodes : (ks : List TreeContents) (i : ℕ) (k : TreeContents) → k ≡ get_or ks i k → i < length ks → nodes k.tree ≤ nodes_below (forest ks)
child_nodes [] i k e l = absurd (omega arith)
child_nodes (j ∷ ks) zero k e l = let d : nodes k.tree ≡ nodes j.tree = ap (λ (g : TreeContents). nodes g.tree) e in omega arith
child_nodes (j ∷ ks) (suc i) k e l = omega (arith, child_nodes ks i k e (omega arith))

pub pop_child-forest : (ks : List TreeContents) (i : ℕ) (k k' : TreeContents) (p : Popping (Tree Queue)) → k ≡ get_or ks i k → i < length ks → pop k.tree ≡ Some p → p.left ≡ k'.tree
    → pop_child (forest ks) i ≡ Some (record { value = p.value; digits = p.digits; ranks = p.ranks; left = forest (set ks i k') })
pop_child-forest [] i k k' p e l m n = absurd (omega arith)
pop_child-forest (j ∷ ks) zero k k' p e l m n =
    let m' : pop j.tree ≡ Some p = ap (λ (g : TreeContents). pop g.tree) (sym e) ∙ m in
    ap (option_map (of_first (forest ks))) m' ∙ ap (λ (t : Tree Queue). Some (record { value = p.value; digits = p.digits; ranks = p.ranks; left = more t (forest ks) })) n
pop_child-forest (j ∷ ks) (suc i) k k' p e l m n = ap (option_map (of_later j.tree)) (pop_child-forest ks i k k' p e (omega arith) m n)

pub branch-set : (q : Queue) (ks : List TreeContents) (i : ℕ) (k : TreeContents) → i < length ks → branch q (forest (set ks i k)) ≡ inner q (forest (set ks i k))
branch-set q [] i k l = absurd (omega arith)
branch-set q (j ∷ ks) zero k l = refl
branch-set q (j ∷ ks) (suc i) k l = refl

pub HasDigits-rest : (ks : List TreeContents) (i : ℕ) (k : TreeContents) (q : Queue) (e : Taking) → take_least q ≡ Some e → HasDigits q ks → HasDigits e.rest (set ks i k)
HasDigits-rest [] i k q e p h = tt
HasDigits-rest (j ∷ ks) zero k q e p h = (EachBelow-take (2 ^ 32) q e p h).1
HasDigits-rest (j ∷ ks) (suc i) k q e p h = (EachBelow-take (2 ^ 32) q e p h).1

-- a node with fields s and ks, seen as g, whose queue dequeued e
module _ (s : Contents) (ks : List TreeContents) (g : TreeContents) (seen : grown s ks ≡ g) (w : IsSound s ks) where
  pub node_size : size g.tree ≡ length s.entries
  node_size = ap (λ (h : TreeContents). size h.tree) (sym seen) ∙ size-length s.entries (forest ks) w.well_formed

  pub node_held : 0 < size g.tree → s.entries ≡ [] → ⊥
  node_held h e = let n : length s.entries ≡ 0 = ap length e in omega (arith, node_size)

  module _ (e : Taking) (p : take_least s.entries ≡ Some e) where
    pub leaf_popped : (before after : Way) → length ks ≡ 0 → after.digits ≡ before.digits → after.ranks ≡ before.ranks ++ e.rank ∷ []
        → PopsOnto g.tree before after e.value (branch e.rest (forest ks))
    leaf_popped before after n d r = popped ks seen n
      where
        popped : (ks : List TreeContents) → grown s ks ≡ g → length ks ≡ 0 → PopsOnto g.tree before after e.value (branch e.rest (forest ks))
        popped (k ∷ ks) seen n = absurd (omega arith)
        popped [] seen n = record {
          result = of_leaf e;
          popped = ap (λ (h : TreeContents). pop h.tree) (sym seen) ∙ ap (option_map of_leaf) p;
          value = refl;
          left = refl;
          digits = d ∙ sym (append-nil before.digits);
          ranks = r;
        }

    pub digit_within : (length ks ≡ 0 → ⊥) → (e.value < length ks) × (e.value < 2 ^ 32)
    digit_within n = within ks w n
      where
        within : (ks : List TreeContents) → IsSound s ks → (length ks ≡ 0 → ⊥) → (e.value < length ks) × (e.value < 2 ^ 32)
        within [] w n = absurd (n refl)
        within (k ∷ ks) w n = (has_below (k ∷ ks) e.value (taken_child s.entries e p (forest (k ∷ ks)) w.well_formed.0), (EachBelow-take (2 ^ 32) s.entries e p w.digits).0)

    module _ (k : TreeContents) (at : k ≡ get_or ks e.value k) (l : e.value < length ks) where
      pub child_held : 0 < size k.tree
      child_held = held ks w at l
        where
          held : (ks : List TreeContents) → IsSound s ks → k ≡ get_or ks e.value k → e.value < length ks → 0 < size k.tree
          held [] w at l = absurd (omega arith)
          held (j ∷ ks) w at l =
              let n : e.value + 0 ≡ e.value = omega arith in
              let m : times e.value s.entries ≡ size k.tree = ap (λ (z : ℕ). times z s.entries) (sym n) ∙ child_size (j ∷ ks) e.value 0 s.entries k at l w.well_formed.1 in
              omega (arith, taken_stands s.entries e p, m)

      pub child_shallower : depth k.tree + 1 ≤ depth g.tree
      child_shallower = subst (λ (h : TreeContents). depth k.tree + 1 ≤ depth h.tree) seen (shallower ks at l)
        where
          shallower : (ks : List TreeContents) → k ≡ get_or ks e.value k → e.value < length ks → depth k.tree + 1 ≤ depth (branch s.entries (forest ks))
          shallower [] at l = absurd (omega arith)
          shallower (j ∷ ks) at l = child_depth (j ∷ ks) e.value k at l

      pub child_smaller : nodes k.tree < nodes g.tree
      child_smaller = subst (λ (h : TreeContents). nodes k.tree < nodes h.tree) seen (smaller ks at l)
        where
          smaller : (ks : List TreeContents) → k ≡ get_or ks e.value k → e.value < length ks → nodes k.tree < nodes (branch s.entries (forest ks))
          smaller [] at l = absurd (omega arith)
          smaller (j ∷ ks) at l = omega (arith, child_nodes (j ∷ ks) e.value k at l)

      pub popped_here : (k' : TreeContents) (r : Popping (Tree Queue)) → pop k.tree ≡ Some r → r.left ≡ k'.tree
          → pop (branch s.entries (forest ks)) ≡ Some (of_inner e (record { value = r.value; digits = r.digits; ranks = r.ranks; left = forest (set ks e.value k') }))
      popped_here k' r m n = here ks at l
        where
          here : (ks : List TreeContents) → k ≡ get_or ks e.value k → e.value < length ks
              → pop (branch s.entries (forest ks)) ≡ Some (of_inner e (record { value = r.value; digits = r.digits; ranks = r.ranks; left = forest (set ks e.value k') }))
          here [] at l = absurd (omega arith)
          here (j ∷ ks) at l = rw p (ap (option_map (of_inner e)) (pop_child-forest (j ∷ ks) e.value k k' r at l m n))

      pub node_popped : (k' : TreeContents) (before step after : Way) (v : ℕ) → PopsOnto k.tree step after v k'.tree → step.digits ≡ before.digits ++ e.value ∷ [] → step.ranks ≡ before.ranks ++ e.rank ∷ []
          → PopsOnto g.tree before after v (branch e.rest (forest (set ks e.value k')))
      node_popped k' before step after v h d r = record {
        result = of_inner e (record { value = h.result.value; digits = h.result.digits; ranks = h.result.ranks; left = forest (set ks e.value k') });
        popped = ap (λ (z : TreeContents). pop z.tree) (sym seen) ∙ popped_here k' h.result h.popped h.left;
        value = h.value;
        left = sym (branch-set e.rest ks e.value k' l);
        digits = h.digits ∙ ap (λ (z : List ℕ). z ++ h.result.digits) d ∙ append_assoc before.digits (e.value ∷ []) h.result.digits;
        ranks = h.ranks ∙ ap (λ (z : List ℕ). z ++ h.result.ranks) r ∙ append_assoc before.ranks (e.rank ∷ []) h.result.ranks;
      }

      pub node_sound : (s' : Contents) (k' : TreeContents) (step after : Way) (v : ℕ) → PopsOnto k.tree step after v k'.tree → s'.entries ≡ e.rest → s'.pushes ≡ s.pushes → k'.pushes ≡ k.pushes
          → IsSound s' (set ks e.value k')
      node_sound s' k' step after v h q c d =
          let r : Popping (Tree Queue) = of_inner e (record { value = h.result.value; digits = h.result.digits; ranks = h.result.ranks; left = forest (set ks e.value k') }) in
          let f : IsWellFormed (inner e.rest (forest (set ks e.value k'))) = IsWellFormed-pop (branch s.entries (forest ks)) _ (popped_here k' h.result h.popped h.left) w.well_formed in
          record {
            well_formed = subst (λ (z : Queue). IsWellFormed (branch z (forest (set ks e.value k')))) (sym q) (subst IsWellFormed (sym (branch-set e.rest ks e.value k' l)) f);
            pushed_below = EachPushed-set ks e.value s'.pushes k' (omega (arith, child_pushed ks e.value s.pushes k at l w.pushed_below)) (EachPushed-le ks s.pushes s'.pushes (omega arith) w.pushed_below);
            digits = subst (λ (z : Queue). HasDigits z (set ks e.value k')) (sym q) (HasDigits-rest ks e.value k' s.entries e p w.digits);
          }
