-- A pop of the lift of a tree is the lifted pop of the tree.
use Rattle.embed_defs.proofs.Prelude.{[], ℕ, ◌≡◌, refl, ◌∷◌, ap, ◌∙◌, arith, suc, sym, length, ◌≤◌, Some, zero, ◌++◌, ◌+◌, ◌-◌, None, subst, inl, inr, ◌≢◌, Option, eqb, eq-eqb, replicate, true, zero-add, cases_Bool, eqb-true, option_map, unwrap_or, fun_ext, same_shapes, topologies_of-pop, topologies_of-same, after-append, Queue, Taking, take_from, take_least, pop, AreInRange, IsInRange, of_first, of_inner, of_later, of_leaf, pop_child, after, inner, leaf, more, none, Tree, Trees, root_of, SameShape, SameShapes, HasChild, Popping, Family, below, pop_along, popped_digit, popped_last, with_branch, with_root, digit_beyond, lift, lift_below, digit_at, lift_child, passing, placed_ranks_below, first_of_two, lifted, lifted_child, Placement, IsPlaced, Placements, ArePlaced, part, digits_below}
use Rattle.tree_defs.specs.Tree.{Address}
use Rattle.tree_defs.proofs.Options.{option_map-some}
use Rattle.tree_defs.proofs.WellFormedLaws.{taken_names, pop_child-has_child}
use Rattle.embed_defs.proofs.Addresses.{some_of_cond}
use Rattle.embed_defs.proofs.LeafHeights.{IsOfHeight, AreOfHeight}
use Rattle.embed_defs.proofs.LiftPush.{lift_at_child, transit_below}
use Rattle.embed_defs.proofs.PassedEntries.{passing_by-rest, take_least-passing}

pub option_map-map : {A B C : Type 0} (f : B → C) (g : A → B) (o : Option A) → option_map f (option_map g o) ≡ option_map (λ x. f (g x)) o
option_map-map f g None = refl
option_map-map f g (Some x) = refl

-- the family after a pop along e: R on the path, G at and below e, F elsewhere
abbrev pub walked_left : Address → Family → Family → Family → Family
walked_left [] F R G = G
walked_left (x ∷ e) F R G = with_branch F (R []) x (walked_left e (below F x) (below R x) G)

abbrev pub walked : Address → ℕ → Family → Family → Popping Family → Popping Family
walked e rank F R p = record { value = p.value; digits = e ++ p.digits; ranks = replicate (length e) rank ++ p.ranks; left = walked_left e F R p.left }

-- a pop goes along e if each address on the path pops the next digit of e
pub pop_along-walk : (e : Address) (k rank : ℕ) (F R : Family)
    → ((c : Address) (x : ℕ) → digit_beyond e c ≡ Some x → take_least (F c) ≡ Some (record { rank = rank; value = x; rest = R c }))
    → pop_along (length e + k) F ≡ option_map (walked e rank F R) (pop_along k (λ c. F (e ++ c)))
pop_along-walk [] k rank F R h = rw (zero-add k) (same (pop_along k F))
  where
    same : (o : Option (Popping Family)) → o ≡ option_map (walked [] rank F R) o
    same None = refl
    same (Some p) = refl
pop_along-walk (x ∷ e) k rank F R h =
    let n : length (x ∷ e) + k ≡ suc (length e + k) = omega arith in
    let step : (c : Address) (y : ℕ) → digit_beyond e c ≡ Some y → take_least (below F x c) ≡ Some (record { rank = rank; value = y; rest = below R x c })
    = λ c y p. h (x ∷ c) y (rw (eq-eqb x x refl) p) in
    rw (n, h [] x refl, pop_along-walk e k rank (below F x) (below R x) step)
    (option_map-map (popped_digit F (record { rank = rank; value = x; rest = R [] })) (walked e rank (below F x) (below R x)) (pop_along k (λ c. F (x ∷ e ++ c))))

-- the family's queues after the pop
pub walked-after : (e b c : Address) (F R G : Family) → after e b ≡ Some c → walked_left e F R G b ≡ G c
walked-after [] b c F R G p = let q : b ≡ c = cc in ap G q
walked-after (x ∷ e) [] c F R G p = cc
walked-after (x ∷ e) (y ∷ b) c F R G p =
    let p' : (eqb x y ≡ true) × (after e b ≡ Some c) = some_of_cond _ _ c p in
    rw p'.0 (walked-after e b c (below F x) (below R x) G p'.1)

pub walked-transit : (e b : Address) (d : ℕ) (F R G : Family) → digit_beyond e b ≡ Some d → walked_left e F R G b ≡ R b
walked-transit [] b d F R G p = cc
walked-transit (x ∷ e) [] d F R G p = refl
walked-transit (x ∷ e) (y ∷ b) d F R G p =
    let p' : (eqb x y ≡ true) × (digit_beyond e b ≡ Some d) = some_of_cond _ _ d p in
    rw p'.0 (walked-transit e b d (below F x) (below R x) G p'.1 ∙ ap (λ (z : ℕ). R (z ∷ b)) (eqb-true x y p'.0))

pub walked-elsewhere : (e b : Address) (F R G : Family) → digit_beyond e b ≡ None → after e b ≡ None → walked_left e F R G b ≡ F b
walked-elsewhere [] b F R G p q = cc
walked-elsewhere (x ∷ e) [] F R G p q = cc
walked-elsewhere (x ∷ e) (y ∷ b) F R G p q =
    elim (cases_Bool (eqb x y)) [
      | inl t ↦ rw t (walked-elsewhere e b (below F x) (below R x) G (rw t at p) (rw t at q) ∙ ap (λ (z : ℕ). F (z ∷ b)) (eqb-true x y t))
      | inr t ↦ rw t refl
    ]

-- a pop leaves the topology unchanged
pop_child-shape : (ts : Trees Queue) (ps : Placements) (i : ℕ) (r : Popping (Trees Queue)) → pop_child ts i ≡ Some r → SameShapes ts ps → SameShapes r.left ps
pop_child-shape ts ps i r p s = same_shapes r.left ps (topologies_of-pop ts i r p ∙ topologies_of-same ts ps s)

pub no_parts : (ts : Trees Queue) (b : Address) → lift_below ts none b ≡ None
no_parts none b = refl
no_parts (more t ts) b = refl

-- outside child i, a pop below it changes nothing
pub pop_away : (ts : Trees Queue) (ps : Placements) (i : ℕ) (r : Popping (Trees Queue)) (b : Address) → pop_child ts i ≡ Some r → after (part ps i) b ≡ None → lift_below r.left ps b ≡ lift_below ts ps b
pop_away none ps i r b p n = cc
pop_away (more t ts) none i r b p n = no_parts r.left b
pop_away (more t ts) (more q ps) zero r b p n =
    let v : (y : Popping (Tree Queue)) × (pop t ≡ Some y) × (of_first ts y ≡ r) = option_map-some (of_first ts) (pop t) r p in
    subst (λ (z : Popping (Trees Queue)). lift_below z.left (more q ps) b ≡ lift_below (more t ts) (more q ps) b) v.2 (rw n refl)
pop_away (more t ts) (more q ps) (suc i) r b p n =
    let v : (y : Popping (Trees Queue)) × (pop_child ts i ≡ Some y) × (of_later t y ≡ r) = option_map-some (of_later t) (pop_child ts i) r p in
    subst (λ (z : Popping (Trees Queue)). lift_below z.left (more q ps) b ≡ lift_below (more t ts) (more q ps) b) v.2
    (ap (first_of_two (option_map (lift t q) (after (root_of q) b))) (pop_away ts ps i v.0 b v.1 n))

pub part_fits : {Q : Type 0} (ts : Trees Q) (ps : Placements) (i h : ℕ) → SameShapes ts ps → HasChild ts i → AreOfHeight ps h → length (part ps i) ≤ h
part_fits none ps i h s c a = absurd c
part_fits (more t ts) none i h s c a = absurd s
part_fits (more t ts) (more p ps) zero h s c a = a.0
part_fits (more t ts) (more p ps) (suc i) h s c a = part_fits ts ps i h s.1 c a.2

-- no child's queue is at the root's image
pub root_apart : (ts : Trees Queue) (ps : Placements) → ArePlaced ps → lift_below ts ps [] ≡ None
root_apart none ps a = refl
root_apart (more t ts) none a = refl
root_apart (more t ts) (more p ps) a = rw (long (root_of p) a.0) (root_apart ts ps a.3)
  where
    long : (e : Address) → e ≢ [] → after e [] ≡ None
    long [] n = absurd (n refl)
    long (x ∷ e) n = refl

module _ (e0 : ℕ × ℕ) (q : Queue) (ts : Trees Queue) (e : Address) (ps : Placements) (h : ℕ) (a : ArePlaced ps) (s : SameShapes ts ps) (z : AreOfHeight ps h) (c : HasChild ts (take_from e0.0 e0.1 q).value) where
  abbrev taken : Taking
  taken = take_from e0.0 e0.1 q

  abbrev way : Address
  way = part ps taken.value

  abbrev family : Family
  family = lift (inner (e0 ∷ q) ts) (inner e ps)

  abbrev rests : Family
  rests b = passing ps taken.rest b

  pub taken_on_way : (b : Address) (x : ℕ) → digit_beyond way b ≡ Some x → take_least (family b) ≡ Some (record { rank = taken.rank; value = x; rest = rests b })
  taken_on_way b x p = rw (transit_below ts ts ps taken.value b x a s c p) (take_least-passing (digit_at ps b) e0.0 e0.1 x q p)

  pub family_below : (λ (b : Address). family (way ++ b)) ≡ lift_child ts ps taken.value
  family_below = fun_ext (λ b. ap (λ (o : Option Queue). unwrap_or o (passing ps (e0 ∷ q) (way ++ b))) (lift_at_child ts ps taken.value (way ++ b) b a s c (after-append way b)))

  pub left_at : (r : Popping (Trees Queue)) → pop_child ts taken.value ≡ Some r → (b : Address) (o : Option Address) (d : Option ℕ) → after way b ≡ o → digit_beyond way b ≡ d
      → walked_left way family rests (lift_child r.left ps taken.value) b ≡ lift (inner taken.rest r.left) (inner e ps) b
  left_at r p b (Some v) d m n =
      rw (walked-after way b v family rests (lift_child r.left ps taken.value) m, lift_at_child r.left ps taken.value b v a (pop_child-shape ts ps taken.value r p s) (pop_child-has_child ts taken.value r p taken.value c) m) refl
  left_at r p b None (Some x) m n =
      rw (walked-transit way b x family rests (lift_child r.left ps taken.value) n, transit_below ts r.left ps taken.value b x a s c n) refl
  left_at r p b None None m n =
      rw (walked-elsewhere way b family rests (lift_child r.left ps taken.value) n m, pop_away ts ps taken.value r b p m)
      (ap (unwrap_or (lift_below ts ps b)) (passing_by-rest (digit_at ps b) e0.0 e0.1 q n))

  pub lifted_way : (o : Option (Popping (Trees Queue))) → pop_child ts taken.value ≡ o
      → option_map (walked way taken.rank family rests) (option_map (lifted_child ps taken.value) o) ≡ option_map (lifted (inner e ps)) (option_map (of_inner taken) o)
  lifted_way None p = refl
  lifted_way (Some r) p =
      ap (λ (F : Family). Some (record { value = r.value; digits = way ++ digits_below ps taken.value r.digits; ranks = replicate (length way) taken.rank ++ placed_ranks_below ps taken.value r.digits r.ranks; left = F }))
      (fun_ext (λ b. left_at r p b (after way b) (digit_beyond way b) refl refl))

  pub pop_at_inner : pop_along (h - length way) (lift_child ts ps taken.value) ≡ option_map (lifted_child ps taken.value) (pop_child ts taken.value)
      → pop_along h family ≡ option_map (lifted (inner e ps)) (pop (inner (e0 ∷ q) ts))
  pop_at_inner ih =
      let fits : length way ≤ h = part_fits ts ps taken.value h s c z in
      let n : h ≡ length way + (h - length way) = omega arith in
      ap (λ (k : ℕ). pop_along k family) n
      ∙ pop_along-walk way (h - length way) taken.rank family rests taken_on_way
      ∙ ap (λ (F : Family). option_map (walked way taken.rank family rests) (pop_along (h - length way) F)) family_below
      ∙ ap (option_map (walked way taken.rank family rests)) ih
      ∙ lifted_way (pop_child ts taken.value) refl

-- a pop of the lift of a tree gives the lifted result of a pop of the tree
mutual
  pub lift-pop : (t : Tree Queue) (p : Placement) (h : ℕ) → IsPlaced p → SameShape t p → IsOfHeight p h → IsInRange t → pop_along h (lift t p) ≡ option_map (lifted p) (pop t)
  lift-pop (leaf q) (leaf e) h a s z w = rw z (leaf_pop (take_least q))
    where
      last_left : (rest : Queue) (b : Address) → with_root (lift (leaf q) (leaf e)) rest b ≡ lift (leaf rest) (leaf e) b
      last_left rest [] = refl
      last_left rest (x ∷ b) = refl

      leaf_pop : (o : Option Taking) → option_map (popped_last (lift (leaf q) (leaf e))) o ≡ option_map (lifted (leaf e)) (option_map of_leaf o)
      leaf_pop None = refl
      leaf_pop (Some x) = ap (λ (F : Family). Some (record { value = x.value; digits = []; ranks = x.rank ∷ []; left = F })) (fun_ext (last_left x.rest))
  lift-pop (leaf q) (inner e ps) h a s z w = absurd s
  lift-pop (inner q ts) (leaf e) h a s z w = absurd s
  lift-pop (inner [] ts) (inner e ps) zero a s z w = rw (root_apart ts ps a) refl
  lift-pop (inner [] ts) (inner e ps) (suc h) a s z w = rw (root_apart ts ps a) refl
  lift-pop (inner (e0 ∷ q) ts) (inner e ps) h a s z w =
      let c : HasChild ts (take_from e0.0 e0.1 q).value = taken_names ts e0.0 e0.1 q w.0.0 w.0.1 in
      pop_at_inner e0 q ts e ps h a s z c (lift_child-pop ts ps (take_from e0.0 e0.1 q).value h a s z w.1 c)

  pub lift_child-pop : (ts : Trees Queue) (ps : Placements) (i h : ℕ) → ArePlaced ps → SameShapes ts ps → AreOfHeight ps h → AreInRange ts → HasChild ts i
      → pop_along (h - length (part ps i)) (lift_child ts ps i) ≡ option_map (lifted_child ps i) (pop_child ts i)
  lift_child-pop none ps i h a s z w c = absurd c
  lift_child-pop (more t ts) none i h a s z w c = absurd s
  lift_child-pop (more t ts) (more p ps) zero h a s z w c =
      lift-pop t p (h - length (root_of p)) a.2 s.0 z.1 w.0 ∙ sym (option_map-map (lifted_child (more p ps) zero) (of_first ts) (pop t))
  lift_child-pop (more t ts) (more p ps) (suc i) h a s z w c =
      lift_child-pop ts ps i h a.3 s.1 z.2 w.1 c ∙ sym (option_map-map (lifted_child (more p ps) (suc i)) (of_later t) (pop_child ts i))
