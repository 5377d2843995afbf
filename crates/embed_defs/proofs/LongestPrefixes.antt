-- For each address of the complete tree there is a longest source address whose image is a prefix
-- of it, so there is exactly one lift.
use Rattle.embed_defs.proofs.Prelude.{[], ℕ, ◌≡◌, refl, ◌∷◌, ap, ◌∙◌, arith, suc, sym, length, ◌≤◌, Some, zero, ◌++◌, None, inl, inr, ◌≢◌, append-nil, length-append, Option, append_assoc, ◌⊎◌, after-append, after-is, Queue, SourceTree, after, IsPrefixOf, inner, leaf, more, none, Tree, Trees, root_of, SameShape, SameShapes, subtree_in, subtree, Family, IsLift, IsLongestAt, StandsAt, lift, Placement, IsPlaced, Placements, ArePlaced, lift_digits, part, digits_below}
use Rattle.tree_defs.specs.Tree.{Address}
use Rattle.embed_defs.proofs.Addresses.{after-sum, one_prefix}
use Rattle.embed_defs.proofs.PlacedEmbeddings.{apart_part}
use Rattle.embed_defs.proofs.LiftLaw.{lift-law}

-- the longest address at or below the children whose image is a prefix of b
record IsLongestBelow (ts : Trees Queue) (ps : Placements) (b : Address) (i : ℕ) (a : Address) : Type 0 where
  address : (u : SourceTree) × (subtree_in ts i a ≡ Some u)
  above : IsPrefixOf (part ps i ++ digits_below ps i a) b
  longest : (j : ℕ) (c : Address) (u : SourceTree) → subtree_in ts j c ≡ Some u → IsPrefixOf (part ps j ++ digits_below ps j c) b → length c ≤ length a

-- no address at or below the children has an image that is a prefix of b
abbrev NothingAbove : Trees Queue → Placements → Address → Type 0
NothingAbove ts ps b = (j : ℕ) (c : Address) (u : SourceTree) → subtree_in ts j c ≡ Some u → IsPrefixOf (part ps j ++ digits_below ps j c) b → ⊥

prefix_front : (e f b : Address) → IsPrefixOf (e ++ f) b → (c : Address) × (after e b ≡ Some c)
prefix_front e f b p = (f ++ p.0, ap (after e) (after-is (e ++ f) b p.0 p.1 ∙ append_assoc e f p.0) ∙ after-append e (f ++ p.0))

part_long : (ts : Trees Queue) (ps : Placements) (j : ℕ) (c : Address) (u : SourceTree) → ArePlaced ps → SameShapes ts ps → subtree_in ts j c ≡ Some u → part ps j ≢ []
part_long none ps j c u h s m = cc
part_long (more t ts) none j c u h s m = absurd s
part_long (more t ts) (more p ps) zero c u h s m = h.0
part_long (more t ts) (more p ps) (suc j) c u h s m = part_long ts ps j c u h.3 s.1 m

mutual
  pub longest : (t : Tree Queue) (p : Placement) (b : Address) → IsPlaced p → SameShape t p → (a : Address) × IsLongestAt t (lift_digits p) b a
  longest (leaf q) (leaf e) b h s = ([], record { address = (leaf q, refl); above = (b, refl); longest = at_leaf })
    where
      at_leaf : (c : Address) → (u : SourceTree) × (subtree (leaf q) c ≡ Some u) → IsPrefixOf (lift_digits (leaf e) c) b → length c ≤ length {A = ℕ} []
      at_leaf [] m p = omega arith
      at_leaf (i ∷ c) m p = let n : None ≡ Some m.0 = m.1 in cc
  longest (leaf q) (inner e ps) b h s = absurd s
  longest (inner q ts) (leaf e) b h s = absurd s
  longest (inner q ts) (inner e ps) b h s = elim (longest_in ts ps b h s) [
    | inl l ↦ (l.0 ∷ l.1, record { address = l.2.address; above = l.2.above; longest = below l.0 l.1 l.2 })
    | inr n ↦ ([], record { address = (inner q ts, refl); above = (b, refl); longest = here n })
  ]
    where
      below : (i : ℕ) (a : Address) → IsLongestBelow ts ps b i a → (c : Address) → (u : SourceTree) × (subtree (inner q ts) c ≡ Some u) → IsPrefixOf (lift_digits (inner e ps) c) b → length c ≤ length (i ∷ a)
      below i a l [] m p = omega arith
      below i a l (j ∷ c) m p = omega (arith, l.longest j c m.0 m.1 p)

      here : NothingAbove ts ps b → (c : Address) → (u : SourceTree) × (subtree (inner q ts) c ≡ Some u) → IsPrefixOf (lift_digits (inner e ps) c) b → length c ≤ length {A = ℕ} []
      here n [] m p = omega arith
      here n (j ∷ c) m p = absurd (n j c m.0 m.1 p)

  longest_in : (ts : Trees Queue) (ps : Placements) (b : Address) → ArePlaced ps → SameShapes ts ps → ((i : ℕ) × (a : Address) × IsLongestBelow ts ps b i a) ⊎ NothingAbove ts ps b
  longest_in none ps b h s = inr (λ j c u m p. cc)
  longest_in (more t ts) none b h s = absurd s
  longest_in (more t ts) (more p ps) b h s = first (λ d. longest t p d h.2 s.0) (longest_in ts ps b h.3 s.1) (after (root_of p) b) refl
    where
      same_child : (d : Address) → after (root_of p) b ≡ Some d → (c : Address) → IsPrefixOf (root_of p ++ lift_digits p c) b → IsPrefixOf (lift_digits p c) d
      same_child d e c x = (x.0, sym (after-sum (root_of p) (lift_digits p c) d) ∙ ap (after (root_of p ++ lift_digits p c)) (sym (after-is (root_of p) b d e)) ∙ x.1)

      other_child : (d : Address) → after (root_of p) b ≡ Some d → (j : ℕ) (c : Address) (u : SourceTree) → subtree_in ts j c ≡ Some u → IsPrefixOf (part ps j ++ digits_below ps j c) b → ⊥
      other_child d e j c u m x =
          let f : (k : Address) × (after (part ps j) b ≡ Some k) = prefix_front (part ps j) (digits_below ps j c) b x in
          let w : (after (root_of p) (part ps j) ≡ None) × (after (part ps j) (root_of p) ≡ None) = apart_part (root_of p) ps j h.1 (part_long ts ps j c u h.3 s.1 m) in
          one_prefix (root_of p) (part ps j) b d f.0 e f.1 w.0 w.1

      in_first : (d : Address) → after (root_of p) b ≡ Some d → (w : (a : Address) × IsLongestAt t (lift_digits p) d a) → (j : ℕ) (c : Address) (u : SourceTree) → subtree_in (more t ts) j c ≡ Some u
          → IsPrefixOf (part (more p ps) j ++ digits_below (more p ps) j c) b → length c ≤ length w.0
      in_first d e w zero c u m x = w.1.longest c (u, m) (same_child d e c x)
      in_first d e w (suc j) c u m x = absurd (other_child d e j c u m x)

      in_later : after (root_of p) b ≡ None → (i : ℕ) (a : Address) → IsLongestBelow ts ps b i a → (j : ℕ) (c : Address) (u : SourceTree) → subtree_in (more t ts) j c ≡ Some u
          → IsPrefixOf (part (more p ps) j ++ digits_below (more p ps) j c) b → length c ≤ length a
      in_later e i a l zero c u m x = let f : (k : Address) × (after (root_of p) b ≡ Some k) = prefix_front (root_of p) (lift_digits p c) b x in let y : None ≡ Some f.0 = sym e ∙ f.1 in cc
      in_later e i a l (suc j) c u m x = l.longest j c u m x

      nowhere : after (root_of p) b ≡ None → NothingAbove ts ps b → NothingAbove (more t ts) (more p ps) b
      nowhere e n zero c u m x = let f : (k : Address) × (after (root_of p) b ≡ Some k) = prefix_front (root_of p) (lift_digits p c) b x in let y : None ≡ Some f.0 = sym e ∙ f.1 in cc
      nowhere e n (suc j) c u m x = n j c u m x

      first : ((d : Address) → (a : Address) × IsLongestAt t (lift_digits p) d a) → ((i : ℕ) × (a : Address) × IsLongestBelow ts ps b i a) ⊎ NothingAbove ts ps b
          → (o : Option Address) → after (root_of p) b ≡ o → ((i : ℕ) × (a : Address) × IsLongestBelow (more t ts) (more p ps) b i a) ⊎ NothingAbove (more t ts) (more p ps) b
      first here later (Some d) e =
          let w : (a : Address) × IsLongestAt t (lift_digits p) d a = here d in
          let above : after (root_of p ++ lift_digits p w.0) b ≡ Some w.1.above.0
          = ap (after (root_of p ++ lift_digits p w.0)) (after-is (root_of p) b d e) ∙ after-sum (root_of p) (lift_digits p w.0) d ∙ w.1.above.1 in
          inl (zero, w.0, record { address = w.1.address; above = (w.1.above.0, above); longest = in_first d e w })
      first here later None e = elim later [
        | inl l ↦ inl (suc l.0, l.1, record { address = l.2.address; above = l.2.above; longest = in_later e l.0 l.1 l.2 })
        | inr n ↦ inr (nowhere e n)
      ]

-- the queue there is determined
same_queue : (image : Address → Address) (b a c : Address) (u : SourceTree) (v w : Queue) → b ≡ image a ++ c → StandsAt image b a u v → StandsAt image b a u w → v ≡ w
same_queue image b a [] (leaf q) v w e x y = let p : image a ≡ b = sym (append-nil (image a)) ∙ sym e in x.0 p ∙ sym (y.0 p)
same_queue image b a (z ∷ c) (leaf q) v w e x y =
    let n : image a ≢ b = λ p. let k : length (image a) ≡ length (image a ++ z ∷ c) = ap length (p ∙ e) in absurd (omega (arith, k, length-append (image a) (z ∷ c))) in
    x.1 n ∙ sym (y.1 n)
same_queue image b a c (inner q ts) v w e x y = x ∙ sym y

-- any lift equals the result of the function
pub lift-one : (t : Tree Queue) (p : Placement) (F : Family) → IsPlaced p → SameShape t p → IsLift t (lift_digits p) F → (b : Address) → F b ≡ lift t p b
lift-one t p F h s l b =
    let a : (a : Address) × IsLongestAt t (lift_digits p) b a = longest t p b h s in
    same_queue (lift_digits p) b a.0 a.1.above.0 a.1.address.0 (F b) (lift t p b) (after-is (lift_digits p a.0) b a.1.above.0 a.1.above.1)
    (l b a.0 a.1.address.0 a.1 a.1.address.1) (lift-law t p h s b a.0 a.1.address.0 a.1 a.1.address.1)
