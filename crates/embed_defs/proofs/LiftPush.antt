-- A push along the lifted path gives the lift of the tree after the push.
use Rattle.embed_defs.proofs.Prelude.{[], ℕ, ◌≡◌, refl, ◌∷◌, ap, ◌∙◌, suc, sym, length, List, Some, zero, ◌++◌, None, ◌≢◌, append-nil, Option, drop, replicate, option_map, unwrap_or, slice_index, fun_ext, after-append, Queue, put, push, push_child, after, inner, leaf, more, none, Tree, Trees, root_of, SameShape, SameShapes, LeadsToLeaf, HasChild, LeadsBelow, Family, push_along, digit_beyond, passing_by, lift, lift_below, digit_at, lift_child, passing, placed_ranks, placed_ranks_below, first_of_two, Placement, IsPlaced, Placements, ArePlaced, lift_digits, IsApartFrom, part, digits_below}
use Rattle.std.proofs.lemmas.List.Elements.{filter_map-append}
use Rattle.tree_defs.specs.Tree.{Address}
use Rattle.tree_defs.proofs.WellFormedLaws.{leads_has}
use Rattle.embed_defs.proofs.Addresses.{one_prefix}
use Rattle.embed_defs.proofs.PlacedEmbeddings.{apart_part}
use Rattle.embed_defs.proofs.LiftAddresses.{none_above, not_after, push_after, push_at_transit, push_elsewhere}

-- no child's part is empty
pub part_nonempty : (ps : Placements) (i : ℕ) {Q : Type 0} (ts : Trees Q) → ArePlaced ps → SameShapes ts ps → HasChild ts i → part ps i ≢ []
part_nonempty none i none h s l = absurd l
part_nonempty none i (more t ts) h s l = absurd s
part_nonempty (more p ps) i none h s l = absurd s
part_nonempty (more p ps) zero (more t ts) h s l = h.0
part_nonempty (more p ps) (suc i) (more t ts) h s l = part_nonempty ps i ts h.3 s.1 l

-- of two addresses apart, at most one is a prefix of b
pub missed : (e f b c : Address) (o : Option Address) → after e b ≡ o → after f b ≡ Some c → after e f ≡ None → after f e ≡ None → after e b ≡ None
missed e f b c None r p q s = r
missed e f b c (Some d) r p q s = absurd (one_prefix e f b d c r p q s)

pub passed : (e f b : Address) (x : ℕ) (o : Option Address) → digit_beyond e b ≡ Some x → after f b ≡ o → after f e ≡ None → after f b ≡ None
passed e f b x None p r q = r
passed e f b x (Some c) p r q = absurd (none_above e f b c x p r q)

-- at and below the image of child i, the queues are those of the child's own lift
pub lift_at_child : (ts : Trees Queue) (ps : Placements) (i : ℕ) (b c : Address)
    → ArePlaced ps → SameShapes ts ps → HasChild ts i → after (part ps i) b ≡ Some c → lift_below ts ps b ≡ Some (lift_child ts ps i c)
lift_at_child none ps i b c h s l p = absurd l
lift_at_child (more t ts) none i b c h s l p = absurd s
lift_at_child (more t ts) (more q ps) zero b c h s l p = rw p refl
lift_at_child (more t ts) (more q ps) (suc i) b c h s l p =
    let n : part ps i ≢ [] = part_nonempty ps i ts h.3 s.1 l in
    let a : (after (root_of q) (part ps i) ≡ None) × (after (part ps i) (root_of q) ≡ None) = apart_part (root_of q) ps i h.1 n in
    rw (missed (root_of q) (part ps i) b c (after (root_of q) b) refl p a.0 a.1) (lift_at_child ts ps i b c h.3 s.1 l p)

-- an address that is apart from all parts passes b, so b isn't below any child
pub nothing_below : (ts : Trees Queue) (ps : Placements) (e b : Address) (x : ℕ) → digit_beyond e b ≡ Some x → IsApartFrom e ps → lift_below ts ps b ≡ None
nothing_below none ps e b x p h = refl
nothing_below (more t ts) none e b x p h = refl
nothing_below (more t ts) (more q ps) e b x p h =
    rw (passed e (root_of q) b x (after (root_of q) b) p refl h.1) (nothing_below ts ps e b x p h.2)

-- b is a transit address on the path to child i, so it isn't below any child
pub transit_below : (ts us : Trees Queue) (ps : Placements) (i : ℕ) (b : Address) (x : ℕ)
    → ArePlaced ps → SameShapes ts ps → HasChild ts i → digit_beyond (part ps i) b ≡ Some x → lift_below us ps b ≡ None
transit_below none us ps i b x h s l p = absurd l
transit_below (more t ts) us none i b x h s l p = absurd s
transit_below (more t ts) none (more q ps) i b x h s l p = refl
transit_below (more t ts) (more u us) (more q ps) zero b x h s l p =
    rw (not_after (root_of q) b x p) (nothing_below us ps (root_of q) b x p h.1)
transit_below (more t ts) (more u us) (more q ps) (suc i) b x h s l p =
    let n : part ps i ≢ [] = part_nonempty ps i ts h.3 s.1 l in
    let a : (after (root_of q) (part ps i) ≡ None) × (after (part ps i) (root_of q) ≡ None) = apart_part (root_of q) ps i h.1 n in
    rw (passed (part ps i) (root_of q) b x (after (root_of q) b) p refl a.0) (transit_below ts us ps i b x h.3 s.1 l p)

module _ (digits ranks : List ℕ) (item : ℕ) where
  -- outside child i, a push below it changes nothing
  pub push_away : (ts : Trees Queue) (ps : Placements) (i : ℕ) (b : Address)
      → after (part ps i) b ≡ None → lift_below (push_child ts i digits ranks item) ps b ≡ lift_below ts ps b
  push_away none ps i b p = refl
  push_away (more t ts) none zero b p = refl
  push_away (more t ts) none (suc i) b p = refl
  push_away (more t ts) (more q ps) zero b p = rw p refl
  push_away (more t ts) (more q ps) (suc i) b p = ap (first_of_two (option_map (lift t q) (after (root_of q) b))) (push_away ts ps i b p)

-- the entries that a push adds to those passing b
pub passing-put : (ps : Placements) (q : Queue) (rank i : ℕ) (b : Address) (o : Option ℕ) → digit_beyond (part ps i) b ≡ o
    → passing ps (put q rank i) b ≡ passing ps q b ++ passing_by (digit_at ps b) ((rank, i) ∷ [])
passing-put ps q rank i b o p = filter_map-append (λ (e : ℕ × ℕ). option_map (λ (x : ℕ). (e.0, x)) (digit_at ps b e.1)) q ((rank, i) ∷ [])

module _ (q : Queue) (ts : Trees Queue) (e : Address) (ps : Placements) (i item : ℕ) (digits ranks : List ℕ) (h : ArePlaced ps) (s : SameShapes ts ps) (l : HasChild ts i) where
  -- at and below the child's image
  pub push_at_child : (b c : Address) → after (part ps i) b ≡ Some c
      → lift_below (push_child ts i digits (drop 1 ranks) item) ps b ≡ Some (push_along (digits_below ps i digits) (placed_ranks_below ps i digits (drop 1 ranks)) item (lift_child ts ps i) c)
      → lift (push (inner q ts) (i ∷ digits) ranks item) (inner e ps) b
      ≡ push_along (part ps i ++ digits_below ps i digits) (replicate (length (part ps i)) (slice_index ranks 0) ++ placed_ranks_below ps i digits (drop 1 ranks)) item (lift (inner q ts) (inner e ps)) b
  push_at_child b c p ih =
      let at_child : (d : Address) → lift (inner q ts) (inner e ps) (part ps i ++ d) ≡ lift_child ts ps i d
      = λ d. ap (λ (o : Option Queue). unwrap_or o (passing ps q (part ps i ++ d))) (lift_at_child ts ps i (part ps i ++ d) d h s l (after-append (part ps i) d)) in
      rw ih (sym (push_after (digits_below ps i digits) (slice_index ranks 0) (placed_ranks_below ps i digits (drop 1 ranks)) item (part ps i) b c (lift (inner q ts) (inner e ps)) p
      ∙ ap (λ (F : Family). push_along (digits_below ps i digits) (placed_ranks_below ps i digits (drop 1 ranks)) item F c) (fun_ext at_child)))

  -- at a transit address
  pub push_at_way : (b : Address) (x : ℕ) → digit_beyond (part ps i) b ≡ Some x
      → lift (push (inner q ts) (i ∷ digits) ranks item) (inner e ps) b
      ≡ push_along (part ps i ++ digits_below ps i digits) (replicate (length (part ps i)) (slice_index ranks 0) ++ placed_ranks_below ps i digits (drop 1 ranks)) item (lift (inner q ts) (inner e ps)) b
  push_at_way b x p =
      rw (push_at_transit (digits_below ps i digits) (slice_index ranks 0) (placed_ranks_below ps i digits (drop 1 ranks)) item (part ps i) b x (lift (inner q ts) (inner e ps)) p)
      (rw (transit_below ts (push_child ts i digits (drop 1 ranks) item) ps i b x h s l p, transit_below ts ts ps i b x h s l p, passing-put ps q (slice_index ranks 0) i b (Some x) p, p) refl)

  -- elsewhere
  pub push_at_rest : (b : Address) → digit_beyond (part ps i) b ≡ None → after (part ps i) b ≡ None
      → lift (push (inner q ts) (i ∷ digits) ranks item) (inner e ps) b
      ≡ push_along (part ps i ++ digits_below ps i digits) (replicate (length (part ps i)) (slice_index ranks 0) ++ placed_ranks_below ps i digits (drop 1 ranks)) item (lift (inner q ts) (inner e ps)) b
  push_at_rest b p r =
      rw (push_elsewhere (digits_below ps i digits) (slice_index ranks 0) (placed_ranks_below ps i digits (drop 1 ranks)) item (part ps i) b (lift (inner q ts) (inner e ps)) p r)
      (rw (push_away digits (drop 1 ranks) item ts ps i b r, passing-put ps q (slice_index ranks 0) i b None p, p, append-nil) refl)

  pub push_at_any : (b : Address) (o : Option Address) (d : Option ℕ) → after (part ps i) b ≡ o → digit_beyond (part ps i) b ≡ d
      → ((c : Address) → after (part ps i) b ≡ Some c → lift_below (push_child ts i digits (drop 1 ranks) item) ps b ≡ Some (push_along (digits_below ps i digits) (placed_ranks_below ps i digits (drop 1 ranks)) item (lift_child ts ps i) c))
      → lift (push (inner q ts) (i ∷ digits) ranks item) (inner e ps) b
      ≡ push_along (part ps i ++ digits_below ps i digits) (replicate (length (part ps i)) (slice_index ranks 0) ++ placed_ranks_below ps i digits (drop 1 ranks)) item (lift (inner q ts) (inner e ps)) b
  push_at_any b (Some c) d r p ih = push_at_child b c r (ih c r)
  push_at_any b None (Some x) r p ih = push_at_way b x p
  push_at_any b None None r p ih = push_at_rest b p r

-- the lift of a tree after a push is the push of the lifted path on the lift of the tree
mutual
  pub lift-push : (t : Tree Queue) (p : Placement) (digits ranks : List ℕ) (item : ℕ) (b : Address) → IsPlaced p → SameShape t p → LeadsToLeaf t digits
      → lift (push t digits ranks item) p b ≡ push_along (lift_digits p digits) (placed_ranks p digits ranks) item (lift t p) b
  lift-push (leaf q) (leaf e) [] ranks item [] h s l = refl
  lift-push (leaf q) (leaf e) [] ranks item (y ∷ b) h s l = refl
  lift-push (leaf q) p (x ∷ digits) ranks item b h s l = absurd l
  lift-push (leaf q) (inner e ps) [] ranks item b h s l = absurd s
  lift-push (inner q ts) (leaf e) digits ranks item b h s l = absurd s
  lift-push (inner q ts) (inner e ps) [] ranks item b h s l = absurd l
  lift-push (inner q ts) (inner e ps) (i ∷ digits) ranks item b h s l =
      push_at_any q ts e ps i item digits ranks h s (leads_has ts i digits l) b (after (part ps i) b) (digit_beyond (part ps i) b) refl refl
      (λ c r. lift_below-push ts ps i digits (drop 1 ranks) item b c h s l r)

  pub lift_below-push : (ts : Trees Queue) (ps : Placements) (i : ℕ) (digits ranks : List ℕ) (item : ℕ) (b c : Address) → ArePlaced ps → SameShapes ts ps → LeadsBelow ts i digits
      → after (part ps i) b ≡ Some c → lift_below (push_child ts i digits ranks item) ps b ≡ Some (push_along (digits_below ps i digits) (placed_ranks_below ps i digits ranks) item (lift_child ts ps i) c)
  lift_below-push none ps i digits ranks item b c h s l r = absurd l
  lift_below-push (more t ts) none i digits ranks item b c h s l r = absurd s
  lift_below-push (more t ts) (more p ps) zero digits ranks item b c h s l r =
      rw r (ap Some (lift-push t p digits ranks item c h.2 s.0 l))
  lift_below-push (more t ts) (more p ps) (suc i) digits ranks item b c h s l r =
      let n : part ps i ≢ [] = part_nonempty ps i ts h.3 s.1 (leads_has ts i digits l) in
      let a : (after (root_of p) (part ps i) ≡ None) × (after (part ps i) (root_of p) ≡ None) = apart_part (root_of p) ps i h.1 n in
      rw (missed (root_of p) (part ps i) b c (after (root_of p) b) refl r a.0 a.1) (lift_below-push ts ps i digits ranks item b c h.3 s.1 l r)
