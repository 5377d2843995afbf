-- The effect of a push and a pop of the fabric on the source tree whose lift its queues are.
use Rattle.sched_embedded.proofs.Prelude.{sym, ℕ, ◌∙◌, ap, ◌≡◌, subst, List, length, Some, [], refl, suc, None, zero, Option, IsLeafImage, Family, Pops, push_along, SameQueues, pop_along, IsGoodMap, image_map, IsLift, lift_ranks, picked_ranks, StandsAt, push_spills, spills_along, Way, topology_of-same, pop-path, leaf_at, Queue, SourceTree, pop, push, Address, Tree, LeadsToLeaf, IsAddressOf, Popping, Laid, HoldsLift, PopsTo}
use Rattle.tree_defs.specs.Laws.{LedToALeaf}
use Rattle.tree_defs.proofs.WellFormedLaws.{IsWellFormed-push, IsWellFormed-pop}
use Rattle.embed_defs.specs.LiftLaws.{Maps, IsLiftedPop, PopsAsTheTree}
use Rattle.embed_defs.proofs.LiftLawProofs.{lifts_are_one, pushes_of_lifts_are_lifts, pops_of_lifts_are_lifted_pops, maps_stay}
use Rattle.embed_defs.proofs.SpillsOfLifts.{spills_of_lifts}
use Rattle.embed_defs.proofs.PathsReadBack.{nodes_have_images_of_their_own, picked_ranks_are_those_lifted}
use Rattle.sched_embedded.proofs.MapShapes.{same_leaves}

-- nothing is popped if the root's queue is empty
nothing-along : (h : ℕ) (F : Family) → F [] ≡ [] → pop_along h F ≡ None
nothing-along zero F e = rw e refl
nothing-along (suc h) F e = rw e refl

leaf-address : {Q : Type 0} (t : Tree Q) (a : Address) → LeadsToLeaf t a → IsAddressOf t a
leaf-address t a l = let at = leaf_at t a l in (_, at.1)

-- the same queues are the lift of the same tree
pub lift-same : (t : SourceTree) (image : Address → Address) (F G : Family) → SameQueues G F → IsLift t image F → IsLift t image G
lift-same t image F G same lifted b a u longest at = subst (λ (q : Queue). StandsAt image b a u q) (sym (same b)) (lifted b a u longest at)

module _ (l : Laid) (good : IsGoodMap (length l.arities) l.images) (F : Family) (t : SourceTree) (held : HoldsLift l F t) where
  maps : Maps (length l.arities) t l.images
  maps = record { shape = held.shape; good = good }

  leaf_here : (digits : Address) → LeadsToLeaf l.images digits → LeadsToLeaf t digits
  leaf_here digits leads = same_leaves l.images t digits (sym (topology_of-same t l.images held.shape)) leads

  pub pushed : (digits ranks : List ℕ) (item : ℕ) (G : Family) → LeadsToLeaf l.images digits → SameQueues G (push_along (image_map l.images digits) (lift_ranks l.images digits ranks) item F)
      → HoldsLift l G (push t digits ranks item)
  pushed digits ranks item G leads same = record {
    well_formed = IsWellFormed-push t digits ranks item (leaf_here digits leads) held.well_formed;
    shape = (maps_stay.push (length l.arities) t l.images digits ranks item maps).shape;
    lifted = pushes_of_lifts_are_lifts (length l.arities) t l.images F G digits ranks item maps (leaf_here digits leads) held.lifted same;
  }

  pub spilled : (digits ranks : List ℕ) → LeadsToLeaf l.images digits → spills_along (image_map l.images digits) (lift_ranks l.images digits ranks) F ≡ push_spills l.images t digits ranks
  spilled digits ranks leads = spills_of_lifts (length l.arities) t l.images F digits ranks maps (leaf_here digits leads) held.lifted

  pops : PopsAsTheTree (length l.arities) t l.images F
  pops = pops_of_lifts_are_lifted_pops (length l.arities) t l.images F maps held.well_formed held.lifted

  pub pops_nothing : F [] ≡ [] → pop t ≡ None
  pops_nothing e = from (pop t) refl
    where
      from : (o : Option (Popping SourceTree)) → pop t ≡ o → o ≡ None
      from None p = refl
      from (Some r) p = let q = pops.packet r p in let no : None ≡ Some q.0 = sym (nothing-along (length l.arities) F e) ∙ q.1 in cc

  -- the pop of the tree whose image is the fabric's pop
  record IsImageOf (v : ℕ) (digits ranks : List ℕ) (G : Family) : Type 0 where
    taken : Popping SourceTree
    popped : pop t ≡ Some taken
    value : taken.value ≡ v
    digits_are : image_map l.images taken.digits ≡ digits
    ranks_are : lift_ranks l.images taken.digits taken.ranks ≡ ranks
    left : HoldsLift l G taken.left

  module _ (v : ℕ) (digits ranks : List ℕ) (G : Family) (p : Pops (length l.arities) F v digits ranks G) where
    image-of : IsImageOf v digits ranks G
    image-of = from (pop t) refl
      where
        from : (o : Option (Popping SourceTree)) → pop t ≡ o → IsImageOf v digits ranks G
        from None e = let no : None ≡ Some p.taken = sym (pops.nothing e) ∙ p.popped in cc
        from (Some r) e =
            let q = pops.packet r e in
            let s : IsLiftedPop l.images r p.taken = subst (IsLiftedPop l.images r) (same_popping q.0 p.taken (sym q.1 ∙ p.popped)) q.2 in
            record {
              taken = r;
              popped = e;
              value = sym s.value ∙ p.value;
              digits_are = sym s.digits ∙ p.digits_are;
              ranks_are = sym s.ranks ∙ p.ranks_are;
              left = record {
                well_formed = IsWellFormed-pop t r e held.well_formed;
                shape = (maps_stay.pop (length l.arities) t l.images r e maps).shape;
                lifted = (lifts_are_one.one (length l.arities) r.left l.images p.taken.left G (maps_stay.pop (length l.arities) t l.images r e maps) s.left).1 p.left;
              };
            }
          where
            same_popping : (x y : Popping Family) → Some x ≡ Some y → x ≡ y
            same_popping x y c = cc

    led : LedToALeaf t image-of.taken
    led = pop-path t image-of.taken image-of.popped

    leads : LeadsToLeaf l.images image-of.taken.digits
    leads = same_leaves t l.images image-of.taken.digits (topology_of-same t l.images held.shape) led.leaf_address

    -- the fabric's digits are the image of a leaf
    pub leaf_image : IsLeafImage l.images digits
    leaf_image = (image-of.taken.digits, record { leaf = leads; image_is = image-of.digits_are })

    -- the ranks picked are those of the tree
    pub picked : (way : Way) → LeadsToLeaf l.images way.digits → image_map l.images way.digits ≡ digits → way.ranks ≡ picked_ranks l.images way.digits ranks → PopsTo l t v way G
    picked way leaf image ranks_of =
        let r : Popping SourceTree = image-of.taken in
        let d : way.digits ≡ r.digits
        = nodes_have_images_of_their_own (length l.arities) l.images way.digits r.digits good (leaf-address l.images way.digits leaf) (leaf-address l.images r.digits leads) (image ∙ sym image-of.digits_are) in
        let k : way.ranks ≡ r.ranks
        = ranks_of ∙ ap (λ (z : List ℕ). picked_ranks l.images z ranks) d ∙ ap (λ (z : List ℕ). picked_ranks l.images r.digits z) (sym image-of.ranks_are)
        ∙ picked_ranks_are_those_lifted (length l.arities) l.images r.digits r.ranks good leads led.ranks in
        record {
          left = r.left;
          popped = image-of.popped ∙ ap (λ (z : Popping SourceTree). Some z) (λ i. record { value = image-of.value i; digits = sym d i; ranks = sym k i; left = r.left });
          lift = image-of.left;
        }

-- the same of a map that is known to be the one laid
pub popped-to : (inside l : Laid) → inside ≡ l → (good : IsGoodMap (length l.arities) l.images) (F : Family) (t : SourceTree) → HoldsLift l F t → (v : ℕ) (digits ranks found taken : List ℕ) (G : Family)
    → found ≡ digits → taken ≡ ranks → Pops (length l.arities) F v digits ranks G → (way : Way)
    → LeadsToLeaf inside.images way.digits → image_map inside.images way.digits ≡ found → way.ranks ≡ picked_ranks inside.images way.digits taken → PopsTo l t v way G
popped-to inside l same good F t held v digits ranks found taken G e f pops way leads image ranks_of =
    picked l good F t held v digits ranks G pops way
    (subst (λ (z : Laid). LeadsToLeaf z.images way.digits) same leads)
    (ap (λ (z : Laid). image_map z.images way.digits) (sym same) ∙ image ∙ e)
    (ranks_of ∙ ap (λ (z : List ℕ). picked_ranks inside.images way.digits z) f ∙ ap (λ (z : Laid). picked_ranks z.images way.digits ranks) same)
