-- The laws of the lift.
use Rattle.embed_defs.proofs.Prelude.{[], ℕ, ◌≡◌, refl, ◌∷◌, ap, ◌∙◌, arith, sym, length, List, Some, ◌-◌, None, subst, Option, option_map, unwrap_or, fun_ext, same_shape, topology_of-same, pop-path, topology_of-pop, topology_of-push, leaf_at, Queue, SourceTree, pop, push, IsWellFormed, empty_tree, empty_trees, after, Topology, inner, leaf, more, none, Tree, Trees, root_of, LeadsToLeaf, Popping, Family, push_along, pop_along, image_map, lift_ranks, IsLift, Maps, EmptyTreesHaveEmptyLifts, IsLiftedPop, LiftsAreOne, MapsStay, PopsOfLiftsAreLiftedPops, PushesOfLiftsAreLifts, lift, lift_below, placement_of, placed_ranks, lifted, Placement, Placements, lift_digits}
use Rattle.tree_defs.specs.Tree.{Address}
use Rattle.tree_defs.proofs.WellFormedLaws.{in_range}
use Rattle.embed_defs.proofs.ImageLifts.{shape, is_placed, agrees, is-lift, lift-is}
use Rattle.embed_defs.proofs.LeafHeights.{IsOfHeight}
use Rattle.embed_defs.proofs.LiftPush.{lift-push}
use Rattle.embed_defs.proofs.LiftPop.{lift-pop}
use Rattle.embed_defs.proofs.MapPlacements.{high, ranks-relative}

pub lifts_are_one : LiftsAreOne
lifts_are_one = record {
  some = λ h t images m. (lift t (placement_of images), is-lift h t images m (lift t (placement_of images)) (λ b. refl));
  one = λ h t images F G m f. (λ g b. lift-is h t images m G g b ∙ sym (lift-is h t images m F f b), λ s. is-lift h t images m G (λ b. s b ∙ lift-is h t images m F f b));
}

-- ---- empty trees
mutual
  lift-empty : (t : Topology) (p : Placement) (b : Address) → lift (empty_tree t) p b ≡ []
  lift-empty (leaf u) p [] = refl
  lift-empty (leaf u) p (x ∷ b) = refl
  lift-empty (inner u ts) (leaf e) b = refl
  lift-empty (inner u ts) (inner e ps) b = lift_below-empty ts ps b

  lift_below-empty : (ts : Trees (Unit {0})) (ps : Placements) (b : Address) → unwrap_or (lift_below (empty_trees ts) ps b) [] ≡ []
  lift_below-empty none ps b = refl
  lift_below-empty (more t ts) none b = refl
  lift_below-empty (more t ts) (more p ps) b = first (lift-empty t p) (lift_below-empty ts ps b) (after (root_of p) b) refl
    where
      first : ((c : Address) → lift (empty_tree t) p c ≡ []) → unwrap_or (lift_below (empty_trees ts) ps b) [] ≡ [] → (o : Option Address) → after (root_of p) b ≡ o
          → unwrap_or (lift_below (empty_trees (more t ts)) (more p ps) b) [] ≡ []
      first f g None q = rw q g
      first f g (Some c) q = rw q (f c)

pub empty_trees_have_empty_lifts : EmptyTreesHaveEmptyLifts
empty_trees_have_empty_lifts h t images F m =
    (λ f b. lift-is h (empty_tree t) images m F f b ∙ lift-empty t (placement_of images) b, λ e. is-lift h (empty_tree t) images m F (λ b. e b ∙ sym (lift-empty t (placement_of images) b)))

-- ---- pushes and pops
maps_stay-push : (h : ℕ) (t : SourceTree) (images : Tree Address) (digits ranks : List ℕ) (item : ℕ) → Maps h t images → Maps h (push t digits ranks item) images
maps_stay-push h t images digits ranks item m = record {
  shape = same_shape (push t digits ranks item) images (topology_of-push t digits ranks item ∙ topology_of-same t images m.shape);
  good = m.good;
}

maps_stay-pop : (h : ℕ) (t : SourceTree) (images : Tree Address) (r : Popping SourceTree) → pop t ≡ Some r → Maps h t images → Maps h r.left images
maps_stay-pop h t images r p m = record { shape = same_shape r.left images (topology_of-pop t r p ∙ topology_of-same t images m.shape); good = m.good }

pub maps_stay : MapsStay
maps_stay = record { push = maps_stay-push; pop = maps_stay-pop }

leaf_agrees : (h : ℕ) (t : SourceTree) (images : Tree Address) (digits : Address) → Maps h t images → LeadsToLeaf t digits → image_map images digits ≡ lift_digits (placement_of images) digits
leaf_agrees h t images digits m l = let q : (q : Queue) × _ = leaf_at t digits l in agrees h t images m digits (leaf q.0, q.1)

pub pushes_of_lifts_are_lifts : PushesOfLiftsAreLifts
pushes_of_lifts_are_lifts h t images F G digits ranks item m l f g =
    let p : Placement = placement_of images in
    let e : F ≡ lift t p = fun_ext (lift-is h t images m F f) in
    is-lift h (push t digits ranks item) images (maps_stay-push h t images digits ranks item m) G (λ b.
    g b
    ∙ ap (λ (z : Address). push_along z (lift_ranks images digits ranks) item F b) (leaf_agrees h t images digits m l)
    ∙ ap (λ (z : List ℕ). push_along (lift_digits p digits) z item F b) (ranks-relative 0 images digits ranks)
    ∙ ap (λ (Z : Family). push_along (lift_digits p digits) (placed_ranks p digits ranks) item Z b) e
    ∙ sym (lift-push t p digits ranks item b (is_placed h t images m) (shape h t images m) l))

module _ (h : ℕ) (t : SourceTree) (images : Tree Address) (F : Family) (m : Maps h t images) (w : IsWellFormed t) (f : IsLift t (image_map images) F) where
  pops_lifted : pop_along h F ≡ option_map (lifted (placement_of images)) (pop t)
  pops_lifted =
      let n : h - length (root_of images) ≡ h = omega (arith, ap length m.good.root) in
      let k : IsOfHeight (placement_of images) h = subst (IsOfHeight (placement_of images)) n (high h 0 images m.good.deep) in
      ap (pop_along h) (fun_ext (lift-is h t images m F f)) ∙ lift-pop t (placement_of images) h (is_placed h t images m) (shape h t images m) k (in_range t w)

  lifted_pop : (r : Popping SourceTree) → pop t ≡ Some r → IsLiftedPop images r (lifted (placement_of images) r)
  lifted_pop r e = record {
    value = refl;
    digits = sym (leaf_agrees h t images r.digits m (pop-path t r e).leaf_address);
    ranks = sym (ranks-relative 0 images r.digits r.ranks);
    left = is-lift h r.left images (maps_stay-pop h t images r e m) (lift r.left (placement_of images)) (λ b. refl);
  }

pub pops_of_lifts_are_lifted_pops : PopsOfLiftsAreLiftedPops
pops_of_lifts_are_lifted_pops h t images F m w f = record {
  nothing = λ e. pops_lifted h t images F m w f ∙ ap (option_map (lifted (placement_of images))) e;
  packet = λ r e. (
    lifted (placement_of images) r,
    pops_lifted h t images F m w f ∙ ap (option_map (lifted (placement_of images))) e,
    lifted_pop h t images F m w f r e,
  );
}
