-- The source tree and its spills after a packet's lifted ranks were pushed into the fabric along the packet's lifted path.
use Rattle.sched_embedded.proofs.Prelude.{ℕ, ◌∙◌, ap, ◌≡◌, subst, List, length, Option, Family, push_along, spills_along, SameQueues, IsGoodMap, image_map, IsLift, lift_ranks, LiftedPath, push_spills, raised, Packet, Policy, SourceState, class_of, arrival_ranks, SourceTree, push, Way, Laid, HoldsLift}
use Rattle.sched_embedded.proofs.LiftMoves.{pushed, spilled}
use Rattle.sched_embedded.proofs.PushedPaths.{HasLiftedPath}

module _ (policy : Policy) (p : Packet) (s : SourceState) (l : Laid) (good : IsGoodMap (length l.arities) l.images) (before : Family) (held : HoldsLift l before s.tree)
    (lifted_path : LiftedPath) (way : Way) (has : HasLiftedPath l lifted_path way) (digits : way.digits ≡ (class_of policy p).leaf) (ranks : way.ranks ≡ arrival_ranks policy p s)
    (at given : List ℕ) (image : at ≡ lifted_path.image.items) (lifted : given ≡ lift_ranks l.images way.digits way.ranks)
  where
    at-image : at ≡ image_map l.images way.digits
    at-image = image ∙ has.path_leads.image

    pub arrived-tree : (after : Family) → SameQueues after (push_along at given p.number before) → IsLift (push s.tree (class_of policy p).leaf (arrival_ranks policy p s) p.number) (image_map l.images) after
    arrived-tree after same =
        let tree : push s.tree way.digits way.ranks p.number ≡ push s.tree (class_of policy p).leaf (arrival_ranks policy p s) p.number
        = ap (λ (z : List ℕ). push s.tree z way.ranks p.number) digits ∙ ap (λ (z : List ℕ). push s.tree (class_of policy p).leaf z p.number) ranks in
        subst (λ (t : SourceTree). IsLift t (image_map l.images) after) tree
        (pushed l good before s.tree held way.digits way.ranks p.number after has.leaf
        (λ b. same b
        ∙ ap (λ (z : List ℕ). push_along z given p.number before b) at-image
        ∙ ap (λ (z : List ℕ). push_along (image_map l.images way.digits) z p.number before b) lifted)).lifted

    pub arrived-spills : (told : Option ℕ) → raised told (spills_along at given before) ≡ raised told (push_spills l.images s.tree (class_of policy p).leaf (arrival_ranks policy p s))
    arrived-spills told =
        ap (λ (z : List ℕ). raised told (spills_along z given before)) at-image
        ∙ ap (λ (z : List ℕ). raised told (spills_along (image_map l.images way.digits) z before)) lifted
        ∙ ap (raised told) (spilled l good before s.tree held way.digits way.ranks has.leaf)
        ∙ ap (λ (z : List ℕ). raised told (push_spills l.images s.tree z way.ranks)) digits
        ∙ ap (λ (z : List ℕ). raised told (push_spills l.images s.tree (class_of policy p).leaf z)) ranks
