-- The lifted path of an arriving packet, and the ranks that it lifts.
use Rattle.sched_embedded.proofs.Prelude.{sym, ℕ, ◌∙◌, ap, ◌≡◌, subst, List, length, Some, map, ◌+◌, ◌<◌, AllByRecursion, slice_get, slice_index, IsLiftedPathTo, LiftedPath, AreRanks, IsLeafAddress, image_map, lift_ranks, Packet, Policy, IsSound, SourceState, class_of, arrival_ranks, arrives_at_a_leaf, Way, topology_of, LeadsToLeaf, Laid, HasLiftedPaths}
use Rattle.std.specs.Prelude.{slice_index_or}
use Rattle.std.proofs.lemmas.Option.{slice_get_read}
use Rattle.embed_core.proofs.PathLifts.{lifted-lift, lifted-within}
use Rattle.policy_defs.specs.Accepted.{IsAccepted}
use Rattle.sched_defs.specs.Events.{CanArrive}
use Rattle.sched_embedded.proofs.LowRanks.{lifted-low}
use Rattle.sched_embedded.proofs.MapShapes.{same_leaves, sound-shape, leaf_long}

-- a path to a leaf of the tree, with a rank for each node on it, and the lifted path to that leaf
pub record HasLiftedPath (l : Laid) (lifted_path : LiftedPath) (way : Way) : Type 0 where
  pub path_leads : IsLiftedPathTo l.images way.digits lifted_path
  pub leaf : LeadsToLeaf l.images way.digits
  pub one_more : length way.ranks ≡ length way.digits + 1
  pub low : AreRanks way.ranks

-- a packet's path has the lifted path of its class
pub has-lifted_path : (policy : Policy) (p : Packet) (s : SourceState) (l : Laid) (lifted_paths : List LiftedPath) (lifted_path : LiftedPath) → IsAccepted policy → IsSound policy s → CanArrive policy s p
    → topology_of policy.tree ≡ topology_of l.images → HasLiftedPaths l.images policy lifted_paths → lifted_path ≡ slice_index_or lifted_paths p.class lifted_path
    → (way : Way) → way.digits ≡ (class_of policy p).leaf → way.ranks ≡ arrival_ranks policy p s → HasLiftedPath l lifted_path way
has-lifted_path policy p s l lifted_paths lifted_path accepted sound can shape has at way digits ranks =
    let there : slice_get lifted_paths p.class ≡ Some lifted_path = slice_get_read lifted_paths (length policy.classes) p.class lifted_path (sym has.whole) can.known.class at in
    let arrives = arrives_at_a_leaf policy p s accepted sound can in
    let leads : LeadsToLeaf l.images (class_of policy p).leaf = same_leaves s.tree l.images (class_of policy p).leaf (sound-shape policy s l.images sound shape) arrives.leaf_address in
    record {
      path_leads = subst (λ (a : List ℕ). IsLiftedPathTo l.images a lifted_path) (sym digits) (has.each p.class lifted_path there);
      leaf = subst (λ (a : List ℕ). LeadsToLeaf l.images a) (sym digits) leads;
      one_more = ap (λ (z : List ℕ). length z) ranks ∙ arrives.ranks.count ∙ ap (λ (z : List ℕ). length z + 1) (sym digits);
      low = subst (λ (z : List ℕ). AreRanks z) (sym ranks) arrives.ranks.low;
    }

module _ (l : Laid) (lifted_path : LiftedPath) (way : Way) (has : HasLiftedPath l lifted_path way) where
  -- each step of the lifted path is one of the path
  pub steps-within : AllByRecursion (λ step. step < length way.ranks) lifted_path.steps.items
  steps-within = subst (λ (k : ℕ). AllByRecursion (λ step. step < k) lifted_path.steps.items) (sym has.one_more) (lifted-within l.images way.digits lifted_path has.path_leads)

  -- the ranks that the lifted path lifts are those of the map
  pub lifted_path-lifts : (given lifted : List ℕ) → given ≡ way.ranks → lifted ≡ map (slice_index given) lifted_path.steps.items → lifted ≡ lift_ranks l.images way.digits way.ranks
  lifted_path-lifts given lifted e f = f ∙ ap (λ (z : List ℕ). map (slice_index z) lifted_path.steps.items) e ∙ lifted-lift l.images way.digits lifted_path has.path_leads way.ranks has.one_more

  pub lifts-low : AreRanks (lift_ranks l.images way.digits way.ranks)
  lifts-low = lifted-low l.images way.digits way.ranks has.low

  module _ (leaves : (a : List ℕ) → LeadsToLeaf l.images a → IsLeafAddress l.arities (image_map l.images a)) where
    -- the lifted path's image is a leaf of the complete tree
    pub image-leaf : IsLeafAddress l.arities lifted_path.image.items
    image-leaf = subst (IsLeafAddress l.arities) (sym has.path_leads.image) (leaves way.digits has.leaf)

    pub steps-long : length lifted_path.steps.items ≡ length l.arities + 1
    steps-long = has.path_leads.long ∙ ap (λ (k : ℕ). k + 1) (leaf_long l.arities lifted_path.image.items image-leaf)
