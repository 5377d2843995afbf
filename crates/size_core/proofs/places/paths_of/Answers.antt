use Rattle.size_core.proofs.Prelude.{◌≡◌, ◌∙◌, ℕ, length, sym, ap, List, subst, ◌+◌, IfSome, [], ◌∷◌, length-append, slice_get, Vec, image_map, leaf_of, Address, LeadsToLeaf, IsPathTo, addresses, add_paths, add_path, Hop}
use Rattle.std.specs.declared.alloc.Global.{Global}
use Rattle.sched_embedded.proofs.ClassPaths.{leaf-told, leaf-leads}
use Rattle.size_core.proofs.PlaceLaws.{paths-more}
use Rattle.size_core.proofs.Lists.{each_push, each_weaker, path-grows}
use Rattle.size_core.proofs.places.paths_of.Goals as goal

pub path_to-requires-clause-leaf : goal.path_to-requires-clause-leaf
path_to-requires-clause-leaf c =
    subst (LeadsToLeaf c.args.map.now) (sym c.address.ensures.address)
    (leaf-leads _ c.args.policy.now.policy c.classes-class-items.result.now c.loop-class.class-index c.class-item.result c.classes-class-items.ensures.classes c.loop-class-test.true c.class-item.is c.args.map.now c.classes-class-items.ensures.accepted c.requires.shape)

pub loop-class-preserved : goal.loop-class-preserved
loop-class-preserved c =
    let l = c.loop-class in
    let leaf = leaf_of c.args.policy.now.policy in
    let images = c.args.map.now in
    let base = addresses c.args.known.now.keys in
    let paths : ℕ → Address = λ n. image_map images (leaf n) in
    let after = c.path_to.new.known.keys in
    let told : leaf l.class-index ≡ c.address.result.now
    = leaf-told _ c.args.policy.now.policy c.classes-class-items.result.now l.class-index c.class-item.result c.classes-class-items.ensures.classes c.loop-class-test.true c.class-item.is ∙ sym c.address.ensures.address in
    let P : ℕ → Vec Hop Global → Type 0 = λ n hops. IsPathTo after images (leaf n) hops.items in
    let own : P (length l.paths.items) c.in_ok-path.path = subst (λ (z : Address). IsPathTo after images z c.in_ok-path.path.items) (sym (ap leaf l.invariant.many ∙ told)) c.in_ok-path.ensures.path in
    let before : (n : ℕ) → IfSome (slice_get l.paths.items n) (P n)
    = each_weaker (λ n hops. IsPathTo l.known.keys images (leaf n) hops.items) P l.paths.items l.invariant.each
    (λ n hops to. record { steps = to.steps; path = path-grows l.known.keys after (image_map images (leaf n)) to.steps hops.items c.path_to.ensures.grows to.path; lifts = to.lifts }) in
    record {
      many = ap (λ (z : List (Vec Hop Global)). length z) c.in_ok-push.ensures.items ∙ length-append l.paths.items (c.in_ok-path.path ∷ []) ∙ ap (λ (n : ℕ). n + 1) l.invariant.many;
      each = subst (λ (z : List (Vec Hop Global)). (n : ℕ) → IfSome (slice_get z n) (P n)) (sym c.in_ok-push.ensures.items) (each_push P l.paths.items c.in_ok-path.path before own);
      added = c.in_ok-path.ensures.added
          ∙ ap (λ (z : List Address). add_path z (image_map images c.address.result.now)) l.invariant.added
          ∙ ap (λ (a : Address). add_path (add_paths paths l.class-index base) (image_map images a)) (sym told)
          ∙ sym (paths-more paths l.class-index base);
      grows = λ i b e. c.path_to.ensures.grows i b (l.invariant.grows i b e);
    }
