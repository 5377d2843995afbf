use Rattle.size_core.proofs.Prelude.{◌≡◌, ◌∙◌, ℕ, length, ap, List, arith, subst, ◌<◌, IfSome, Some, [], refl, slice_get, Vec, image_map, address_at, Laid, leaf_of, Address, IsServed, address_in, IsOnce, IsPathTo, add_paths, name_in, Hop}
use Rattle.std.specs.declared.alloc.Global.{Global}
use Rattle.size_core.proofs.Lists.{some_at, path-inside, in_range, each_weaker}
use Rattle.size_core.proofs.NameLaws.{once, name-is, name-at}
use Rattle.size_core.proofs.sizing.Sizing.new.Goals as goal

pub invariant_of-result : goal.invariant_of-result
invariant_of-result c = record {
  inside = λ n v e.
      let leaf = leaf_of c.args.policy.now.policy n in
      let to : IsPathTo c.paths_of.new.known.keys c.args.map.now leaf v.items
      = some_at (λ n (v : Vec Hop Global). IsPathTo c.paths_of.new.known.keys c.args.map.now (leaf_of c.args.policy.now.policy n) v.items) c.in_ok-class_hops.class_hops.items c.in_ok-class_hops.ensures.each n v e in
      path-inside c.paths_of.new.known.keys (length c.in_ok-nodes.nodes.items) (image_map c.args.map.now leaf) to.steps v.items c.in_ok-nodes.ensures.count to.path;
}

pub returns : goal.returns
returns c =
    let l : Laid = record { images = c.args.map.now; arities = c.args.target.now.arities } in
    let policy = c.args.policy.now.policy in
    let known = c.paths_of.new.known.keys in
    let indices = c.in_ok-indices.indices.items in
    let one : IsOnce known = once known c.len.ensures.unique in
    record {
      unused = record {
        class_hops = c.in_ok-class_hops.ensures.many;
        paths = c.in_ok-class_hops.ensures.each;
        once = one;
        root = c.paths_of.ensures.grows 0 [] c.in_ok-indices.ensures.root;
        places = c.in_ok-class_hops.ensures.added ∙ ap (λ (z : List Address). add_paths (λ n. image_map l.images (leaf_of policy n)) (length policy.classes) z) c.in_ok-indices.ensures.added;
        names = λ i b e.
            let names = c.in_ok-names.names.items in
            let within : i < length names = omega (arith, in_range known i b e, c.in_ok-names.ensures.count, c.len.ensures.len) in
            let each : (n : ℕ) → IfSome (slice_get indices n) (λ k. address_in known k ≡ Some (image_map l.images (address_at policy.tree n)))
            = each_weaker (λ n k. address_in c.images_of.new.known.keys k ≡ Some (image_map l.images (address_at policy.tree n))) (λ n k. address_in known k ≡ Some (image_map l.images (address_at policy.tree n))) indices c.in_ok-indices.ensures.each
            (λ n k. c.paths_of.ensures.grows k (image_map l.images (address_at policy.tree n))) in
            name-is l policy known indices i b (name_in names i) one c.in_ok-indices.ensures.many each e
            (subst (λ (z : List ℕ). IsServed policy.tree z (length z) i (name_in names i)) c.deref.ensures.value
            (name-at names i (IsServed policy.tree c.deref.result.now (length c.deref.result.now) i) within (c.in_ok-names.ensures.each i)));
        nodes = c.in_ok-nodes.ensures.unused;
        count = c.in_ok-nodes.ensures.count;
        limits_are = refl;
        passed = refl;
        height = c.height-2.ensures;
        live = refl;
      };
    }
