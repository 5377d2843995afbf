use Rattle.embed_core.proofs.Prelude.{◌≡◌, length, arith, ◌∙◌, ap, List, subst, ◌<◌, [], get_or, ◌∷◌, drop, ◌++◌, map, rules, length-drop, take_all, topology_inner, are_branched, child_branched, child_smaller, topology, branch, Topo, IsBranched, trees_of, Address, nodes}
use Rattle.embed_core.proofs.PreorderMaps.{AreRead, first-image, leaf-left, next-enough, read-next, inner-tree, inner-left, few-trees}
use Rattle.embed_core.proofs.map.Map.+first_of.Goals as goal

pub first_of-requires : goal.first_of-requires
first_of-requires t c =
    let at : c.loop-child.child-index < length c.in-Inner.inner.items = search rules in
    let child : c.child-item.result ≡ get_or c.in-Inner.inner.items c.loop-child.child-index c.child-item.result
    = subst (λ (z : List Topo). c.child-item.result ≡ get_or z c.loop-child.child-index c.child-item.result) c.deref-child-items.ensures.value c.child-item.is in
    let smaller : nodes (topology c.child-item.result) < nodes (topology c.args.topo.now)
    = child_smaller c.args.topo.now c.in-Inner.inner c.child-item.result c.loop-child.child-index c.in-Inner.is at child in (
      search rules,
      (
        child_branched c.in-Inner.inner.items c.loop-child.child-index c.child-item.result (are_branched _ _ (subst IsBranched (topology_inner _ _ c.in-Inner.is) c.requires.branched)) at child,
        (omega (arith, smaller, c.requires.few), next-enough c.deref-child-items.result.now c.loop-child.child-index c.child-item.result (search rules) c.child-item.is _ _ _ c.loop-child.invariant),
      ),
    )

pub loop-child-preserved : goal.loop-child-preserved
loop-child-preserved t c =
    let e : c.push.new.self.items ≡ c.loop-child.children.items ++ c.in_ok-below-in-Inner.below ∷ [] = c.in_ok-push-in-Inner.ensures.items in
    rw e (read-next c.deref-child-items.result.now c.loop-child.child-index c.child-item.result (search rules) c.child-item.is _ c.loop-child.left.now c.in_ok-below-in-Inner.behind.now c.loop-child.children.items c.in_ok-below-in-Inner.below
    c.in_ok-below-in-Inner.ensures.map c.in_ok-below-in-Inner.ensures.left c.loop-child.invariant)

pub node-requires-in-Inner : goal.node-requires-in-Inner
node-requires-in-Inner t c =
    let r = subst (λ (z : List Topo). AreRead (map topology z) (drop 1 c.args.images.now) c.loop-child.child-index c.loop-child.children.items c.loop-child.left.now) c.deref-child-items.ensures.value c.loop-child.invariant in
    record { few = few-trees c.args.topo.now c.in-Inner.inner c.in-Inner.is c.args.images.now c.loop-child.left.now c.loop-child.child-index c.loop-child.children.items (search rules) r c.requires.few }

pub returns-in_ok-node-in-Leaf-clause-left : goal.returns-in_ok-node-in-Leaf-clause-left
returns-in_ok-node-in-Leaf-clause-left t c = take_all _ _ (omega (arith, length-drop 1 c.args.images.now)) ∙ leaf-left c.args.topo.now c.args.images.now c.in-Leaf.is

pub returns-in_ok-node-in-Inner-clause-map : goal.returns-in_ok-node-in-Inner-clause-map
returns-in_ok-node-in-Inner-clause-map t c =
    let r = subst (λ (z : List Topo). AreRead (map topology z) (drop 1 c.args.images.now) c.loop-child.child-index c.loop-child.children.items c.loop-child.left.now) c.deref-child-items.ensures.value c.loop-child.invariant in
    let image : c.in_ok-image.image.items ≡ get_or c.args.images.now 0 []
    = c.in_ok-image.ensures.items_if_clones_equal (λ x y p. p) ∙ c.as_slice.ensures
    ∙ first-image (topology c.args.topo.now) c.args.images.now c.index-images-0.result c.requires.images c.index-images-0.is in
    c.in_ok-node-in-Inner.ensures.node
    ∙ ap (λ (e : Address). branch e (trees_of c.loop-child.children.items)) image
    ∙ inner-tree c.args.topo.now c.in-Inner.inner c.in-Inner.is c.args.images.now c.loop-child.left.now c.loop-child.child-index c.loop-child.children.items (search rules) r c.requires.branched

pub returns-in_ok-node-in-Inner-clause-left : goal.returns-in_ok-node-in-Inner-clause-left
returns-in_ok-node-in-Inner-clause-left t c =
    let r = subst (λ (z : List Topo). AreRead (map topology z) (drop 1 c.args.images.now) c.loop-child.child-index c.loop-child.children.items c.loop-child.left.now) c.deref-child-items.ensures.value c.loop-child.invariant in
    inner-left c.args.topo.now c.in-Inner.inner c.in-Inner.is c.args.images.now c.loop-child.left.now c.loop-child.child-index c.loop-child.children.items (search rules) r
