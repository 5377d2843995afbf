use Rattle.tree_core.proofs.Prelude.{arith, ◌≡◌, ap, ◌∙◌, get_or, length, ◌<◌, subst, List, [], ◌∷◌, take, rules, map, ◌++◌, take_all, empty_trees, IsBranched, depth, nodes, trees_of, topology, Topo}
use Rattle.tree_core.proofs.NewTrees.{topology_inner, child_branched, child_smaller, child_shallower, are_branched, one_more, EachPushed-push, grown_tree, grown_sound}
use Rattle.tree_core.proofs.tree.SourceTree.+new.Goals as goal

pub new-requires-in-loop-child : goal.new-requires-in-loop-child
new-requires-in-loop-child t c =
    let at : c.loop-child.child-index < length c.in-Inner.inner.items = search rules in
    let child : c.child-item.result ≡ get_or c.in-Inner.inner.items c.loop-child.child-index c.child-item.result = subst (λ (z : List Topo). c.child-item.result ≡ get_or z c.loop-child.child-index c.child-item.result) c.deref-child-items.ensures.value c.child-item.is in
    let smaller : nodes (topology c.child-item.result) < nodes (topology c.args.topo.now) = child_smaller c.args.topo.now c.in-Inner.inner c.child-item.result c.loop-child.child-index c.in-Inner.is at child in
    let shallower : depth (topology c.child-item.result) < depth (topology c.args.topo.now) = child_shallower c.args.topo.now c.in-Inner.inner c.child-item.result c.loop-child.child-index c.in-Inner.is at child in
    (search rules, (omega (arith, shallower, c.requires.levels), child_branched c.in-Inner.inner.items c.loop-child.child-index c.child-item.result (are_branched _ _ (subst IsBranched (topology_inner _ _ c.in-Inner.is) c.requires.branched)) at child))

pub loop-child-preserved : goal.loop-child-preserved
loop-child-preserved t c =
    let items : c.push.new.self.items ≡ c.loop-child.children.items ++ c.in_ok-new-in-Inner.field-0 ∷ [] = c.in_ok-push-in-Inner.ensures.items in
    rw items (
      one_more c.deref-child-items.result.now c.loop-child.child-index c.child-item.result c.loop-child.children.items c.in_ok-new-in-Inner.field-0 (search rules) c.child-item.is c.loop-child.invariant.0 c.in_ok-new-in-Inner.ensures.tree,
      EachPushed-push 0 c.loop-child.children.items c.in_ok-new-in-Inner.field-0 (omega (arith, c.in_ok-new-in-Inner.ensures.pushes)) c.loop-child.invariant.1,
    )

pub invariant_of-result-in-Inner : goal.invariant_of-result-in-Inner
invariant_of-result-in-Inner t c =
    let all : take c.loop-child.child-index c.deref-child-items.result.now ≡ c.in-Inner.inner.items = take_all _ _ (omega arith) ∙ c.deref-child-items.ensures.value in
    grown_sound c.args.topo.now c.in-Inner.inner c.in-Inner.is c.requires.branched c.new-in-Inner.result c.loop-child.children.items c.new-in-Inner.ensures.entries c.new-in-Inner.ensures.pushes (c.loop-child.invariant.0 ∙ ap (λ (z : List Topo). empty_trees (trees_of (map topology z))) all) c.loop-child.invariant.1

pub returns-after-loop-child-clause-tree : goal.returns-after-loop-child-clause-tree
returns-after-loop-child-clause-tree t c =
    let all : take c.loop-child.child-index c.deref-child-items.result.now ≡ c.in-Inner.inner.items = take_all _ _ (omega arith) ∙ c.deref-child-items.ensures.value in
    grown_tree c.args.topo.now c.in-Inner.inner c.in-Inner.is c.requires.branched c.new-in-Inner.result c.loop-child.children.items c.new-in-Inner.ensures.entries c.new-in-Inner.ensures.pushes (c.loop-child.invariant.0 ∙ ap (λ (z : List Topo). empty_trees (trees_of (map topology z))) all)
