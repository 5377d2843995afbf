use Rattle.embed_core.proofs.Prelude.{◌≡◌, length, arith, sym, ◌∙◌, List, subst, ◌<◌, [], ◌≤◌, get_or, ◌∷◌, ◌++◌, map, take, rules, take_all, needs_at, enough, topology_inner, are_branched, child_branched, child_smaller, topology, Topo, IsBranched, trees_of, root_of, nodes, levels_of}
use Rattle.embed_core.proofs.TargetArities.{wide}
use Rattle.embed_core.proofs.ChildNeeds.{AreNeedsOfEach, one_more, needs-push, few_needs, all_needs}
use Rattle.embed_core.proofs.needs.Needs.+of.Goals as goal

pub of-requires : goal.of-requires
of-requires t c =
    let at : c.loop-child.child-index < length c.in-Inner.inner.items = search rules in
    let child : c.child-item.result ≡ get_or c.in-Inner.inner.items c.loop-child.child-index c.child-item.result
    = subst (λ (z : List Topo). c.child-item.result ≡ get_or z c.loop-child.child-index c.child-item.result) c.deref-child-items.ensures.value c.child-item.is in
    let smaller : nodes (topology c.child-item.result) < nodes (topology c.args.topo.now)
    = child_smaller c.args.topo.now c.in-Inner.inner c.child-item.result c.loop-child.child-index c.in-Inner.is at child in (
      search rules,
      (
        child_branched c.in-Inner.inner.items c.loop-child.child-index c.child-item.result (are_branched _ _ (subst IsBranched (topology_inner _ _ c.in-Inner.is) c.requires.branched)) at child,
        (omega (arith, c.requires.few), c.requires.range),
      ),
    )

pub loop-child-preserved : goal.loop-child-preserved
loop-child-preserved t c =
    let e : c.push-in-loop-child.new.self.items ≡ c.loop-child.children.items ++ c.in_ok-below-in-Inner.below ∷ [] = c.in_ok-push-in-Inner-2.ensures.items in
    let f : c.push.new.self.items ≡ c.loop-child.needs.items ++ c.need.result ∷ [] = c.in_ok-push-in-Inner.ensures.items in
    let g : c.need.result ≡ root_of c.in_ok-below-in-Inner.below = c.need.ensures.need in
    record {
      each = rw e (one_more (levels_of c.args.target.now) c.deref-child-items.result.now c.loop-child.child-index c.child-item.result c.loop-child.children.items c.in_ok-below-in-Inner.below (search rules) c.child-item.is c.loop-child.invariant.each c.in_ok-below-in-Inner.ensures.needs);
      listed = rw (e, f, g, c.loop-child.invariant.listed) (sym (needs-push c.loop-child.children.items c.in_ok-below-in-Inner.below));
    }

pub least_above-requires-clause-few : goal.least_above-requires-clause-few
least_above-requires-clause-few t c =
    let all : take c.loop-child.child-index c.deref-child-items.result.now ≡ c.in-Inner.inner.items = take_all _ _ (omega arith) ∙ c.deref-child-items.ensures.value in
    let each : AreNeedsOfEach (levels_of c.args.target.now) (map topology c.in-Inner.inner.items) c.loop-child.children.items
    = subst (λ (z : List Topo). AreNeedsOfEach (levels_of c.args.target.now) (map topology z) c.loop-child.children.items) all c.loop-child.invariant.each in
    let e : c.deref.result.now ≡ needs_at (trees_of c.loop-child.children.items) = c.deref.ensures.value ∙ c.loop-child.invariant.listed in
    let l : enough (needs_at (trees_of c.loop-child.children.items)) ≤ nodes (topology c.args.topo.now)
    = few_needs (levels_of c.args.target.now) c.args.topo.now c.in-Inner.inner c.in-Inner.is c.loop-child.children.items each (wide c.args.target.now c.requires.range) in
    rw e (omega (arith, l, c.requires.few))

pub returns-after-loop-child : goal.returns-after-loop-child
returns-after-loop-child t c =
    let all_items : take c.loop-child.child-index c.deref-child-items.result.now ≡ c.in-Inner.inner.items = take_all _ _ (omega arith) ∙ c.deref-child-items.ensures.value in
    let each : AreNeedsOfEach (levels_of c.args.target.now) (map topology c.in-Inner.inner.items) c.loop-child.children.items
    = subst (λ (z : List Topo). AreNeedsOfEach (levels_of c.args.target.now) (map topology z) c.loop-child.children.items) all_items c.loop-child.invariant.each in
    let e : c.deref.result.now ≡ needs_at (trees_of c.loop-child.children.items) = c.deref.ensures.value ∙ c.loop-child.invariant.listed in
    record { needs = all_needs (levels_of c.args.target.now) c.args.topo.now c.in-Inner.inner c.in-Inner.is c.loop-child.children.items each c.least_above.result c.requires.branched (rw e at c.least_above.ensures.least) }
