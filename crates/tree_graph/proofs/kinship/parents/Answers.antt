use Rattle.tree_graph.proofs.Prelude.{arith, ℕ, length, ap, sym, ◌<◌, ◌≡◌, subst, ◌∙◌, List, ◌+◌, ◌++◌, take, drop, All, lists, children, ArePointed}
use Rattle.tree_graph.proofs.MarkLemmas.{length-lists, children-at, children-within, given_back}
use Rattle.tree_graph.proofs.ParentLemmas.{ArePointedTo, pointed-on, pointed-all}
use Rattle.tree_graph.proofs.kinship.parents.Goals as goal

pub point_to-requires : goal.point_to-requires
point_to-requires c =
    let size : length c.as_mut_slice.result.now ≡ length c.args.graph.now = ap length c.as_mut_slice.ensures.value ∙ c.loop-node.invariant.len ∙ length-lists c.args.graph.now in
    subst (λ (l : List ℕ). All (λ i. i < length c.as_mut_slice.result.now) l) (sym c.as_slice.ensures.value)
    (children-within c.args.graph.now c.loop-node.node c.index-graph-node.result (length c.as_mut_slice.result.now) c.requires.in_range c.loop-node-test.true c.index-graph-node.is size)

pub loop-node-preserved : goal.loop-node-preserved
loop-node-preserved c =
    let back : take c.loop-node.parents.len (c.point_to.new.parents ++ drop (length c.point_to.new.parents) c.loop-node.parents.items) ≡ c.point_to.new.parents =
    given_back c.loop-node.parents.len c.point_to.new.parents c.loop-node.parents.items (omega (arith, c.point_to.ensures.len, ap length c.as_mut_slice.ensures.value, c.loop-node.parents.ok)) (omega (arith, c.loop-node.parents.ok)) in
    let own : c.as_slice.result.now ≡ children (lists c.args.graph.now) c.loop-node.node = c.as_slice.ensures.value ∙ sym (children-at c.args.graph.now c.loop-node.node c.index-graph-node.result c.loop-node-test.true c.index-graph-node.is) in
    let pointed : ArePointed c.loop-node.node (children (lists c.args.graph.now) c.loop-node.node) c.loop-node.parents.items c.point_to.new.parents =
    subst (λ (l : List ℕ). ArePointed c.loop-node.node l c.loop-node.parents.items c.point_to.new.parents) own (subst (λ (l : List ℕ). ArePointed c.loop-node.node c.as_slice.result.now l c.point_to.new.parents) c.as_mut_slice.ensures.value c.point_to.ensures) in
    subst (λ (l : List ℕ). ArePointedTo (lists c.args.graph.now) (c.loop-node.node + 1) l) (sym back)
    (pointed-on (lists c.args.graph.now) c.loop-node.node c.loop-node.parents.items c.point_to.new.parents (omega (arith, c.loop-node-test.true, length-lists c.args.graph.now)) c.loop-node.invariant pointed)

pub returns-clause-parents : goal.returns-clause-parents
returns-clause-parents c = pointed-all (lists c.args.graph.now) c.loop-node.node c.loop-node.parents.items (omega (arith, c.loop-node-test.false, length-lists c.args.graph.now)) c.loop-node.invariant
