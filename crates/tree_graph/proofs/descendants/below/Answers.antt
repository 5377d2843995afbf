use Rattle.tree_graph.proofs.Prelude.{arith, ℕ, length, ap, sym, ◌<◌, ◌≡◌, subst, ◌∙◌, List, [], ◌++◌, take, Bool, drop, All, lists, MarksBelow, MarksMore}
use Rattle.tree_graph.proofs.MarkLemmas.{popped-within, length-lists, children-within, worked, given_back, marking-done, empty}
use Rattle.tree_graph.proofs.descendants.below.Goals as goal

pub bounds-graph-next : goal.bounds-graph-next
bounds-graph-next c = popped-within c.args.graph.now c.args.node c.in-Some.next _ _ c.pop.new.self.items c.requires.within c.requires.in_range c.loop-next.invariant c.in-Some.ensures.items

pub mark_all-requires : goal.mark_all-requires
mark_all-requires c =
    let size : length c.as_mut_slice.result.now ≡ length c.args.graph.now = ap length c.as_mut_slice.ensures.value ∙ c.loop-next.invariant.len ∙ length-lists c.args.graph.now in
    subst (λ (l : List ℕ). All (λ i. i < length c.as_mut_slice.result.now) l) (sym c.as_slice.ensures.value)
    (children-within c.args.graph.now c.in-Some.next c.index-graph-next.result (length c.as_mut_slice.result.now) c.requires.in_range (popped-within c.args.graph.now c.args.node c.in-Some.next _ _ c.pop.new.self.items c.requires.within c.requires.in_range c.loop-next.invariant c.in-Some.ensures.items) c.index-graph-next.is size)

pub loop-next-preserved : goal.loop-next-preserved
loop-next-preserved c =
    let back : take c.loop-next.marks.len (c.mark_all.new.marks ++ drop (length c.mark_all.new.marks) c.loop-next.marks.items) ≡ c.mark_all.new.marks =
    given_back c.loop-next.marks.len c.mark_all.new.marks c.loop-next.marks.items (omega (arith, c.in_ok-mark_all.ensures.len, ap length c.as_mut_slice.ensures.value, c.loop-next.marks.ok)) (omega (arith, c.loop-next.marks.ok)) in
    subst (λ (m : List Bool). MarksBelow (lists c.args.graph.now) c.args.node m c.mark_all.new.work.items) (sym back)
    (worked c.args.graph.now c.args.node c.in-Some.next c.index-graph-next.result c.loop-next.marks.items c.as_mut_slice.result.now c.mark_all.new.marks c.loop-next.work.items c.pop.new.self.items c.mark_all.new.work.items
    c.loop-next.invariant c.in-Some.ensures.items (popped-within c.args.graph.now c.args.node c.in-Some.next _ _ c.pop.new.self.items c.requires.within c.requires.in_range c.loop-next.invariant c.in-Some.ensures.items) c.index-graph-next.is c.as_mut_slice.ensures.value
    (subst (λ (l : List ℕ). MarksMore l c.as_mut_slice.result.now c.pop.new.self.items c.mark_all.new.marks c.mark_all.new.work.items) c.as_slice.ensures.value c.in_ok-mark_all.ensures))

pub returns-clause-marks : goal.returns-clause-marks
returns-clause-marks c =
    let none : c.loop-next.work.items ≡ [] = empty c.loop-next.work.items (omega (arith, c.loop-next.work.ok, c.in_default.ensures.cases.0)) in
    marking-done (lists c.args.graph.now) c.args.node c.loop-next.marks.items (subst (λ (w : List ℕ). MarksBelow (lists c.args.graph.now) c.args.node c.loop-next.marks.items w) none c.loop-next.invariant)
