use Rattle.tree_graph.proofs.Prelude.{arith, ℕ, length, ap, sym, ◌<◌, ◌≡◌, subst, ◌∙◌, List, [], suc, ◌∷◌, ◌≤◌, ◌++◌, get_or, length-append, map, rules, topology, lists, IsChild, children, IsWithin, HasRoom, Row, row}
use Rattle.tree_graph.proofs.MarkLemmas.{length-lists}
use Rattle.tree_graph.proofs.GrowthLemmas.{growing-start, grown, closed, child-here, children-here, popped-off, within-child, child-within, room-child, room-here, digit-small}
use Rattle.tree_graph.proofs.growth.+grow.Goals as goal

pub loop-digit-init : goal.loop-digit-init
loop-digit-init t c =
    growing-start (lists c.args.graph.now) c.args.node c.len-number.result c.args.address.now.items c.deref-child-items.result.now c.args.places.now.items c.push.new.self.items c.args.address.now.items c.new-children.result.items (map topology c.new-topos.result.items)
    (c.in_ok-push.ensures.items ∙ ap (λ (p : Row). c.args.places.now.items ++ p ∷ []) (c.new.ensures.row ∙ ap (λ (a : List ℕ). row c.args.node a []) (c.in_ok-own.ensures.items ∙ c.as_slice.ensures.value)))
    c.new-children.ensures.items (λ i. c.args.address.now.items) (ap (map topology) c.new-topos.ensures.items)

pub overflow_cast-len : goal.overflow_cast-len
overflow_cast-len t c =
    let same : c.deref-child-items.result.now ≡ children (lists c.args.graph.now) c.args.node = children-here c.args.graph.now c.args.node c.index-graph-node.result c.deref-child-items.result.now c.requires.within c.index-graph-node.is c.deref-child-items.ensures.value in
    let at : c.len-number.result ≡ length c.args.places.now.items = omega (arith, c.len-number.ensures, c.args.places.now.ok) in
    let room : HasRoom (lists c.args.graph.now) c.args.node c.len-number.result (length c.args.graph.now) = subst (λ (n : ℕ). HasRoom (lists c.args.graph.now) c.args.node n (length c.args.graph.now)) (sym at) c.requires.room in
    let here : length c.loop-digit.places.items < length c.args.graph.now =
    room-here (lists c.args.graph.now) (get_or c.deref-child-items.result.now c.loop-digit.digit 0) _ _
    (room-child (lists c.args.graph.now) c.args.node c.len-number.result c.args.address.now.items c.deref-child-items.result.now c.loop-digit.digit c.args.places.now.items c.loop-digit.places.items c.loop-digit.address.items c.loop-digit.children.items (map topology c.loop-digit.topos.items) _ at c.loop-digit-test.true same c.loop-digit.invariant room) in
    omega (arith, here, c.requires.small, c.len.ensures, c.loop-digit.places.ok)

pub overflow_cast-digit : goal.overflow_cast-digit
overflow_cast-digit t c =
    let same : c.deref-child-items.result.now ≡ children (lists c.args.graph.now) c.args.node = children-here c.args.graph.now c.args.node c.index-graph-node.result c.deref-child-items.result.now c.requires.within c.index-graph-node.is c.deref-child-items.ensures.value in
    let at : c.len-number.result ≡ length c.args.places.now.items = omega (arith, c.len-number.ensures, c.args.places.now.ok) in
    let room : HasRoom (lists c.args.graph.now) c.args.node c.len-number.result (length c.args.graph.now) = subst (λ (n : ℕ). HasRoom (lists c.args.graph.now) c.args.node n (length c.args.graph.now)) (sym at) c.requires.room in
    let here : c.loop-digit.digit < length c.args.graph.now =
    digit-small (lists c.args.graph.now) c.args.node c.len-number.result c.args.address.now.items c.deref-child-items.result.now c.loop-digit.digit c.args.places.now.items c.loop-digit.places.items c.loop-digit.address.items c.loop-digit.children.items (map topology c.loop-digit.topos.items) _ at c.loop-digit-test.true same c.loop-digit.invariant room in
    omega (arith, here, c.requires.small)

pub grow-requires : goal.grow-requires
grow-requires t c =
    let same : c.deref-child-items.result.now ≡ children (lists c.args.graph.now) c.args.node = children-here c.args.graph.now c.args.node c.index-graph-node.result c.deref-child-items.result.now c.requires.within c.index-graph-node.is c.deref-child-items.ensures.value in
    let at : c.len-number.result ≡ length c.args.places.now.items = omega (arith, c.len-number.ensures, c.args.places.now.ok) in
    let room : HasRoom (lists c.args.graph.now) c.args.node c.len-number.result (length c.args.graph.now) = subst (λ (n : ℕ). HasRoom (lists c.args.graph.now) c.args.node n (length c.args.graph.now)) (sym at) c.requires.room in
    let child : IsChild (lists c.args.graph.now) c.args.node (get_or c.deref-child-items.result.now c.loop-digit.digit 0) =
    child-here c.args.graph.now c.args.node c.index-graph-node.result c.deref-child-items.result.now c.loop-digit.digit c.requires.within c.index-graph-node.is c.deref-child-items.ensures.value c.loop-digit-test.true in
    let longer : length c.push-in-loop-digit-2.new.self.items ≡ suc (length c.args.address.now.items) =
    ap length c.in_ok-push-3.ensures.items ∙ length-append c.loop-digit.address.items (c.loop-digit.digit ∷ []) ∙ omega (arith, ap length c.loop-digit.invariant.address_is) in
    let left : suc (length c.args.address.now.items) ≤ 64 = child-within (lists c.args.graph.now) c.args.node _ 64 (length c.args.address.now.items) c.requires.shallow child in
    let inside : get_or c.deref-child-items.result.now c.loop-digit.digit 0 < length (lists c.args.graph.now) = c.requires.in_range c.args.node _ child in (
      search rules,
      (
        omega (arith, inside, length-lists c.args.graph.now),
        (
          c.requires.in_range,
          (
            c.requires.small,
            (
              subst (λ (n : ℕ). IsWithin (lists c.args.graph.now) (get_or c.deref-child-items.result.now c.loop-digit.digit 0) 64 n) (sym longer) (within-child (lists c.args.graph.now) c.args.node _ 64 (length c.args.address.now.items) c.requires.shallow child),
              room-child (lists c.args.graph.now) c.args.node c.len-number.result c.args.address.now.items c.deref-child-items.result.now c.loop-digit.digit c.args.places.now.items c.loop-digit.places.items c.loop-digit.address.items c.loop-digit.children.items (map topology c.loop-digit.topos.items) _ at c.loop-digit-test.true same c.loop-digit.invariant room,
            ),
          ),
        ),
      ),
    )

pub loop-digit-preserved : goal.loop-digit-preserved
loop-digit-preserved t c =
    grown topology (lists c.args.graph.now) c.args.node c.len-number.result c.args.address.now.items c.deref-child-items.result.now c.loop-digit.digit c.args.places.now.items c.loop-digit.places.items c.grow.new.places.items
    c.loop-digit.address.items c.pop.new.self.items c.push-in-loop-digit-2.new.self.items c.loop-digit.children.items c.push-in-loop-digit.new.self.items c.len.result c.loop-digit.topos.items c.push-in-loop-digit-3.new.self.items c.in_ok-grow.field-0
    (omega (arith, c.len-number.ensures, c.args.places.now.ok)) c.loop-digit-test.true c.loop-digit.invariant c.in_ok-push-3.ensures.items c.in_ok-grow.ensures.grown
    (popped-off c.grow.new.address.items c.pop.new.self.items c.loop-digit.address.items c.grow.new.address.len c.loop-digit.digit (c.in_ok-grow.ensures.address ∙ c.in_ok-push-3.ensures.items) (omega (arith, c.grow.new.address.ok)) c.pop.ensures.rest)
    c.in_ok-push-2.ensures.items (omega (arith, c.len.ensures, c.loop-digit.places.ok)) c.in_ok-push-4.ensures.items

pub returns-clause-grown : goal.returns-clause-grown
returns-clause-grown t c =
    closed (lists c.args.graph.now) c.args.node c.len-number.result c.args.address.now.items c.deref-child-items.result.now c.loop-digit.digit c.args.places.now.items c.loop-digit.places.items c.loop-digit.address.items c.loop-digit.children.items
    (map topology c.loop-digit.topos.items) (topology c.shape.result) c.index_mut-place.result.now c.set_children.new.self
    (omega (arith, c.len-number.ensures, c.args.places.now.ok)) c.loop-digit-test.false (children-here c.args.graph.now c.args.node c.index-graph-node.result c.deref-child-items.result.now c.requires.within c.index-graph-node.is c.deref-child-items.ensures.value)
    c.loop-digit.invariant c.index_mut-place.ensures.value c.set_children.ensures.row c.shape.ensures.topology
