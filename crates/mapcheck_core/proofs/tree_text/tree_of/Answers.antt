use Rattle.mapcheck_core.proofs.Prelude.{sym, List, ◌∙◌, ap, [], map, ◌∷◌, ◌++◌, Option, Global, Vec, both_ways, map-append, option_to_list, Item, topology, Topo, Topology}
use Rattle.text_core.specs.declared.item.Item.TheVariants as item
use Rattle.mapcheck_core.proofs.StackLaws.{after_open, after_close, after_leaf}
use Rattle.mapcheck_core.proofs.tree_text.tree_of.Goals as goal
use Rattle.mapcheck_core.proofs.tree_text.tree_of.Goals.{then-opens+in_ok-push, else-opens+then-closes+in-Some+in_ok-push-2, else-opens+else-closes+in_ok-push-3}

abbrev any_item : Item
any_item = item.Word (record { ref_ptr = (0, 0); now = [] })

abbrev shapes : Vec Topo Global → List Topology
shapes v = map topology v.items

abbrev stack_of : Vec (Vec Topo Global) Global → List (List Topology)
stack_of v = map shapes v.items

pub loop-item-preserved : goal.loop-item-preserved
loop-item-preserved c =
    let items = c.args.items.now in
    let i = c.loop-item.item-index in
    let ts = shapes c.loop-item.trees in
    let us = shapes c.if-opens.trees in
    let stack = stack_of c.loop-item.around in
    let rest = stack_of c.if-opens.around in
    elim c.if-opens.branch [
      | then-opens+in_ok-push w ↦
          after_open items i any_item ts us stack rest c.requires.0 c.loop-item-test.true c.requires.1 c.loop-item.invariant (c.opens.ensures.0 w.if-opens.true)
          (ap shapes w.trees-is ∙ ap (map topology) w.new-trees-then-opens.ensures.items)
          (ap stack_of w.around-is ∙ ap (map shapes) w.in_ok-push.ensures.items ∙ map-append shapes c.loop-item.around.items (c.loop-item.trees ∷ []))
      | else-opens+then-closes+in-Some+in_ok-push-2 w ↦
          after_close items i any_item ts us stack rest c.requires.0 c.loop-item-test.true c.requires.1 c.loop-item.invariant (shapes w.in-Some.outer) (w.closes.ensures.0 w.if-closes.true)
          (ap (map shapes) (w.pop.ensures.items ∙ ap (λ (o : Option (Vec Topo Global)). w.pop.new.self.items ++ option_to_list o) w.in-Some.is) ∙ map-append shapes w.pop.new.self.items (w.in-Some.outer ∷ []) ∙ ap (λ (v : Vec (Vec Topo Global) Global). stack_of v ++ shapes w.in-Some.outer ∷ []) (sym w.around-is))
          (ap shapes w.trees-is ∙ ap (map topology) w.in_ok-push-2.ensures.items ∙ map-append topology w.in-Some.outer.items (w.inner-node.result ∷ []) ∙ ap (λ (n : Topology). shapes w.in-Some.outer ++ n ∷ []) w.inner-node.ensures.topology)
      | else-opens+else-closes+in_ok-push-3 w ↦
          after_leaf items i any_item ts us stack rest c.requires.0 c.loop-item-test.true c.requires.1 c.loop-item.invariant
          (λ e. both_ways c.opens.result w.if-opens.false (c.opens.ensures.1 e))
          (λ e. both_ways w.closes.result w.if-closes.false (w.closes.ensures.1 e))
          (ap shapes w.trees-is ∙ ap (map topology) w.in_ok-push-3.ensures.items ∙ map-append topology c.loop-item.trees.items (w.leaf.result ∷ []) ∙ ap (λ (n : Topology). ts ++ n ∷ []) w.leaf.ensures.topology)
          (ap stack_of w.around-is)
    ]
