use Rattle.policy_core.proofs.Prelude.{List, ℕ, ap, sym, subst, ◌∙◌, arith, length, length-map, entries_of, graph_of, Resolved, IsResolved, Graph, lists, IsForest, IsDeep, AreHomes}
use Rattle.tree_graph.specs.Preorder.{Numbered, IsSound}
use Rattle.policy_rules.proofs.KnownPrograms.{shaped_known}
use Rattle.policy_core.proofs.FamilyFaults.{is-forest, is-shallow}
use Rattle.policy_core.proofs.AssembledParts.{root-is, root-small, graph-few, homes-count, parts-made, leaves-there, few-made, catch-all-made, policy_nodes-there, accepted-made, built-in-made, resolved-made}
use Rattle.policy_core.proofs.resolution.assemble.Goals as goal

pub overflow_cast-root : goal.overflow_cast-root
overflow_cast-root c =
    let es = entries_of c.args.lines.now in
    omega (arith, root-small es c.requires.rising c.requires.accepted, root-is es c.args.spaces.now.nodes c.place.result c.unwrap_or-root.result c.requires.accepted c.requires.spaces.nodes_are c.place.ensures c.unwrap_or-root.ensures)

pub new-requires-clause-forest : goal.new-requires-clause-forest
new-requires-clause-forest c =
    let es = entries_of c.args.lines.now in
    subst (λ (g : Graph). IsForest g c.unwrap_or-root.result) (sym c.requires.graph)
    (subst (λ (r : ℕ). IsForest (graph_of es) r) (sym (root-is es c.args.spaces.now.nodes c.place.result c.unwrap_or-root.result c.requires.accepted c.requires.spaces.nodes_are c.place.ensures c.unwrap_or-root.ensures))
    (is-forest es c.requires.rising c.requires.accepted.0.0.0.0))

pub new-requires-clause-shallow : goal.new-requires-clause-shallow
new-requires-clause-shallow c = λ a _ deep.
    let es = entries_of c.args.lines.now in
    is-shallow es c.requires.rising c.requires.accepted.0.0.0 a
    (subst (λ (r : ℕ). IsDeep (graph_of es) r a) (root-is es c.args.spaces.now.nodes c.place.result c.unwrap_or-root.result c.requires.accepted c.requires.spaces.nodes_are c.place.ensures c.unwrap_or-root.ensures)
    (subst (λ (g : Graph). IsDeep g c.unwrap_or-root.result a) c.requires.graph deep))

pub new-requires-clause-small : goal.new-requires-clause-small
new-requires-clause-small c =
    omega (arith, graph-few (entries_of c.args.lines.now) (lists c.args.graph.now) c.requires.rising c.requires.accepted c.requires.graph, length-map c.args.graph.now (λ v. v.items))

pub classes-requires : goal.classes-requires
classes-requires c = record {
  len = homes-count (entries_of c.args.lines.now) c.in_ok-tree.tree.rows c.as_slice.result.now
      (subst (λ (ns : List ℕ). AreHomes (entries_of c.args.lines.now) c.in_ok-tree.tree.rows ns) (sym c.as_slice.ensures.value) c.in_ok-leaves.ensures.homes);
}

pub new-requires-2-clause-few_nodes : goal.new-requires-2-clause-few_nodes
new-requires-2-clause-few_nodes c =
    omega (arith, graph-few (entries_of c.args.lines.now) (lists c.args.graph.now) c.requires.rising c.requires.accepted c.requires.graph, length-map c.args.graph.now (λ v. v.items), c.in_ok-tree.ensures.count)

pub new-requires-2-clause-policy_nodes : goal.new-requires-2-clause-policy_nodes
new-requires-2-clause-policy_nodes c =
    let es = entries_of c.args.lines.now in
    let at = root-is es c.args.spaces.now.nodes c.place.result c.unwrap_or-root.result c.requires.accepted c.requires.spaces.nodes_are c.place.ensures c.unwrap_or-root.ensures in
    let parts = parts-made es (lists c.args.graph.now) c.unwrap_or-root.result c.in_ok-tree.tree c.in_ok-policy_nodes.policy_nodes c.args.programs c.as_slice.result.now _ c.in_ok-classes.classes c.requires.graph at c.in_ok-tree.ensures.tree
    c.requires.programs c.in_ok-policy_nodes.ensures.nodes c.as_slice.ensures.value c.in_ok-leaves.ensures.homes c.in_ok-classes.ensures.classes in
    policy_nodes-there es c.requires.accepted _ _ _ _ _ parts
    (c.in_ok-tree.ensures.count ∙ sym (length-map c.args.graph.now (λ v. v.items)) ∙ ap length c.requires.graph)
    (λ a l. c.in_ok-tree.ensures.once a (omega (arith, l, c.in_ok-tree.ensures.count)))

pub new-requires-2-clause-leaves : goal.new-requires-2-clause-leaves
new-requires-2-clause-leaves c =
    let es = entries_of c.args.lines.now in
    let at = root-is es c.args.spaces.now.nodes c.place.result c.unwrap_or-root.result c.requires.accepted c.requires.spaces.nodes_are c.place.ensures c.unwrap_or-root.ensures in
    let parts = parts-made es (lists c.args.graph.now) c.unwrap_or-root.result c.in_ok-tree.tree c.in_ok-policy_nodes.policy_nodes c.args.programs c.as_slice.result.now _ c.in_ok-classes.classes c.requires.graph at c.in_ok-tree.ensures.tree
    c.requires.programs c.in_ok-policy_nodes.ensures.nodes c.as_slice.ensures.value c.in_ok-leaves.ensures.homes c.in_ok-classes.ensures.classes in
    leaves-there es c.requires.accepted _ _ _ _ _ parts

pub new-requires-2-clause-few : goal.new-requires-2-clause-few
new-requires-2-clause-few c =
    let es = entries_of c.args.lines.now in
    let at = root-is es c.args.spaces.now.nodes c.place.result c.unwrap_or-root.result c.requires.accepted c.requires.spaces.nodes_are c.place.ensures c.unwrap_or-root.ensures in
    let parts = parts-made es (lists c.args.graph.now) c.unwrap_or-root.result c.in_ok-tree.tree c.in_ok-policy_nodes.policy_nodes c.args.programs c.as_slice.result.now _ c.in_ok-classes.classes c.requires.graph at c.in_ok-tree.ensures.tree
    c.requires.programs c.in_ok-policy_nodes.ensures.nodes c.as_slice.ensures.value c.in_ok-leaves.ensures.homes c.in_ok-classes.ensures.classes in
    few-made es c.requires.accepted _ _ _ _ _ parts c.requires.rising

pub new-requires-2-clause-catch_all : goal.new-requires-2-clause-catch_all
new-requires-2-clause-catch_all c =
    let es = entries_of c.args.lines.now in
    let at = root-is es c.args.spaces.now.nodes c.place.result c.unwrap_or-root.result c.requires.accepted c.requires.spaces.nodes_are c.place.ensures c.unwrap_or-root.ensures in
    let parts = parts-made es (lists c.args.graph.now) c.unwrap_or-root.result c.in_ok-tree.tree c.in_ok-policy_nodes.policy_nodes c.args.programs c.as_slice.result.now _ c.in_ok-classes.classes c.requires.graph at c.in_ok-tree.ensures.tree
    c.requires.programs c.in_ok-policy_nodes.ensures.nodes c.as_slice.ensures.value c.in_ok-leaves.ensures.homes c.in_ok-classes.ensures.classes in
    catch-all-made es c.requires.accepted _ _ _ _ _ parts

pub new-requires-2-clause-accepted : goal.new-requires-2-clause-accepted
new-requires-2-clause-accepted c =
    let es = entries_of c.args.lines.now in
    let at = root-is es c.args.spaces.now.nodes c.place.result c.unwrap_or-root.result c.requires.accepted c.requires.spaces.nodes_are c.place.ensures c.unwrap_or-root.ensures in
    let parts = parts-made es (lists c.args.graph.now) c.unwrap_or-root.result c.in_ok-tree.tree c.in_ok-policy_nodes.policy_nodes c.args.programs c.as_slice.result.now _ c.in_ok-classes.classes c.requires.graph at c.in_ok-tree.ensures.tree
    c.requires.programs c.in_ok-policy_nodes.ensures.nodes c.as_slice.ensures.value c.in_ok-leaves.ensures.homes c.in_ok-classes.ensures.classes in
    accepted-made es c.requires.accepted _ _ _ _ _ parts c.version.result c.version.ensures c.requires.rising c.requires.valid
    (shaped_known es c.requires.rising c.requires.accepted.0.0.0.0.0.0.0.0 c.requires.valid).1.1.1.1.1.1
    (subst (λ (p : Numbered). IsSound p.rows p.topology) c.tree.view_is c.tree.invariant)

pub new-requires-2-clause-built_in : goal.new-requires-2-clause-built_in
new-requires-2-clause-built_in c =
    let es = entries_of c.args.lines.now in
    let at = root-is es c.args.spaces.now.nodes c.place.result c.unwrap_or-root.result c.requires.accepted c.requires.spaces.nodes_are c.place.ensures c.unwrap_or-root.ensures in
    let parts = parts-made es (lists c.args.graph.now) c.unwrap_or-root.result c.in_ok-tree.tree c.in_ok-policy_nodes.policy_nodes c.args.programs c.as_slice.result.now _ c.in_ok-classes.classes c.requires.graph at c.in_ok-tree.ensures.tree
    c.requires.programs c.in_ok-policy_nodes.ensures.nodes c.as_slice.ensures.value c.in_ok-leaves.ensures.homes c.in_ok-classes.ensures.classes in
    built-in-made es c.requires.accepted _ _ _ _ _ parts c.version.result c.version.ensures c.requires.valid

pub returns : goal.returns
returns c =
    let es = entries_of c.args.lines.now in
    let at = root-is es c.args.spaces.now.nodes c.place.result c.unwrap_or-root.result c.requires.accepted c.requires.spaces.nodes_are c.place.ensures c.unwrap_or-root.ensures in
    let parts = parts-made es (lists c.args.graph.now) c.unwrap_or-root.result c.in_ok-tree.tree c.in_ok-policy_nodes.policy_nodes c.args.programs c.as_slice.result.now _ c.in_ok-classes.classes c.requires.graph at c.in_ok-tree.ensures.tree
    c.requires.programs c.in_ok-policy_nodes.ensures.nodes c.as_slice.ensures.value c.in_ok-leaves.ensures.homes c.in_ok-classes.ensures.classes in
    record { policy = subst (λ (r : Resolved). IsResolved es r) (sym c.new-2.ensures.policy) (resolved-made es c.requires.accepted _ _ _ _ _ parts c.version.result c.version.ensures c.requires.valid) }
