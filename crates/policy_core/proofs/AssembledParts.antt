-- The parts built from accepted statements are the parts of their policy.
use Rattle.policy_core.proofs.Prelude.{List, ◌≡◌, ℕ, ap, sym, subst, [], ◌∙◌, arith, length, ◌<◌, ◌∷◌, refl, get_or, suc, map, Option, ◌≤◌, unwrap_or, position, get_or_default, length-map, AllByRecursion, AllZip, bytes_eq, IsAccepted, AreBuiltIn, Node, place-within, found, AreAccepted, root, most_classes, version_of, AreRising, graph_of, nodes_in, known_programs, Name, declared, node_name, class_name, place, programs, IsTreeIn, Declared, classes_in, IsResolved, AreClassesOf, Entry, Test, Program, IsShaped, nodes-topology, depth-topology, topology_of, Topology, Tree, Address, root_of, nodes, depth, most_nodes, length-rows, rows, IsTreeBelow, Row, row_at, row, nodes_of, AreHomes, IsHome, classes_at, node_numbered, nodes_at, Made, made, made_of, nodes_told, address_at, nodes_from, HasCatchAll, no_policy_node, node_of, resolved, policy_node_at, tree_of, HavePolicyNodes, AreValid, IsNodeTree, PolicyNode}
use Rattle.std.proofs.lemmas.List.{get_or-map}
use Rattle.policy_defs.specs.Policy.{Class as Aimed}
use Rattle.tree_graph.specs.Descent.{times}
use Rattle.tree_graph.specs.Preorder.{Numbered, IsSound}
use Rattle.policy_core.proofs.TreeAgreement.{nodes-agree}
use Rattle.policy_core.proofs.LeafClasses.{classes-of, names-classes}
use Rattle.policy_core.proofs.ResolvedTrees.{node-tree}
use Rattle.policy_core.proofs.Shape.{topology-map}
use Rattle.policy_core.proofs.AcceptedPolicies.{acceptable}
use Rattle.policy_core.proofs.BuiltIns.{built-in}
use Rattle.policy_core.proofs.AcceptedStatements.{root-there}
use Rattle.policy_core.proofs.HomePasses.{length-graph}
use Rattle.policy_core.proofs.HomeLaws.{length-nodes}
use Rattle.policy_core.proofs.InverseNumbers.{node-within}
use Rattle.policy_core.proofs.FamilyNames.{named}
use Rattle.policy_core.specs.declared.parts.Class.{Class}
use Rattle.policy_core.specs.Parts.{class_in, HaveLeaves}
use Rattle.policy_core.proofs.FewClasses.{few-classes, catch-all}
use Rattle.policy_core.proofs.NumberedAddresses.{address_at-topology, topology_of-nodes}
use Rattle.policy_core.proofs.Rows.{row-numbered}
use Rattle.policy_core.proofs.RowTrees.{rows-told}

zip-length : (es : List Entry) (rows : List Row) (names : List Name) (ms : List ℕ) → AllZip (IsHome es rows) names ms → length ms ≡ length names
zip-length es rows [] [] h = refl
zip-length es rows [] (m ∷ ms) h = absurd h
zip-length es rows (n ∷ names) [] h = absurd h
zip-length es rows (n ∷ names) (m ∷ ms) h = ap suc (zip-length es rows names ms h.1)

-- as many leaves as classes
pub homes-count : (es : List Entry) (rows : List Row) (ms : List ℕ) → AreHomes es rows ms → length ms ≡ length (classes_in es)
homes-count es rows ms homes = zip-length es rows (declared class_name es) ms homes ∙ ap length (sym (names-classes es)) ∙ length-map (classes_in es) (λ (d : Declared). d.name)

-- the tree of the nodes, their records over all programs, a leaf for each class, and the classes
pub record AreParts (es : List Entry) (tree : Numbered) (ss : List PolicyNode) (ps : List Program) (ns : List ℕ) (cs : List Class) : Type 0 where
  pub below : IsTreeBelow (graph_of es) (place (declared node_name es) root) tree
  pub policy_nodes : nodes_told ps ss ≡ nodes_in es
  pub homes : AreHomes es tree.rows ns
  pub classes : map made cs ≡ made_of (classes_in es) ns

-- the results of the calls, put together
pub parts-made : (es : List Entry) (g : List (List ℕ)) (r : ℕ) (tree : Numbered) (ss : List PolicyNode) (ps : List Program) (ns leaves : List ℕ) (cs : List Class) → g ≡ graph_of es → r ≡ place (declared node_name es) root → IsTreeBelow g r tree
    → ps ≡ known_programs es → nodes_told (known_programs es) ss ≡ nodes_in es → ns ≡ leaves → AreHomes es tree.rows leaves → map made cs ≡ made_of (classes_in es) ns → AreParts es tree ss ps ns cs
parts-made es g r tree ss ps ns leaves cs graph at below known policy_nodes same homes classes = record {
  below = subst (λ (h : List (List ℕ)). IsTreeBelow h (place (declared node_name es) root) tree) graph (subst (λ (n : ℕ). IsTreeBelow g n tree) at below);
  policy_nodes = subst (λ (all : List Program). nodes_told all ss ≡ nodes_in es) (sym known) policy_nodes;
  homes = subst (λ (ms : List ℕ). AreHomes es tree.rows ms) (sym same) homes;
  classes = classes;
}

module _ (es : List Entry) (accepted : AreAccepted es) (tree : Numbered) (ss : List PolicyNode) (ps : List Program) (ns : List ℕ) (cs : List Class) (parts : AreParts es tree ss ps ns cs) where
  abbrev below : IsTreeBelow (graph_of es) (place (declared node_name es) root) tree
  below = parts.below

  policy_nodes : nodes_told ps ss ≡ nodes_in es
  policy_nodes = parts.policy_nodes

  homes : AreHomes es tree.rows ns
  homes = parts.homes

  classes : map made cs ≡ made_of (classes_in es) ns
  classes = parts.classes

  at-place : (i : ℕ) → i < length (nodes_in es) → node_of ps (policy_node_at ss i) ≡ node_numbered es i
  at-place i within =
      let there : i < length ss = omega (arith, within, ap length policy_nodes, length-map ss (node_of ps)) in
      sym (get_or-map (node_of ps) ss i no_policy_node (node_numbered es i) there)
      ∙ ap (λ (all : List Node). get_or all i (node_numbered es i)) policy_nodes
      ∙ get_or_default (nodes_in es) i _ _ within

  -- the tree
  pub tree-made : tree_of tree ss ps ≡ nodes_at es below.tree
  tree-made =
      ap (λ (all : List Row). nodes_from (λ n. node_of ps (policy_node_at ss (row_at all n).node)) 0 tree.topology) below.numbered.rows_are
      ∙ ap (λ (u : Topology). nodes_from (λ n. node_of ps (policy_node_at ss (row_at (rows 0 [] below.tree) n).node)) 0 u) below.numbered.topology_is
      ∙ rows-told (λ i. node_of ps (policy_node_at ss i)) below.tree
      ∙ nodes-agree es below.tree (λ i. node_of ps (policy_node_at ss i)) accepted below.is_tree below.root_is at-place

  homes-below : AreHomes es (rows 0 [] below.tree) ns
  homes-below = subst (λ (all : List Row). AreHomes es all ns) below.numbered.rows_are homes

  -- the row with a number has the address of the number
  address-there : (k : ℕ) → k < length (rows 0 [] below.tree) → address_at (nodes_at es below.tree) k ≡ (row_at (rows 0 [] below.tree) k).address
  address-there k within =
      sym (address_at-topology (nodes_at es below.tree) k)
      ∙ ap (λ (u : Topology). address_at u k) (topology-map (node_numbered es) below.tree)
      ∙ address_at-topology below.tree k
      ∙ sym (row-numbered 0 [] below.tree k (omega (arith, within, length-rows 0 [] below.tree))).address

  -- the classes, each with the address of its leaf
  abbrev aimed : Made → Aimed
  aimed m = record { marks = m.marks; leaf = address_at (nodes_at es below.tree) m.leaf }

  aimed-at : (ds : List Declared) (ms : List ℕ) → AllZip (IsHome es (rows 0 [] below.tree)) (map (λ (d : Declared). d.name) ds) ms → map aimed (made_of ds ms) ≡ classes_at (rows 0 [] below.tree) ds ms
  aimed-at [] [] h = refl
  aimed-at [] (m ∷ ms) h = absurd h
  aimed-at (d ∷ ds) [] h = absurd h
  aimed-at (d ∷ ds) (m ∷ ms) h =
      ap (λ (a : Address). record { marks = d.marks; leaf = a } ∷ map aimed (made_of ds ms)) (address-there m h.0.within)
      ∙ ap (λ (all : List Aimed). record { marks = d.marks; leaf = (row_at (rows 0 [] below.tree) m).address } ∷ all) (aimed-at ds ms h.1)

  map-made : (all : List Class) → map (class_in (nodes_at es below.tree)) all ≡ map aimed (map made all)
  map-made [] = refl
  map-made (c ∷ all) = ap (λ (rest : List Aimed). class_in (nodes_at es below.tree) c ∷ rest) (map-made all)

  pub classes-made : map (class_in (nodes_at es below.tree)) cs ≡ classes_at (rows 0 [] below.tree) (classes_in es) ns
  classes-made =
      map-made cs ∙ ap (map aimed) classes
      ∙ aimed-at (classes_in es) ns (subst (λ (names : List Name). AllZip (IsHome es (rows 0 [] below.tree)) names ns) (sym (names-classes es)) homes-below)

  -- the conditions
  told-of : (ds : List Declared) (ms : List ℕ) → length ms ≡ length ds → map (λ (m : Made). m.conditions) (made_of ds ms) ≡ map (λ (d : Declared). d.conditions) ds
  told-of [] ms same = refl
  told-of (d ∷ ds) [] same = absurd (omega arith)
  told-of (d ∷ ds) (m ∷ ms) same = ap (λ (rest : List (List (List Test))). d.conditions ∷ rest) (told-of ds ms (omega arith))

  conditions-of : (all : List Class) → map (λ (c : Class). c.conditions) all ≡ map (λ (m : Made). m.conditions) (map made all)
  conditions-of [] = refl
  conditions-of (c ∷ all) = ap (λ (rest : List (List (List Test))). c.conditions ∷ rest) (conditions-of all)

  leaves-count : length ns ≡ length (classes_in es)
  leaves-count = homes-count es tree.rows ns homes

  pub conditions-made : map (λ (c : Class). c.conditions) cs ≡ map (λ (d : Declared). d.conditions) (classes_in es)
  conditions-made = conditions-of cs ∙ ap (map (λ (m : Made). m.conditions)) classes ∙ told-of (classes_in es) ns leaves-count

  -- the assembled policy is the policy of the statements
  pub resolved-made : (v : ℕ) → v ≡ version_of es → AreValid es → IsResolved es (resolved v tree ss ps cs)
  resolved-made v version valid =
      let t : IsNodeTree es below.tree = node-tree es below.tree accepted valid below.is_tree below.root_is in
      record {
        version_is = version;
        root_is = ap (λ (u : Tree Node). (root_of u).name) tree-made ∙ t.root_is;
        tree = subst (λ (u : Tree Node). IsTreeIn es u) (sym tree-made) t.tree;
        classes = subst (λ (u : Tree Node). AreClassesOf es u (classes_in es) (map (class_in u) cs)) (sym tree-made)
            (subst (λ (all : List Aimed). AreClassesOf es (nodes_at es below.tree) (classes_in es) all) (sym classes-made) (classes-of es below.tree ns below.is_tree homes-below));
        conditions = conditions-made;
      }

  pub built-in-made : (v : ℕ) → v ≡ version_of es → AreValid es → AreBuiltIn (resolved v tree ss ps cs).policy
  built-in-made v version valid = built-in es (resolved v tree ss ps cs) (resolved-made v version valid)

  -- ---- the conditions under which a policy may be built from them
  home-leaves : (ds : List Declared) (names : List Name) (ms : List ℕ) → AllZip (IsHome es tree.rows) names ms → AllByRecursion (λ (m : Made). m.leaf < length tree.rows) (made_of ds ms)
  home-leaves [] names ms h = tt
  home-leaves (d ∷ ds) names [] h = tt
  home-leaves (d ∷ ds) [] (m ∷ ms) h = absurd h
  home-leaves (d ∷ ds) (n ∷ names) (m ∷ ms) h = (h.0.within, home-leaves ds names ms h.1)

  leaves-back : (all : List Class) → AllByRecursion (λ (m : Made). m.leaf < length tree.rows) (map made all) → AllByRecursion (λ (c : Class). c.leaf < length tree.rows) all
  leaves-back [] h = tt
  leaves-back (c ∷ all) h = (h.0, leaves-back all h.1)

  pub leaves-there : HaveLeaves tree cs
  leaves-there = leaves-back cs (subst (λ (all : List Made). AllByRecursion (λ (m : Made). m.leaf < length tree.rows) all) (sym classes) (home-leaves (classes_in es) (declared class_name es) ns homes))

  made-count : (ds : List Declared) (ms : List ℕ) → length ms ≡ length ds → length (made_of ds ms) ≡ length ds
  made-count [] ms same = refl
  made-count (d ∷ ds) [] same = absurd (omega arith)
  made-count (d ∷ ds) (m ∷ ms) same = ap suc (made-count ds ms (omega arith))

  pub few-made : AreRising es → length cs ≤ most_classes
  few-made rising =
      (let few : length (classes_in es) ≤ most_classes = few-classes es rising accepted.0.0.0.0.0.0.0.0.1 in
      omega (arith, few, length-map cs made, ap length classes, made-count (classes_in es) ns leaves-count))

  pub catch-all-made : HasCatchAll (map (λ (c : Class). c.conditions) cs)
  catch-all-made = subst (λ (all : List (List (List Test))). HasCatchAll all) (sym conditions-made) (catch-all es accepted.0.1)

  each-of : {X : Type 0} (P : X → Type 0) (xs : List X) (d : X) → ((k : ℕ) → k < length xs → P (get_or xs k d)) → AllByRecursion P xs
  each-of P [] d h = tt
  each-of P (x ∷ xs) d h = (h 0 (omega arith), each-of P xs d (λ k l. h (suc k) (omega arith)))

  pub policy_nodes-there : length tree.rows ≡ length (graph_of es) → ((a : ℕ) → a < length tree.rows → times a (nodes_of tree.rows) ≡ 1) → HavePolicyNodes tree ss
  policy_nodes-there count once =
      each-of (λ (r : Row). r.node < length ss) tree.rows (row 0 [] [])
      (λ k l. (let within : (row_at tree.rows k).node < length tree.rows = node-within tree.rows k once l in omega (arith, within, count, length-nodes es, ap length policy_nodes, length-map ss (node_of ps))))

  topology-made : topology_of (tree_of tree ss ps) ≡ tree.topology
  topology-made = topology_of-nodes _ 0 tree.topology

  pub accepted-made : (v : ℕ) → v ≡ version_of es → AreRising es → AreValid es → AllByRecursion IsShaped (programs es) → IsSound tree.rows tree.topology → IsAccepted (resolved v tree ss ps cs).policy
  accepted-made v version rising valid shaped sound =
      let made_topology : topology_of (tree_of tree ss ps) ≡ topology_of sound.tree = topology-made ∙ sound.numbered.topology_is in
      acceptable es (resolved v tree ss ps cs) accepted valid shaped (resolved-made v version valid)
      (omega (arith, sound.levels, depth-topology (tree_of tree ss ps), ap (λ (u : Topology). depth u) made_topology, depth-topology sound.tree))
      (omega (arith, sound.few, nodes-topology (tree_of tree ss ps), ap (λ (u : Topology). nodes u) made_topology, nodes-topology sound.tree))

-- the index of the root
pub root-is : (es : List Entry) (nodes : List Name) (r : Option ℕ) (n : ℕ) → AreAccepted es → nodes ≡ declared node_name es → r ≡ position (bytes_eq root) nodes → n ≡ unwrap_or r 0 → n ≡ place (declared node_name es) root
root-is es nodes r n accepted names at is =
    is ∙ ap (λ o. unwrap_or o 0) (at ∙ ap (λ (all : List Name). position (bytes_eq root) all) names ∙ found (declared node_name es) root (root-there es accepted))

pub root-small : (es : List Entry) → AreRising es → AreAccepted es → place (declared node_name es) root < 4294967296
root-small es rising accepted = omega (arith, place-within (declared node_name es) root (root-there es accepted), (named es rising accepted.0.0.0.0.0.0.0.0).few)

pub graph-few : (es : List Entry) (g : List (List ℕ)) → AreRising es → AreAccepted es → g ≡ graph_of es → length g ≤ most_nodes
graph-few es g rising accepted is = omega (arith, ap length is, length-graph es, (named es rising accepted.0.0.0.0.0.0.0.0).few)
