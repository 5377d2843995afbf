-- The policy of an accepted text can be run.
use Rattle.sched_capture.proofs.Prelude.{◌≡◌, List, ℕ, arith, sym, ap, ◌∙◌, [], refl, ◌∷◌, length, ◌≤◌, ◌++◌, ◌<◌, map, ◌^◌, suc, length-map, AllByRecursion, IsAccepted, Class, Node, Resolved, AreClassesOf, Declared, IsResolved, classes_in}
use Rattle.tree_defs.specs.Tree.{Tree, nodes, depth, most_levels}
use Rattle.tree_defs.specs.Topology.{topology_of}
use Rattle.tree_defs.proofs.Shapes.{depth-topology}
use Rattle.tree_graph.specs.Descent.{Graph, IsForest, IsWithin}
use Rattle.tree_graph.specs.Preorder.{IsSound, rows}
use Rattle.tree_graph.specs.Growth.{HasGrown}
use Rattle.tree_graph.proofs.WholeTree.{shallow-root, size-is, sound as sound-tree, levels-few}
use Rattle.rank_defs.specs.Shapes.{IsShaped}
use Rattle.rank_defs.specs.Builtins.{builtins}
use Rattle.policy_text_defs.specs.Sense.{Entry}
use Rattle.policy_text_defs.specs.declared.edition.Edition.TheVariants.{Classic}
use Rattle.policy_text_defs.specs.Text.{HasEntries}
use Rattle.policy_rules.specs.Names.{declared, node_name}
use Rattle.policy_rules.specs.Clauses.{root}
use Rattle.policy_rules.specs.Programs.{place, programs}
use Rattle.policy_rules.specs.Graph.{graph_of}
use Rattle.policy_rules.specs.Accepted.{AreAccepted}
use Rattle.policy_rules.proofs.KnownPrograms.{shaped_known}
use Rattle.policy_core.proofs.FamilyFaults.{is-forest, is-shallow}
use Rattle.policy_core.specs.Labels.{node_numbered, nodes_at}
use Rattle.policy_core.specs.PlaceLaws.{IsNodeTree}
use Rattle.policy_core.proofs.Shape.{nodes-map, depth-map}
use Rattle.policy_core.proofs.ResolvedTrees.{node-tree}
use Rattle.policy_core.proofs.AcceptedPolicies.{acceptable}
use Rattle.policy_core.proofs.AssembledParts.{graph-few}
use Rattle.policy_core.specs.TextLaws.{HasSoundEntries}
use Rattle.policy_core.proofs.TextAnswers.{sound_entries}
use Rattle.policy_core.proofs.GraphTrees.{HasTree, tree-there}
use Rattle.policy_core.proofs.OneTree.{one-tree}

-- a policy that can be run, with conditions for each of its classes
pub record IsRunnable (policy : Resolved) : Type 0 where
  pub accepted : IsAccepted policy.policy
  pub conditions : length policy.conditions ≡ length policy.policy.classes

later_part : {X : Type 0} (P : X → Type 0) (xs ys : List X) → AllByRecursion P (xs ++ ys) → AllByRecursion P ys
later_part P [] ys all = all
later_part P (x ∷ xs) ys all = later_part P xs ys all.1

as_many : (es : List Entry) (tree : Tree Node) (ds : List Declared) (cs : List Class) → AreClassesOf es tree ds cs → length ds ≡ length cs
as_many es tree [] [] are = refl
as_many es tree [] (c ∷ cs) are = absurd are
as_many es tree (d ∷ ds) [] are = absurd are
as_many es tree (d ∷ ds) (c ∷ cs) are = ap suc (as_many es tree ds cs are.2)

module _ (text : List ℕ) (es : List Entry) (r : Resolved) (has : HasEntries Classic text es) (accepted : AreAccepted es) (resolved : IsResolved es r) where
  sound : HasSoundEntries es
  sound = sound_entries Classic text es has

  abbrev graph : Graph
  graph = graph_of es

  abbrev top : ℕ
  top = place (declared node_name es) root

  forest : IsForest graph top
  forest = is-forest es sound.rising accepted.0.0.0.0

  shallow : IsWithin graph top most_levels 0
  shallow = shallow-root graph top forest (λ i within. is-shallow es sound.rising accepted.0.0.0 i)

  below : HasTree graph top
  below = tree-there graph top most_levels shallow

  named : IsNodeTree es below.tree
  named = node-tree es below.tree accepted sound.valid below.is_tree below.root_is

  same : r.policy.tree ≡ nodes_at es below.tree
  same = one-tree es sound.rising accepted.0.0.0.0.0.0.0.0.0.0.1 r.policy.tree (nodes_at es below.tree) resolved.tree named.tree (resolved.root_is ∙ sym named.root_is)

  few : nodes below.tree < 2 ^ 32
  few = omega (arith, size-is graph top below.tree forest below.is_tree below.root_is, graph-few es graph sound.rising accepted refl)

  grown : HasGrown graph top [] [] (rows 0 [] below.tree) (topology_of below.tree)
  grown = record { tree = below.tree; root_is = below.root_is; is_tree = below.is_tree; rows_are = refl; topology_is = refl }

  levels : depth below.tree ≤ most_levels
  levels =
      let whole : IsSound (rows 0 [] below.tree) (topology_of below.tree) =
      sound-tree graph top (rows 0 [] below.tree) (topology_of below.tree) forest shallow (omega (arith, graph-few es graph sound.rising accepted refl)) grown in
      omega (arith, levels-few (rows 0 [] below.tree) (topology_of below.tree) whole, depth-topology below.tree)

  shaped : AllByRecursion IsShaped (programs es)
  shaped = later_part IsShaped (map (λ b. b.program) builtins) (programs es) (shaped_known es sound.rising accepted.0.0.0.0.0.0.0.0 sound.valid)

  pub runnable : IsRunnable r
  runnable = record {
    accepted = acceptable es r accepted sound.valid shaped resolved
        (omega (arith, ap depth same, depth-map (node_numbered es) below.tree, levels))
        (omega (arith, ap nodes same, nodes-map (node_numbered es) below.tree, few));
    conditions = ap length resolved.conditions ∙ length-map (classes_in es) (λ (d : Declared). d.conditions) ∙ as_many es r.policy.tree (classes_in es) r.policy.classes resolved.classes;
  }
