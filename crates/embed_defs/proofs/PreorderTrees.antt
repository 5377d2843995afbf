-- The tree of a list in preorder has the topology's shape, and holds the images.
use Rattle.embed_defs.proofs.Prelude.{[], ℕ, ◌≡◌, refl, ◌∷◌, ap, ◌∙◌, arith, suc, List, Some, zero, ◌+◌, drop, get_or, get_or-drop, option_map, unwrap_or, Topology, inner, leaf, more, none, Trees, root_of, SameShape, SameShapes, subtree_in, subtree, nodes, image_map}
use Rattle.std.proofs.lemmas.Grind.{get_or_after_one}
use Rattle.tree_defs.specs.Tree.{Address}
use Rattle.embed_defs.specs.Preorder.{number_below, image_in, tree_in, trees_in}
use Rattle.embed_defs.specs.MapLaws.{TreesInPreorderHoldTheImages}

mutual
  shape_in : (s : Topology) (es : List Address) → SameShape s (tree_in s es)
  shape_in (leaf u) es = tt
  shape_in (inner u ts) es = shapes_in ts (drop 1 es)

  shapes_in : (ts : Trees (Unit {0})) (es : List Address) → SameShapes ts (trees_in ts es)
  shapes_in none es = tt
  shapes_in (more t ts) es = (shape_in t es, shapes_in ts (drop (nodes t) es))

mutual
  image_is : (s : Topology) (es : List Address) (a : Address) (u : Topology) → subtree s a ≡ Some u → image_map (tree_in s es) a ≡ image_in s es a
  image_is (leaf q) es [] u e = refl
  image_is (leaf q) es (i ∷ a) u e = cc
  image_is (inner q ts) es [] u e = refl
  image_is (inner q ts) es (i ∷ a) u e =
      let next : 1 + number_below ts i a ≡ suc (number_below ts i a) = omega arith in
      below_is ts (drop 1 es) i a u e ∙ get_or_after_one es (number_below ts i a) [] ∙ ap (λ (n : ℕ). get_or es n []) next

  below_is : (ts : Trees (Unit {0})) (es : List Address) (i : ℕ) (a : Address) (u : Topology) → subtree_in ts i a ≡ Some u → unwrap_or (option_map root_of (subtree_in (trees_in ts es) i a)) [] ≡ get_or es (number_below ts i a) []
  below_is none es i a u e = cc
  below_is (more t ts) es zero a u e = image_is t es a u e
  below_is (more t ts) es (suc i) a u e = below_is ts (drop (nodes t) es) i a u e ∙ get_or-drop (nodes t) es (number_below ts i a) []

pub trees_in_preorder_hold_the_images : TreesInPreorderHoldTheImages
trees_in_preorder_hold_the_images s images = record { shape = shape_in s images; each = λ a l. image_is s images a l.0 l.1 }
