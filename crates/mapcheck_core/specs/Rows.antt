-- Worked examples of maps: three leaves below a root, mapped to two leaves and a node with one.
use Rattle.std.specs.Prelude.{◌≡◌, refl, [], ◌∷◌, map}
use Rattle.tree_defs.specs.Tree.{leaf, inner, none, more}
use Rattle.tree_defs.specs.Topology.{Topology}
use Rattle.mapcheck_core.specs.declared.given.Given.{Given}
use Rattle.mapcheck_core.specs.GivenMaps.{image_of, line_of}

abbrev pub three_leaves : Topology
three_leaves = inner tt (more (leaf tt) (more (leaf tt) (more (leaf tt) none)))

abbrev pub two_leaves_and_a_node : Topology
two_leaves_and_a_node = inner tt (more (leaf tt) (more (leaf tt) (more (inner tt (more (leaf tt) none)) none)))

-- the third leaf is mapped to the leaf below the node
abbrev pub row : Given
row = record { images = [] ∷ (0 ∷ []) ∷ (1 ∷ []) ∷ (2 ∷ 0 ∷ []) ∷ []; lines = 4 ∷ 1 ∷ 3 ∷ 2 ∷ [] }

images_of_the_row : map (image_of three_leaves row) ([] ∷ (0 ∷ []) ∷ (1 ∷ []) ∷ (2 ∷ []) ∷ []) ≡ [] ∷ (0 ∷ []) ∷ (1 ∷ []) ∷ (2 ∷ 0 ∷ []) ∷ []
images_of_the_row = refl

lines_of_the_row : map (line_of three_leaves row) ([] ∷ (2 ∷ []) ∷ []) ≡ 4 ∷ 2 ∷ []
lines_of_the_row = refl
