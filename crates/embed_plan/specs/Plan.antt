-- The text of a plan: the least height of a tree in which the policy's tree can be embedded, and
-- the image of each of its nodes.
use Rattle.std.specs.Prelude.{◌≡◌, refl, ℕ, Bool, true, false, List, [], ◌∷◌, ◌++◌, map, length, decimal, codes}
use Rattle.std.specs.List.{concat, join_with_byte}
use Rattle.std.specs.Fmt.{digits}
use Rattle.tree_defs.specs.Tree.{Tree, leaf, Address}
use Rattle.tree_defs.specs.Topology.{topology_of, complete}
use Rattle.embed_defs.specs.Levels.{levels}
use Rattle.embed_defs.specs.Embedding.{HasEmbedding}
use Rattle.embed_defs.specs.Need.{IsNeed}
use Rattle.embed_defs.specs.Canonical.{IsCanonical}
use Rattle.embed_defs.specs.Images.{image_map}
use Rattle.policy_defs.specs.Policy.{Policy, name_at, one_leaf}
use Rattle.outside_core.specs.Report.{line_of}
use Rattle.embed_plan.specs.Preorder.{addresses}

-- an address as text: its digits joined by dots, or a hyphen for the root
abbrev pub address_text : Address → List ℕ
address_text [] = codes "-"
address_text (x ∷ a) = join_with_byte 46 (map decimal (x ∷ a))

abbrev pub least_line : ℕ → List ℕ
least_line height = line_of (codes "least" ∷ decimal height ∷ [])

-- the name of a node or leaf, its address in the policy's tree, and its image
abbrev pub map_line : List ℕ → Address → Address → List ℕ
map_line name source image = line_of (codes "map" ∷ name ∷ address_text source ∷ address_text image ∷ [])

abbrev pub line_for : Policy → Tree Address → Address → List ℕ
line_for policy images a = map_line (name_at policy a) a (image_map images a)

-- a line for each node and leaf in preorder
abbrev pub map_lines : Policy → Tree Address → List ℕ
map_lines policy images = concat (map (line_for policy images) (addresses policy.tree))

-- Whether a policy's tree can be embedded in the target, and the text of the plan. The text gives
-- the least height in either case.
pub data IsPlan (policy : Policy) (arities : List ℕ) (above : ℕ) : Bool → List ℕ → Type 0 where
  placed : (height : ℕ) (images : Tree Address) → IsNeed (levels arities above) (topology_of policy.tree) height
      → HasEmbedding (topology_of policy.tree) (complete arities)
      → IsCanonical (levels arities above) (length arities) (topology_of policy.tree) images
      → IsPlan policy arities above true (least_line height ++ map_lines policy images)
  no_room : (height : ℕ) → IsNeed (levels arities above) (topology_of policy.tree) height
      → (HasEmbedding (topology_of policy.tree) (complete arities) → ⊥)
      → IsPlan policy arities above false (least_line height)

pub address_text-root : address_text [] ≡ codes "-"
address_text-root = refl

pub address_text-deeper : address_text (1 ∷ 0 ∷ 12 ∷ []) ≡ codes "1.0.12"
unfolding digits
address_text-deeper = refl

pub least_line-two : least_line 2 ≡ codes "least 2\n"
unfolding digits
least_line-two = refl

pub map_lines-one_leaf : map_lines one_leaf (leaf []) ≡ codes "map root - -\n"
map_lines-one_leaf = refl

pub map_line-leaf : map_line (codes "a") (0 ∷ []) (0 ∷ 1 ∷ []) ≡ codes "map a 0 0.1\n"
unfolding digits
map_line-leaf = refl
