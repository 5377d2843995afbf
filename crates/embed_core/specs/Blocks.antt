-- The block of leaves that a child takes below its parent.
use Rattle.std.specs.Prelude.{◌≡◌, ℕ, ◌+◌, ◌<◌, length}
use Rattle.tree_defs.specs.Tree.{Trees, Address}
use Rattle.embed_defs.specs.Levels.{Arities}
use Rattle.embed_defs.specs.Need.{leaves_below}
use Rattle.embed_defs.specs.Canonical.{Child, digits, start_of, children}
use Rattle.embed_defs.specs.Counting.{value}

-- the digits of the first leaf of a child's block, below a node of height h whose children have
-- these needs
abbrev pub start_digits : Arities → ℕ → Trees ℕ → Child → Address
start_digits a h siblings child = digits a h (start_of a (children siblings 0) child)

-- the digits are advanced by one block of a node of this height, if that leaf exists
abbrev pub PassesBlock : Arities → ℕ → Address → Address → Type 0
PassesBlock a need old new =
    value a old + leaves_below a need < leaves_below a (length old) → value a new ≡ value a old + leaves_below a need
