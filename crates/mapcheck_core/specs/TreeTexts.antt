-- The texts that are trees, and the error of any other text. The codes are checked in order.
use Rattle.std.specs.Prelude.{◌≡◌, refl, ℕ, zero, suc, ◌<◌, ◌≤◌, ◌⊎◌, true, List, [], ◌∷◌, ◌++◌, length, map, codes}
use Rattle.std.proofs.Common.{inl, inr, lit<, lit≤}
use Rattle.text_core.specs.declared.token.TokenKind.TheVariants as k
use Rattle.text_core.specs.declared.mark.Mark.TheVariants as m
use Rattle.text_core.specs.Glyphs.{Glyph, text, sign}
use Rattle.text_core.specs.Lines.{is_clean_text, statements_of}
use Rattle.text_core.specs.Says.{Says}
use Rattle.tree_defs.specs.Tree.{leaf, inner, Trees, none, more, nodes, depth, most_nodes, most_levels}
use Rattle.tree_defs.specs.Topology.{Topology, IsBranched, copies, office}
use Rattle.tree_core.specs.Shape.{topology}
use Rattle.mapcheck_core.specs.declared.tree_text.Found.{Found}
use Rattle.mapcheck_core.specs.declared.tree_text.Found.TheVariants as found
use Rattle.mapcheck_core.specs.declared.tree_fault.TreeFault.{TreeFault}
use Rattle.mapcheck_core.specs.declared.tree_fault.TreeFault.TheVariants as fault
use Rattle.mapcheck_core.specs.NumberedLines.{Give, InNoForm, IsFirstAtFault}

-- the greatest length of a tree's text, in bytes
abbrev pub most_tree_bytes : ℕ
most_tree_bytes = 65536

-- the written form of a topology: `leaf`, or its children in parentheses
abbrev mutual
  pub written : Topology → List Glyph
  written (leaf u) = text (codes "leaf") ∷ []
  written (inner u ts) = sign m.Open ∷ (written_all ts ++ sign m.Close ∷ [])

  pub written_all : Trees (Unit {0}) → List Glyph
  written_all none = []
  written_all (more t ts) = written t ++ written_all ts

-- the number of a line and the tree on it
pub record TreeLine : Type 0 where
  pub line : ℕ
  pub tree : Topology

abbrev pub one_tree : ℕ → Topology → List TreeLine
one_tree n t = record { line = n; tree = t } ∷ []

-- the line of a number has clean bytes, and is empty or a tree in which each inner node has a child
pub data TreeGives (n : ℕ) (line : List ℕ) : List TreeLine → Type 0 where
  nothing : is_clean_text line ≡ true → Says line [] → TreeGives n line []
  tree : (t : Topology) → is_clean_text line ≡ true → Says line (written t) → IsBranched t → TreeGives n line (one_tree n t)

-- at most 1,024 nodes and 64 levels
abbrev pub IsSmall : Topology → Type 0
IsSmall t = (nodes t ≤ most_nodes) × (depth t ≤ most_levels)

abbrev pub IsLarge : Topology → Type 0
IsLarge t = (most_nodes < nodes t) ⊎ (most_levels < depth t)

-- each line is well formed, and only this one has a tree
pub record IsOnlyTree (bytes : List ℕ) (n : ℕ) (t : Topology) : Type 0 where
  pub short : length bytes ≤ most_tree_bytes
  pub give : Give TreeGives 1 (statements_of bytes) (one_tree n t)

-- the text is this tree
pub record IsTreeText (bytes : List ℕ) (t : Topology) : Type 0 where
  pub line : ℕ
  pub only : IsOnlyTree bytes line t
  pub small : IsSmall t

-- after at most one tree, a line has an error if it is malformed or has a second tree
pub data IsTreeLineFault (before : List TreeLine) (n : ℕ) (line : List ℕ) : Type 0 where
  no_form : length before ≤ 1 → InNoForm TreeGives n line → IsTreeLineFault before n line
  second : (t : Topology) → length before ≡ 1 → TreeGives n line (one_tree n t) → IsTreeLineFault before n line

-- the error of a text: too long, else the first line with an error, or no line with a tree, else a
-- tree that is too large
pub data IsTreeFault (bytes : List ℕ) : TreeFault → Type 0 where
  too_long : most_tree_bytes < length bytes → IsTreeFault bytes fault.TooLong
  at_line : (n : ℕ) → length bytes ≤ most_tree_bytes → IsFirstAtFault TreeGives IsTreeLineFault (statements_of bytes) n → IsTreeFault bytes (fault.Line n)
  no_line : length bytes ≤ most_tree_bytes → Give TreeGives 1 (statements_of bytes) [] → IsTreeFault bytes (fault.Line 0)
  large : (n : ℕ) (t : Topology) → IsOnlyTree bytes n t → IsLarge t → IsTreeFault bytes (fault.Large n)

-- if the text is a tree, the tree has the property P
abbrev pub ForTree : List ℕ → (Topology → Type 0) → Type 0
ForTree bytes P = (t : Topology) → IsTreeText bytes t → P t

-- if the text has an error, the error has the property P
abbrev pub ForTreeFault : List ℕ → (TreeFault → Type 0) → Type 0
ForTreeFault bytes P = (f : TreeFault) → IsTreeFault bytes f → P f

-- the contents read from a line: nothing, a tree, or a tree that is too large
abbrev pub IsRead : List ℕ → Found → Type 0
IsRead statement found.Nothing = (n : ℕ) → TreeGives n statement []
IsRead statement (found.Tree t) = ((n : ℕ) → TreeGives n statement (one_tree n (topology t))) × IsSmall (topology t)
IsRead statement found.Large = (t : Topology) × ((n : ℕ) → TreeGives n statement (one_tree n t)) × IsLarge t

-- the contents read from well-formed lines with at most one tree, and the number of its line
abbrev pub AreRead : List (List ℕ) → Found → ℕ → Type 0
AreRead lines found.Nothing n = (n ≡ 0) × Give TreeGives 1 lines []
AreRead lines (found.Tree t) n = (0 < n) × Give TreeGives 1 lines (one_tree n (topology t)) × IsSmall (topology t)
AreRead lines found.Large n = (0 < n) × ((t : Topology) × Give TreeGives 1 lines (one_tree n t) × IsLarge t)

abbrev pub AreReadLines : List ℕ → Found → ℕ → Type 0
AreReadLines bytes f n = AreRead (statements_of bytes) f n

abbrev pub code_of : TreeFault → ℕ
code_of fault.TooLong = 1
code_of (fault.Line n) = 2
code_of (fault.Large n) = 3
code_of fault.NoMemory = 0

-- the line number that the error holds, or 0 if it holds none
abbrev pub place_of : TreeFault → ℕ
place_of (fault.Line n) = n
place_of (fault.Large n) = n
place_of _ = 0

office_as_it_is_written : written office ≡ sign m.Open ∷ text (codes "leaf") ∷ sign m.Open ∷ text (codes "leaf") ∷ text (codes "leaf") ∷ sign m.Close ∷ sign m.Close ∷ []
office_as_it_is_written = refl

a_leaf_beside_a_node : TreeGives 3 (codes "( leaf(leaf))") (one_tree 3 (inner tt (more (leaf tt) (more (inner tt (more (leaf tt) none)) none))))
a_leaf_beside_a_node = tree (inner tt (more (leaf tt) (more (inner tt (more (leaf tt) none)) none))) refl (k.Mark, 1, refl, refl, (k.Word, 4, refl, refl, (k.Mark, 1, refl, refl, (k.Word, 4, refl, refl, (k.Mark, 1, refl, refl, (k.Mark, 1, refl, refl, refl)))))) (tt, ((tt, tt), tt))

codes_and_places : map code_of (fault.TooLong ∷ fault.Line 4 ∷ fault.Large 2 ∷ []) ≡ 1 ∷ 2 ∷ 3 ∷ []
codes_and_places = refl

a_line_is_the_place : map place_of (fault.TooLong ∷ fault.Line 4 ∷ fault.Large 2 ∷ []) ≡ 0 ∷ 4 ∷ 2 ∷ []
a_line_is_the_place = refl

-- a chain of nodes with one child each, above a leaf
abbrev chained : ℕ → Topology
chained zero = leaf tt
chained (suc n) = inner tt (more (chained n) none)

levels_of_a_small_tree : IsSmall (chained 64)
levels_of_a_small_tree = (lit≤ tt, lit≤ tt)

a_level_too_many : IsLarge (chained 65)
a_level_too_many = inr (lit< tt)

-- the root counts as a node
nodes_of_a_small_tree : IsSmall (inner tt (copies 1023 (leaf tt)))
nodes_of_a_small_tree = (lit≤ tt, lit≤ tt)

a_node_too_many : IsLarge (inner tt (copies 1024 (leaf tt)))
a_node_too_many = inl (lit< tt)
