-- Reading a tree from left to right.
use Rattle.std.specs.Prelude.{◌≡◌, refl, ◌+◌, ◌-◌, max, Bool, true, false, not, ◌&&◌, ◌||◌, nat_lt, nat_eq, if◌then◌else◌, List, [], ◌∷◌, ◌++◌, Option, Some, None, codes}
use Rattle.std.specs.Str.{bytes_eq}
use Rattle.text_core.specs.declared.mark.Mark.TheVariants as m
use Rattle.text_core.specs.Glyphs.{Glyph, text, sign}
use Rattle.tree_defs.specs.Tree.{leaf, inner, trees_of, option_bind}
use Rattle.tree_defs.specs.Topology.{Topology, office}
use Rattle.mapcheck_core.specs.declared.nest.Nest.{Nest}
use Rattle.mapcheck_core.specs.TreeTexts.{written}

-- a tree may begin below an open node, or if none has been read yet
abbrev pub may_begin : Nest → Bool
may_begin s = nat_lt 0 s.unclosed || not s.filled

abbrev pub with_leaf : Nest → Nest
with_leaf s = record { unclosed = s.unclosed; filled = true; nodes = s.nodes + 1; levels = max s.levels s.unclosed }

abbrev pub opened : Nest → Nest
opened s = record { unclosed = s.unclosed + 1; filled = false; nodes = s.nodes + 1; levels = s.levels }

abbrev pub closed : Nest → Nest
closed s = record { unclosed = s.unclosed - 1; filled = true; nodes = s.nodes; levels = s.levels }

abbrev pub when : Bool → Nest → Option Nest
when fits s = if fits then Some s else None

-- one more word or mark
abbrev pub step : Nest → Glyph → Option Nest
step s (text w) = when (bytes_eq w (codes "leaf") && may_begin s) (with_leaf s)
step s (sign m.Open) = when (may_begin s) (opened s)
step s (sign m.Close) = when (nat_lt 0 s.unclosed && s.filled) (closed s)
step s _ = None

abbrev pub walk : Nest → List Glyph → Option Nest
walk s [] = Some s
walk s (g ∷ gs) = option_bind (step s g) (λ n. walk n gs)

abbrev pub no_node : Nest
no_node = record { unclosed = 0; filled = false; nodes = 0; levels = 0 }

-- exactly one whole tree has been read
abbrev pub whole : Nest → Option Nest
whole s = when (nat_eq s.unclosed 0 && s.filled) s

-- the number of nodes and levels of the tree that the glyphs write, if they write one
abbrev pub measured : List Glyph → Option Nest
measured gs = option_bind (walk no_node gs) whole

abbrev pub stands : List Topology → Bool
stands [] = false
stands (t ∷ ts) = true

abbrev pub any_open : List (List Topology) → Bool
any_open [] = false
any_open (ts ∷ outer) = true

-- the next tree may be below an open node, or anywhere if none has been read yet
abbrev pub may_stand : List Topology → List (List Topology) → Bool
may_stand ts outer = any_open outer || not (stands ts)

-- The tree that the glyphs complete. `ts` are the trees read so far below the nearest open node;
-- `outer` has those below the open nodes around it, the nearest first.
abbrev pub read_on : List Glyph → List Topology → List (List Topology) → Option Topology
read_on [] (t ∷ []) [] = Some t
read_on (text w ∷ gs) ts outer = if bytes_eq w (codes "leaf") && may_stand ts outer then read_on gs (ts ++ leaf tt ∷ []) outer else None
read_on (sign m.Open ∷ gs) ts outer = if may_stand ts outer then read_on gs [] (ts ∷ outer) else None
read_on (sign m.Close ∷ gs) (t ∷ ts) (around ∷ outer) = read_on gs (around ++ inner tt (trees_of (t ∷ ts)) ∷ []) outer
read_on _ _ _ = None

office_is_measured : measured (written office) ≡ Some (record { unclosed = 0; filled = true; nodes = 5; levels = 2 })
office_is_measured = refl

office_is_read : read_on (written office) [] [] ≡ Some office
office_is_read = refl

no_node_without_a_child : measured (sign m.Open ∷ sign m.Close ∷ []) ≡ None
no_node_without_a_child = refl

one_tree_only : measured (text (codes "leaf") ∷ text (codes "leaf") ∷ []) ≡ None
one_tree_only = refl
