-- The contents of a source tree, as contracts see them.
use Rattle.std.specs.Prelude.{ℕ, ◌<◌, ◌≤◌, ◌≡◌, ◌^◌, Some, List, [], ◌∷◌, ◌++◌, refl}
use Rattle.std.specs.Coded.{Coded, code_by, coded×, coded_ℕ}
use Rattle.tree_defs.specs.Queue.{Queue}
use Rattle.tree_defs.specs.Tree.{Tree, leaf, inner, Trees, none, more, nodes, Popping}
use Rattle.tree_defs.specs.SourceTree.{IsWellFormed, pop}
use Rattle.tree_defs.specs.Codes.{tree_code, source_tree_code}
use Rattle.pifo_core.specs.Sorted.{Contents}
use Rattle.tree_core.specs.Paths.{Way}

-- the tree, the free slots at each node, and the number of pushes
pub record TreeContents : Type 0 where
  pub tree : Tree Queue
  pub spare : Tree ℕ
  pub pushes : ℕ

abbrev pub contents_code : Coded TreeContents
contents_code = code_by (Tree Queue × (Tree ℕ × ℕ)) (coded× source_tree_code (coded× (tree_code coded_ℕ) coded_ℕ)) (λ g. (g.tree, (g.spare, g.pushes))) (λ p. record { tree = p.0; spare = p.1.0; pushes = p.1.1 }) (λ _. refl)

-- a leaf if there are no children, otherwise an inner node
abbrev pub branch : {Q : Type 0} → Q → Trees Q → Tree Q
branch q none = leaf q
branch q (more t ts) = inner q (more t ts)

abbrev pub forest : List TreeContents → Trees Queue
forest [] = none
forest (k ∷ ks) = more k.tree (forest ks)

abbrev pub spares : List TreeContents → Trees ℕ
spares [] = none
spares (k ∷ ks) = more k.spare (spares ks)

-- a tree built from a node's queue and its children
abbrev pub grown : Contents → List TreeContents → TreeContents
grown s ks = record { tree = branch s.entries (forest ks); spare = branch s.spare (spares ks); pushes = s.pushes }

abbrev pub size_of : TreeContents → ℕ
size_of g = nodes g.tree

-- no child had more pushes than its parent
abbrev pub EachPushed : ℕ → List TreeContents → Type 0
EachPushed n [] = Unit {0}
EachPushed n (k ∷ ks) = (k.pushes ≤ n) × EachPushed n ks

-- each value is a digit below n
abbrev pub EachBelow : ℕ → Queue → Type 0
EachBelow n [] = Unit {0}
EachBelow n (e ∷ q) = (e.1 < n) × EachBelow n q

abbrev pub HasDigits : Queue → List TreeContents → Type 0
HasDigits q [] = Unit {0}
HasDigits q (k ∷ ks) = EachBelow (2 ^ 32) q

pub record IsSound (s : Contents) (ks : List TreeContents) : Type 0 where
  pub well_formed : IsWellFormed (branch s.entries (forest ks))
  pub pushed_below : EachPushed s.pushes ks
  pub digits : HasDigits s.entries ks

-- a pop returns v, takes these digits and ranks, and leaves this tree
abbrev pub PopsTo : Tree Queue → ℕ → Way → Tree Queue → Type 0
PopsTo t v taken left = pop t ≡ Some (record { value = v; digits = taken.digits; ranks = taken.ranks; left = left })

-- a pop appends the digits and ranks that it takes
pub record PopsOnto (t : Tree Queue) (before after : Way) (v : ℕ) (rest : Tree Queue) : Type 0 where
  pub result : Popping (Tree Queue)
  pub popped : pop t ≡ Some result
  pub value : result.value ≡ v
  pub left : result.left ≡ rest
  pub digits : after.digits ≡ before.digits ++ result.digits
  pub ranks : after.ranks ≡ before.ranks ++ result.ranks
