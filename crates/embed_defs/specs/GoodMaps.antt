-- Maps of a topology into a complete tree for which a lift works: a tree with the image of each
-- node.
use Rattle.std.proofs.Common.{lit<, lit≤}
use Rattle.std.specs.Prelude.{◌≡◌, refl, ℕ, ◌<◌, ◌≤◌, [], ◌∷◌, length}
use Rattle.tree_defs.specs.Tree.{Tree, leaf, inner, Trees, none, more, Address, root_of}
use Rattle.tree_defs.specs.Topology.{IsPrefixOf}
use Rattle.embed_defs.specs.Placed.{IsApartFrom}
use Rattle.embed_defs.specs.Lift.{with_transit}

-- each leaf's image has h digits, no image has more, and each child's image is longer than its
-- parent's
abbrev mutual
  pub IsDeep : ℕ → Tree Address → Type 0
  IsDeep h (leaf e) = length e ≡ h
  IsDeep h (inner e ts) = AreDeep h e ts

  -- the children of a node with image e
  pub AreDeep : ℕ → Address → Trees Address → Type 0
  AreDeep h e none = Unit {0}
  AreDeep h e (more t ts) = (length e < length (root_of t)) × (length (root_of t) ≤ h) × IsDeep h t × AreDeep h e ts

-- each child's image extends its parent's, and no sibling's image is a prefix of another's
abbrev mutual
  pub IsNested : Tree Address → Type 0
  IsNested (leaf e) = Unit {0}
  IsNested (inner e ts) = AreNested e ts

  pub AreNested : Address → Trees Address → Type 0
  AreNested e none = Unit {0}
  AreNested e (more t ts) = IsPrefixOf e (root_of t) × IsApartFrom (root_of t) ts × IsNested t × AreNested e ts

-- a good map into a complete tree of height h
pub record IsGoodMap (h : ℕ) (images : Tree Address) : Type 0 where
  pub root : root_of images ≡ []
  pub deep : IsDeep h images
  pub nested : IsNested images

-- a leaf and a node with two leaves, with a transit node above both
pub IsGoodMap-with_transit : IsGoodMap 3 with_transit
IsGoodMap-with_transit = record {
  root = refl;
  deep = (lit< tt, lit≤ tt, refl, (lit< tt, lit≤ tt, (lit< tt, lit≤ tt, refl, (lit< tt, lit≤ tt, refl, tt)), tt));
  nested = ((0 ∷ 1 ∷ 0 ∷ [], refl), (refl, refl, tt), tt, ((0 ∷ 0 ∷ [], refl), tt, ((0 ∷ [], refl), (refl, refl, tt), tt, ((1 ∷ [], refl), tt, tt, tt)), tt));
}
