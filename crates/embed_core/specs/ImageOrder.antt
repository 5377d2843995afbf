-- The children of a node in the order of their images: digit by digit, and a prefix first.
use Rattle.std.specs.Prelude.{◌≡◌, refl, ℕ, ◌<◌, ◌≤◌, Bool, true, false, List, [], ◌∷◌, length, take, slice_index, slice_index_or}
use Rattle.std.specs.List.{Contains}
use Rattle.std.specs.Cmp.Lexicographic.{slice_cmp}
use Rattle.std.specs.Ordering.{nat_cmp, is_gt}
use Rattle.tree_defs.specs.Tree.{Tree, leaf, Address, root_of}
use Rattle.tree_defs.specs.Topology.{IsPrefixOf}

-- whether an address comes after another
abbrev pub is_behind : Address → Address → Bool
is_behind a b = is_gt (slice_cmp nat_cmp a b)

-- the image of child i
abbrev pub child_image : List (Tree Address) → ℕ → Address
child_image children i = root_of (slice_index_or children i (leaf []))

-- The list holds exactly the indices of the children, and no image comes after a later one.
pub record IsImageOrder (children : List (Tree Address)) (order : List ℕ) : Type 0 where
  pub whole : (i : ℕ) → i < length children → Contains order i
  pub within : (p : ℕ) → p < length order → slice_index order p < length children
  pub rising : (p q : ℕ) → p ≤ q → q < length order → is_behind (child_image children (slice_index order p)) (child_image children (slice_index order q)) ≡ false

-- no child's image is a prefix of another's
abbrev pub AreApart : List (Tree Address) → Type 0
AreApart children = (i j : ℕ) → i < length children → j < length children → IsPrefixOf (child_image children i) (child_image children j) → i ≡ j

-- the image of child i is a prefix of the digits
pub record IsOnSide (children : List (Tree Address)) (digits : Address) (i : ℕ) : Type 0 where
  pub below : i < length children
  pub begins : IsPrefixOf (child_image children i) digits

-- each child's image has the property
abbrev pub EachChild : List (Tree Address) → (Address → Type 0) → Type 0
EachChild children P = (i : ℕ) → i < length children → P (child_image children i)

-- an image has the same digits as an address down to a depth, and isn't longer than the address
pub record GoesBeside (depth : ℕ) (image digits : Address) : Type 0 where
  pub same : take depth image ≡ take depth digits
  pub short : length image ≤ length digits

pub prefix-first : is_behind (0 ∷ 1 ∷ []) (0 ∷ []) ≡ true
prefix-first = refl

pub first-digit-decides : is_behind (0 ∷ 1 ∷ []) (1 ∷ []) ≡ false
first-digit-decides = refl

pub second-child-image : child_image (leaf (0 ∷ []) ∷ leaf (1 ∷ []) ∷ []) 1 ≡ 1 ∷ []
second-child-image = refl
