-- Placements whose leaves have images with one digit for each level of the tree.
use Rattle.embed_defs.proofs.Prelude.{ℕ, ◌≡◌, length, ◌≤◌, ◌-◌, inner, leaf, more, none, root_of, Placement, Placements}

-- each leaf's image has h digits after those of the root's image
abbrev mutual
  pub IsOfHeight : Placement → ℕ → Type 0
  IsOfHeight (leaf e) h = h ≡ 0
  IsOfHeight (inner e ps) h = AreOfHeight ps h

  pub AreOfHeight : Placements → ℕ → Type 0
  AreOfHeight none h = Unit {0}
  AreOfHeight (more p ps) h = (length (root_of p) ≤ h) × IsOfHeight p (h - length (root_of p)) × AreOfHeight ps h
