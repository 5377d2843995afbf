-- A tree keeps its shape if only the values at its nodes change.
use Rattle.policy_core.proofs.Prelude.{◌≡◌, ap, refl, ◌+◌, ap₂, max, topology_of, topologies_of, Tree, Trees, inner, more, none, nodes, depth, nodes_below, depth_below, map_tree, map_trees}
use Rattle.tree_defs.specs.Tree.{leaf}

mutual
  pub nodes-map : {Q R : Type 0} (f : Q → R) (t : Tree Q) → nodes (map_tree f t) ≡ nodes t
  nodes-map f (leaf q) = refl
  nodes-map f (inner q ts) = ap (λ n. n + 1) (nodes-map_below f ts)

  nodes-map_below : {Q R : Type 0} (f : Q → R) (ts : Trees Q) → nodes_below (map_trees f ts) ≡ nodes_below ts
  nodes-map_below f none = refl
  nodes-map_below f (more t ts) = ap₂ (λ m n. m + n) (nodes-map f t) (nodes-map_below f ts)

mutual
  pub depth-map : {Q R : Type 0} (f : Q → R) (t : Tree Q) → depth (map_tree f t) ≡ depth t
  depth-map f (leaf q) = refl
  depth-map f (inner q ts) = depth-map_below f ts

  depth-map_below : {Q R : Type 0} (f : Q → R) (ts : Trees Q) → depth_below (map_trees f ts) ≡ depth_below ts
  depth-map_below f none = refl
  depth-map_below f (more t ts) = ap₂ (λ m n. max (m + 1) n) (depth-map f t) (depth-map_below f ts)

mutual
  pub topology-map : {Q R : Type 0} (f : Q → R) (t : Tree Q) → topology_of (map_tree f t) ≡ topology_of t
  topology-map f (leaf q) = refl
  topology-map f (inner q ts) = ap (λ us. inner tt us) (topology-map_below f ts)

  topology-map_below : {Q R : Type 0} (f : Q → R) (ts : Trees Q) → topologies_of (map_trees f ts) ≡ topologies_of ts
  topology-map_below f none = refl
  topology-map_below f (more t ts) = ap₂ (λ u us. more u us) (topology-map f t) (topology-map_below f ts)
