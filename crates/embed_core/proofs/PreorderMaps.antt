-- The children of a node, each made from the images that the children before it left.
use Rattle.embed_core.proofs.Prelude.{◌≡◌, length, arith, sym, ◌∙◌, ap, List, ◌+◌, subst, ℕ, ◌<◌, [], refl, ◌≤◌, get_or, ◌∷◌, drop, ◌++◌, map, suc, zero, append-nil, append_assoc, length-drop, Global, Vec, drop_all, drop_more, get_or_default, get_or-map, length-map, HoldsImages, image_in, tree_in, trees_in, topology_inner, topology, topology_step, branch, Topo, IsBranched, Topology, trees_of, Address, Tree, nodes, inner, leaf, more, nodes_below}
use Rattle.tree_core.specs.declared.topo.Topo as whole
use Rattle.tree_core.specs.declared.topo.Topo.TheOpen.{Leaf}
use Rattle.tree_core.specs.declared.topo.Topo.TheFolds.{fold-roll-Topo}
use Rattle.tree_core.specs.declared.topo.Topo.TheViews as views
use Rattle.embed_defs.proofs.PreorderTrees.{trees_in_preorder_hold_the_images}

-- the trees of a list of topologies, each made from the images left by the trees before it
abbrev pub trees_from : List Topology → List Address → List (Tree Address)
trees_from [] es = []
trees_from (t ∷ ts) es = tree_in t es ∷ trees_from ts (drop (nodes t) es)

-- the images that they leave of the list
abbrev pub behind : List Topology → List Address → List Address
behind [] es = es
behind (t ∷ ts) es = behind ts (drop (nodes t) es)

trees-from : (ts : List Topology) (es : List Address) → trees_of (trees_from ts es) ≡ trees_in (trees_of ts) es
trees-from [] es = refl
trees-from (t ∷ ts) es = ap (more (tree_in t es)) (trees-from ts (drop (nodes t) es))

positive : (t : Topology) → 1 ≤ nodes t
positive (leaf u) = omega arith
positive (inner u ts) = omega arith

length-trees : (ts : List Topology) (es : List Address) → length (trees_from ts es) ≤ nodes_below (trees_of ts)
length-trees [] es = omega arith
length-trees (t ∷ ts) es = omega (arith, length-trees ts (drop (nodes t) es), positive t)

drop-drop : (m n : ℕ) (es : List Address) → drop m (drop n es) ≡ drop (n + m) es
drop-drop m zero es = let e : m ≡ 0 + m = omega arith in ap (λ (k : ℕ). drop k es) e
drop-drop m (suc n) [] = drop_all m [] (omega arith) ∙ sym (drop_all (suc n + m) [] (omega arith))
drop-drop m (suc n) (e ∷ es) = let s : suc (n + m) ≡ suc n + m = omega arith in drop-drop m n es ∙ ap (λ (k : ℕ). drop k (e ∷ es)) s

behind-drop : (ts : List Topology) (es : List Address) → behind ts es ≡ drop (nodes_below (trees_of ts)) es
behind-drop [] es = refl
behind-drop (t ∷ ts) es = behind-drop ts (drop (nodes t) es) ∙ drop-drop (nodes_below (trees_of ts)) (nodes t) es

-- the trees of the first topologies were read, and the images of those from index i on remain
pub record AreRead (ts : List Topology) (es : List Address) (i : ℕ) (ms : List (Tree Address)) (left : List Address) : Type 0 where
  pub trees : ms ++ trees_from (drop i ts) left ≡ trees_from ts es
  pub rest : behind (drop i ts) left ≡ behind ts es
  pub enough : nodes_below (trees_of (drop i ts)) ≤ length left

-- the first image
pub first-image : (t : Topology) (es : List Address) (e : Address) → nodes t ≤ length es → e ≡ get_or es 0 e → e ≡ get_or es 0 []
first-image t es e l at = at ∙ get_or_default es 0 e [] (omega (arith, l, positive t))

topology_leaf : (t : Topo) → t ≡ whole.Leaf → topology t ≡ leaf tt
unfolding views.roll-Topo denote.Hole.Carrier.roll
topology_leaf t p = ap topology p ∙ fold-roll-Topo Topology topology_step Leaf

-- a leaf leaves all images but the first
pub leaf-left : (t : Topo) (es : List Address) → t ≡ whole.Leaf → drop 1 es ≡ drop (nodes (topology t)) es
leaf-left t es p = ap (λ (u : Topology). drop (nodes u) es) (sym (topology_leaf t p))

pub read-none : (ts : List Topology) (es : List Address) → nodes_below (trees_of ts) ≤ length es → AreRead ts es 0 [] es
read-none ts es l = record { trees = refl; rest = refl; enough = l }

module _ (xs : List Topo) (i : ℕ) (x : Topo) (l : i < length xs) (at : x ≡ get_or xs i x) where
  next : drop i (map topology xs) ≡ topology x ∷ drop (i + 1) (map topology xs)
  next =
      let n : i < length (map topology xs) = omega (arith, l, length-map xs topology) in
      let first : get_or (map topology xs) i (topology x) ≡ topology x = get_or-map topology xs i x (topology x) l ∙ ap topology (sym at) in
      drop_more (map topology xs) i (topology x) n ∙ ap (λ (z : Topology). z ∷ drop (i + 1) (map topology xs)) first

  -- there are enough images for the next child
  pub next-enough : (es left : List Address) (ms : List (Tree Address)) → AreRead (map topology xs) es i ms left → nodes (topology x) ≤ length left
  next-enough es left ms r = omega (arith, r.enough, ap (λ (ts : List Topology). nodes_below (trees_of ts)) next)

  -- one more child
  pub read-next : (es left new : List Address) (ms : List (Tree Address)) (m : Tree Address) → m ≡ tree_in (topology x) left → new ≡ drop (nodes (topology x)) left
      → AreRead (map topology xs) es i ms left → AreRead (map topology xs) es (i + 1) (ms ++ m ∷ []) new
  read-next es left new ms m e f r =
      let ts : List Topology = drop (i + 1) (map topology xs) in
      let trees : trees_from (drop i (map topology xs)) left ≡ m ∷ trees_from ts new = ap (λ (z : List Topology). trees_from z left) next ∙ rw (e, f) refl in
      let rest : behind (drop i (map topology xs)) left ≡ behind ts new = ap (λ (z : List Topology). behind z left) next ∙ rw f refl in
      record {
        trees = append_assoc ms (m ∷ []) (trees_from ts new) ∙ ap (λ (z : List (Tree Address)). ms ++ z) (sym trees) ∙ r.trees;
        rest = sym rest ∙ r.rest;
        enough = omega (arith, r.enough, ap (λ (z : List Topology). nodes_below (trees_of z)) next, ap length f, length-drop (nodes (topology x)) left);
      }

-- all children were read
module _ (t : Topo) (v : Vec Topo Global) (p : t ≡ views.Inner v) (es left : List Address) (i : ℕ) (ms : List (Tree Address)) (l : length v.items ≤ i) (r : AreRead (map topology v.items) (drop 1 es) i ms left) where
  done : drop i (map topology v.items) ≡ []
  done = drop_all i (map topology v.items) (omega (arith, l, length-map v.items topology))

  all_trees : ms ≡ trees_from (map topology v.items) (drop 1 es)
  all_trees = sym (append-nil ms) ∙ ap (λ (z : List Topology). ms ++ trees_from z left) (sym done) ∙ r.trees

  pub inner-tree : IsBranched (topology t) → branch (get_or es 0 []) (trees_of ms) ≡ tree_in (topology t) es
  inner-tree b =
      ap (λ (z : List (Tree Address)). branch (get_or es 0 []) (trees_of z)) all_trees
      ∙ node (map topology v.items) (subst IsBranched (topology_inner t v p) b)
      ∙ ap (λ (z : Topology). tree_in z es) (sym (topology_inner t v p))
    where
      node : (ts : List Topology) → IsBranched (inner tt (trees_of ts)) → branch (get_or es 0 []) (trees_of (trees_from ts (drop 1 es))) ≡ tree_in (inner tt (trees_of ts)) es
      node [] b = absurd b
      node (u ∷ ts) b = ap (inner (get_or es 0 [])) (trees-from (u ∷ ts) (drop 1 es))

  pub inner-left : left ≡ drop (nodes (topology t)) es
  inner-left =
      let n : 1 + nodes_below (trees_of (map topology v.items)) ≡ nodes (topology t) = omega (arith, ap nodes (topology_inner t v p)) in
      ap (λ (z : List Topology). behind z left) (sym done) ∙ r.rest ∙ behind-drop (map topology v.items) (drop 1 es)
      ∙ drop-drop (nodes_below (trees_of (map topology v.items))) 1 es
      ∙ ap (λ (k : ℕ). drop k es) n

  pub few-trees : nodes (topology t) ≤ 1024 → length ms ≤ 1024
  few-trees few = omega (arith, few, ap nodes (topology_inner t v p), ap length all_trees, length-trees (map topology v.items) (drop 1 es))

pub holds-images : (s : Topology) (es fs : List Address) (m : Tree Address) → fs ≡ es → m ≡ tree_in s fs → HoldsImages s (image_in s es) m
holds-images s es fs m e f = subst (HoldsImages s (image_in s es)) (sym (f ∙ ap (tree_in s) e)) (trees_in_preorder_hold_the_images s es)
