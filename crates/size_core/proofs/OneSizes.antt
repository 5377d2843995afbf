-- A run has one result.
use Rattle.size_core.proofs.Prelude.{◌≡◌, ◌∙◌, ℕ, length, sym, ap, List, arith, subst, ◌+◌, ◌<◌, ◌≤◌, IfSome, Some, [], refl, ◌∷◌, Option, ◌++◌, suc, None, zero, map, append_assoc, append-nil, length-append, slice_get, option_map, unwrap_or, Policy, name_at, Laid, after-append, after-is, after, IsPrefixOf, Topology, topologies_of, topology_of, Address, Tree, Trees, inner, leaf, more, none, root_of, subtree, subtree_in, Line, IsNameAt, Sized, line_of, IsSizeOf, HasImage, Use}
use Rattle.tree_defs.proofs.Shapes.{topology_of-same, same_shape}
use Rattle.embed_defs.specs.Placed.{IsApartFrom}
use Rattle.embed_defs.specs.GoodMaps.{IsDeep, AreDeep, IsNested, AreNested}
use Rattle.embed_defs.proofs.Addresses.{one_prefix}
use Rattle.embed_defs.proofs.Subtrees.{same_address}
use Rattle.size_core.specs.Laws.{Fits, SizesAreDetermined}

-- ---- images
self : (e : Address) → IsPrefixOf e e
self e = ([], subst (λ (z : Address). after e z ≡ Some []) (append-nil e) (after-append e []))

chain : (d e f : Address) → IsPrefixOf d e → IsPrefixOf e f → IsPrefixOf d f
chain d e f p q =
    let ef : f ≡ e ++ q.0 = after-is e f q.0 q.1 in
    let de : e ≡ d ++ p.0 = after-is d e p.0 p.1 in
    let df : f ≡ d ++ (p.0 ++ q.0) = ef ∙ ap (λ (z : Address). z ++ q.0) de ∙ append_assoc d p.0 q.0 in
    (p.0 ++ q.0, subst (λ (z : Address). after d z ≡ Some (p.0 ++ q.0)) (sym df) (after-append d (p.0 ++ q.0)))

long : (e f : Address) → IsPrefixOf e f → length e ≤ length f
long e f p = let n : length f ≡ length e + length p.0 = ap (λ (z : Address). length z) (after-is e f p.0 p.1) ∙ length-append e p.0 in omega (arith, n)

-- a node's image extends that of each node above it
mutual
  below : (t u : Tree Address) (a : Address) → IsNested t → subtree t a ≡ Some u → IsPrefixOf (root_of t) (root_of u)
  below (leaf e) u [] n s = let same : leaf e ≡ u = cc in subst (λ (z : Tree Address). IsPrefixOf e (root_of z)) same (self e)
  below (leaf e) u (i ∷ a) n s = cc
  below (inner e ts) u [] n s = let same : inner e ts ≡ u = cc in subst (λ (z : Tree Address). IsPrefixOf e (root_of z)) same (self e)
  below (inner e ts) u (i ∷ a) n s = below_in e ts u i a n s

  below_in : (e : Address) (ts : Trees Address) (u : Tree Address) (i : ℕ) (a : Address) → AreNested e ts → subtree_in ts i a ≡ Some u → IsPrefixOf e (root_of u)
  below_in e none u i a n s = cc
  below_in e (more t ts) u zero a n s = chain e (root_of t) (root_of u) n.0 (below t u a n.2 s)
  below_in e (more t ts) u (suc i) a n s = below_in e ts u i a n.3 s

-- and it is longer
longer : (h : ℕ) (e : Address) (ts : Trees Address) (u : Tree Address) (i : ℕ) (a : Address) → AreDeep h e ts → AreNested e ts → subtree_in ts i a ≡ Some u → length e < length (root_of u)
longer h e none u i a d n s = cc
longer h e (more t ts) u zero a d n s = omega (arith, d.0, long (root_of t) (root_of u) (below t u a n.2 s))
longer h e (more t ts) u (suc i) a d n s = longer h e ts u i a d.3 n.3 s

-- no image below a node is one below its sibling
apart : (e f : Address) (ts : Trees Address) (u v : Tree Address) (i : ℕ) (a : Address) → AreNested e ts → IsApartFrom f ts → IsPrefixOf f (root_of u) → subtree_in ts i a ≡ Some v → root_of u ≡ root_of v → ⊥
apart e f none u v i a n p q s same = cc
apart e f (more t ts) u v zero a n p q s same =
    let r : IsPrefixOf (root_of t) (root_of v) = below t v a n.2 s in
    one_prefix f (root_of t) (root_of v) q.0 r.0 (ap (after f) (sym same) ∙ q.1) r.1 p.0 p.1
apart e f (more t ts) u v (suc i) a n p q s same = apart e f ts u v i a n.3 p.2 q s same

-- the image of the node itself is none of those
shorter : (h : ℕ) (e : Address) (ts : Trees Address) (u v : Tree Address) (j : ℕ) (b : Address) → AreDeep h e ts → AreNested e ts → Some (inner e ts) ≡ Some u → subtree_in ts j b ≡ Some v → root_of u ≡ root_of v → [] ≡ j ∷ b
shorter h e ts u v j b d n s r same =
    let is : inner e ts ≡ u = cc in
    let l : length e ≡ length (root_of v) = ap (λ (z : Tree Address). length (root_of z)) is ∙ ap (λ (z : Address). length z) same in
    absurd (omega (arith, l, longer h e ts v j b d n r))

up : (i j : ℕ) (a b : Address) → i ∷ a ≡ j ∷ b → suc i ∷ a ≡ suc j ∷ b
up i j a b e = let x : i ≡ j = cc in let y : a ≡ b = cc in ap (λ (z : ℕ). suc z ∷ a) x ∙ ap (λ (z : Address). suc j ∷ z) y

-- images of a good map are distinct
mutual
  one-node : (h : ℕ) (t u v : Tree Address) (a b : Address) → IsDeep h t → IsNested t → subtree t a ≡ Some u → subtree t b ≡ Some v → root_of u ≡ root_of v → a ≡ b
  one-node h (leaf e) u v [] [] d n s r same = refl
  one-node h (leaf e) u v [] (j ∷ b) d n s r same = cc
  one-node h (leaf e) u v (i ∷ a) b d n s r same = cc
  one-node h (inner e ts) u v [] [] d n s r same = refl
  one-node h (inner e ts) u v [] (j ∷ b) d n s r same = shorter h e ts u v j b d n s r same
  one-node h (inner e ts) u v (i ∷ a) [] d n s r same = sym (shorter h e ts v u i a d n r s (sym same))
  one-node h (inner e ts) u v (i ∷ a) (j ∷ b) d n s r same = one-node_in h e ts u v i j a b d n s r same

  one-node_in : (h : ℕ) (e : Address) (ts : Trees Address) (u v : Tree Address) (i j : ℕ) (a b : Address) → AreDeep h e ts → AreNested e ts → subtree_in ts i a ≡ Some u → subtree_in ts j b ≡ Some v → root_of u ≡ root_of v
      → i ∷ a ≡ j ∷ b
  one-node_in h e none u v i j a b d n s r same = cc
  one-node_in h e (more t ts) u v zero zero a b d n s r same = ap (λ (z : Address). 0 ∷ z) (one-node h t u v a b d.2 n.2 s r same)
  one-node_in h e (more t ts) u v zero (suc j) a b d n s r same = absurd (apart e (root_of t) ts u v j b n.3 n.1 (below t u a n.2 s) r same)
  one-node_in h e (more t ts) u v (suc i) zero a b d n s r same = absurd (apart e (root_of t) ts v u i a n.3 n.1 (below t v b n.2 r) s (sym same))
  one-node_in h e (more t ts) u v (suc i) (suc j) a b d n s r same = up i j a b (one-node_in h e ts u v i j a b d.3 n.3 s r same)

-- ---- names
mutual
  topology-twice : {Q : Type 0} (t : Tree Q) → topology_of (topology_of t) ≡ topology_of t
  topology-twice (leaf q) = refl
  topology-twice (inner q ts) = ap (inner tt) (topologies-twice ts)

  topologies-twice : {Q : Type 0} (ts : Trees Q) → topologies_of (topologies_of ts) ≡ topologies_of ts
  topologies-twice none = refl
  topologies-twice (more t ts) = ap (λ (z : Topology). more z (topologies_of (topologies_of ts))) (topology-twice t) ∙ ap (more (topology_of t)) (topologies-twice ts)

-- the node with this image
record IsNodeAt (images : Tree Address) (a b : Address) : Type 0 where
  pub node : Tree Address
  pub there : subtree images a ≡ Some node
  pub image : root_of node ≡ b

module _ (l : Laid) (policy : Policy) (fits : Fits l policy) where
  node-at : (b a : Address) → HasImage l policy b a → IsNodeAt l.images a b
  node-at b a has =
      let same = same_shape policy.tree l.images (sym (topology-twice policy.tree) ∙ topology_of-same (topology_of policy.tree) l.images fits.shape) in
      let v = same_address policy.tree l.images a has.address.0 same has.address.1 in
      record {
        node = v.0;
        there = v.1;
        image = sym (ap (λ (o : Option (Tree Address)). unwrap_or (option_map root_of o) []) v.1) ∙ has.image;
      }

  one-address : (b a c : Address) → HasImage l policy b a → HasImage l policy b c → a ≡ c
  one-address b a c p q =
      let x = node-at b a p in
      let y = node-at b c q in
      one-node (length l.arities) l.images x.node y.node a c fits.good.deep fits.good.nested x.there y.there (x.image ∙ sym y.image)

  one-name : (b : Address) (x y : Option (List ℕ)) → IsNameAt l policy b x → IsNameAt l policy b y → x ≡ y
  one-name b None None p q = refl
  one-name b None (Some t) p q = absurd (p q.0 q.1)
  one-name b (Some s) None p q = absurd (q p.0 p.1)
  one-name b (Some s) (Some t) p q = ap Some (p.2 ∙ ap (name_at policy) (one-address b p.0 q.0 p.1 q.1) ∙ sym q.2)

  -- ---- lines
  abbrev IsLineOf : Sized → Line → Type 0
  IsLineOf s n = IsSizeOf (s.uses n.address) n × IsNameAt l policy n.address n.name × 0 < n.pushes

  one-line : (s : Sized) (n m : Line) → n.address ≡ m.address → IsLineOf s n → IsLineOf s m → n ≡ m
  one-line s n m e p q =
      let u : s.uses n.address ≡ s.uses m.address = ap s.uses e in
      let name : n.name ≡ m.name = one-name m.address n.name m.name (subst (λ (b : Address). IsNameAt l policy b n.name) e p.1) q.1 in
      let pushes : n.pushes ≡ m.pushes = p.0.pushes ∙ ap (λ (x : Use). x.pushes) u ∙ sym q.0.pushes in
      let most : n.most ≡ m.most = p.0.most ∙ ap (λ (x : Use). x.most) u ∙ sym q.0.most in
      let top : n.top ≡ m.top = p.0.top ∙ ap (λ (x : Use). x.top) u ∙ sym q.0.top in
      let span : n.span ≡ m.span = p.0.span ∙ ap (λ (x : Use). x.span) u ∙ sym q.0.span in
      let stores : n.stores ≡ m.stores = p.0.stores ∙ ap (λ (x : Use). option_map (λ s. s.most) x.stores) u ∙ sym q.0.stores in
      λ i. record { address = e i; name = name i; pushes = pushes i; most = most i; top = top i; span = span i; stores = stores i }

  lines-once : (s : Sized) (ns ms : List Line) → map (λ (n : Line). n.address) ns ≡ map (λ (n : Line). n.address) ms
      → ((i : ℕ) → IfSome (slice_get ns i) (IsLineOf s)) → ((i : ℕ) → IfSome (slice_get ms i) (IsLineOf s)) → ns ≡ ms
  lines-once s [] [] e p q = refl
  lines-once s [] (m ∷ ms) e p q = cc
  lines-once s (n ∷ ns) [] e p q = cc
  lines-once s (n ∷ ns) (m ∷ ms) e p q =
      let first : n.address ≡ m.address = cc in
      let rest : map (λ (n : Line). n.address) ns ≡ map (λ (n : Line). n.address) ms = cc in
      let one : n ≡ m = one-line s n m first (p 0) (q 0) in
      ap (λ (x : Line). x ∷ ns) one ∙ ap (λ (xs : List Line). m ∷ xs) (lines-once s ns ms rest (λ i. p (suc i)) (λ i. q (suc i)))

pub sizes-determined : SizesAreDetermined
sizes-determined l policy s r q fits a b = record {
  nodes = lines-once l policy fits s (map line_of r.nodes.items) (map line_of q.nodes.items) (a.order ∙ sym b.order) a.each b.each;
  entries = a.entries ∙ sym b.entries;
  overflow = a.overflow ∙ sym b.overflow;
}
