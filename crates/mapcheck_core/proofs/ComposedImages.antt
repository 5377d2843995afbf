-- The images of a given map, each mapped through a placement, are an embedding.
use Rattle.mapcheck_core.proofs.Prelude.{◌≡◌, sym, List, ℕ, subst, ◌∙◌, ap, [], refl, map, arith, None, Some, length, get_or, get_or-map, All, unwrap_or, IsEmbedding, image_map, image_at, number_of, HoldsImages, image_in, Topology, topologies_of, topology_of, nodes, Address, inner, IsAddressOf, more, none, Trees, SameShape, SameShapes, Tree}
use Rattle.std.proofs.lemmas.List.Elements.{All-from_get_or}
use Rattle.tree_defs.specs.Tree.{leaf}
use Rattle.embed_defs.proofs.Subtrees.{same_address}
use Rattle.embed_defs.proofs.ComposedMaps.{embeddings_compose, agreeing}
use Rattle.mapcheck_core.proofs.NumberLaws.{at_number, number_inside}
use Rattle.mapcheck_core.specs.Composition.{IsComposed}

mutual
  own_shape : {Q : Type 0} (t : Tree Q) → SameShape (topology_of t) t
  own_shape (leaf q) = tt
  own_shape (inner q ts) = own_shapes ts

  own_shapes : {Q : Type 0} (ts : Trees Q) → SameShapes (topologies_of ts) ts
  own_shapes none = tt
  own_shapes (more t ts) = (own_shape t, own_shapes ts)

-- the topology of the placement is the topology placed
mutual
  pub placed-topology : (m : Topology) (p : Tree Address) → SameShape m p → topology_of p ≡ m
  placed-topology (leaf u) (leaf e) s = refl
  placed-topology (leaf u) (inner e ps) s = absurd s
  placed-topology (inner u ts) (leaf e) s = absurd s
  placed-topology (inner u ts) (inner e ps) s = ap (inner tt) (placed-topologies ts ps s)

  placed-topologies : (ts : Trees (Unit {0})) (ps : Trees Address) → SameShapes ts ps → topologies_of ps ≡ ts
  placed-topologies none none s = refl
  placed-topologies none (more p ps) s = absurd s
  placed-topologies (more t ts) none s = absurd s
  placed-topologies (more t ts) (more p ps) s = ap (λ (z : Topology). more z (topologies_of ps)) (placed-topology t p s.0) ∙ ap (more t) (placed-topologies ts ps s.1)

-- a node of the placement's topology has an image
pub placed : (p : Tree Address) (a : Address) → IsAddressOf (topology_of p) a → IsAddressOf p a
placed p a l = let w = same_address (topology_of p) p a l.0 (own_shape p) l.1 in (w.0, w.1)

pub some-image : (p : Tree Address) (a : Address) → IsAddressOf p a → image_at p a ≡ None → ⊥
some-image p a l e = cc

pub the-image : (p : Tree Address) (a e : Address) → image_at p a ≡ Some e → e ≡ image_map p a
the-image p a e f = sym (ap (λ o. unwrap_or o []) f)

module _ (s : Topology) (es : List Address) (p : Tree Address) (n : length es ≡ nodes s) (e : IsEmbedding s (topology_of p) (image_in s es)) where
  -- each given image is the address of a node
  pub all-placed : All (IsAddressOf p) es
  all-placed = All-from_get_or (IsAddressOf p) es [] (λ i l.
      let d = at_number s i (omega (arith, l, n)) in
      subst (λ (k : ℕ). IsAddressOf p (get_or es k [])) d.3 (placed p (image_in s es d.0) (e.inside d.0 (d.1, d.2))))

  -- an image in the list of composed images
  composed : (a : Address) → IsAddressOf s a → image_in s (map (image_map p) es) a ≡ image_map p (image_in s es a)
  composed a l = get_or-map (image_map p) es (number_of s a) [] [] (omega (arith, n, number_inside s a l.0 l.1))

  pub composed-embedding : (t : Topology) → IsEmbedding (topology_of p) t (image_map p) → IsEmbedding s t (image_in s (map (image_map p) es))
  composed-embedding t f =
      agreeing s t (λ a. image_map p (image_in s es a)) (image_in s (map (image_map p) es)) composed (embeddings_compose s (topology_of p) t (image_in s es) (image_map p) e f)

  pub composed-holds : (m : Tree Address) → HoldsImages s (image_in s (map (image_map p) es)) m → IsComposed s (image_in s es) p m
  composed-holds m h = record { shape = h.shape; each = λ a l. h.each a l ∙ composed a l }
