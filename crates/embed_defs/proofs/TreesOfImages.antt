-- A map has exactly one tree of images.
use Rattle.embed_defs.proofs.Prelude.{[], ℕ, ◌≡◌, refl, ◌∷◌, ap, ◌∙◌, suc, sym, Some, Topology, inner, leaf, more, none, Tree, Trees, SameShape, SameShapes, subtree_in, IsAddressOf, image_map}
use Rattle.tree_defs.specs.Tree.{Address}
use Rattle.embed_defs.specs.MapLaws.{TreesOfImagesAreOne}

-- the image at an address below some trees, the first of which is child 0
abbrev below_map : Trees Address → ℕ → Address → Address
below_map ts i a = image_map (inner [] ts) (i ∷ a)

abbrev Agree : Topology → Tree Address → Tree Address → Type 0
Agree s m n = (a : Address) → IsAddressOf s a → image_map m a ≡ image_map n a

abbrev AgreeBelow : Trees (Unit {0}) → Trees Address → Trees Address → Type 0
AgreeBelow ts ms ns = (i : ℕ) (a : Address) (u : Topology) → subtree_in ts i a ≡ Some u → below_map ms i a ≡ below_map ns i a

mutual
  one_tree : (s : Topology) (m n : Tree Address) → SameShape s m → SameShape s n → Agree s m n → m ≡ n
  one_tree (leaf u) (leaf d) (leaf e) p q h = ap leaf (h [] (leaf u, refl))
  one_tree (leaf u) (leaf d) (inner e ns) p q h = absurd q
  one_tree (leaf u) (inner d ms) n p q h = absurd p
  one_tree (inner u ts) (leaf d) n p q h = absurd p
  one_tree (inner u ts) (inner d ms) (leaf e) p q h = absurd q
  one_tree (inner u ts) (inner d ms) (inner e ns) p q h =
      let root : d ≡ e = h [] (inner u ts, refl) in
      let below : ms ≡ ns = one_below ts ms ns p q (λ i a v l. h (i ∷ a) (v, l)) in
      ap (λ (z : Address). inner z ms) root ∙ ap (inner e) below

  one_below : (ts : Trees (Unit {0})) (ms ns : Trees Address) → SameShapes ts ms → SameShapes ts ns → AgreeBelow ts ms ns → ms ≡ ns
  one_below none none none p q h = refl
  one_below none none (more n ns) p q h = absurd q
  one_below none (more m ms) ns p q h = absurd p
  one_below (more t ts) none ns p q h = absurd p
  one_below (more t ts) (more m ms) none p q h = absurd q
  one_below (more t ts) (more m ms) (more n ns) p q h =
      let first : m ≡ n = one_tree t m n p.0 q.0 (λ a l. h 0 a l.0 l.1) in
      let later : ms ≡ ns = one_below ts ms ns p.1 q.1 (λ i a u l. h (suc i) a u l) in
      ap (λ (z : Tree Address). more z ms) first ∙ ap (more n) later

pub trees_of_images_are_one : TreesOfImagesAreOne
trees_of_images_are_one s image images others h k = one_tree s images others h.shape k.shape (λ a l. h.each a l ∙ sym (k.each a l))
