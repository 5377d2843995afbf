-- The inputs of a run along a given map: each is rejected with only one code and position, or
-- accepted as only one value; and each is rejected or accepted.
use Rattle.replay_app.proofs.Prelude.{subst, sym, ℕ, List, ◌≡◌, refl, ap, ◌∙◌, [], Option, Some, None, arith, inr, length, map, get_or-map, length-map, Err, Result, Ok, image_map, count, addresses, IsGivenFor, IsVerdict, image_of, Breaks, outside, prefix, root, Fits, IsMapAnswer, IsTreeText, MapFault, Given, Policy, name_at, Target, topology_of, Topology, Tree, Address, nodes, IsPlacement, HasNoRoom, names_of, policy_edition, IsMapRefused, IsTreeRefused, unread, IsMapFile, IsCarried, NamesNodes}
use Rattle.tree_defs.proofs.Shapes.{nodes-topology}
use Rattle.embed_defs.specs.Preorder.{number_of, tree_in, HoldsImages}
use Rattle.embed_defs.proofs.PreorderTrees.{trees_in_preorder_hold_the_images}
use Rattle.embed_defs.proofs.TreesOfImages.{trees_of_images_are_one}
use Rattle.mapcheck_core.specs.Composition.{IsComposed}
use Rattle.mapcheck_core.specs.GivenMaps.{leaf}
use Rattle.mapcheck_core.specs.MapFaults.{code_of, place_of}
use Rattle.mapcheck_core.specs.TreeTexts.{code_of as tree_code, place_of as tree_place}
use Rattle.mapcheck_core.proofs.MapAnswers.{IsMapAnswer-one, fits_answer}
use Rattle.mapcheck_core.proofs.MapLaws.{breaks_none, breaks_one}
use Rattle.mapcheck_core.proofs.NumberLaws.{number_inside}
use Rattle.mapcheck_core.proofs.SomeVerdict.{some_verdict}
use Rattle.mapcheck_core.proofs.TextAnswers.{some_map, some_tree}
use Rattle.mapcheck_core.proofs.TreeAnswers.{IsTreeText-one, IsTreeFault-one, IsTreeText-IsTreeFault}
use Rattle.replay_app.specs.Via.{at_fault}
use Rattle.replay_app.specs.declared.maps.MapFile.{MapFile}
use Rattle.replay_app.proofs.FollowLaws.{AreOne}
use Rattle.replay_app.proofs.Inputs.{rooms_are_one}

-- ---- a topology
one-tree-refusal : (text : List ℕ) (code line d m : ℕ) → IsTreeRefused text code line → IsTreeRefused text d m → (code ≡ d) × (line ≡ m)
one-tree-refusal text code line d m (at_fault f h) (at_fault g k) =
    let same : f ≡ g = IsTreeFault-one text f g h k in
    (ap tree_code same, ap tree_place same)

none-refused-tree : (text : List ℕ) (t : Topology) (code line : ℕ) → IsTreeText text t → IsTreeRefused text code line → ⊥
none-refused-tree text t code line is (at_fault f h) = IsTreeText-IsTreeFault text t f is h

pub topologies_are_one : (text : List ℕ) → AreOne (IsTreeRefused text) (IsTreeText text)
topologies_are_one text = record { one_refusal = one-tree-refusal text; one = λ t u h k. IsTreeText-one text t u h k; no_both = none-refused-tree text }

pub read_topologies : (text : List ℕ) → ((t : Topology) → IsTreeText text t → ⊥) → ((code line : ℕ) → IsTreeRefused text code line → ⊥) → ⊥
read_topologies text none none' = some_tree text none (λ f h. none' (tree_code f) (tree_place f) (at_fault f h))

-- ---- a map
one-verdict : (s t : Topology) (g : Given) (v w : Option MapFault) → IsVerdict s t g v → IsVerdict s t g w → v ≡ w
one-verdict s t g None None h k = refl
one-verdict s t g None (Some f) h k = absurd (breaks_none s t g f k h)
one-verdict s t g (Some f) None h k = absurd (breaks_none s t g f h k)
one-verdict s t g (Some f) (Some e) h k = ap (λ (x : MapFault). Some x) (breaks_one s t g f e h k)

module _ (policy : Policy) (middle : Topology) (text : List ℕ) where
  one-map-refusal : (code place d m : ℕ) → IsMapRefused policy text code place → IsMapRefused policy text d m → (code ≡ d) × (place ≡ m)
  one-map-refusal code place d m (unread f h) (unread g k) =
      let same : Err f ≡ Err g = IsMapAnswer-one (policy_edition policy) text (names_of policy) (Err f) (Err g) h k in
      let one : f ≡ g = cc in
      (ap code_of one, ap place_of one)

  same-map_file : (t u : MapFile) → IsMapFile policy middle text t → IsMapFile policy middle text u → t ≡ u
  same-map_file t u h k =
      let same : Ok t.given ≡ Ok u.given = IsMapAnswer-one (policy_edition policy) text (names_of policy) (Ok t.given) (Ok u.given) h.read k.read in
      let given : t.given ≡ u.given = cc in
      let fault : t.fault ≡ u.fault = one-verdict (topology_of policy.tree) middle u.given t.fault u.fault
      (subst (λ (g : Given). IsVerdict (topology_of policy.tree) middle g t.fault) given h.verdict) k.verdict in
      λ i. record { given = given i; fault = fault i }

  none-refused-map : (t : MapFile) (code place : ℕ) → IsMapFile policy middle text t → IsMapRefused policy text code place → ⊥
  none-refused-map t code place h (unread f k) =
      let wrong : Ok t.given ≡ Err f = IsMapAnswer-one (policy_edition policy) text (names_of policy) (Ok t.given) (Err f) h.read k in
      cc

  pub maps_are_one : AreOne (IsMapRefused policy text) (IsMapFile policy middle text)
  maps_are_one = record { one_refusal = one-map-refusal; one = same-map_file; no_both = none-refused-map }

  by_answer : ((t : MapFile) → IsMapFile policy middle text t → ⊥) → ((code place : ℕ) → IsMapRefused policy text code place → ⊥) → (r : Result Given MapFault) → IsMapAnswer (policy_edition policy) text (names_of policy) r → ⊥
  by_answer none none' (Ok g) is =
      some_verdict (topology_of policy.tree) middle g (λ v verdict. none (record { given = g; fault = v }) (record { read = is; verdict = verdict }))
  by_answer none none' (Err f) is = none' (code_of f) (place_of f) (unread f is)

  pub read_maps : ((t : MapFile) → IsMapFile policy middle text t → ⊥) → ((code place : ℕ) → IsMapRefused policy text code place → ⊥) → ⊥
  read_maps none none' = some_map (policy_edition policy) text (names_of policy) (by_answer none none')

-- there is a name for each node
pub names_fit : (policy : Policy) → length (names_of policy) ≡ nodes (topology_of policy.tree)
names_fit policy = length-map (addresses policy.tree) (name_at policy) ∙ count policy.tree ∙ sym (nodes-topology policy.tree)

pub given_fits : (policy : Policy) (g : Given) → Fits (names_of policy) g → IsGivenFor (topology_of policy.tree) g
given_fits policy g fits = record { images = fits.images ∙ names_fit policy; lines = fits.lines ∙ names_fit policy }

-- a map that is read has an image and a line number for each node
pub map_fits : (policy : Policy) (middle : Topology) (text : List ℕ) (t : MapFile) → IsMapFile policy middle text t → IsGivenFor (topology_of policy.tree) t.given
map_fits policy middle text t h = given_fits policy t.given (fits_answer (policy_edition policy) text (names_of policy) (Ok t.given) (inr h.read))

-- the nodes that a broken clause names exist
pub nodes_named : (policy : Policy) (middle : Topology) (g : Given) (f : MapFault) → Breaks (topology_of policy.tree) middle g f → NamesNodes (nodes policy.tree) f
nodes_named policy middle g f (outside n l) = tt
nodes_named policy middle g f (root n i r e) = tt
nodes_named policy middle g f (leaf n i r l) = tt
nodes_named policy middle g f (prefix a b i r leaves l) =
    let s = topology_of policy.tree in
    let all = nodes-topology policy.tree in
    (omega (arith, all, l.first_number, number_inside s l.first l.first_inside.0 l.first_inside.1), omega (arith, all, l.second_number, number_inside s l.second l.second_inside.0 l.second_inside.1))

-- ---- room along a map
module _ (policy : Policy) (given : Given) (middle : Topology) (target : Target) where
  same-images : (m n : Tree Address) → IsCarried policy given middle target m → IsCarried policy given middle target n → m ≡ n
  same-images m n h k =
      let s = topology_of policy.tree in
      let same : h.placement ≡ k.placement = (rooms_are_one middle target).one h.placement k.placement h.placed k.placed in
      trees_of_images_are_one s (λ (a : Address). image_map k.placement (image_of s given a)) m n
      (subst (λ (p : Tree Address). IsComposed s (image_of s given) p m) same h.composed) k.composed

  pub carried_are_one : AreOne (HasNoRoom middle target) (IsCarried policy given middle target)
  carried_are_one = record {
    one_refusal = λ code place d m h k. (h.1 ∙ sym k.1, h.2 ∙ sym k.2);
    one = same-images;
    no_both = λ m code place h k. k.0 (_, h.placed.embedding);
  }

  -- the map of a policy's tree, composed with a placement
  pub carried_by : (s : Topology) (laid images : Tree Address) → s ≡ topology_of policy.tree → IsPlacement middle target laid → IsComposed s (image_of s given) laid images
      → IsCarried policy given middle target images
  carried_by s laid images same placed composed =
      record { placement = laid; placed = placed; composed = subst (λ (u : Topology). IsComposed u (image_of u given) laid images) same composed }

  -- the composed map gives the images that the definition demands
  carried : IsGivenFor (topology_of policy.tree) given → (placement : Tree Address) → IsPlacement middle target placement
      → IsCarried policy given middle target (tree_in (topology_of policy.tree) (map (image_map placement) given.images))
  carried fits placement placed =
      let s = topology_of policy.tree in
      let es = given.images in
      let h : HoldsImages s _ (tree_in s (map (image_map placement) es)) = trees_in_preorder_hold_the_images s (map (image_map placement) es) in
      record {
        placement = placement;
        placed = placed;
        composed = record {
          shape = h.shape;
          each = λ a l. h.each a l ∙ get_or-map (image_map placement) es (number_of s a) [] [] (omega (arith, fits.images, number_inside s a l.0 l.1));
        };
      }

  pub read_carried : IsGivenFor (topology_of policy.tree) given
      → (((placement : Tree Address) → IsPlacement middle target placement → ⊥) → ((code place : ℕ) → HasNoRoom middle target code place → ⊥) → ⊥)
      → ((images : Tree Address) → IsCarried policy given middle target images → ⊥) → ((code place : ℕ) → HasNoRoom middle target code place → ⊥) → ⊥
  read_carried fits rooms none none' = rooms (λ placement placed. none _ (carried fits placement placed)) none'
