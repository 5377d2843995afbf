-- A tree that is built child by child.
use Rattle.tree_graph.proofs.Prelude.{arith, ℕ, length, ap, sym, ◌<◌, ◌≡◌, subst, ◌∙◌, List, [], ◌+◌, suc, refl, ◌∷◌, ◌≤◌, ◌++◌, get_or, zero, Contains, take, drop, length-append, map, ◌-◌, Vec, append_assoc, set, take_more, append-nil, take_all, length-take, Contains-get_or, Global, branch, Topology, topologies_of, topology_of, inner, Tree, Trees, leaf, more, none, nodes, root_of, Address, count_of, nodes_below, trees_of, Graph, lists, IsChild, children, IsWithin, HasRoom, ArePartsOf, HasGrown, IsPartOf, AreTreesOf, IsTreeOf, labels, rows, rows_below, starts, Row, row}
use Rattle.std.proofs.Math.Seq.{take-append_seam}
use Rattle.tree_graph.proofs.MarkLemmas.{children-at}

-- appends one tree
abbrev pub snoc : {Q : Type 0} → Trees Q → Tree Q → Trees Q
snoc none t = more t none
snoc (more u us) t = more u (snoc us t)

length-labels : (us : Trees ℕ) → length (labels us) ≡ count_of us
length-labels none = refl
length-labels (more u us) = ap suc (length-labels us)

labels-snoc : (us : Trees ℕ) (t : Tree ℕ) → labels (snoc us t) ≡ labels us ++ root_of t ∷ []
labels-snoc none t = refl
labels-snoc (more u us) t = ap (λ l. root_of u ∷ l) (labels-snoc us t)

trees-snoc : (g : Graph) (us : Trees ℕ) (t : Tree ℕ) → AreTreesOf g us → IsTreeOf g t → AreTreesOf g (snoc us t)
trees-snoc g none t all here = (here, tt)
trees-snoc g (more u us) t all here = (all.0, trees-snoc g us t all.1 here)

nodes-snoc : (us : Trees ℕ) (t : Tree ℕ) → nodes_below (snoc us t) ≡ nodes_below us + nodes t
nodes-snoc none t = (let e : nodes t + 0 ≡ 0 + nodes t = omega arith in e)
nodes-snoc (more u us) t = omega (arith, nodes-snoc us t)

pub nodes-some : (t : Tree ℕ) → 1 ≤ nodes t
nodes-some (leaf i) = omega arith
nodes-some (inner i ts) = omega arith

count-below : (us : Trees ℕ) → count_of us ≤ nodes_below us
count-below none = omega arith
count-below (more u us) = omega (arith, nodes-some u, count-below us)

starts-snoc : (n m : ℕ) (us : Trees ℕ) (t : Tree ℕ) → m ≡ n + nodes_below us → starts n (snoc us t) ≡ starts n us ++ m ∷ []
starts-snoc n m none t e = (let same : m ≡ n = omega arith in ap (λ k. k ∷ []) (sym same))
starts-snoc n m (more u us) t e = ap (λ l. n ∷ l) (starts-snoc (n + nodes u) m us t (omega arith))

rows_below-snoc : (n m : ℕ) (a : Address) (d e : ℕ) (us : Trees ℕ) (t : Tree ℕ) → m ≡ n + nodes_below us → e ≡ d + count_of us → rows_below n a d (snoc us t) ≡ rows_below n a d us ++ rows m (a ++ e ∷ []) t
rows_below-snoc n m a d e none t at digit =
    let same : m ≡ n = omega arith in
    let also : e ≡ d = omega arith in
    append-nil (rows n (a ++ d ∷ []) t) ∙ ap (λ k. rows k (a ++ d ∷ []) t) (sym same) ∙ ap (λ k. rows m (a ++ k ∷ []) t) (sym also)
rows_below-snoc n m a d e (more u us) t at digit =
    ap (λ l. rows n (a ++ d ∷ []) u ++ l) (rows_below-snoc (n + nodes u) m a (d + 1) e us t (omega arith) (omega arith))
    ∙ sym (append_assoc (rows n (a ++ d ∷ []) u) (rows_below (n + nodes u) a (d + 1) us) (rows m (a ++ e ∷ []) t))

mutual
  pub length-rows : (n : ℕ) (a : Address) (t : Tree ℕ) → length (rows n a t) ≡ nodes t
  length-rows n a (leaf i) = refl
  length-rows n a (inner i ts) = (let r : length (rows_below (n + 1) a 0 ts) ≡ nodes_below ts = length-rows_below (n + 1) a 0 ts in omega (arith, r))

  pub length-rows_below : (n : ℕ) (a : Address) (d : ℕ) (ts : Trees ℕ) → length (rows_below n a d ts) ≡ nodes_below ts
  length-rows_below n a d none = refl
  length-rows_below n a d (more t ts) =
      (let r : length (rows n (a ++ d ∷ []) t) ≡ nodes t = length-rows n (a ++ d ∷ []) t in
      let s : length (rows_below (n + nodes t) a (d + 1) ts) ≡ nodes_below ts = length-rows_below (n + nodes t) a (d + 1) ts in
      omega (arith, r, s, length-append (rows n (a ++ d ∷ []) t) (rows_below (n + nodes t) a (d + 1) ts)))

-- a node above the rows of its children
rows-branch : (n : ℕ) (a : Address) (i : ℕ) (ts : Trees ℕ) → rows n a (branch i ts) ≡ row i a (starts (n + 1) ts) ∷ rows_below (n + 1) a 0 ts
rows-branch n a i none = refl
rows-branch n a i (more t ts) = refl

tree-branch : (g : Graph) (i : ℕ) (ts : Trees ℕ) → labels ts ≡ children g i → AreTreesOf g ts → IsTreeOf g (branch i ts)
tree-branch g i none are below = sym are
tree-branch g i (more t ts) are below = (tt, are, below)

root-branch : (i : ℕ) (ts : Trees ℕ) → root_of (branch i ts) ≡ i
root-branch i none = refl
root-branch i (more t ts) = refl

topology-branch : (i : ℕ) (ts : Trees ℕ) → branch tt (topologies_of ts) ≡ topology_of (branch i ts)
topology-branch i none = refl
topology-branch i (more t ts) = refl

-- the shapes of siblings
trees_of-push : (ts : List Topology) (t : Topology) → trees_of (ts ++ t ∷ []) ≡ snoc (trees_of ts) t
trees_of-push [] t = refl
trees_of-push (u ∷ us) t = ap (more u) (trees_of-push us t)

topologies-snoc : (us : Trees ℕ) (t : Tree ℕ) → topologies_of (snoc us t) ≡ snoc (topologies_of us) (topology_of t)
topologies-snoc none t = refl
topologies-snoc (more u us) t = ap (more (topology_of u)) (topologies-snoc us t)

-- the state after d of the children cs of node i, whose preorder number is n
pub record Growing (g : Graph) (i n : ℕ) (a : Address) (cs : List ℕ) (d : ℕ) (old now : List Row) (address : Address) (places : List ℕ) (shapes : List Topology) : Type 0 where
  pub done : Trees ℕ
  pub labels_are : labels done ≡ take d cs
  pub are_trees : AreTreesOf g done
  pub rows_are : now ≡ old ++ (row i a [] ∷ rows_below (n + 1) a 0 done)
  pub places_are : places ≡ starts (n + 1) done
  pub address_is : address ≡ a
  pub shapes_are : trees_of shapes ≡ topologies_of done

pub growing-start : (g : Graph) (i n : ℕ) (a : Address) (cs : List ℕ) (old now : List Row) (address : Address) (places : List ℕ) (shapes : List Topology) → now ≡ old ++ row i a [] ∷ [] → places ≡ [] → address ≡ a → shapes ≡ [] → Growing g i n a cs 0 old now address places shapes
growing-start g i n a cs old now address places shapes stood no_places same no_shapes = record {
  done = none;
  labels_are = refl;
  are_trees = tt;
  rows_are = stood;
  places_are = no_places;
  address_is = same;
  shapes_are = ap trees_of no_shapes;
}

-- the index of the next row
growing-place : (g : Graph) (i n : ℕ) (a : Address) (cs : List ℕ) (d : ℕ) (old now : List Row) (address : Address) (places : List ℕ) (shapes : List Topology) → n ≡ length old → (so_far : Growing g i n a cs d old now address places shapes) → length now ≡ n + 1 + nodes_below so_far.done
growing-place g i n a cs d old now address places shapes at so_far =
    (let r : length (rows_below (n + 1) a 0 so_far.done) ≡ nodes_below so_far.done = length-rows_below (n + 1) a 0 so_far.done in
    ap length so_far.rows_are ∙ omega (arith, at, r, length-append old (row i a [] ∷ rows_below (n + 1) a 0 so_far.done)))

growing-digit : (g : Graph) (i n : ℕ) (a : Address) (cs : List ℕ) (d : ℕ) (old now : List Row) (address : Address) (places : List ℕ) (shapes : List Topology) → d < length cs → (so_far : Growing g i n a cs d old now address places shapes) → d ≡ 0 + count_of so_far.done
growing-digit g i n a cs d old now address places shapes short so_far = omega (arith, length-labels so_far.done, ap length so_far.labels_are, length-take d cs, short)

growing-step : (g : Graph) (i n : ℕ) (a : Address) (cs : List ℕ) (d : ℕ) (old now new : List Row) (address address' : Address) (places : List ℕ) (shapes : List Topology) (shape : Topology) → n ≡ length old → d < length cs → Growing g i n a cs d old now address places shapes
    → HasGrown g (get_or cs d 0) (address ++ d ∷ []) now new shape → address' ≡ address → Growing g i n a cs (d + 1) old new address' (places ++ length now ∷ []) (shapes ++ shape ∷ [])
growing-step g i n a cs d old now new address address' places shapes shape at short so_far has back = record {
  done = snoc so_far.done has.tree;
  labels_are = labels-snoc so_far.done has.tree ∙ ap (λ l. l ++ root_of has.tree ∷ []) so_far.labels_are ∙ ap (λ k. take d cs ++ k ∷ []) has.root_is ∙ sym (take_more cs d 0 short);
  are_trees = trees-snoc g so_far.done has.tree so_far.are_trees has.is_tree;
  rows_are = has.rows_are ∙ ap (λ l. l ++ rows (length now) (address ++ d ∷ []) has.tree) so_far.rows_are ∙ append_assoc old (row i a [] ∷ rows_below (n + 1) a 0 so_far.done) (rows (length now) (address ++ d ∷ []) has.tree)
      ∙ ap (λ b. old ++ (row i a [] ∷ (rows_below (n + 1) a 0 so_far.done ++ rows (length now) (b ++ d ∷ []) has.tree))) so_far.address_is
      ∙ ap (λ l. old ++ (row i a [] ∷ l)) (sym (rows_below-snoc (n + 1) (length now) a 0 d so_far.done has.tree place digit));
  places_are = ap (λ l. l ++ length now ∷ []) so_far.places_are ∙ sym (starts-snoc (n + 1) (length now) so_far.done has.tree place);
  address_is = back ∙ so_far.address_is;
  shapes_are = trees_of-push shapes shape ∙ ap (λ (us : Trees (Unit {0})). snoc us shape) so_far.shapes_are ∙ ap (λ (u : Topology). snoc (topologies_of so_far.done) u) has.topology_is ∙ sym (topologies-snoc so_far.done has.tree);
}
  where
    place : length now ≡ n + 1 + nodes_below so_far.done
    place = growing-place g i n a cs d old now address places shapes at so_far

    digit : d ≡ 0 + count_of so_far.done
    digit = growing-digit g i n a cs d old now address places shapes short so_far

set-middle : (old : List Row) (x y : Row) (rest : List Row) → set (old ++ (x ∷ rest)) (length old) y ≡ old ++ (y ∷ rest)
set-middle [] x y rest = refl
set-middle (o ∷ old) x y rest = ap (λ l. o ∷ l) (set-middle old x y rest)

growing-end : (g : Graph) (i n : ℕ) (a : Address) (cs : List ℕ) (d : ℕ) (old now : List Row) (address : Address) (places : List ℕ) (shapes : List Topology) (shape : Topology) → n ≡ length old → length cs ≤ d → cs ≡ children g i → Growing g i n a cs d old now address places shapes
    → shape ≡ branch tt (trees_of shapes) → HasGrown g i a old (set now n (row i a places)) shape
growing-end g i n a cs d old now address places shapes shape at over are so_far made = record {
  tree = branch i so_far.done;
  root_is = root-branch i so_far.done;
  is_tree = tree-branch g i so_far.done (so_far.labels_are ∙ take_all d cs over ∙ are) so_far.are_trees;
  rows_are = ap (λ l. set l n (row i a places)) so_far.rows_are ∙ ap (λ k. set (old ++ (row i a [] ∷ rows_below (n + 1) a 0 so_far.done)) k (row i a places)) at
      ∙ set-middle old (row i a []) (row i a places) (rows_below (n + 1) a 0 so_far.done) ∙ ap (λ l. old ++ (row i a l ∷ rows_below (n + 1) a 0 so_far.done)) so_far.places_are
      ∙ ap (λ l. old ++ l) (sym (rows-branch n a i so_far.done)) ∙ ap (λ k. old ++ rows k a (branch i so_far.done)) at;
  topology_is = made ∙ ap (λ (us : Trees (Unit {0})). branch tt us) so_far.shapes_are ∙ topology-branch i so_far.done;
}

-- the limit at a child
pub within-child : (g : Graph) (i c limit above : ℕ) → IsWithin g i limit above → IsChild g i c → IsWithin g c limit (suc above)
within-child g i c limit above shallow step = λ k b way. (let r : suc k + above ≤ limit = shallow (suc k) b (c, step, way) in omega arith)

pub child-within : (g : Graph) (i c limit above : ℕ) → IsWithin g i limit above → IsChild g i c → suc above ≤ limit
child-within g i c limit above shallow step = (let r : 1 + above ≤ limit = shallow 1 c (c, step, refl) in omega arith)

-- ---- room for the rest of the tree
mutual
  pub tree-is_part : (g : Graph) (t : Tree ℕ) → IsTreeOf g t → IsPartOf g t
  tree-is_part g (leaf i) h = tt
  tree-is_part g (inner i ts) h = (([], append-nil (labels ts) ∙ h.1), trees-are_parts g ts h.2)

  trees-are_parts : (g : Graph) (ts : Trees ℕ) → AreTreesOf g ts → ArePartsOf g ts
  trees-are_parts g none h = tt
  trees-are_parts g (more t ts) h = (tree-is_part g t h.0, trees-are_parts g ts h.1)

parts-snoc : (g : Graph) (us : Trees ℕ) (t : Tree ℕ) → ArePartsOf g us → IsPartOf g t → ArePartsOf g (snoc us t)
parts-snoc g none t all here = (here, tt)
parts-snoc g (more u us) t all here = (all.0, parts-snoc g us t all.1 here)

take-drop' : (n : ℕ) (xs : List ℕ) → take n xs ++ drop n xs ≡ xs
take-drop' zero [] = refl
take-drop' zero (x ∷ xs) = refl
take-drop' (suc n) [] = refl
take-drop' (suc n) (x ∷ xs) = ap (λ l. x ∷ l) (take-drop' n xs)

pub room-child : (g : Graph) (i n : ℕ) (a : Address) (cs : List ℕ) (d : ℕ) (old now : List Row) (address : Address) (places : List ℕ) (shapes : List Topology) (limit : ℕ) → n ≡ length old → d < length cs → cs ≡ children g i → Growing g i n a cs d old now address places shapes
    → HasRoom g i n limit → HasRoom g (get_or cs d 0) (length now) limit
room-child g i n a cs d old now address places shapes limit at short are so_far room = λ t part top.
    (let whole : n + nodes (inner i (snoc so_far.done t)) ≤ limit = room (inner i (snoc so_far.done t)) (
      (drop (d + 1) cs, ap (λ l. l ++ drop (d + 1) cs) (labels-snoc so_far.done t ∙ ap (λ l. l ++ root_of t ∷ []) so_far.labels_are ∙ ap (λ k. take d cs ++ k ∷ []) top ∙ sym (take_more cs d 0 short)) ∙ take-drop' (d + 1) cs ∙ are),
      parts-snoc g so_far.done t (trees-are_parts g so_far.done so_far.are_trees) part,
    ) refl in
    omega (arith, whole, nodes-snoc so_far.done t, growing-place g i n a cs d old now address places shapes at so_far))

-- there is room for the node itself
pub room-here : (g : Graph) (i n limit : ℕ) → HasRoom g i n limit → n < limit
room-here g i n limit room = (let r : n + nodes (leaf i) ≤ limit = room (leaf i) tt refl in omega (arith, r))

-- a digit is below the limit too
pub digit-small : (g : Graph) (i n : ℕ) (a : Address) (cs : List ℕ) (d : ℕ) (old now : List Row) (address : Address) (places : List ℕ) (shapes : List Topology) (limit : ℕ) → n ≡ length old → d < length cs → cs ≡ children g i → Growing g i n a cs d old now address places shapes
    → HasRoom g i n limit → d < limit
digit-small g i n a cs d old now address places shapes limit at short are so_far room =
    let here : length now < limit = room-here g (get_or cs d 0) (length now) limit (room-child g i n a cs d old now address places shapes limit at short are so_far room) in
    omega (arith, here, growing-place g i n a cs d old now address places shapes at so_far, growing-digit g i n a cs d old now address places shapes short so_far, count-below so_far.done)

-- ---- in terms of the code
pub children-here : (g : List (Vec ℕ Global)) (i : ℕ) (v : Vec ℕ Global) (cs : List ℕ) → i < length g → v ≡ get_or g i v → cs ≡ v.items → cs ≡ children (lists g) i
children-here g i v cs within is same = same ∙ sym (children-at g i v within is)

pub child-here : (g : List (Vec ℕ Global)) (i : ℕ) (v : Vec ℕ Global) (cs : List ℕ) (d : ℕ) → i < length g → v ≡ get_or g i v → cs ≡ v.items → d < length cs → IsChild (lists g) i (get_or cs d 0)
child-here g i v cs d within is same short = subst (λ (l : List ℕ). Contains l (get_or cs d 0)) (children-here g i v cs within is same) (Contains-get_or cs d 0 short)

pub popped-off : (xs new address : List ℕ) (n d : ℕ) → xs ≡ address ++ d ∷ [] → n ≡ length xs → new ≡ take (n - 1) xs → new ≡ address
popped-off xs new address n d pushed size rest =
    let e : n - 1 ≡ length address = omega (arith, ap length pushed, length-append address (d ∷ []), size) in
    rest ∙ ap (λ k. take k xs) e ∙ ap (λ l. take (length address) l) pushed ∙ take-append_seam address (d ∷ [])

map-push : {X Y : Type 0} (f : X → Y) (xs : List X) (x : X) → map f (xs ++ x ∷ []) ≡ map f xs ++ f x ∷ []
map-push f [] x = refl
map-push f (y ∷ xs) x = ap (λ l. f y ∷ l) (map-push f xs x)

pub grown : {T : Type 0} (f : T → Topology) (g : Graph) (i n : ℕ) (a : Address) (cs : List ℕ) (d : ℕ) (old now new : List Row) (address address' pushed : Address) (places places' : List ℕ) (m : ℕ) (topos topos' : List T) (topo : T) → n ≡ length old → d < length cs
    → Growing g i n a cs d old now address places (map f topos) → pushed ≡ address ++ d ∷ [] → HasGrown g (get_or cs d 0) pushed now new (f topo) → address' ≡ address → places' ≡ places ++ m ∷ [] → m ≡ length now → topos' ≡ topos ++ topo ∷ []
    → Growing g i n a cs (d + 1) old new address' places' (map f topos')
grown f g i n a cs d old now new address address' pushed places places' m topos topos' topo at short so_far longer has back put size more' =
    subst (λ (l : List ℕ). Growing g i n a cs (d + 1) old new address' l (map f topos')) (sym (put ∙ ap (λ k. places ++ k ∷ []) size))
    (subst (λ (s : List Topology). Growing g i n a cs (d + 1) old new address' (places ++ length now ∷ []) s) (sym (ap (map f) more' ∙ map-push f topos topo))
    (growing-step g i n a cs d old now new address address' places (map f topos) (f topo) at short so_far (subst (λ (l : List ℕ). HasGrown g (get_or cs d 0) l now new (f topo)) longer has) back))

row-at : (old : List Row) (x : Row) (rest : List Row) (d : Row) → get_or (old ++ (x ∷ rest)) (length old) d ≡ x
row-at [] x rest d = refl
row-at (o ∷ old) x rest d = row-at old x rest d

pub closed : (g : Graph) (i n : ℕ) (a : Address) (cs : List ℕ) (d : ℕ) (old now : List Row) (address : Address) (places : List ℕ) (shapes : List Topology) (shape : Topology) (place place' : Row) → n ≡ length old → length cs ≤ d → cs ≡ children g i
    → Growing g i n a cs d old now address places shapes → place ≡ get_or now n place → place' ≡ row place.node place.address places → shape ≡ branch tt (trees_of shapes) → HasGrown g i a old (set now n place') shape
closed g i n a cs d old now address places shapes shape place place' at over are so_far is put made =
    let here : place ≡ row i a [] = is ∙ ap (λ l. get_or l n place) so_far.rows_are ∙ ap (λ k. get_or (old ++ (row i a [] ∷ rows_below (n + 1) a 0 so_far.done)) k place) at ∙ row-at old (row i a []) (rows_below (n + 1) a 0 so_far.done) place in
    let now' : place' ≡ row i a places = put ∙ ap (λ (p : Row). row p.node p.address places) here in
    subst (λ (p : Row). HasGrown g i a old (set now n p) shape) (sym now') (growing-end g i n a cs d old now address places shapes shape at over are so_far made)
