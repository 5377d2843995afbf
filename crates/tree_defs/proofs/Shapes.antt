-- The topology of a tree, which a push and a pop keep.
use Rattle.tree_defs.proofs.Prelude.{◌≡◌, Some, [], ap, arith, refl, subst, ℕ, ◌∙◌, ◌∷◌, suc, List, length, zero, ◌+◌, drop, Queue, Taking, take_least, empty_tree, empty_trees, of_first, of_inner, of_later, of_leaf, pop, pop_child, push, push_child, Topology, topologies_of, topology_of, leaf, Address, LeadsToLeaf, Trees, inner, more, none, LeadsBelow, Tree, Popping, SameShape, SameShapes, depth, depth_below, nodes, nodes_below}
use Rattle.std.specs.Option.{option_map}
use Rattle.tree_defs.specs.Laws.{LedToALeaf}
use Rattle.tree_defs.proofs.Options.{option_map-some, option_bind-some}

mutual
  pub topology_of-same : {Q R : Type 0} (t : Tree Q) (u : Tree R) → SameShape t u → topology_of t ≡ topology_of u
  topology_of-same (leaf q) (leaf r) s = refl
  topology_of-same (leaf q) (inner r us) s = absurd s
  topology_of-same (inner q ts) (leaf r) s = absurd s
  topology_of-same (inner q ts) (inner r us) s = ap (inner tt) (topologies_of-same ts us s)

  pub topologies_of-same : {Q R : Type 0} (ts : Trees Q) (us : Trees R) → SameShapes ts us → topologies_of ts ≡ topologies_of us
  topologies_of-same none none s = refl
  topologies_of-same none (more u us) s = absurd s
  topologies_of-same (more t ts) none s = absurd s
  topologies_of-same (more t ts) (more u us) s = ap (λ (z : Topology). more z (topologies_of ts)) (topology_of-same t u s.0) ∙ ap (more (topology_of u)) (topologies_of-same ts us s.1)

mutual
  pub same_shape : {Q R : Type 0} (t : Tree Q) (u : Tree R) → topology_of t ≡ topology_of u → SameShape t u
  same_shape (leaf q) (leaf r) p = tt
  same_shape (leaf q) (inner r us) p = cc
  same_shape (inner q ts) (leaf r) p = cc
  same_shape (inner q ts) (inner r us) p = let e : topologies_of ts ≡ topologies_of us = cc in same_shapes ts us e

  pub same_shapes : {Q R : Type 0} (ts : Trees Q) (us : Trees R) → topologies_of ts ≡ topologies_of us → SameShapes ts us
  same_shapes none none p = tt
  same_shapes none (more u us) p = cc
  same_shapes (more t ts) none p = cc
  same_shapes (more t ts) (more u us) p =
      let e : topology_of t ≡ topology_of u = cc in
      let f : topologies_of ts ≡ topologies_of us = cc in
      (same_shape t u e, same_shapes ts us f)

mutual
  pub topology_of-empty : (t : Topology) → topology_of (empty_tree t) ≡ t
  topology_of-empty (leaf u) = refl
  topology_of-empty (inner u ts) = ap (inner tt) (topologies_of-empty ts)

  pub topologies_of-empty : (ts : Trees (Unit {0})) → topologies_of (empty_trees ts) ≡ ts
  topologies_of-empty none = refl
  topologies_of-empty (more t ts) = ap (λ (z : Topology). more z (topologies_of (empty_trees ts))) (topology_of-empty t) ∙ ap (more t) (topologies_of-empty ts)

mutual
  pub topology_of-push : (t : Tree Queue) (digits ranks : List ℕ) (item : ℕ) → topology_of (push t digits ranks item) ≡ topology_of t
  topology_of-push (leaf q) digits ranks item = refl
  topology_of-push (inner q ts) [] ranks item = refl
  topology_of-push (inner q ts) (i ∷ digits) ranks item = ap (inner tt) (topologies_of-push ts i digits (drop 1 ranks) item)

  pub topologies_of-push : (ts : Trees Queue) (i : ℕ) (digits ranks : List ℕ) (item : ℕ) → topologies_of (push_child ts i digits ranks item) ≡ topologies_of ts
  topologies_of-push none i digits ranks item = refl
  topologies_of-push (more t ts) zero digits ranks item = ap (λ (z : Topology). more z (topologies_of ts)) (topology_of-push t digits ranks item)
  topologies_of-push (more t ts) (suc i) digits ranks item = ap (more (topology_of t)) (topologies_of-push ts i digits ranks item)

mutual
  pub topology_of-pop : (t : Tree Queue) (r : Popping (Tree Queue)) → pop t ≡ Some r → topology_of r.left ≡ topology_of t
  topology_of-pop (leaf q) r p =
      let w : (x : Taking) × (take_least q ≡ Some x) × (of_leaf x ≡ r) = option_map-some of_leaf (take_least q) r p in
      subst (λ (z : Popping (Tree Queue)). topology_of z.left ≡ leaf tt) w.2 refl
  topology_of-pop (inner q ts) r p =
      let w : (x : Taking) × (take_least q ≡ Some x) × (option_map (of_inner x) (pop_child ts x.value) ≡ Some r) = option_bind-some _ (take_least q) r p in
      let v : (y : Popping (Trees Queue)) × (pop_child ts w.0.value ≡ Some y) × (of_inner w.0 y ≡ r) = option_map-some (of_inner w.0) (pop_child ts w.0.value) r w.2 in
      subst (λ (z : Popping (Tree Queue)). topology_of z.left ≡ inner tt (topologies_of ts)) v.2 (ap (inner tt) (topologies_of-pop ts w.0.value v.0 v.1))

  pub topologies_of-pop : (ts : Trees Queue) (i : ℕ) (r : Popping (Trees Queue)) → pop_child ts i ≡ Some r → topologies_of r.left ≡ topologies_of ts
  topologies_of-pop none i r p = cc
  topologies_of-pop (more t ts) zero r p =
      let v : (y : Popping (Tree Queue)) × (pop t ≡ Some y) × (of_first ts y ≡ r) = option_map-some (of_first ts) (pop t) r p in
      subst (λ (z : Popping (Trees Queue)). topologies_of z.left ≡ topologies_of (more t ts)) v.2 (ap (λ (z : Topology). more z (topologies_of ts)) (topology_of-pop t v.0 v.1))
  topologies_of-pop (more t ts) (suc i) r p =
      let v : (y : Popping (Trees Queue)) × (pop_child ts i ≡ Some y) × (of_later t y ≡ r) = option_map-some (of_later t) (pop_child ts i) r p in
      subst (λ (z : Popping (Trees Queue)). topologies_of z.left ≡ topologies_of (more t ts)) v.2 (ap (more (topology_of t)) (topologies_of-pop ts i v.0 v.1))

-- the popped value was at a leaf, and a rank was taken at each node on the path
record LedBelow (ts : Trees Queue) (i : ℕ) (r : Popping (Trees Queue)) : Type 0 where
  leaf_address : LeadsBelow ts i r.digits
  ranks : length r.ranks ≡ length r.digits + 1

mutual
  pub pop-path : (t : Tree Queue) (r : Popping (Tree Queue)) → pop t ≡ Some r → LedToALeaf t r
  pop-path (leaf q) r p =
      let w : (x : Taking) × (take_least q ≡ Some x) × (of_leaf x ≡ r) = option_map-some of_leaf (take_least q) r p in
      subst (LedToALeaf (leaf q)) w.2 (record { leaf_address = tt; ranks = refl })
  pop-path (inner q ts) r p =
      let w : (x : Taking) × (take_least q ≡ Some x) × (option_map (of_inner x) (pop_child ts x.value) ≡ Some r) = option_bind-some _ (take_least q) r p in
      let v : (y : Popping (Trees Queue)) × (pop_child ts w.0.value ≡ Some y) × (of_inner w.0 y ≡ r) = option_map-some (of_inner w.0) (pop_child ts w.0.value) r w.2 in
      let below : LedBelow ts w.0.value v.0 = pop_child-path ts w.0.value v.0 v.1 in
      subst (LedToALeaf (inner q ts)) v.2 (record { leaf_address = below.leaf_address; ranks = omega (arith, below.ranks) })

  pop_child-path : (ts : Trees Queue) (i : ℕ) (r : Popping (Trees Queue)) → pop_child ts i ≡ Some r → LedBelow ts i r
  pop_child-path none i r p = cc
  pop_child-path (more t ts) zero r p =
      let v : (y : Popping (Tree Queue)) × (pop t ≡ Some y) × (of_first ts y ≡ r) = option_map-some (of_first ts) (pop t) r p in
      let here : LedToALeaf t v.0 = pop-path t v.0 v.1 in
      subst (LedBelow (more t ts) zero) v.2 (record { leaf_address = here.leaf_address; ranks = here.ranks })
  pop_child-path (more t ts) (suc i) r p =
      let v : (y : Popping (Trees Queue)) × (pop_child ts i ≡ Some y) × (of_later t y ≡ r) = option_map-some (of_later t) (pop_child ts i) r p in
      let later : LedBelow ts i v.0 = pop_child-path ts i v.0 v.1 in
      subst (LedBelow (more t ts) (suc i)) v.2 (record { leaf_address = later.leaf_address; ranks = later.ranks })

-- leaf addresses and depth are read from the topology
mutual
  pub LeadsToLeaf-topology : {Q : Type 0} (t : Tree Q) (a : Address) → LeadsToLeaf t a ≡ LeadsToLeaf (topology_of t) a
  LeadsToLeaf-topology (leaf q) [] = refl
  LeadsToLeaf-topology (leaf q) (i ∷ a) = refl
  LeadsToLeaf-topology (inner q ts) [] = refl
  LeadsToLeaf-topology (inner q ts) (i ∷ a) = LeadsBelow-topology ts i a

  pub LeadsBelow-topology : {Q : Type 0} (ts : Trees Q) (i : ℕ) (a : Address) → LeadsBelow ts i a ≡ LeadsBelow (topologies_of ts) i a
  LeadsBelow-topology none i a = refl
  LeadsBelow-topology (more t ts) zero a = LeadsToLeaf-topology t a
  LeadsBelow-topology (more t ts) (suc i) a = LeadsBelow-topology ts i a

mutual
  pub depth-topology : {Q : Type 0} (t : Tree Q) → depth (topology_of t) ≡ depth t
  depth-topology (leaf q) = refl
  depth-topology (inner q ts) = depth_below-topology ts

  pub depth_below-topology : {Q : Type 0} (ts : Trees Q) → depth_below (topologies_of ts) ≡ depth_below ts
  depth_below-topology none = refl
  depth_below-topology (more t ts) = omega (arith, depth-topology t, depth_below-topology ts)

mutual
  pub nodes-topology : {Q : Type 0} (t : Tree Q) → nodes (topology_of t) ≡ nodes t
  nodes-topology (leaf q) = refl
  nodes-topology (inner q ts) = omega (arith, nodes_below-topology ts)

  pub nodes_below-topology : {Q : Type 0} (ts : Trees Q) → nodes_below (topologies_of ts) ≡ nodes_below ts
  nodes_below-topology none = refl
  nodes_below-topology (more t ts) = omega (arith, nodes-topology t, nodes_below-topology ts)
