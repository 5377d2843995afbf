-- Numbers and addresses determine each other in any tree, and a tree built from a topology has the
-- expected nodes at them.
use Rattle.policy_core.proofs.Prelude.{◌≡◌, ℕ, ap, sym, subst, [], ◌∙◌, arith, ◌<◌, ◌∷◌, refl, suc, Some, zero, None, inl, inr, ◌+◌, if◌then◌else◌, ◌-◌, nat_lt, cases_lt, le-ltb, lt-ltb, number_at, number_below, Node, node_at, node_below, nodes-topology, topology_of, Topology, topologies_of, Tree, Trees, inner, more, none, Address, nodes, nodes_below, IsAddressOf, subtree_in, subtree, address_at, nodes_from, address_below, nodes_from_below, sibling_of}
use Rattle.tree_defs.specs.Tree.{leaf}

-- ---- the sibling whose subtree has a number
module _ {Q : Type 0} (t : Tree Q) (ts : Trees Q) where
  pub sibling-first : (n : ℕ) → n < nodes t → sibling_of (more t ts) n ≡ 0
  sibling-first n l = ap (λ b. if b then 0 else suc (sibling_of ts (n - nodes t))) (lt-ltb n (nodes t) l)

  pub way-first : (n : ℕ) → n < nodes t → address_below (more t ts) n ≡ address_at t n
  way-first n l = ap (λ b. if b then address_at t n else address_below ts (n - nodes t)) (lt-ltb n (nodes t) l)

  pub sibling-later : (n : ℕ) → sibling_of (more t ts) (nodes t + n) ≡ suc (sibling_of ts n)
  sibling-later n =
      let e : nodes t + n - nodes t ≡ n = omega arith in
      ap (λ b. if b then 0 else suc (sibling_of ts (nodes t + n - nodes t))) (le-ltb (nodes t + n) (nodes t) (omega arith)) ∙ ap (λ k. suc (sibling_of ts k)) e

  pub way-later : (n : ℕ) → address_below (more t ts) (nodes t + n) ≡ address_below ts n
  way-later n =
      let e : nodes t + n - nodes t ≡ n = omega arith in
      ap (λ b. if b then address_at t (nodes t + n) else address_below ts (nodes t + n - nodes t)) (le-ltb (nodes t + n) (nodes t) (omega arith)) ∙ ap (address_below ts) e

-- ---- from an address to its number and back
pub record IsNumber {Q : Type 0} (t : Tree Q) (a : Address) (n : ℕ) : Type 0 where
  pub within : n < nodes t
  pub address : address_at t n ≡ a

record IsNumberBelow {Q : Type 0} (ts : Trees Q) (i : ℕ) (a : Address) (n : ℕ) : Type 0 where
  within : n < nodes_below ts
  sibling : sibling_of ts n ≡ i
  way : address_below ts n ≡ a

mutual
  pub number-undone : {Q : Type 0} (t : Tree Q) (a : Address) (u : Tree Q) → subtree t a ≡ Some u → IsNumber t a (number_at t a)
  number-undone (leaf q) [] u p = record { within = omega arith; address = refl }
  number-undone (leaf q) (i ∷ a) u p = cc
  number-undone (inner q ts) [] u p = record { within = omega arith; address = refl }
  number-undone (inner q ts) (i ∷ a) u p =
      let b : IsNumberBelow ts i a (number_below ts i a) = number-undone_below ts i a u p in
      let e : number_below ts i a + 1 ≡ suc (number_below ts i a) = omega arith in
      record {
        within = omega (arith, b.within);
        address = ap (address_at (inner q ts)) e ∙ ap (λ j. j ∷ address_below ts (number_below ts i a)) b.sibling ∙ ap (λ w. i ∷ w) b.way;
      }

  number-undone_below : {Q : Type 0} (ts : Trees Q) (i : ℕ) (a : Address) (u : Tree Q) → subtree_in ts i a ≡ Some u → IsNumberBelow ts i a (number_below ts i a)
  number-undone_below none i a u p = cc
  number-undone_below (more t ts) zero a u p =
      let b : IsNumber t a (number_at t a) = number-undone t a u p in
      record { within = omega (arith, b.within); sibling = sibling-first t ts (number_at t a) b.within; way = way-first t ts (number_at t a) b.within ∙ b.address }
  number-undone_below (more t ts) (suc i) a u p =
      let b : IsNumberBelow ts i a (number_below ts i a) = number-undone_below ts i a u p in
      record { within = omega (arith, b.within); sibling = sibling-later t ts (number_below ts i a) ∙ ap suc b.sibling; way = way-later t ts (number_below ts i a) ∙ b.way }

-- ---- from a number to its address and back
pub record IsAddress {Q : Type 0} (t : Tree Q) (n : ℕ) (a : Address) : Type 0 where
  pub there : IsAddressOf t a
  pub number : number_at t a ≡ n

record IsWay {Q : Type 0} (ts : Trees Q) (n i : ℕ) (a : Address) : Type 0 where
  there : (u : Tree Q) × (subtree_in ts i a ≡ Some u)
  number : number_below ts i a ≡ n

mutual
  pub address-undone : {Q : Type 0} (t : Tree Q) (n : ℕ) → n < nodes t → IsAddress t n (address_at t n)
  address-undone (leaf q) zero l = record { there = (leaf q, refl); number = refl }
  address-undone (leaf q) (suc n) l = absurd (omega arith)
  address-undone (inner q ts) zero l = record { there = (inner q ts, refl); number = refl }
  address-undone (inner q ts) (suc n) l =
      let w : IsWay ts n (sibling_of ts n) (address_below ts n) = address-undone_below ts n (omega arith) in
      record { there = w.there; number = omega (arith, w.number) }

  address-undone_below : {Q : Type 0} (ts : Trees Q) (n : ℕ) → n < nodes_below ts → IsWay ts n (sibling_of ts n) (address_below ts n)
  address-undone_below none n l = absurd (omega arith)
  address-undone_below (more t ts) n l = elim (cases_lt n (nodes t)) [
    | inl first ↦ (
        let a : IsAddress t n (address_at t n) = address-undone t n first in
        subst (λ (i : ℕ). IsWay (more t ts) n i (address_below (more t ts) n)) (sym (sibling-first t ts n first))
        (subst (λ (w : Address). IsWay (more t ts) n 0 w) (sym (way-first t ts n first)) (record { there = a.there; number = a.number })))
    | inr later ↦ (
        let m : ℕ = n - nodes t in
        let e : nodes t + m ≡ n = omega (arith, later) in
        let w : IsWay ts m (sibling_of ts m) (address_below ts m) = address-undone_below ts m (omega (arith, later, l)) in
        subst (λ (k : ℕ). IsWay (more t ts) k (sibling_of (more t ts) k) (address_below (more t ts) k)) e
        (subst (λ (i : ℕ). IsWay (more t ts) (nodes t + m) i (address_below (more t ts) (nodes t + m))) (sym (sibling-later t ts m))
        (subst (λ (v : Address). IsWay (more t ts) (nodes t + m) (suc (sibling_of ts m)) v) (sym (way-later t ts m)) (record { there = w.there; number = ap (λ k. nodes t + k) w.number }))))
  ]

-- ---- addresses are read from the topology
mutual
  pub address_at-topology : {Q : Type 0} (t : Tree Q) (n : ℕ) → address_at (topology_of t) n ≡ address_at t n
  address_at-topology (leaf q) n = refl
  address_at-topology (inner q ts) zero = refl
  address_at-topology (inner q ts) (suc n) = ap (λ i. i ∷ address_below (topologies_of ts) n) (sibling_of-topology ts n) ∙ ap (λ w. sibling_of ts n ∷ w) (address_below-topology ts n)

  sibling_of-topology : {Q : Type 0} (ts : Trees Q) (n : ℕ) → sibling_of (topologies_of ts) n ≡ sibling_of ts n
  sibling_of-topology none n = refl
  sibling_of-topology (more t ts) n =
      ap (λ k. if nat_lt n k then 0 else suc (sibling_of (topologies_of ts) (n - k))) (nodes-topology t)
      ∙ ap (λ k. if nat_lt n (nodes t) then 0 else suc k) (sibling_of-topology ts (n - nodes t))

  address_below-topology : {Q : Type 0} (ts : Trees Q) (n : ℕ) → address_below (topologies_of ts) n ≡ address_below ts n
  address_below-topology none n = refl
  address_below-topology (more t ts) n =
      ap (λ k. if nat_lt n k then address_at (topology_of t) n else address_below (topologies_of ts) (n - k)) (nodes-topology t)
      ∙ ap (λ w. if nat_lt n (nodes t) then w else address_below (topologies_of ts) (n - nodes t)) (address_at-topology t n)
      ∙ ap (λ w. if nat_lt n (nodes t) then address_at t n else w) (address_below-topology ts (n - nodes t))

mutual
  pub address-down : {Q : Type 0} (t : Tree Q) (a : Address) → IsAddressOf t a → IsAddressOf (topology_of t) a
  address-down (leaf q) [] p = (leaf tt, refl)
  address-down (leaf q) (i ∷ a) p = (let e : None ≡ Some p.0 = p.1 in cc)
  address-down (inner q ts) [] p = (topology_of (inner q ts), refl)
  address-down (inner q ts) (i ∷ a) p = address-down_below ts i a p

  address-down_below : {Q : Type 0} (ts : Trees Q) (i : ℕ) (a : Address) → ((u : Tree Q) × (subtree_in ts i a ≡ Some u)) → (u : Topology) × (subtree_in (topologies_of ts) i a ≡ Some u)
  address-down_below none i a p = (let e : None ≡ Some p.0 = p.1 in cc)
  address-down_below (more t ts) zero a p = address-down t a p
  address-down_below (more t ts) (suc i) a p = address-down_below ts i a p

mutual
  pub address-up : {Q : Type 0} (t : Tree Q) (a : Address) → IsAddressOf (topology_of t) a → IsAddressOf t a
  address-up (leaf q) [] p = (leaf q, refl)
  address-up (leaf q) (i ∷ a) p = (let e : None ≡ Some p.0 = p.1 in cc)
  address-up (inner q ts) [] p = (inner q ts, refl)
  address-up (inner q ts) (i ∷ a) p = address-up_below ts i a p

  address-up_below : {Q : Type 0} (ts : Trees Q) (i : ℕ) (a : Address) → ((u : Topology) × (subtree_in (topologies_of ts) i a ≡ Some u)) → (u : Tree Q) × (subtree_in ts i a ≡ Some u)
  address-up_below none i a p = (let e : None ≡ Some p.0 = p.1 in cc)
  address-up_below (more t ts) zero a p = address-up t a p
  address-up_below (more t ts) (suc i) a p = address-up_below ts i a p

-- ---- a tree built from a topology
mutual
  pub topology_of-nodes : {Q : Type 0} (f : ℕ → Q) (n : ℕ) (t : Topology) → topology_of (nodes_from f n t) ≡ t
  topology_of-nodes f n (leaf u) = refl
  topology_of-nodes f n (inner u ts) = ap (inner tt) (topologies_of-nodes f (n + 1) ts)

  topologies_of-nodes : {Q : Type 0} (f : ℕ → Q) (n : ℕ) (ts : Trees (Unit {0})) → topologies_of (nodes_from_below f n ts) ≡ ts
  topologies_of-nodes f n none = refl
  topologies_of-nodes f n (more t ts) = ap (λ (z : Topology). more z (topologies_of (nodes_from_below f (n + nodes t) ts))) (topology_of-nodes f n t) ∙ ap (more t) (topologies_of-nodes f (n + nodes t) ts)

mutual
  -- the node at an address is the value of its number
  pub node_at-nodes : (f : ℕ → Node) (n : ℕ) (t : Topology) (a : Address) → IsAddressOf t a → node_at (nodes_from f n t) a ≡ Some (f (n + number_at t a))
  node_at-nodes f n (leaf u) [] p = (let e : n ≡ n + 0 = omega arith in ap (λ k. Some (f k)) e)
  node_at-nodes f n (leaf u) (i ∷ a) p = (let e : None ≡ Some p.0 = p.1 in cc)
  node_at-nodes f n (inner u ts) [] p = (let e : n ≡ n + 0 = omega arith in ap (λ k. Some (f k)) e)
  node_at-nodes f n (inner u ts) (i ∷ a) p =
      let e : n + 1 + number_below ts i a ≡ n + (number_below ts i a + 1) = omega arith in
      node_below-nodes f (n + 1) ts i a p ∙ ap (λ k. Some (f k)) e

  node_below-nodes : (f : ℕ → Node) (n : ℕ) (ts : Trees (Unit {0})) (i : ℕ) (a : Address) → ((u : Topology) × (subtree_in ts i a ≡ Some u)) → node_below (nodes_from_below f n ts) i a ≡ Some (f (n + number_below ts i a))
  node_below-nodes f n none i a p = (let e : None ≡ Some p.0 = p.1 in cc)
  node_below-nodes f n (more t ts) zero a p = node_at-nodes f n t a p
  node_below-nodes f n (more t ts) (suc i) a p =
      let e : n + nodes t + number_below ts i a ≡ n + (nodes t + number_below ts i a) = omega arith in
      node_below-nodes f (n + nodes t) ts i a p ∙ ap (λ k. Some (f k)) e

pub nodes-made : {Q : Type 0} (f : ℕ → Q) (t : Topology) → nodes (nodes_from f 0 t) ≡ nodes t
nodes-made f t = sym (nodes-topology (nodes_from f 0 t)) ∙ ap nodes (topology_of-nodes f 0 t)

pub address-made : {Q : Type 0} (f : ℕ → Q) (t : Topology) (n : ℕ) → address_at (nodes_from f 0 t) n ≡ address_at t n
address-made f t n = sym (address_at-topology (nodes_from f 0 t) n) ∙ ap (λ (u : Topology). address_at u n) (topology_of-nodes f 0 t)

-- the node at the address of a number is the value of the number
pub node_numbered : (f : ℕ → Node) (t : Topology) (n : ℕ) → n < nodes t → node_at (nodes_from f 0 t) (address_at (nodes_from f 0 t) n) ≡ Some (f n)
node_numbered f t n l =
    let a : IsAddress t n (address_at t n) = address-undone t n l in
    let e : 0 + number_at t (address_at t n) ≡ n = omega (arith, a.number) in
    ap (node_at (nodes_from f 0 t)) (address-made f t n) ∙ node_at-nodes f 0 t (address_at t n) a.there ∙ ap (λ k. Some (f k)) e
