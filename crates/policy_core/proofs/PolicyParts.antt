-- Consequences of the parts of a policy for its value.
use Rattle.policy_core.proofs.Prelude.{List, ◌≡◌, ℕ, ap, sym, subst, [], ◌∙◌, arith, length, ◌<◌, ◌∷◌, get_or, suc, Some, zero, ◌++◌, Option, ◌≤◌, Bool, IsTrue, ◌↔◌, get_or_default, AllByRecursion, IsSomeAnd, IsAccepted, number_at, Node, node_at, all-weaker, Resolved, Program, most_name, nodes-topology, depth-topology, LeadsToLeaf-topology, topology_of, Topology, Tree, Address, nodes, depth, IsAddressOf, most_nodes, LeadsToLeaf, length-rows, Row, row_at, row, address_at, no_program, no_policy_node, node_of, resolved, policy_node_at, tree_of, AreNumbered, IsWhole, told, PolicyNode}
use Rattle.tree_graph.specs.Preorder.{Numbered}
use Rattle.policy_core.specs.declared.parts.Class.{Class}
use Rattle.policy_core.proofs.NumberedAddresses.{IsAddress, address-undone, address_at-topology, address-down, address-up, topology_of-nodes, node_numbered}
use Rattle.policy_core.proofs.Rows.{IsRowAt, row-numbered}

pub all-at : {X : Type 0} (P : X → Type 0) (xs : List X) (i : ℕ) (d : X) → AllByRecursion P xs → i < length xs → P (get_or xs i d)
all-at P [] i d h l = absurd (omega arith)
all-at P (x ∷ xs) zero d h l = h.0
all-at P (x ∷ xs) (suc i) d h l = all-at P xs i d h.1 (omega arith)

pub some-and : {X : Type 0} (o : Option X) (x : X) (P : X → Type 0) → o ≡ Some x → P x → IsSomeAnd o P
some-and {X} o x P is p = subst (λ (q : Option X). IsSomeAnd q P) (sym is) p

-- ---- rows of one tree, and its topology
module _ (tree : Numbered) (h : AreNumbered tree) where
  rows-count : length tree.rows ≡ nodes tree.topology
  rows-count = ap length h.1.rows_are ∙ length-rows 0 [] h.0 ∙ sym (nodes-topology h.0) ∙ ap (λ (u : Topology). nodes u) (sym h.1.topology_is)

  address-same : (k : ℕ) → address_at tree.topology k ≡ address_at h.0 k
  address-same k = ap (λ (u : Topology). address_at u k) h.1.topology_is ∙ address_at-topology h.0 k

  row-in : (k : ℕ) → k < length tree.rows → IsRowAt h.0 [] (address_at h.0 k) (row_at tree.rows k)
  row-in k l =
      subst (λ (all : List Row). IsRowAt h.0 [] (address_at h.0 k) (row_at all k)) (sym h.1.rows_are)
      (row-numbered 0 [] h.0 k (omega (arith, l, ap length h.1.rows_are, length-rows 0 [] h.0)))

  row-address : (k : ℕ) → k < length tree.rows → (row_at tree.rows k).address ≡ address_at tree.topology k
  row-address k l = (row-in k l).address ∙ sym (address-same k)

  row-child : (k d : ℕ) → k < length tree.rows → IsAddressOf tree.topology (address_at tree.topology k ++ d ∷ []) → d < length (row_at tree.rows k).children
  row-child k d l p =
      (row-in k l).children d
      (address-up h.0 (address_at h.0 k ++ d ∷ [])
      (subst (λ (u : Topology). IsAddressOf u (address_at h.0 k ++ d ∷ [])) h.1.topology_is
      (subst (λ (w : Address). IsAddressOf tree.topology (w ++ d ∷ [])) (address-same k) p)))

-- ---- the value
module _ (v : ℕ) (tree : Numbered) (ss : List PolicyNode) (ps : List Program) (cs : List Class) (r : Resolved) (view : resolved v tree ss ps cs ≡ r) (w : IsWhole v tree ss ps cs) where
  tree-is : tree_of tree ss ps ≡ r.policy.tree
  tree-is = ap (λ (q : Resolved). q.policy.tree) view

  pub accepted-is : IsAccepted r.policy
  accepted-is = subst (λ (q : Resolved). IsAccepted q.policy) view w.accepted

  pub topology-is : tree.topology ≡ topology_of r.policy.tree
  topology-is = sym (topology_of-nodes _ 0 tree.topology) ∙ ap (λ (t : Tree Node). topology_of t) tree-is

  pub levels-is : depth tree.topology ≡ depth r.policy.tree
  levels-is = ap (λ (u : Topology). depth u) topology-is ∙ depth-topology r.policy.tree

  pub count-is : length tree.rows ≡ nodes r.policy.tree
  count-is = rows-count tree w.numbered ∙ ap (λ (u : Topology). nodes u) topology-is ∙ nodes-topology r.policy.tree

  pub few-nodes : nodes (topology_of r.policy.tree) ≤ most_nodes
  few-nodes = omega (arith, w.few_nodes, count-is, nodes-topology r.policy.tree)

  pub within : (k : ℕ) → k < nodes r.policy.tree → k < length tree.rows
  within k l = omega (arith, l, count-is)

  address-shape : (k : ℕ) → address_at tree.topology k ≡ address_at r.policy.tree k
  address-shape k = ap (λ (u : Topology). address_at u k) topology-is ∙ address_at-topology r.policy.tree k

  pub address-is : (k : ℕ) → k < nodes r.policy.tree → (row_at tree.rows k).address ≡ address_at r.policy.tree k
  address-is k l = row-address tree w.numbered k (within k l) ∙ address-shape k

  pub child-there : (k d : ℕ) → k < nodes r.policy.tree → IsAddressOf r.policy.tree (address_at r.policy.tree k ++ d ∷ []) → d < length (row_at tree.rows k).children
  child-there k d l p =
      row-child tree w.numbered k d (within k l)
      (subst (λ (u : Topology). IsAddressOf u (address_at u k ++ d ∷ [])) (sym topology-is)
      (subst (λ (a : Address). IsAddressOf (topology_of r.policy.tree) (a ++ d ∷ [])) (sym (address_at-topology r.policy.tree k)) (address-down r.policy.tree (address_at r.policy.tree k ++ d ∷ []) p)))

  pub child-address : (k d m : ℕ) → k < nodes r.policy.tree → m < length tree.rows → (row_at tree.rows m).address ≡ (row_at tree.rows k).address ++ d ∷ [] → address_at r.policy.tree m ≡ address_at r.policy.tree k ++ d ∷ []
  child-address k d m l short is = sym (address-is m (omega (arith, short, count-is))) ∙ is ∙ ap (λ (a : Address). a ++ d ∷ []) (address-is k l)

  pub child-is : (k d m : ℕ) → k < nodes r.policy.tree → m < length tree.rows → (row_at tree.rows m).address ≡ (row_at tree.rows k).address ++ d ∷ [] → m ≡ number_at r.policy.tree (address_at r.policy.tree k ++ d ∷ [])
  child-is k d m l short is =
      let a : IsAddress r.policy.tree m (address_at r.policy.tree m) = address-undone r.policy.tree m (omega (arith, short, count-is)) in
      sym a.number ∙ ap (number_at r.policy.tree) (child-address k d m l short is)

  pub leaf-is : (k : ℕ) (b : Bool) → k < nodes r.policy.tree → IsTrue b ↔ LeadsToLeaf tree.topology (row_at tree.rows k).address → IsTrue b ↔ LeadsToLeaf r.policy.tree (address_at r.policy.tree k)
  leaf-is k b l is =
      let same : LeadsToLeaf r.policy.tree (address_at r.policy.tree k) ≡ LeadsToLeaf tree.topology (row_at tree.rows k).address =
      LeadsToLeaf-topology r.policy.tree (address_at r.policy.tree k) ∙ ap (λ (u : Topology). LeadsToLeaf u (address_at r.policy.tree k)) (sym topology-is) ∙ ap (λ (a : Address). LeadsToLeaf tree.topology a) (sym (address-is k l)) in
      subst (λ (P : Type 0). IsTrue b ↔ P) (sym same) is

  pub policy_node-there : (k : ℕ) → k < nodes r.policy.tree → (row_at tree.rows k).node < length ss
  policy_node-there k l = all-at (λ x. x.node < length ss) tree.rows k (row 0 [] []) w.policy_nodes (within k l)

  pub node-is : (k : ℕ) → k < nodes r.policy.tree → node_at r.policy.tree (address_at r.policy.tree k) ≡ Some (node_of ps (policy_node_at ss (row_at tree.rows k).node))
  node-is k l =
      subst (λ (t : Tree Node). node_at t (address_at t k) ≡ Some (node_of ps (policy_node_at ss (row_at tree.rows k).node))) tree-is
      (node_numbered (λ n. node_of ps (policy_node_at ss (row_at tree.rows n).node)) tree.topology k (omega (arith, within k l, rows-count tree w.numbered)))

  pub name-short : (k : ℕ) → k < nodes r.policy.tree → length (policy_node_at ss (row_at tree.rows k).node).name ≤ most_name
  name-short k l = (accepted-is.nodes (address_at r.policy.tree k) (node_of ps (policy_node_at ss (row_at tree.rows k).node)) (node-is k l)).name

  pub program-there : (k : ℕ) → k < nodes r.policy.tree → (policy_node_at ss (row_at tree.rows k).node).program < length ps
  program-there k l = all-at (λ s. s.program < length ps) ss (row_at tree.rows k).node no_policy_node w.programs (policy_node-there k l)

  pub leaves-there : AllByRecursion (λ c. c.leaf < nodes r.policy.tree) cs
  leaves-there = all-weaker (λ c. c.leaf < length tree.rows) (λ c. c.leaf < nodes r.policy.tree) cs (λ c l. omega (arith, l, count-is)) w.leaves

  -- ---- in the terms of the code
  pub own-policy_node : (k : ℕ) (s : PolicyNode) (all : List PolicyNode) → all ≡ ss → s ≡ policy_node_at all (row_at tree.rows k).node → s ≡ policy_node_at ss (row_at tree.rows k).node
  own-policy_node k s all same is = is ∙ ap (λ (l : List PolicyNode). policy_node_at l (row_at tree.rows k).node) same

  pub program-within : (k : ℕ) (s : PolicyNode) (all : List Program) → k < nodes r.policy.tree → s ≡ policy_node_at ss (row_at tree.rows k).node → all ≡ ps → s.program < length all
  program-within k s all l own same = omega (arith, program-there k l, ap (λ (x : PolicyNode). x.program) own, ap length same)

  pub program-is : (k : ℕ) (s : PolicyNode) (p : Program) (all : List Program) → k < nodes r.policy.tree → s ≡ policy_node_at ss (row_at tree.rows k).node → all ≡ ps → p ≡ get_or all s.program p
      → IsSomeAnd (node_at r.policy.tree (address_at r.policy.tree k)) (λ n. p ≡ n.program)
  program-is k s p all l own same read =
      some-and _ _ (λ n. p ≡ n.program) (node-is k l)
      (read ∙ get_or_default all s.program p no_program (program-within k s all l own same) ∙ ap (λ (x : List Program). get_or x s.program no_program) same ∙ ap (λ (x : PolicyNode). get_or ps x.program no_program) own)

  pub marks-are : (k : ℕ) (s : PolicyNode) → k < nodes r.policy.tree → s ≡ policy_node_at ss (row_at tree.rows k).node → IsSomeAnd (node_at r.policy.tree (address_at r.policy.tree k)) (λ n. told s.marks ≡ n.marks)
  marks-are k s l own = some-and _ _ (λ n. told s.marks ≡ n.marks) (node-is k l) (ap (λ (x : PolicyNode). told x.marks) own)

  pub limits-are : (k : ℕ) (s : PolicyNode) → k < nodes r.policy.tree → s ≡ policy_node_at ss (row_at tree.rows k).node → IsSomeAnd (node_at r.policy.tree (address_at r.policy.tree k)) (λ n. s.limits ≡ n.limits)
  limits-are k s l own = some-and _ _ (λ n. s.limits ≡ n.limits) (node-is k l) (ap (λ (x : PolicyNode). x.limits) own)

  pub group-is : (k : ℕ) (s : PolicyNode) → k < nodes r.policy.tree → s ≡ policy_node_at ss (row_at tree.rows k).node → IsSomeAnd (node_at r.policy.tree (address_at r.policy.tree k)) (λ n. s.group ≡ n.group)
  group-is k s l own = some-and _ _ (λ n. s.group ≡ n.group) (node-is k l) (ap (λ (x : PolicyNode). x.group) own)

  pub using-is : (k : ℕ) (s : PolicyNode) (used : List ℕ) → k < nodes r.policy.tree → s ≡ policy_node_at ss (row_at tree.rows k).node → used ≡ s.using → IsSomeAnd (node_at r.policy.tree (address_at r.policy.tree k)) (λ n. used ≡ n.using)
  using-is k s used l own is = some-and _ _ (λ n. used ≡ n.using) (node-is k l) (is ∙ ap (λ (x : PolicyNode). x.using) own)

  pub name-is : (k : ℕ) (s : PolicyNode) (name : List ℕ) → k < nodes r.policy.tree → s ≡ policy_node_at ss (row_at tree.rows k).node → name ≡ s.name → IsSomeAnd (node_at r.policy.tree (address_at r.policy.tree k)) (λ n. name ≡ n.name)
  name-is k s name l own is = some-and _ _ (λ n. name ≡ n.name) (node-is k l) (is ∙ ap (λ (x : PolicyNode). x.name) own)

  pub name-length : (k : ℕ) (s : PolicyNode) (name : List ℕ) → k < nodes r.policy.tree → s ≡ policy_node_at ss (row_at tree.rows k).node → name ≡ s.name → length name ≤ most_name
  name-length k s name l own is = omega (arith, name-short k l, ap length is, ap (λ (x : PolicyNode). length x.name) own)
