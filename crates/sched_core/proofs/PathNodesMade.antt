-- The nodes on the paths of classes, taken from a policy one after another.
use Rattle.sched_core.proofs.Prelude.{arith, ◌≡◌, ap, ◌∙◌, sym, ℕ, List, length, subst, Some, ◌<◌, [], refl, ◌∷◌, None, ◌+◌, ◌≤◌, get_or, suc, zero, ◌++◌, take, drop, map, length-append, drop_all, slice_get-get_or, slice_get-map, AllByRecursion, slice_get, slice_index_or, option_map, address_at, HasAt, class_in, told, IsAccepted, IsClassReady, number_at, Node, Policy, node_at, IsForm, Tree, Address, LeadsToLeaf, nodes, inner, leaf, root_of, IsAddressOf, part_at, marks_on, ArePathNodes, rank_told, IsPathNode, PathNode}
use Rattle.policy_defs.specs.Policy.{Class as Aimed, Marks as Told}
use Rattle.policy_core.specs.declared.parts.Class.{Class}
use Rattle.policy_core.specs.declared.parts.Marks.{Marks}
use Rattle.sched_core.specs.declared.path_node.ClassPath.{ClassPath}
use Rattle.sched_core.specs.PathNodes.{IsClassPath, program_at}
use Rattle.sched_core.proofs.TreeParts.{some-is, some-and, node-of_part}
use Rattle.sched_core.proofs.FirstStates.{last-cases}
use Rattle.sched_core.proofs.NodeSteps.{marks-of_class}
use Rattle.sched_core.proofs.Levels.{there-at, number-of, ahead-next, place-next, next-at, child-at}

-- the nodes of the first levels
pub record HaveStops (tree : Tree Node) (c : Aimed) (path_nodes : List PathNode) (n : ℕ) : Type 0 where
  pub count : length path_nodes ≡ n
  pub each : (level : ℕ) (s : PathNode) → slice_get path_nodes level ≡ Some s → IsPathNode tree c level s

pub path_nodes-begun : (tree : Tree Node) (c : Aimed) (path_nodes : List PathNode) → path_nodes ≡ [] → HaveStops tree c path_nodes 0
path_nodes-begun tree c [] e = record { count = refl; each = λ level s at. (let f : None ≡ Some s = at in cc) }
path_nodes-begun tree c (s ∷ path_nodes) e = cc

pub path_nodes-more : (tree : Tree Node) (c : Aimed) (path_nodes more : List PathNode) (n : ℕ) (s : PathNode) → HaveStops tree c path_nodes n → more ≡ path_nodes ++ s ∷ [] → IsPathNode tree c n s → HaveStops tree c more (n + 1)
path_nodes-more tree c path_nodes more n s h is stop = record { count = ap length is ∙ length-append path_nodes (s ∷ []) ∙ ap (λ m. m + 1) h.count; each = each }
  where
    each : (level : ℕ) (x : PathNode) → slice_get more level ≡ Some x → IsPathNode tree c level x
    each level x at = last-cases path_nodes level s x (ap (λ (l : List PathNode). slice_get l level) (sym is) ∙ at) (h.each level x)
        (λ last same. subst (λ (j : ℕ). IsPathNode tree c j x) (sym (last ∙ h.count)) (subst (λ (z : PathNode). IsPathNode tree c n z) same stop))

pub path_nodes-whole : (tree : Tree Node) (c : Aimed) (path_nodes : List PathNode) (n : ℕ) → HaveStops tree c path_nodes (n + 1) → n ≡ length c.leaf → ArePathNodes tree c path_nodes
path_nodes-whole tree c path_nodes n h is = record { count = h.count ∙ ap (λ m. m + 1) is; each = h.each }

pub root-number : (tree : Tree Node) → 0 ≡ number_at tree []
root-number (leaf n) = refl
root-number (inner n ts) = refl

-- a node that is reached at a level of a class's path
pub record IsReached (tree : Tree Node) (c : Aimed) (level node : ℕ) : Type 0 where
  pub leads : LeadsToLeaf tree c.leaf
  pub short : level ≤ length c.leaf
  pub number : node ≡ number_at tree (take level c.leaf)

pub reached : {tree : Tree Node} (c : Aimed) {digits : List ℕ} {level node : ℕ} → LeadsToLeaf tree c.leaf → digits ≡ c.leaf → level ≤ length digits → node ≡ number_at tree (take level digits) → IsReached tree c level node
reached {tree} c {digits} {level} leads to short number = record {
  leads = leads;
  short = omega (arith, short, ap length to);
  number = number ∙ ap (λ (ds : List ℕ). number_at tree (take level ds)) to;
}

module _ {tree : Tree Node} {c : Aimed} {level : ℕ} {node : ℕ} (r : IsReached tree c level node) where
  pub node-within : node < nodes tree
  node-within = omega (arith, r.number, (number-of tree c.leaf r.leads level r.short).within)

  back : address_at tree node ≡ take level c.leaf
  back = ap (address_at tree) r.number ∙ (number-of tree c.leaf r.leads level r.short).address

  node-there : node_at tree (address_at tree node) ≡ Some (root_of (part_at tree (take level c.leaf)))
  node-there = ap (node_at tree) back ∙ node-of_part tree (take level c.leaf) (part_at tree (take level c.leaf)) (there-at tree c.leaf r.leads level r.short)

  -- the entry for it
  pub path_node-made : {s : PathNode} {m : Marks} → s.node ≡ node → HasAt tree node (λ n. program_at s ≡ n.program) → HasAt tree node (λ n. s.group ≡ n.group) → s.marks ≡ m → s.told ≡ rank_told (program_at s).push (told m)
      → IsForm (program_at s) (program_at s).push s.push → IsForm (program_at s) (program_at s).pop s.pop
      → told m ≡ marks_on (part_at tree (take level c.leaf)) (drop level c.leaf) c → IsPathNode tree c level s
  path_node-made {s} is-node program group marks rank push pop on = record {
    node = is-node ∙ r.number;
    program = some-and _ _ (λ n. program_at s ≡ n.program) node-there program;
    group = some-and _ _ (λ n. s.group ≡ n.group) node-there group;
    marks = ap told marks ∙ on;
    rank = rank ∙ ap (λ (k : Marks). rank_told (program_at s).push (told k)) (sym marks);
    push_form = push;
    pop_form = pop;
  }

  pub last-marks : length c.leaf ≤ level → c.marks ≡ marks_on (part_at tree (take level c.leaf)) (drop level c.leaf) c
  last-marks all =
      let none : drop level c.leaf ≡ [] = drop_all level c.leaf all in
      sym (ap (λ (ds : Address). marks_on (part_at tree (take level c.leaf)) ds c) none ∙ marks-of_class (part_at tree (take level c.leaf)) c)

  -- ---- and its child on the path, to which the next digit leads
  module _ {digits : List ℕ} (to : digits ≡ c.leaf) (more : level < length digits) where
    further : level < length c.leaf
    further = omega (arith, more, ap length to)

    down : take level c.leaf ++ get_or c.leaf level 0 ∷ [] ≡ address_at tree node ++ slice_index_or digits level 0 ∷ []
    down = ap (λ (a : Address). a ++ get_or c.leaf level 0 ∷ []) (sym back) ∙ ap (λ (ds : List ℕ). address_at tree node ++ get_or ds level 0 ∷ []) (sym to)

    pub child-there : IsAddressOf tree (address_at tree node ++ slice_index_or digits level 0 ∷ [])
    child-there = subst (IsAddressOf tree) down (_, child-at tree c.leaf r.leads level further)

    pub child-number : {child : ℕ} → child ≡ number_at tree (address_at tree node ++ slice_index_or digits level 0 ∷ []) → child ≡ number_at tree (take (level + 1) digits)
    child-number is = is ∙ ap (number_at tree) (sym down ∙ sym (place-next tree c.leaf r.leads level further)) ∙ ap (λ (ds : List ℕ). number_at tree (take (level + 1) ds)) (sym to)

    pub child-marks : (child : ℕ) {m : Told} → address_at tree child ≡ address_at tree node ++ slice_index_or digits level 0 ∷ [] → HasAt tree child (λ n. m ≡ n.marks) → m ≡ marks_on (part_at tree (take level c.leaf)) (drop level c.leaf) c
    child-marks child {m} at is =
        let n = next-at tree c.leaf r.leads level further in
        some-and _ _ (λ x. m ≡ x.marks) (ap (node_at tree) (at ∙ sym down) ∙ node-of_part tree (take level c.leaf ++ get_or c.leaf level 0 ∷ []) n.child (child-at tree c.leaf r.leads level further)) is
        ∙ sym (n.marks c)
        ∙ ap (λ (ds : Address). marks_on (part_at tree (take level c.leaf)) ds c) (sym (ahead-next tree c.leaf r.leads level further))

-- ---- the paths of the first classes
pub record HavePaths (policy : Policy) (paths : List ClassPath) (n : ℕ) : Type 0 where
  pub count : length paths ≡ n
  pub each : (i : ℕ) (c : Aimed) (w : ClassPath) → slice_get policy.classes i ≡ Some c → slice_get paths i ≡ Some w → IsClassPath policy c w

pub paths-begun : (policy : Policy) (paths : List ClassPath) → paths ≡ [] → HavePaths policy paths 0
paths-begun policy [] e = record { count = refl; each = λ i c w known at. (let f : None ≡ Some w = at in cc) }
paths-begun policy (w ∷ paths) e = cc

mapped-at : {X Y : Type 0} (f : X → Y) (P : Y → Type 0) (xs : List X) (i : ℕ) (d : X) → AllByRecursion P (map f xs) → i < length xs → P (f (get_or xs i d))
mapped-at f P [] i d h l = absurd (omega arith)
mapped-at f P (x ∷ xs) zero d h l = h.0
mapped-at f P (x ∷ xs) (suc i) d h l = mapped-at f P xs i d h.1 (omega (arith, l))

-- ---- of the policy's classes, as the code has them
module _ (policy : Policy) (classes : List Class) (same : map (class_in policy.tree) classes ≡ policy.classes) where
  pub class-leads : IsAccepted policy → (i : ℕ) (d : Class) → i < length classes → LeadsToLeaf policy.tree (address_at policy.tree (get_or classes i d).leaf)
  class-leads accepted i d l = (mapped-at (class_in policy.tree) (IsClassReady policy.tree) classes i d (subst (AllByRecursion (IsClassReady policy.tree)) (sym same) accepted.classes) l).leaf_address

  class-known : (i : ℕ) (d : Class) → i < length classes → slice_get policy.classes i ≡ Some (class_in policy.tree (get_or classes i d))
  class-known i d l = ap (λ (cs : List Aimed). slice_get cs i) (sym same) ∙ slice_get-map (class_in policy.tree) classes i ∙ ap (option_map (class_in policy.tree)) (slice_get-get_or classes i d l)

  pub paths-more : (paths more : List ClassPath) (n : ℕ) (d : Class) (w : ClassPath) → n < length classes → HavePaths policy paths n → more ≡ paths ++ w ∷ [] → IsClassPath policy (class_in policy.tree (get_or classes n d)) w → HavePaths policy more (n + 1)
  paths-more paths more n d w l h is path = record { count = ap length is ∙ length-append paths (w ∷ []) ∙ ap (λ m. m + 1) h.count; each = each }
    where
      each : (i : ℕ) (c : Aimed) (x : ClassPath) → slice_get policy.classes i ≡ Some c → slice_get more i ≡ Some x → IsClassPath policy c x
      each i c x known at = last-cases paths i w x (ap (λ (ks : List ClassPath). slice_get ks i) (sym is) ∙ at) (h.each i c x known)
          (λ last same.
          let is-class : class_in policy.tree (get_or classes n d) ≡ c = some-is (sym (class-known n d l) ∙ ap (slice_get policy.classes) (sym (last ∙ h.count)) ∙ known) in
          subst (λ (k : Aimed). IsClassPath policy k x) is-class (subst (λ (z : ClassPath). IsClassPath policy (class_in policy.tree (get_or classes n d)) z) same path))
