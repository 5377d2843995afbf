-- A policy is calm if each of its nodes is.
use Rattle.block_replay.proofs.Prelude.{refl, ◌≡◌, [], ℕ, ◌∙◌, arith, sym, ◌∷◌, List, Some, subst, true, None, inl, inr, length, false, codes, ◌+◌, ◌<◌, ◌&&◌, ◌↔◌, and_parts, and_from, cases_Bool, cases_order, Contains, IsSomeAnd, number-undone, address_at, IsAccepted, AreBuiltIn, Node, node_at, Policy, same_name-is, same_name, same_shape, topology_of-empty, leads_to, leaf_at, empty_tree, topology_of, Address, Tree, Trees, inner, leaf, none, root_of, IsAddressOf, LeadsToLeaf, subtree, nodes, HaveOwnDigits, IsMapOf, NeverSpills, UsesSteadyAt, DifferBehind, UsesSteady, is_steady, steady, is_calm, node_using}
use Rattle.embed_defs.proofs.EmbeddedMaps.{embeddings_are_good_maps}
use Rattle.policy_defs.specs.Numbers.{number_at}
use Rattle.sched_core.proofs.TreeParts.{node-of_part}
use Rattle.mapcheck_core.proofs.ComposedImages.{placed-topology}
use Rattle.block_replay.proofs.EachNode.{calm_at_each_node}
use Rattle.block_replay.proofs.NeverSpills.{runs_never_spill}
use Rattle.block_replay.proofs.OwnDigits.{in_tree, own_differ, differ_own}

-- ---- names
-- an inner node that uses this transaction, without a child
abbrev lone : List ℕ → Tree Node
lone name = inner (node_using name) none

lone-leaf : (a : Address) (e : Address) (ts : Trees Address) → subtree (leaf []) a ≡ Some (inner e ts) → DifferBehind (length e) ts
lone-leaf [] e ts p = cc
lone-leaf (i ∷ a) e ts p = cc

lone-steady : (name : List ℕ) → Contains steady name → (a : Address) (u : Tree Node) → subtree (lone name) a ≡ Some u → UsesSteady u
lone-steady name h [] u p = (let e : lone name ≡ u = cc in subst UsesSteady e h)
lone-steady name h (i ∷ a) u p = (let no : None ≡ Some u = p in cc)

steady_name : (name : List ℕ) → is_steady name ≡ true → Contains steady name
steady_name name e = ((calm_at_each_node (lone name) (leaf [])).0 (and_from (is_steady name && true) true (and_from (is_steady name) true e refl) refl)).steady [] (lone name) refl

name_steady : (name : List ℕ) → Contains steady name → is_steady name ≡ true
name_steady name h =
    let d = (calm_at_each_node (lone name) (leaf [])).1 (record { steady = lone-steady name h; spread = lone-leaf }) in
    (and_parts (is_steady name) true (and_parts (is_steady name && true) true d).0).0

-- a name that differs from each of these
not_same : (a b : List ℕ) → (a ≡ b → ⊥) → same_name a b ≡ false
not_same a b other = elim (cases_Bool (same_name a b)) [
  | inl e ↦ absurd (other (same_name-is a b e))
  | inr e ↦ e
]

abbrev IsNo : List ℕ → List ℕ → Type 0
IsNo name other = name ≡ other → ⊥

pub none_steady : (name : List ℕ) → IsNo name (codes "fifo") → IsNo name (codes "strict") → IsNo name (codes "lstf") → IsNo name (codes "rr") → IsNo name (codes "stfq") → false ≡ is_steady name
none_steady name a b c d e =
    rw (not_same name (codes "fifo") a, not_same name (codes "strict") b, not_same name (codes "lstf") c, not_same name (codes "rr") d, not_same name (codes "stfq") e) refl

-- ---- the transaction of a node
uses : (tree : Tree Node) (a : Address) (u : Tree Node) (name : List ℕ) → subtree tree a ≡ Some u → IsSomeAnd (node_at tree a) (λ n. name ≡ n.using) → name ≡ (root_of u).using
uses tree a u name p is = rw (node-of_part tree a u p) at is

same_part : (tree : Tree Node) (a : Address) (u v : Tree Node) → subtree tree a ≡ Some u → subtree tree a ≡ Some v → u ≡ v
same_part tree a u v p q = cc

steady-there : (tree : Tree Node) (a : Address) (u : Tree Node) → subtree tree a ≡ Some u → UsesSteady u → UsesSteadyAt tree a
steady-there tree a u p h v q = subst UsesSteady (same_part tree a u v p q) h

pub leaf_steady : (tree : Tree Node) (a : Address) (name : List ℕ) → LeadsToLeaf tree a → IsSomeAnd (node_at tree a) (λ n. name ≡ n.using) → (name ≡ codes "fifo") ↔ UsesSteadyAt tree a
leaf_steady tree a name l is =
    let w = leaf_at tree a l in
    let e : name ≡ w.0.using = uses tree a (leaf w.0) name w.1 is in
    (λ f. steady-there tree a (leaf w.0) w.1 (sym e ∙ f), λ h. e ∙ h (leaf w.0) w.1)

pub inner_steady : (tree : Tree Node) (a : Address) (name : List ℕ) → (LeadsToLeaf tree a → ⊥) → IsAddressOf tree a → IsSomeAnd (node_at tree a) (λ n. name ≡ n.using) → (is_steady name ≡ true) ↔ UsesSteadyAt tree a
inner_steady tree a name above (leaf n, p) is = absurd (above (leads_to tree a n p))
inner_steady tree a name above (inner n ts, p) is =
    let e : name ≡ n.using = uses tree a (inner n ts) name p is in (
      λ f. steady-there tree a (inner n ts) p (steady_name n.using (subst (λ (x : List ℕ). is_steady x ≡ true) e f)),
      λ h. subst (λ (x : List ℕ). is_steady x ≡ true) (sym e) (name_steady n.using (h (inner n ts) p)),
    )

-- ---- all nodes
-- the node with this number uses a transaction that is steady for it, and its children have digits
-- of their own
pub record IsCalmAt (tree : Tree Node) (images : Tree Address) (node : ℕ) : Type 0 where
  pub steady : UsesSteadyAt tree (address_at tree node)
  pub own : HaveOwnDigits images (address_at tree node)

-- the first n nodes are calm; and if n is above 0, the policy is accepted, and each node that uses
-- a built-in name has the built-in program
pub record AreCalmBelow (policy : Policy) (images : Tree Address) (n : ℕ) : Type 0 where
  pub calm : (k : ℕ) → k < n → IsCalmAt policy.tree images k
  pub accepted : 0 < n → IsAccepted policy
  pub built_in : 0 < n → AreBuiltIn policy

pub none_calm : (policy : Policy) (images : Tree Address) → AreCalmBelow policy images 0
none_calm policy images = record { calm = λ k l. absurd (omega (arith, l)); accepted = λ l. absurd (omega (arith, l)); built_in = λ l. absurd (omega (arith, l)) }

pub one_more_calm : (policy : Policy) (images : Tree Address) (n : ℕ) → AreCalmBelow policy images n → IsCalmAt policy.tree images n → IsAccepted policy → AreBuiltIn policy → AreCalmBelow policy images (n + 1)
one_more_calm policy images n below here accepted built_in = record { calm = calm-more; accepted = λ l. accepted; built_in = λ l. built_in }
  where
    calm-more : (k : ℕ) → k < n + 1 → IsCalmAt policy.tree images k
    calm-more k l = elim (cases_order k n) [
      | inl e ↦ subst (IsCalmAt policy.tree images) (sym e) here
      | inr (inl less) ↦ below.calm k less
      | inr (inr later) ↦ absurd (omega (arith, l, later))
    ]

module _ (tree : Tree Node) (images : Tree Address) (m : IsMapOf tree images) where
  pub calm_from : ((k : ℕ) → k < nodes tree → IsCalmAt tree images k) → is_calm tree images ≡ true
  calm_from each = (calm_at_each_node tree images).1 (record { steady = steady-at; spread = spread-at })
    where
      steady-at : (a : Address) (u : Tree Node) → subtree tree a ≡ Some u → UsesSteady u
      steady-at a u p = (let n = number-undone tree a u p in subst (UsesSteadyAt tree) n.address (each (number_at tree a) n.within).steady u p)

      spread-at : (a : Address) (e : Address) (ts : Trees Address) → subtree images a ≡ Some (inner e ts) → DifferBehind (length e) ts
      spread-at a e ts p =
          let w = in_tree tree images m a (inner e ts, p) in
          let n = number-undone tree a w.0 w.1 in
          own_differ images a e ts p (subst (HaveOwnDigits images) n.address (each (number_at tree a) n.within).own)

  pub calm_each : is_calm tree images ≡ true → (k : ℕ) → IsCalmAt tree images k
  calm_each d k =
      let h = (calm_at_each_node tree images).0 d in
      record { steady = h.steady (address_at tree k); own = differ_own images (address_at tree k) (h.spread (address_at tree k)) }

  -- if a node isn't calm, the policy isn't
  pub isnt_calm : (k : ℕ) → (IsCalmAt tree images k → ⊥) → false ≡ is_calm tree images
  isnt_calm k other = elim (cases_Bool (is_calm tree images)) [
    | inl e ↦ absurd (other (calm_each e k))
    | inr e ↦ sym e
  ]

pub some_node : (tree : Tree Node) → 0 < nodes tree
some_node (leaf n) = omega arith
some_node (inner n ts) = omega arith

-- ---- spills
pub never_spills : (policy : Policy) (images : Tree Address) → IsMapOf policy.tree images → IsAccepted policy → AreBuiltIn policy → is_calm policy.tree images ≡ true → NeverSpills policy images
never_spills policy images m accepted built_in d events can =
    let t = topology_of policy.tree in
    runs_never_spill (length m.arities) policy images events (record {
      accepted = accepted;
      built_in = built_in;
      maps = record {
        shape = same_shape (empty_tree t) images (topology_of-empty t ∙ sym (placed-topology t images m.shape));
        good = embeddings_are_good_maps m.arities t images m.shape m.embedding;
      };
      calm = d;
    }) can
