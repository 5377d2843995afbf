-- How many packets are at each leaf, by node number.
use Rattle.sched_core.proofs.Prelude.{arith, ◌≡◌, ap, ◌∙◌, sym, ℕ, List, length, subst, Some, ◌<◌, refl, Option, None, ◌+◌, ◌≤◌, ◌-◌, ◌≢◌, inl, inr, replicate, cases_eq, get_or-replicate, length-replicate, slice_get-get_or, get_or_from_slice_get, slice_get_within, option_map_or, slice_get, slice_index_or, slice_set, if◌then◌else◌, Bool, true, false, IsSomeAnd, Packet, number-undone, IsNumber, address_at, HasAt, IsAccepted, number_at, Node, Policy, node_at, get_set_other, get_set_same, class_is_ready, IsSound, class_of, SourceState, left_with, pushed, start, SourceTree, pop, size, Tree, Address, LeadsToLeaf, nodes, leaf, Popping, leaf_number, AreFilled}
use Rattle.policy_defs.specs.declared.limits.Limits.{Limits}
use Rattle.policy_defs.specs.Policy.{no_limits, limits_at}
use Rattle.sched_defs.specs.Events.{CanArrive}
use Rattle.sched_defs.specs.SourceState.{leads_over, total, one}
use Rattle.sched_defs.proofs.Totals.{total-pushed, total-left_leaf, total-start, total-packets, leads_over-same, leads_over-leaf}
use Rattle.tree_defs.proofs.TopologyLaws.{leaf_at}

add_none : (n : ℕ) → n + 0 ≡ n
add_none n = omega arith

-- ---- the numbers of leaves
pub leaf-numbered : (tree : Tree Node) (a : Address) → LeadsToLeaf tree a → IsNumber tree a (number_at tree a)
leaf-numbered tree a l = let there = leaf_at tree a l in number-undone tree a (leaf there.0) there.1

same-leaf : (tree : Tree Node) (a b : Address) → LeadsToLeaf tree a → LeadsToLeaf tree b → number_at tree a ≡ number_at tree b → a ≡ b
same-leaf tree a b l m e = sym (leaf-numbered tree a l).address ∙ ap (address_at tree) e ∙ (leaf-numbered tree b m).address

limits-there : (o : Option Node) (x : Limits) → IsSomeAnd o (λ n. x ≡ n.limits) → x ≡ option_map_or (λ n. n.limits) o no_limits
limits-there None x h = absurd h
limits-there (Some n) x h = h

-- the limits that the node with a number has
pub numbered-limits : (policy : Policy) (node : ℕ) (x : Limits) → HasAt policy.tree node (λ n. x ≡ n.limits) → x ≡ limits_at policy (address_at policy.tree node)
numbered-limits policy node x h = limits-there (node_at policy.tree (address_at policy.tree node)) x h

-- ---- counts of a state
-- without packets
pub filled-start : (policy q : Policy) (counts : List ℕ) (n : ℕ) → q ≡ policy → counts ≡ replicate n 0 → n ≡ nodes policy.tree → AreFilled q counts (start policy)
filled-start policy q counts n same all is = subst (λ (z : Policy). AreFilled z counts (start policy)) (sym same) each
  where
    each : AreFilled policy counts (start policy)
    each a l =
        let k : ℕ = number_at policy.tree a in
        let within : k < n = omega (arith, (leaf-numbered policy.tree a l).within) in
        let empty : total one (start policy) a ≡ 0 = total-start one a policy in
        ap (λ (cs : List ℕ). slice_get cs k) all ∙ slice_get-get_or (replicate n 0) k 0 (omega (arith, within, length-replicate {A = ℕ} n 0)) ∙ ap Some (get_or-replicate n k 0 0 within ∙ sym empty)

-- another state, with another count at one leaf
filled-set : (policy : Policy) (counts : List ℕ) (s t : SourceState) (a : Address) (n : ℕ) → LeadsToLeaf policy.tree a → AreFilled policy counts s → n ≡ total one t a
    → ((b : Address) → LeadsToLeaf policy.tree b → b ≢ a → total one t b ≡ total one s b) → AreFilled policy (slice_set counts (number_at policy.tree a) n) t
filled-set policy counts s t a n l are here elsewhere b m = elim (cases_eq (number_at policy.tree b) (number_at policy.tree a)) [
  | inl same ↦ (
      let at : b ≡ a = same-leaf policy.tree b a m l same in
      ap (slice_get (slice_set counts (number_at policy.tree a) n)) same
      ∙ get_set_same counts (number_at policy.tree a) n (slice_get_within counts (number_at policy.tree a) (total one s a) (are a l))
      ∙ ap Some (here ∙ ap (total one t) (sym at)))
  | inr other ↦ (
      get_set_other counts (number_at policy.tree a) (number_at policy.tree b) n other
      ∙ are b m ∙ ap Some (sym (elsewhere b m (λ e. other (ap (number_at policy.tree) e)))))
]

-- ---- the leaf of a packet's class
module _ (policy : Policy) (accepted : IsAccepted policy) (p : Packet) (within : p.class < length policy.classes) where
  leads : LeadsToLeaf policy.tree (class_of policy p).leaf
  leads = (class_is_ready policy accepted p within).leaf_address

  -- another leaf isn't on the path
  apart : (b : Address) → LeadsToLeaf policy.tree b → b ≢ (class_of policy p).leaf → leads_over b (class_of policy p).leaf ≡ false
  apart b l other = by_test (leads_over b (class_of policy p).leaf) refl
    where
      by_test : (t : Bool) → leads_over b (class_of policy p).leaf ≡ t → leads_over b (class_of policy p).leaf ≡ false
      by_test true e = absurd (other (leads_over-leaf policy.tree b (class_of policy p).leaf l leads e))
      by_test false e = e

  module _ (counts : List ℕ) (s : SourceState) (are : AreFilled policy counts s) (k : ℕ) (is : k ≡ leaf_number policy p) where
    leaf-count : slice_get counts k ≡ Some (total one s (class_of policy p).leaf)
    leaf-count = ap (slice_get counts) is ∙ are (class_of policy p).leaf leads

    pub count-within : k < length counts
    count-within = slice_get_within counts k (total one s (class_of policy p).leaf) leaf-count

    -- the count read
    module _ (n : ℕ) (read : n ≡ slice_index_or counts k n) where
      pub count-is : n ≡ total one s (class_of policy p).leaf
      count-is = read ∙ get_or_from_slice_get counts k (total one s (class_of policy p).leaf) n leaf-count

      pub count-few : n ≤ size s.tree
      count-few = omega (arith, count-is, total-packets (class_of policy p).leaf s)

      -- one more after a push
      pub filled-pushed : (q : Policy) → q ≡ policy → IsSound policy s → CanArrive policy s p → AreFilled q (slice_set counts k (n + 1)) (pushed policy p s)
      filled-pushed q same sound can =
          let a : Address = (class_of policy p).leaf in
          let grown : (b : Address) (t : Bool) → leads_over b a ≡ t → total one (pushed policy p s) b ≡ total one s b + (if t then 1 else 0)
          = λ b t e. total-pushed one b policy p s accepted sound can ∙ ap (λ (u : Bool). total one s b + (if u then 1 else 0)) e in
          let here : n + 1 ≡ total one (pushed policy p s) a = omega (arith, count-is, grown a true (leads_over-same a)) in
          let each : AreFilled policy (slice_set counts (number_at policy.tree a) (n + 1)) (pushed policy p s)
          = filled-set policy counts s (pushed policy p s) a (n + 1) leads are here (λ b l other. grown b false (apart b l other) ∙ add_none (total one s b)) in
          subst (λ (z : Policy). AreFilled z (slice_set counts k (n + 1)) (pushed policy p s)) (sym same)
          (subst (λ (j : ℕ). AreFilled policy (slice_set counts j (n + 1)) (pushed policy p s)) (sym is) each)

      -- the packet is popped next
      module _ (taken : Popping SourceTree) (sound : IsSound policy s) (popped : pop s.tree ≡ Some taken) (held : s.held taken.value ≡ Some p) where
        shrunk : (b : Address) (t : Bool) → leads_over b (class_of policy p).leaf ≡ t → total one s b ≡ total one (left_with policy s taken (Some p)) b + (if t then 1 else 0)
        shrunk b t e = total-left_leaf one b policy s taken p sound popped held ∙ ap (λ (u : Bool). total one (left_with policy s taken (Some p)) b + (if u then 1 else 0)) e

        pub count-some : 1 ≤ n
        count-some = omega (arith, count-is, shrunk (class_of policy p).leaf true (leads_over-same (class_of policy p).leaf))

        -- one fewer after a pop
        pub filled-left : (q : Policy) → q ≡ policy → AreFilled q (slice_set counts k (n - 1)) (left_with policy s taken (Some p))
        filled-left q same =
            let a : Address = (class_of policy p).leaf in
            let here : n - 1 ≡ total one (left_with policy s taken (Some p)) a = omega (arith, count-is, shrunk a true (leads_over-same a)) in
            let each : AreFilled policy (slice_set counts (number_at policy.tree a) (n - 1)) (left_with policy s taken (Some p))
            = filled-set policy counts s (left_with policy s taken (Some p)) a (n - 1) leads are here (λ b l other. sym (shrunk b false (apart b l other) ∙ add_none (total one (left_with policy s taken (Some p)) b))) in
            subst (λ (z : Policy). AreFilled z (slice_set counts k (n - 1)) (left_with policy s taken (Some p))) (sym same)
            (subst (λ (j : ℕ). AreFilled policy (slice_set counts j (n - 1)) (left_with policy s taken (Some p))) (sym is) each)
