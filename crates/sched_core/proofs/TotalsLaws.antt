-- How much is queued at each node, level by level of a path.
use Rattle.std.proofs.Common.{arith, ◌≡◌, ap, ◌∙◌, sym, ℕ, List, length, subst, Some, ◌<◌, [], ◌∷◌, refl, ◌+◌, ◌≤◌, suc, zero, take, drop, Bool, ◌≢◌, if◌then◌else◌, inl, inr}
use Rattle.std.proofs.lemmas.Bool.{cases_eq}
use Rattle.std.proofs.lemmas.List.{length-set, drop_more, drop_all}
use Rattle.std.specs.Prelude.{slice_get, slice_set, slice_index_or, None, ◌||◌}
use Rattle.std.proofs.lemmas.Option.{slice_get-get_or}
use Rattle.std.specs.List.{list_any}
use Rattle.tree_defs.specs.Tree.{Tree, Address, LeadsToLeaf, IsAddressOf}
use Rattle.rank_defs.specs.declared.flow_group.FlowGroup.{FlowGroup}
use Rattle.packet_defs.specs.declared.packet.Packet.{Packet}
use Rattle.policy_defs.specs.declared.limits.Limits.{Limits}
use Rattle.policy_defs.specs.Policy.{Policy, Node, limits_at, group_at}
use Rattle.policy_defs.specs.Numbers.{number_at}
use Rattle.sched_defs.specs.SourceState.{way_to}
use Rattle.sched_core.specs.NodeTotals.{Amounts, IsFew, HasAmounts, HasRoom, passes}
use Rattle.sched_core.specs.Totals.{Values, IsPath, AreInside, AreApart, HaveRoom, IsTotal, AreTotals, changed_above, changed, passes_on}
use Rattle.sched_core.specs.declared.node_totals.NodeTotals.{NodeTotals}
use Rattle.sched_core.specs.declared.path_node.PathNode.{PathNode}
use Rattle.sched_core.proofs.Prefixes.{same-number, prefix-there, way-length, way-get, test-next, test-at, test-before, test-none, test-all}

some-is : {X : Type 0} {x y : X} → Some x ≡ Some y → x ≡ y
some-is e = cc

-- an item of a list with one item replaced is the new one, or was there before
set-cases : {X P : Type 0} (xs : List X) (k j : ℕ) (x y : X) → slice_get (slice_set xs k x) j ≡ Some y → (j ≡ k → y ≡ x → P) → (j ≢ k → slice_get xs j ≡ Some y → P) → P
set-cases [] k j x y e same other = (let f : None ≡ Some y = e in cc)
set-cases (z ∷ xs) zero zero x y e same other = same refl (sym (some-is e))
set-cases (z ∷ xs) zero (suc j) x y e same other = other (λ q. omega (arith, q)) e
set-cases (z ∷ xs) (suc k) zero x y e same other = other (λ q. omega (arith, q)) e
set-cases (z ∷ xs) (suc k) (suc j) x y e same other = set-cases xs k j x y e (λ q. same (ap suc q)) (λ n. other (λ q. n (omega (arith, q))))

-- there is room at the levels above one
abbrev pub HaveRoomBelow : List PathNode → List NodeTotals → Packet → ℕ → Type 0
HaveRoomBelow path totals p to = (level : ℕ) (w : PathNode) (x : NodeTotals) → level < to → slice_get path level ≡ Some w → slice_get totals w.node ≡ Some x → HasRoom x p

-- ---- one node's counts replaced
module _ (totals : List NodeTotals) (k : ℕ) (x y : NodeTotals) (read : slice_get totals k ≡ Some x) (limits : y.limits ≡ x.limits) (group : y.group ≡ x.group) where
  -- the same amounts
  pub totals-kept : (policy : Policy) (values : Values) → ((v : Amounts) → HasAmounts x v → HasAmounts y v) → AreTotals policy totals values → AreTotals policy (slice_set totals k y) values
  totals-kept policy values same h = record { count = length-set totals k y ∙ h.count; each = each }
    where
      each : (a : Address) (z : NodeTotals) → IsAddressOf policy.tree a → slice_get (slice_set totals k y) (number_at policy.tree a) ≡ Some z → IsTotal policy a z (values a)
      each a z p at = set-cases totals k (number_at policy.tree a) y z at
          (λ here is. (
          let t : IsTotal policy a x (values a) = h.each a x p (ap (slice_get totals) here ∙ read) in
          subst (λ (u : NodeTotals). IsTotal policy a u (values a)) (sym is) (record { limits = limits ∙ t.limits; group = group ∙ t.group; amounts = same (values a) t.amounts })))
          (λ apart before. h.each a z p before)

  -- other amounts, at a level of a path
  module _ (policy : Policy) (leaf : Address) (leads : LeadsToLeaf policy.tree leaf) (level : ℕ) (within : level ≤ length leaf) (is : k ≡ number_at policy.tree (take level leaf)) where
    pub totals-changed : (change : FlowGroup → Amounts → Amounts) (values : Values)
        → (HasAmounts x (values (take level leaf)) → HasAmounts y (change x.group (values (take level leaf))))
        → AreTotals policy totals (changed_above policy leaf change values level) → AreTotals policy (slice_set totals k y) (changed_above policy leaf change values (level + 1))
    totals-changed change values step h = record { count = length-set totals k y ∙ h.count; each = each }
      where
        b : Address
        b = take level leaf

        there : IsAddressOf policy.tree b
        there = prefix-there policy.tree leaf level leads within

        old : IsTotal policy b x (values b)
        old = subst (λ (t : Bool). IsTotal policy b x (if t then change (group_at policy b) (values b) else values b)) (test-before leaf level within) (h.each b x there (ap (slice_get totals) (sym is) ∙ read))

        new : IsTotal policy b y (changed_above policy leaf change values (level + 1) b)
        new = subst (λ (t : Bool). IsTotal policy b y (if t then change (group_at policy b) (values b) else values b)) (sym (test-at leaf level within))
            (record { limits = limits ∙ old.limits; group = group ∙ old.group; amounts = subst (λ (g : FlowGroup). HasAmounts y (change g (values b))) old.group (step old.amounts) })

        each : (a : Address) (z : NodeTotals) → IsAddressOf policy.tree a → slice_get (slice_set totals k y) (number_at policy.tree a) ≡ Some z → IsTotal policy a z (changed_above policy leaf change values (level + 1) a)
        each a z p at = set-cases totals k (number_at policy.tree a) y z at
            (λ here same. (
            let there_is : a ≡ b = same-number policy.tree a b p there (here ∙ is) in
            subst (λ (c : Address). IsTotal policy c z (changed_above policy leaf change values (level + 1) c)) (sym there_is)
            (subst (λ (u : NodeTotals). IsTotal policy b u (changed_above policy leaf change values (level + 1) b)) (sym same) new)))
            (λ apart before. (
            let other : a ≢ b = λ e. apart (ap (number_at policy.tree) e ∙ sym is) in
            subst (λ (t : Bool). IsTotal policy a z (if t then change (group_at policy a) (values a) else values a)) (sym (test-next a leaf level other)) (h.each a z p before)))

-- the same totals, with amounts written in another way
module _ (policy : Policy) (leaf : Address) (change : FlowGroup → Amounts → Amounts) (values : Values) (totals : List NodeTotals) where
  pub none-changed : AreTotals policy totals values → AreTotals policy totals (changed_above policy leaf change values 0)
  none-changed h = record {
    count = h.count;
    each = λ a x p at. subst (λ (t : Bool). IsTotal policy a x (if t then change (group_at policy a) (values a) else values a)) (sym (test-none a leaf)) (h.each a x p at);
  }

  pub all-changed : (level : ℕ) → length leaf < level → AreTotals policy totals (changed_above policy leaf change values level) → AreTotals policy totals (changed policy leaf change values)
  all-changed level above h = record {
    count = h.count;
    each = λ a x p at. subst (λ (t : Bool). IsTotal policy a x (if t then change (group_at policy a) (values a) else values a)) (test-all a leaf level above) (h.each a x p at);
  }

-- ---- the node at a level of a path
module _ (path : List PathNode) (level : ℕ) (d : PathNode) (within : level < length path) where
  pub read-node : slice_get path level ≡ Some (slice_index_or path level d)
  read-node = slice_get-get_or path level d within

  pub node-inside : (n m : ℕ) → AreInside path n → m ≡ n → (slice_index_or path level d).node < m
  node-inside n m inside same = omega (arith, inside level (slice_index_or path level d) read-node, same)

  pub node-number : (tree : Tree Node) (leaf : Address) → IsPath tree leaf path → (slice_index_or path level d).node ≡ number_at tree (take level leaf)
  node-number tree leaf is = is.each level (slice_index_or path level d) read-node

  pub level-within : (tree : Tree Node) (leaf : Address) → IsPath tree leaf path → level ≤ length leaf
  level-within tree leaf is = omega (arith, within, is.count)

  module _ (totals : List NodeTotals) (r : NodeTotals) (there : (slice_index_or path level d).node < length totals) where
    pub read-totals : slice_get totals (slice_index_or path level d).node ≡ Some (slice_index_or totals (slice_index_or path level d).node r)
    read-totals = slice_get-get_or totals (slice_index_or path level d).node r there

    pub room-here : (p : Packet) → HaveRoom path totals p level → HasRoom (slice_index_or totals (slice_index_or path level d).node r) p
    room-here p h = h level (slice_index_or path level d) (slice_index_or totals (slice_index_or path level d).node r) (omega arith) read-node read-totals

    -- ---- after the counts there were replaced
    module _ (y : NodeTotals) where
      pub room-made : (p : Packet) → HasRoom y p → HaveRoomBelow path totals p level → HaveRoomBelow path (slice_set totals (slice_index_or path level d).node y) p (level + 1)
      room-made p room h i v z below at got = set-cases totals (slice_index_or path level d).node v.node y z got
          (λ same is. subst (λ (u : NodeTotals). HasRoom u p) (sym is) room)
          (λ apart before. elim (cases_eq i level) [
            | inl e ↦ absurd (apart (ap (λ (u : PathNode). u.node) (some-is (sym at ∙ ap (slice_get path) e ∙ read-node))))
            | inr n ↦ h i v z (omega (arith, n, below)) at before
          ])

      pub room-left : (p : Packet) → AreApart path → HaveRoom path totals p level → HaveRoom path (slice_set totals (slice_index_or path level d).node y) p (level + 1)
      room-left p apart h i v z from at got = set-cases totals (slice_index_or path level d).node v.node y z got
          (λ same is. absurd (omega (arith, from, apart i level v (slice_index_or path level d) at read-node same)))
          (λ other before. h i v z (omega (arith, from)) at before)

      module _ (limits : y.limits ≡ (slice_index_or totals (slice_index_or path level d).node r).limits) (group : y.group ≡ (slice_index_or totals (slice_index_or path level d).node r).group) where
        pub totals-as_before : (policy : Policy) (values : Values) → ((v : Amounts) → HasAmounts (slice_index_or totals (slice_index_or path level d).node r) v → HasAmounts y v)
            → AreTotals policy totals values → AreTotals policy (slice_set totals (slice_index_or path level d).node y) values
        totals-as_before policy values same h = totals-kept totals (slice_index_or path level d).node (slice_index_or totals (slice_index_or path level d).node r) y read-totals limits group policy values same h

        pub totals-next : (policy : Policy) (leaf : Address) (change : FlowGroup → Amounts → Amounts) (values : Values) → LeadsToLeaf policy.tree leaf → IsPath policy.tree leaf path
            → ((v : Amounts) → IsFew v → HasAmounts (slice_index_or totals (slice_index_or path level d).node r) v → HasAmounts y (change (slice_index_or totals (slice_index_or path level d).node r).group v))
            → IsFew (values (take level leaf))
            → AreTotals policy totals (changed_above policy leaf change values level)
            → AreTotals policy (slice_set totals (slice_index_or path level d).node y) (changed_above policy leaf change values (level + 1))
        totals-next policy leaf change values leads is step few h =
            totals-changed totals (slice_index_or path level d).node (slice_index_or totals (slice_index_or path level d).node r) y read-totals limits group policy leaf leads level (level-within policy.tree leaf is)
            (node-number policy.tree leaf is) change values (step (values (take level leaf)) few) h

        pub totals-fewer : (policy : Policy) (leaf : Address) (change : FlowGroup → Amounts → Amounts) (values : Values) → LeadsToLeaf policy.tree leaf → IsPath policy.tree leaf path
            → ((v : Amounts) → HasAmounts (slice_index_or totals (slice_index_or path level d).node r) v → HasAmounts y (change (slice_index_or totals (slice_index_or path level d).node r).group v))
            → AreTotals policy totals (changed_above policy leaf change values level)
            → AreTotals policy (slice_set totals (slice_index_or path level d).node y) (changed_above policy leaf change values (level + 1))
        totals-fewer policy leaf change values leads is step h =
            totals-changed totals (slice_index_or path level d).node (slice_index_or totals (slice_index_or path level d).node r) y read-totals limits group policy leaf leads level (level-within policy.tree leaf is)
            (node-number policy.tree leaf is) change values (step (values (take level leaf))) h

  -- ---- what passes a limit
  module _ (totals : List NodeTotals) (x : NodeTotals) (there : (slice_index_or path level d).node < length totals) (got : x ≡ slice_index_or totals (slice_index_or path level d).node x) (p : Packet) (b : Bool)
      (is : (v : Amounts) → HasAmounts x v → b ≡ passes x.limits x.group v p) (policy : Policy) (leaf : Address) (values : Values) (leads : LeadsToLeaf policy.tree leaf) (along : IsPath policy.tree leaf path)
      (h : AreTotals policy totals values) where
    passes-at : b ≡ passes_on policy values p (take level leaf)
    passes-at =
        let t : IsTotal policy (take level leaf) x (values (take level leaf))
        = h.each (take level leaf) x (prefix-there policy.tree leaf level leads (level-within policy.tree leaf along)) (ap (slice_get totals) (sym (node-number policy.tree leaf along)) ∙ read-totals totals x there ∙ ap Some (sym got)) in
        is (values (take level leaf)) t.amounts
        ∙ ap (λ (l : Limits). passes l x.group (values (take level leaf)) p) t.limits
        ∙ ap (λ (g : FlowGroup). passes (limits_at policy (take level leaf)) g (values (take level leaf)) p) t.group

    pub passes-next : list_any (passes_on policy values p) (drop level (way_to leaf)) ≡ (b || list_any (passes_on policy values p) (drop (level + 1) (way_to leaf)))
    passes-next =
        let short : level ≤ length leaf = level-within policy.tree leaf along in
        ap (list_any (passes_on policy values p)) (drop_more (way_to leaf) level [] (omega (arith, short, way-length leaf)))
        ∙ ap (λ (a : Address). passes_on policy values p a || list_any (passes_on policy values p) (drop (level + 1) (way_to leaf))) (way-get leaf level short)
        ∙ ap (λ t. t || list_any (passes_on policy values p) (drop (level + 1) (way_to leaf))) (sym passes-at)

-- at the end of a path
pub way-end : (tree : Tree Node) (leaf : Address) (path : List PathNode) (level : ℕ) → IsPath tree leaf path → length path ≤ level → drop level (way_to leaf) ≡ []
way-end tree leaf path level is end = drop_all level (way_to leaf) (omega (arith, end, is.count, way-length leaf))
