-- Two packets that arrive at a single leaf in either order.
use Rattle.library_tests.proofs.Prelude.{arith, ◌≡◌, ◌∙◌, sym, ap, refl, subst, false, ℕ, Bool, List, None, Some, [], if◌then◌else◌, length, ◌+◌, ◌<◌, ◌≢◌, true, ◌∷◌, IsSomeAnd, max, nat_eq, Packet, IsAccepted, IsClassReady, Policy, Node, node_at, Class, Program, Span, StandForOne, sound_arrived, sound_start, by_fullness, with_packet-other, Arrive, CanMake, after, IsSendable, arrived, SourceState, start, is_full, Held, class_of, dropped, pushed, with_packet, depth, Address, Tree, inner, leaf, IsAddressOf, LeadsToLeaf, SameShape, more, none, subtree}
use Rattle.std.specs.Option.{option_map_or}
use Rattle.std.specs.List.{AllByRecursion}
use Rattle.std.proofs.lemmas.Bool.Decides.{Decides-eqb}
use Rattle.tree_defs.specs.Topology.{Topology, topology_of}
use Rattle.tree_defs.specs.SourceTree.{size}
use Rattle.tree_defs.proofs.WellFormedLaws.{size-empty}
use Rattle.embed_defs.specs.Levels.{Arities}
use Rattle.embed_defs.specs.Canonical.{canonical, IsCanonical}
use Rattle.rank_defs.specs.States.{State, SameState}
use Rattle.rank_defs.specs.Shapes.{IsStateInRange, AreWithin}
use Rattle.sched_defs.specs.Sound.{IsSound}
use Rattle.std.proofs.lemmas.Bool.{true≢false}
use Rattle.policy_defs.specs.Policy.{no_limits, limits_at}
use Rattle.sched_defs.specs.SourceState.{passes_at}
use Rattle.sched_defs.proofs.Totals.{Meets, way-met}
use Rattle.sched_defs.proofs.Leaving.{size_pushed}
use Rattle.sched_defs.proofs.Runs.{sound_after}
use Rattle.rank_defs.proofs.SameStates.{same-trans}
use Rattle.embed_defs.specs.Images.{image_map}
use Rattle.embed_defs.specs.Lift.{IsLift}
use Rattle.fabric_core.specs.declared.fabric.Fabric.{Ghosts}
use Rattle.sched_core.specs.PolicyState.{policy_in}
use Rattle.sched_core.specs.Totals.{AreKept, Values, amounts_in}
use Rattle.sched_embedded.specs.declared.embedded.Embedded.{Embedded}
use Rattle.sched_embedded.specs.Embedded.{EmbeddedStands, origin_of}
use Rattle.sched_embedded.proofs.QueuedTotals.{same_amounts}
use Rattle.target_core.specs.declared.target.Target.{Target}
use Rattle.embed_core.specs.Range.{levels_of}
use Rattle.library_tests.specs.Filled.{IsPlain, IsFilled}

-- a tree without levels below its root, in which a class has a leaf
alone : (tree : Tree Node) (cs : List Class) → depth tree ≡ 0 → 0 < length cs → AllByRecursion (IsClassReady tree) cs
    → IsSomeAnd (node_at tree []) (λ n. n.program.keeps ≡ []) → IsSomeAnd (node_at tree []) (λ n. n.program.eaches ≡ []) → IsSomeAnd (node_at tree []) (λ n. n.limits ≡ no_limits) → IsPlain tree
alone tree [] d some all keeps eaches free = absurd (omega (arith, some))
alone (leaf n) (c ∷ cs) d some all keeps eaches free = record { node = n; is = refl; keeps = keeps; eaches = eaches; limits = free }
alone (inner n none) (c ∷ cs) d some all keeps eaches free = absurd (no_leaf c.leaf all.0.leaf_address)
  where
    no_leaf : (a : Address) → LeadsToLeaf (inner n none) a → ⊥
    no_leaf [] l = l
    no_leaf (i ∷ a) l = l
alone (inner n (more t ts)) (c ∷ cs) d some all keeps eaches free = absurd (omega (arith, d))

pub plain_leaf : (policy : Policy) → IsAccepted policy → depth policy.tree ≡ 0 → IsSomeAnd (node_at policy.tree []) (λ n. n.program.keeps ≡ []) → IsSomeAnd (node_at policy.tree []) (λ n. n.program.eaches ≡ [])
    → IsSomeAnd (node_at policy.tree []) (λ n. n.limits ≡ no_limits) → IsPlain policy.tree
plain_leaf policy accepted d keeps eaches free = alone policy.tree policy.classes d accepted.some_class accepted.classes keeps eaches free

none_within : (xs : List ℕ) → AreWithin [] xs → xs ≡ []
none_within [] w = refl
none_within (x ∷ xs) w = absurd w

no_values : (spans : List Span) (xs ys : List ℕ) → spans ≡ [] → AreWithin spans xs → AreWithin spans ys → xs ≡ ys
no_values spans xs ys e v w =
    let a : xs ≡ [] = none_within xs (subst (λ (z : List Span). AreWithin z xs) e v) in
    let b : ys ≡ [] = none_within ys (subst (λ (z : List Span). AreWithin z ys) e w) in
    a ∙ sym b

-- without variables, any two states in range are the same
plain_states : (p : Program) (s t : State) → p.keeps ≡ [] → p.eaches ≡ [] → IsStateInRange p s → IsStateInRange p t → SameState s t
plain_states p s t keeps eaches a b = record {
  keeps = no_values p.keeps s.keeps t.keeps keeps a.keeps b.keeps;
  eaches = λ who. no_values p.eaches (s.eaches who) (t.eaches who) eaches (a.eaches who) (b.eaches who);
}

module _ (policy : Policy) (plain : IsPlain policy.tree) where
  root_is : node_at policy.tree [] ≡ Some plain.node
  root_is = ap (λ (t : Tree Node). node_at t []) plain.is

  nothing_below : (i : ℕ) (a : Address) → IsAddressOf policy.tree (i ∷ a) → ⊥
  nothing_below i a there = let e : subtree (leaf plain.node) (i ∷ a) ≡ Some there.0 = sym (ap (λ (t : Tree Node). subtree t (i ∷ a)) plain.is) ∙ there.1 in cc

  -- no packet is dropped there
  unlimited : (a : Address) → limits_at policy a ≡ no_limits
  unlimited [] = ap (λ (t : Tree Node). option_map_or (λ n. n.limits) (node_at t []) no_limits) plain.is ∙ plain.limits
  unlimited (i ∷ a) = ap (λ (t : Tree Node). option_map_or (λ n. n.limits) (node_at t (i ∷ a)) no_limits) plain.is

  none_passed : (p : Packet) (s : SourceState) (a : Address) → passes_at policy p s a ≡ false
  none_passed p s a = rw (unlimited a) refl

  pub never_full : (p : Packet) (s : SourceState) → is_full policy p s ≡ false
  never_full p s = by_test (is_full policy p s) refl
    where
      by_test : (t : Bool) → is_full policy p s ≡ t → is_full policy p s ≡ false
      by_test false e = e
      by_test true e =
          let m : Meets (passes_at policy p s) (class_of policy p).leaf = way-met (passes_at policy p s) (class_of policy p).leaf e in
          absurd (true≢false (sym m.met ∙ none_passed p s m.at))

  arrives_pushed : (p : Packet) (s : SourceState) → arrived policy p s ≡ pushed policy p s
  arrives_pushed p s = ap (λ (t : Bool). if t then dropped p s else pushed policy p s) (never_full p s)

  pub both_pushed : (p q : Packet) → after policy (Arrive p ∷ Arrive q ∷ []) (start policy) ≡ pushed policy q (pushed policy p (start policy))
  both_pushed p q = ap (λ (s : SourceState). arrived policy q s) (arrives_pushed p (start policy)) ∙ arrives_pushed q (pushed policy p (start policy))

  -- the nodes of two sound states are in the same state
  pub same_nodes : (s t : SourceState) → IsSound policy s → IsSound policy t → (a : Address) → IsAddressOf policy.tree a → SameState (s.nodes a) (t.nodes a)
  same_nodes s t sound other [] there =
      plain_states plain.node.program (s.nodes []) (t.nodes []) plain.keeps plain.eaches (sound.states [] plain.node root_is) (other.states [] plain.node root_is)
  same_nodes s t sound other (i ∷ a) there = absurd (nothing_below i a there)

  abbrev single : Topology
  single = leaf tt

  -- the tree has only one placement in a target
  pub same_images : (a : Arities) (h : ℕ) (m o : Tree Address) → IsCanonical a h (topology_of policy.tree) m → IsCanonical a h (topology_of policy.tree) o → m ≡ o
  same_images a h m o one other = only_root m one ∙ sym (only_root o other)
    where
      shape : topology_of policy.tree ≡ single
      shape = ap (λ (t : Tree Node). topology_of t) plain.is

      by_needs : (all : Tree ℕ) → SameShape single all → canonical a h [] all ≡ leaf []
      by_needs (leaf k) same = refl
      by_needs (inner k ts) same = absurd same

      only_root : (images : Tree Address) → IsCanonical a h (topology_of policy.tree) images → images ≡ leaf []
      only_root images c = c.placed ∙ by_needs c.all (subst (λ (t : Topology). SameShape t c.all) shape c.needs.shape)

-- ---- two packets in both orders
module _ (policy : Policy) (accepted : IsAccepted policy) (p q : Packet) (apart : p.number ≢ q.number) (first : IsSendable policy p) (second : IsSendable policy q) where
  pub both_come : CanMake policy (Arrive p ∷ Arrive q ∷ []) (start policy)
  both_come = (
    record { fresh = refl; known = first.known; moment = first.moment },
    (
      record {
        fresh = by_fullness policy p (start policy) (λ s. s.held q.number ≡ None) (λ full. refl) (λ free. with_packet-other (λ _. None) p q.number (λ e. apart (sym e)));
        known = second.known;
        moment = second.moment;
      },
      tt,
    ),
  )

pub same_held : (p q : Packet) (held : Held) → p.number ≢ q.number → (n : ℕ) → with_packet (with_packet held p) q n ≡ with_packet (with_packet held q) p n
same_held p q held apart n = by_tests (nat_eq n p.number) (nat_eq n q.number) refl refl
  where
    by_tests : (a b : Bool) → nat_eq n p.number ≡ a → nat_eq n q.number ≡ b
        → (if b then Some q else if a then Some p else held n) ≡ (if a then Some p else if b then Some q else held n)
    by_tests true true e f = absurd (apart (sym ((Decides-eqb n p.number).0 e) ∙ (Decides-eqb n q.number).0 f))
    by_tests true false e f = refl
    by_tests false true e f = refl
    by_tests false false e f = refl

-- the greatest of three timestamps doesn't depend on the order of the last two
pub same_now : (k m n : ℕ) → max (max k m) n ≡ max (max k n) m
same_now k m n = omega arith

-- ---- a scheduler with a fabric that another filled
-- two states are the same except for their queues
pub record IsSameBeside (policy : Policy) (s t : SourceState) : Type 0 where
  pub nodes : (a : Address) → IsAddressOf policy.tree a → SameState (s.nodes a) (t.nodes a)
  pub held : (n : ℕ) → s.held n ≡ t.held n
  pub amounts : amounts_in policy s ≡ amounts_in policy t
  pub size_is : size s.tree ≡ size t.tree
  pub now : s.now ≡ t.now

-- the two schedulers use the same images in equal targets, after equal numbers of pushes and pops
pub record AreAlike {F : Type 0} (c d : Embedded F) : Type 0 where
  pub images : (origin_of c).images ≡ (origin_of d).images
  pub arities : (origin_of c).arities ≡ (origin_of d).arities
  pub pushes : (origin_of c).pushes + c.own.pushes ≡ (origin_of d).pushes + d.own.pushes
  pub pops : (origin_of c).pops + c.own.departures ≡ (origin_of d).pops + d.own.departures

pub stands_with_another : {F : Type 0} (fabrics : Ghosts F) (c d : Embedded F) (u v : F) (s t : SourceState) → AreAlike c d → IsSameBeside (policy_in c.own) s t
    → EmbeddedStands fabrics c u s → EmbeddedStands fabrics d v t → EmbeddedStands fabrics c v t
stands_with_another fabrics c d u v s t alike same one other = record {
  own = record {
    nodes = λ a x there kept. same-trans _ _ _ (one.own.nodes a x there kept) (same.nodes a there);
    held = λ n. one.own.held n ∙ same.held n;
    filled = λ a l. one.own.filled a l ∙ ap (λ (v : Values). Some (v a).packets) same.amounts;
    totals = subst (AreKept (policy_in c.own) c.own.totals) same.amounts one.own.totals;
    few = omega (arith, one.own.few, same.size_is);
    now = sym same.now ∙ one.own.now;
  };
  shape = other.shape ∙ sym alike.arities;
  lifted = subst (λ (m : Tree Address). IsLift t.tree (image_map m) (fabrics.queues v)) (sym alike.images) other.lifted;
  pushes = other.pushes ∙ sym alike.pushes;
  pops = other.pops ∙ sym alike.pops;
}

-- two packets are queued after two arrived
two_held : (policy : Policy) (accepted : IsAccepted policy) (plain : IsPlain policy.tree) (p q : Packet) → p.number ≢ q.number → IsSendable policy p → IsSendable policy q
    → size (after policy (Arrive p ∷ Arrive q ∷ []) (start policy)).tree ≡ 2
two_held policy accepted plain p q apart first second =
    let can : CanMake policy (Arrive p ∷ Arrive q ∷ []) (start policy) = both_come policy accepted p q apart first second in
    let sound : IsSound policy (start policy) = sound_start policy accepted in
    let one : size (arrived policy p (start policy)).tree ≡ size (start policy).tree + 1 = ap (λ (z : SourceState). size z.tree) (arrives_pushed policy plain p (start policy)) ∙ size_pushed policy p (start policy) accepted sound can.0 in
    let two : size (arrived policy q (arrived policy p (start policy))).tree ≡ size (arrived policy p (start policy)).tree + 1 =
    ap (λ (z : SourceState). size z.tree) (arrives_pushed policy plain q (arrived policy p (start policy))) ∙ size_pushed policy q (arrived policy p (start policy)) accepted (sound_arrived policy p (start policy) accepted sound can.0) can.1.0 in
    omega (arith, one, two, size-empty (topology_of policy.tree))

-- two packets arrived at each scheduler, in opposite orders
pub same_beside : (policy : Policy) (accepted : IsAccepted policy) (plain : IsPlain policy.tree) (p q : Packet) → p.number ≢ q.number → IsSendable policy p → IsSendable policy q
    → IsSameBeside policy (after policy (Arrive p ∷ Arrive q ∷ []) (start policy)) (after policy (Arrive q ∷ Arrive p ∷ []) (start policy))
same_beside policy accepted plain p q apart first second =
    let s : SourceState = after policy (Arrive p ∷ Arrive q ∷ []) (start policy) in
    let t : SourceState = after policy (Arrive q ∷ Arrive p ∷ []) (start policy) in
    let one : IsSound policy s = sound_after policy (Arrive p ∷ Arrive q ∷ []) (start policy) accepted (sound_start policy accepted) (both_come policy accepted p q apart first second) in
    let other : IsSound policy t = sound_after policy (Arrive q ∷ Arrive p ∷ []) (start policy) accepted (sound_start policy accepted) (both_come policy accepted q p (λ e. apart (sym e)) second first) in
    let held : (n : ℕ) → s.held n ≡ t.held n
    = λ n. ap (λ (z : SourceState). z.held n) (both_pushed policy plain p q) ∙ same_held p q (λ _. None) apart n ∙ sym (ap (λ (z : SourceState). z.held n) (both_pushed policy plain q p)) in
    let sizes : size s.tree ≡ size t.tree = two_held policy accepted plain p q apart first second ∙ sym (two_held policy accepted plain q p (λ e. apart (sym e)) second first) in
    record {
      nodes = same_nodes policy plain s t one other;
      held = held;
      amounts = same_amounts policy s t one other held;
      size_is = sizes;
      now = ap (λ (z : SourceState). z.now) (both_pushed policy plain p q) ∙ same_now 0 p.moment q.moment ∙ sym (ap (λ (z : SourceState). z.now) (both_pushed policy plain q p));
    }

-- the first scheduler works with the fabric of the second, at which the same two packets arrived in
-- the other order
module _ {F : Type 0} (fabrics : Ghosts F) (policy : Policy) (target : Target) (accepted : IsAccepted policy) (plain : IsPlain policy.tree) (p q : Packet) (apart : p.number ≢ q.number) (first : IsSendable policy p) (second : IsSendable policy q) where
  pub stands_exchanged : (c d : Embedded F) (u v : F) → IsFilled fabrics policy target p q c u → IsFilled fabrics policy target q p d v → StandForOne (EmbeddedStands fabrics) policy c v (λ _. Unit {0})
  stands_exchanged c d u v one other =
      let s : SourceState = after policy (Arrive p ∷ Arrive q ∷ []) (start policy) in
      let t : SourceState = after policy (Arrive q ∷ Arrive p ∷ []) (start policy) in
      let alike : AreAlike c d = record {
        images = same_images policy plain (levels_of target) (length target.arities) _ _ one.images other.images;
        arities = one.arities ∙ sym other.arities;
        pushes = one.pushes ∙ sym other.pushes;
        pops = one.pops ∙ sym other.pops;
      } in
      record {
        state = t;
        sound = sound_after policy (Arrive q ∷ Arrive p ∷ []) (start policy) accepted (sound_start policy accepted) (both_come policy accepted q p (λ e. apart (sym e)) second first);
        stood = stands_with_another fabrics c d u v s t alike
            (subst (λ (r : Policy). IsSameBeside r s t) (sym one.own) (same_beside policy accepted plain p q apart first second)) one.stands other.stands;
        has = tt;
      }
