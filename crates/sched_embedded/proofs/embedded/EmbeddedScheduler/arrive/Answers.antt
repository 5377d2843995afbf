use Rattle.sched_embedded.proofs.Prelude.{refl, IsLeafAddress, sym, ℕ, ◌∙◌, ap, ◌≡◌, subst, List, arith, length, ◌+◌, Option, false, AllByRecursion, ◌<◌, AreRanks, Family, IsGoodMap, image_map, lift_ranks, IsLift, push_spills, Policy, policy_in, raised, class_of, arrival_ranks, is_full, push, Laid, HoldsLift, Way, IsSound, SourceState}
use Rattle.rank_core.proofs.Lists.{refilled}
use Rattle.sched_embedded.proofs.ArrivedPackets.{arrived-tree, arrived-spills}
use Rattle.sched_embedded.proofs.MapShapes.{sound-holds, laid-good}
use Rattle.sched_embedded.proofs.LiftMoves.{lift-same}
use Rattle.sched_embedded.proofs.PushedPaths.{HasLiftedPath, has-lifted_path, steps-within, lifted_path-lifts, lifts-low, image-leaf, steps-long}
use Rattle.sched_embedded.specs.Embedded.{EmbeddedStands}
use Rattle.sched_embedded.proofs.embedded.EmbeddedScheduler.arrive.Given.{Over}
use Rattle.sched_embedded.proofs.embedded.EmbeddedScheduler.arrive.Goals as goal
use Rattle.sched_embedded.proofs.embedded.EmbeddedScheduler.arrive.Goals.{After-deref-3, After-deref_mut, After-push}

pub reserve-requires : goal.reserve-requires
reserve-requires g c =
    let policy : Policy = policy_in c.args.self.now.own in
    let l : Laid = c.args.self.now.embedding in
    let r = c.requires.can.stands in
    let way : Way = record { digits = (class_of policy c.args.packet.now).leaf; ranks = arrival_ranks policy c.args.packet.now r.state; room = 0 } in
    let has : HasLiftedPath l c.index-lifted_path.result.now way
    = has-lifted_path policy c.args.packet.now r.state l c.args.self.now.lifted_paths.items c.index-lifted_path.result.now c.requires.can.accepted r.sound r.has c.args.self.now.shape c.args.self.now.paths_lead c.index-lifted_path.ensures way refl refl in
    record {
      leaf = subst (λ (arities : List ℕ). IsLeafAddress arities c.deref.result.now) (sym r.stood.shape)
          (subst (IsLeafAddress l.arities) (sym c.deref.ensures.value) (image-leaf l c.index-lifted_path.result.now way has c.args.self.now.leaves));
    }

-- ---- the lifted path of the packet's class leads along the path that is pushed
lifted_path : (g : Over) (c : After-deref_mut g) → HasLiftedPath c.args.self.now.embedding c.index-lifted_path.result.now c.admit.new.trace
lifted_path g c =
    let r = c.requires.can.stands in
    has-lifted_path (policy_in c.args.self.now.own) c.args.packet.now r.state c.args.self.now.embedding c.args.self.now.lifted_paths.items c.index-lifted_path.result.now c.requires.can.accepted r.sound r.has c.args.self.now.shape
    c.args.self.now.paths_lead c.index-lifted_path.ensures c.admit.new.trace c.in_ok-leaf.ensures.way.digits (c.in_ok-leaf.ensures.way.ranks r.state r.sound r.stood.own)

-- the embedding has room for as many ranks as the lifted path has steps
long : (g : Over) (c : After-deref_mut g) → length c.deref_mut.result.now ≡ length c.index-lifted_path.result.now.steps.items
long g c =
    ap length c.deref_mut.ensures.value ∙ c.embedding.invariant.one_more ∙ ap (λ (z : Laid). length z.arities + 1) c.embedding.view_is
    ∙ sym (steps-long c.args.self.now.embedding c.index-lifted_path.result.now c.admit.new.trace (lifted_path g c) c.args.self.now.leaves)

pub lift-requires-clause-within : goal.lift-requires-clause-within
lift-requires-clause-within g c =
    subst (λ (z : List ℕ). AllByRecursion (λ step. step < length z) c.index-lifted_path.result.now.steps.items) (sym c.ranks.ensures.ranks)
    (steps-within c.args.self.now.embedding c.index-lifted_path.result.now c.admit.new.trace (lifted_path g c))

pub lift-requires-clause-long : goal.lift-requires-clause-long
lift-requires-clause-long g c = long g c

-- ---- what is pushed into the fabric is the lift of what the push steps gave
lifted : (g : Over) (c : After-deref-3 g) → HasLiftedPath c.args.self.now.embedding c.index-lifted_path.result.now c.admit.new.trace
    → c.deref-3.result.now ≡ lift_ranks c.args.self.now.embedding.images c.admit.new.trace.digits c.admit.new.trace.ranks
lifted g c has =
    c.deref-3.ensures.value ∙ refilled c.embedding.inside.ranks c.lift.new.lifted (c.lift.auto.lifted ∙ ap length c.deref_mut.ensures.value)
    ∙ lifted_path-lifts c.args.self.now.embedding c.index-lifted_path.result.now c.admit.new.trace has c.ranks.result.now c.lift.new.lifted c.ranks.ensures.ranks c.lift.ensures.lifted

pub push-requires-clause-path : goal.push-requires-clause-path
push-requires-clause-path g c =
    let l : Laid = c.args.self.now.embedding in
    let at = goal.at.push-requires-clause-path g c in
    let has = lifted_path g at.After-deref_mut in
    record {
      leaf = subst (λ (arities : List ℕ). IsLeafAddress arities c.deref-2.result.now) (sym (c.reserve.ensures.shape ∙ c.requires.can.stands.stood.shape))
          (subst (IsLeafAddress l.arities) (sym c.deref-2.ensures.value) (image-leaf l c.index-lifted_path.result.now c.admit.new.trace has c.args.self.now.leaves));
      one_more = ap length c.deref-3.ensures.value ∙ ap length (refilled c.embedding.inside.ranks c.lift.new.lifted (c.lift.auto.lifted ∙ ap length c.deref_mut.ensures.value)) ∙ c.lift.auto.lifted
          ∙ long g at.After-deref_mut ∙ has.path_leads.long ∙ ap (λ (z : List ℕ). length z + 1) (sym c.deref-2.ensures.value);
      ranks = subst AreRanks (sym (lifted g at.After-deref-3 has)) (lifts-low l c.index-lifted_path.result.now c.admit.new.trace has);
    }

-- ---- the source states before and after the push
good : (g : Over) (c : After-push g) → IsGoodMap (length c.args.self.now.embedding.arities) c.args.self.now.embedding.images
good g c = laid-good _ c.args.self.now.embedding c.embedding.view_is c.embedding.invariant.laid

held : (g : Over) (c : After-push g) (s : SourceState) → IsSound (policy_in c.args.self.now.own) s → EmbeddedStands g.F.Fabric c.args.self.now c.args.under.now s
    → HoldsLift c.args.self.now.embedding (g.F.Fabric.queues c.reserve.new.self) s.tree
held g c s sound stood =
    let l : Laid = c.args.self.now.embedding in
    sound-holds (policy_in c.args.self.now.own) s l (g.F.Fabric.queues c.reserve.new.self) sound c.args.self.now.shape
    (lift-same s.tree (image_map l.images) (g.F.Fabric.queues c.args.under.now) (g.F.Fabric.queues c.reserve.new.self) c.reserve.ensures.queues stood.lifted)

free : (g : Over) (c : After-push g) (s : SourceState) → IsSound (policy_in c.args.self.now.own) s → EmbeddedStands g.F.Fabric c.args.self.now c.args.under.now s
    → is_full (policy_in c.args.self.now.own) c.args.packet.now s ≡ false
free g c s sound stood = sym (c.is_full.ensures.full s sound stood.own) ∙ c.if-is_full.false

pub returns-clause-state : goal.returns-clause-state
returns-clause-state g c = λ s sound stood.
    let policy : Policy = policy_in c.args.self.now.own in
    let l : Laid = c.args.self.now.embedding in
    let at = goal.at.returns-clause-state g c in
    let after : Family = g.F.Fabric.queues c.push.new.self in
    rw (free g at.After-push s sound stood) record {
      own = c.in_ok-leaf.ensures.ok s sound stood.own;
      shape = c.push.ensures.rest.shape ∙ c.reserve.ensures.shape ∙ stood.shape ∙ ap (λ (z : Laid). z.arities) (sym c.embedding.view_is);
      lifted = subst (λ (z : Laid). IsLift (push s.tree (class_of policy c.args.packet.now).leaf (arrival_ranks policy c.args.packet.now s) c.args.packet.now.number) (image_map z.images) after) (sym c.embedding.view_is)
          (arrived-tree policy c.args.packet.now s l (good g at.After-push) (g.F.Fabric.queues c.reserve.new.self) (held g at.After-push s sound stood) c.index-lifted_path.result.now c.admit.new.trace (lifted_path g at.After-deref_mut)
          c.in_ok-leaf.ensures.way.digits (c.in_ok-leaf.ensures.way.ranks s sound stood.own) c.deref-2.result.now c.deref-3.result.now c.deref-2.ensures.value (lifted g at.After-deref-3 (lifted_path g at.After-deref_mut)) after c.push.ensures.queues);
      pushes = omega (arith, c.push.ensures.pushed, c.reserve.ensures.pushed, stood.pushes, c.in_ok-leaf.ensures.counts.pushes);
      pops = omega (arith, c.push.ensures.rest.popped, c.reserve.ensures.popped, stood.pops, c.in_ok-leaf.ensures.counts.departures);
    }

pub returns-clause-spilled : goal.returns-clause-spilled
returns-clause-spilled g c = λ s sound stood.
    let policy : Policy = policy_in c.args.self.now.own in
    let l : Laid = c.args.self.now.embedding in
    let at = goal.at.returns-clause-spilled g c in
    rw (free g at.After-push s sound stood) (
    c.push.ensures.spilled
    ∙ arrived-spills policy c.args.packet.now s l (good g at.After-push) (g.F.Fabric.queues c.reserve.new.self) (held g at.After-push s sound stood) c.index-lifted_path.result.now c.admit.new.trace (lifted_path g at.After-deref_mut)
    c.in_ok-leaf.ensures.way.digits (c.in_ok-leaf.ensures.way.ranks s sound stood.own) c.deref-2.result.now c.deref-3.result.now c.deref-2.ensures.value (lifted g at.After-deref-3 (lifted_path g at.After-deref_mut)) (g.F.Fabric.spilled c.reserve.new.self)
    ∙ ap (λ (t : Option ℕ). raised t (push_spills l.images s.tree (class_of policy c.args.packet.now).leaf (arrival_ranks policy c.args.packet.now s))) c.reserve.ensures.spilled)
