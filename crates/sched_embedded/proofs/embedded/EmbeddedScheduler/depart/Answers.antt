use Rattle.sched_embedded.proofs.Prelude.{sym, ℕ, ◌∙◌, ap, ◌≡◌, subst, length, arith, refl, None, Family, Pops, IsLeafImage, AreLeafPaths, IsGoodMap, image_map, IsLift, Policy, policy_in, pop_size, departed, IsSound, SourceState, picked_ranks, Way, SourceTree, pop, depth, Laid, HoldsLift, PopsTo}
use Rattle.rank_core.proofs.Lists.{refilled}
use Rattle.sched_embedded.proofs.MapShapes.{same_depth, sound-holds, laid-good}
use Rattle.sched_embedded.proofs.ClassPaths.{lifted_paths-lead}
use Rattle.sched_embedded.proofs.LiftMoves.{lift-same, pops_nothing, leaf_image, popped-to}
use Rattle.sched_embedded.proofs.DepartedPackets.{next, departed-tree, leaver-taken, not-empty}
use Rattle.embed_core.specs.Picks.{LeadsToImage}
use Rattle.sched_embedded.specs.Embedded.{EmbeddedStands}
use Rattle.sched_embedded.proofs.embedded.EmbeddedScheduler.depart.Given.{Over}
use Rattle.sched_embedded.proofs.embedded.EmbeddedScheduler.depart.Goals as goal
use Rattle.sched_embedded.proofs.embedded.EmbeddedScheduler.depart.Goals.{After-count_empty_departure, After-deref-3}

-- ---- the pop of the fabric
good : (g : Over) (c : After-deref-3 g) → IsGoodMap (length c.args.self.now.embedding.arities) c.args.self.now.embedding.images
good g c = laid-good _ c.args.self.now.embedding c.embedding.view_is c.embedding.invariant.laid

held : (g : Over) (c : After-deref-3 g) (s : SourceState) → IsSound (policy_in c.args.self.now.own) s → EmbeddedStands g.F.Fabric c.args.self.now c.args.under.now s
    → HoldsLift c.args.self.now.embedding (g.F.Fabric.queues c.args.under.now) s.tree
held g c s sound stood = sound-holds (policy_in c.args.self.now.own) s c.args.self.now.embedding (g.F.Fabric.queues c.args.under.now) sound c.args.self.now.shape stood.lifted

pops : (g : Over) (c : After-deref-3 g) (s : SourceState) → EmbeddedStands g.F.Fabric c.args.self.now c.args.under.now s
    → Pops (length c.args.self.now.embedding.arities) (g.F.Fabric.queues c.args.under.now) c.in-Some.number c.pop.new.digits c.pop.new.ranks (g.F.Fabric.queues c.pop.new.self)
pops g c s stood =
    subst (λ (h : ℕ). Pops h (g.F.Fabric.queues c.args.under.now) c.in-Some.number c.pop.new.digits c.pop.new.ranks (g.F.Fabric.queues c.pop.new.self)) (ap length stood.shape) c.in-Some.ensures.taken

digits : (g : Over) (c : After-deref-3 g) → c.deref-2.result.now ≡ c.pop.new.digits
digits g c = c.deref-2.ensures.value ∙ refilled c.embedding.inside.digits c.pop.new.digits (c.pop.auto.digits ∙ ap length c.deref_mut.ensures.value)

pub pick-requires-clause-paths : goal.pick-requires-clause-paths
pick-requires-clause-paths g c =
    let lifted_paths : AreLeafPaths c.args.self.now.embedding.images c.args.self.now.lifted_paths.items
    = lifted_paths-lead c.args.self.now.embedding.images (policy_in c.args.self.now.own) c.args.self.now.lifted_paths.items c.requires.can.accepted c.args.self.now.shape c.args.self.now.paths_lead in
    rw c.deref.ensures.value (subst (λ (l : Laid). AreLeafPaths l.images c.args.self.now.lifted_paths.items) (sym c.embedding.view_is) lifted_paths)

pub pick-requires-clause-leaf : goal.pick-requires-clause-leaf
pick-requires-clause-leaf g c =
    let r = c.requires.can.stands in
    let l : Laid = c.args.self.now.embedding in
    let at = goal.at.pick-requires-clause-leaf g c in
    let leaf : IsLeafImage l.images c.pop.new.digits
    = leaf_image l (good g at.After-deref-3) (g.F.Fabric.queues c.args.under.now) r.state.tree (held g at.After-deref-3 r.state r.sound r.stood) c.in-Some.number c.pop.new.digits c.pop.new.ranks (g.F.Fabric.queues c.pop.new.self)
    (pops g at.After-deref-3 r.state r.stood) in
    subst (IsLeafImage c.embedding.inside.map) (sym (digits g at.After-deref-3)) (subst (λ (z : Laid). IsLeafImage z.images c.pop.new.digits) (sym c.embedding.view_is) leaf)

pub pick-requires-clause-room : goal.pick-requires-clause-room
pick-requires-clause-room g c =
    omega (arith, ap (λ (z : Laid). depth z.images) c.embedding.view_is, same_depth (policy_in c.args.self.now.own).tree c.args.self.now.embedding.images c.args.self.now.shape, c.requires.can.room)

-- ---- what is picked is what a pop of the source tree takes
popped : (g : Over) (c : After-deref-3 g) (s : SourceState) → IsSound (policy_in c.args.self.now.own) s → EmbeddedStands g.F.Fabric c.args.self.now c.args.under.now s
    → (way : Way) → LeadsToImage c.embedding.inside.map c.deref-2.result.now way.digits → way.ranks ≡ picked_ranks c.embedding.inside.map way.digits c.deref-3.result.now
    → PopsTo c.args.self.now.embedding s.tree c.in-Some.number way (g.F.Fabric.queues c.pop.new.self)
popped g c s sound stood way leads picked =
    let ranks : c.deref-3.result.now ≡ c.pop.new.ranks
    = c.deref-3.ensures.value ∙ refilled c.embedding.inside.ranks c.pop.new.ranks (c.pop.auto.ranks ∙ ap length c.deref_mut-2.ensures.value) in
    popped-to _ c.args.self.now.embedding c.embedding.view_is (good g c) (g.F.Fabric.queues c.args.under.now) s.tree (held g c s sound stood) c.in-Some.number c.pop.new.digits c.pop.new.ranks
    c.deref-2.result.now c.deref-3.result.now (g.F.Fabric.queues c.pop.new.self) (digits g c) ranks (pops g c s stood) way leads.leaf leads.image_is picked

pub release-requires-clause-stands : goal.release-requires-clause-stands
release-requires-clause-stands g c =
    let r = c.requires.can.stands in
    let p = popped g (goal.at.release-requires-clause-stands g c).After-deref-3 r.state r.sound r.stood c.pick.new.taken c.pick.ensures.leads c.pick.ensures.ranks in
    record {
      state = r.state;
      sound = r.sound;
      stood = r.stood.own;
      has = next (policy_in c.args.self.now.own) r.state r.sound c.args.self.now.embedding c.in-Some.number c.pick.new.taken (g.F.Fabric.queues c.pop.new.self) p c.digits.result.now c.ranks.result.now c.digits.ensures.digits c.ranks.ensures.ranks;
    }

pub returns-clause-state : goal.returns-clause-state
returns-clause-state g c = λ s sound stood.
    let policy : Policy = policy_in c.args.self.now.own in
    let l : Laid = c.args.self.now.embedding in
    let after : Family = g.F.Fabric.queues c.pop.new.self in
    let p = popped g (goal.at.returns-clause-state g c).After-deref-3 s sound stood c.pick.new.taken c.pick.ensures.leads c.pick.ensures.ranks in
    record {
      own = c.release.ensures.state s sound stood.own
          (next policy s sound l c.in-Some.number c.pick.new.taken after p c.digits.result.now c.ranks.result.now c.digits.ensures.digits c.ranks.ensures.ranks);
      shape = c.pop.ensures.rest.shape ∙ stood.shape ∙ ap (λ (z : Laid). z.arities) (sym c.embedding.view_is);
      lifted = subst (λ (z : Laid). IsLift (departed policy s).tree (image_map z.images) after) (sym c.embedding.view_is)
          (subst (λ (t : SourceTree). IsLift t (image_map l.images) after) (sym (departed-tree policy s sound l c.in-Some.number c.pick.new.taken after p)) p.lift.lifted);
      pushes = omega (arith, c.pop.ensures.rest.pushed, stood.pushes, c.release.ensures.pushes);
      pops = omega (arith, c.pop.ensures.popped, stood.pops, c.release.ensures.departures);
    }

pub returns-clause-departs : goal.returns-clause-departs
returns-clause-departs g c = λ s sound stood.
    let policy : Policy = policy_in c.args.self.now.own in
    let l : Laid = c.args.self.now.embedding in
    let after : Family = g.F.Fabric.queues c.pop.new.self in
    let p = popped g (goal.at.returns-clause-departs g c).After-deref-3 s sound stood c.pick.new.taken c.pick.ensures.leads c.pick.ensures.ranks in
    record {
      value = sym (c.release.ensures.value s sound stood.own
          (next policy s sound l c.in-Some.number c.pick.new.taken after p c.digits.result.now c.ranks.result.now c.digits.ensures.digits c.ranks.ensures.ranks));
      none = (λ none. cc, λ empty. absurd (not-empty policy s sound l c.in-Some.number c.pick.new.taken after p empty));
      taken = leaver-taken policy s sound l c.in-Some.number c.pick.new.taken after p;
    }

-- ---- a pop that finds nothing
nothing : (g : Over) (c : After-count_empty_departure g) (s : SourceState) → IsSound (policy_in c.args.self.now.own) s → EmbeddedStands g.F.Fabric c.args.self.now c.args.under.now s → pop s.tree ≡ None
nothing g c s sound stood =
    let l : Laid = c.args.self.now.embedding in
    let before : Family = g.F.Fabric.queues c.args.under.now in
    pops_nothing l (laid-good _ l c.embedding.view_is c.embedding.invariant.laid) before s.tree (sound-holds (policy_in c.args.self.now.own) s l before sound c.args.self.now.shape stood.lifted)
    (c.in_default.ensures.none.0 refl)

pub returns-in_default-clause-state : goal.returns-in_default-clause-state
returns-in_default-clause-state g c = λ s sound stood.
    let l : Laid = c.args.self.now.embedding in
    let before : Family = g.F.Fabric.queues c.args.under.now in
    let after : Family = g.F.Fabric.queues c.pop.new.self in
    rw (nothing g (goal.at.returns-in_default-clause-state g c).After-count_empty_departure s sound stood) record {
      own = c.count_empty_departure.ensures.state s stood.own;
      shape = c.pop.ensures.rest.shape ∙ stood.shape ∙ ap (λ (z : Laid). z.arities) (sym c.embedding.view_is);
      lifted = subst (λ (z : Laid). IsLift s.tree (image_map z.images) after) (sym c.embedding.view_is)
          (lift-same s.tree (image_map l.images) before after c.in_default.ensures.stays.queues stood.lifted);
      pushes = omega (arith, c.pop.ensures.rest.pushed, stood.pushes, c.count_empty_departure.ensures.pushes);
      pops = omega (arith, c.pop.ensures.popped, stood.pops, c.count_empty_departure.ensures.departures);
    }

pub returns-in_default-clause-departs : goal.returns-in_default-clause-departs
returns-in_default-clause-departs g c = λ s sound stood.
    let e : pop s.tree ≡ None = nothing g (goal.at.returns-in_default-clause-departs g c).After-count_empty_departure s sound stood in
    record {
      value = rw e refl;
      none = (λ none. (pop_size (policy_in c.args.self.now.own) s sound).0 e, λ empty. refl);
      taken = rw e tt;
    }
