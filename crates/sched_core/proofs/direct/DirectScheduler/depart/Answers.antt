use Rattle.sched_core.proofs.Prelude.{arith, ◌≡◌, ap, ◌∙◌, sym, Some, refl, None, Policy, leaver, SourceTree, pop, size, Topology, depth, policy_in}
use Rattle.tree_defs.proofs.Shapes.{topology_of-same, depth-topology}
use Rattle.sched_defs.proofs.Leaving.{pop_size, leaver-none}
use Rattle.sched_core.proofs.direct.DirectScheduler.depart.Goals as goal

pub pop-requires : goal.pop-requires
pop-requires c =
    let policy : Policy = policy_in c.args.self.now.own in
    let r = c.requires.can.stands in
    let levels : depth c.args.under.now.tree ≡ depth policy.tree
    = ap (λ (t : SourceTree). depth t) (sym r.stood.tree) ∙ sym (depth-topology r.state.tree) ∙ ap (λ (t : Topology). depth t) (topology_of-same r.state.tree policy.tree r.sound.shape) ∙ depth-topology policy.tree in
    record { room = omega (arith, levels, c.requires.can.room) }

pub release-requires-clause-stands : goal.release-requires-clause-stands
release-requires-clause-stands c =
    let r = c.requires.can.stands in
    record {
      state = r.state;
      sound = r.sound;
      stood = r.stood.own;
      has = record {
        left = c.pop.new.self.tree;
        popped = ap pop r.stood.tree ∙ c.in-Some.ensures.popped
            ∙ (λ i. Some (record { value = c.in-Some.number; digits = sym c.digits.ensures.digits i; ranks = sym c.ranks.ensures.ranks i; left = c.pop.new.self.tree }));
      };
    }

pub returns-in-None-clause-state : goal.returns-in-None-clause-state
returns-in-None-clause-state c = λ s sound stood.
    let policy : Policy = policy_in c.args.self.now.own in
    let empty : size s.tree ≡ 0 = ap (λ (t : SourceTree). size t) stood.tree ∙ c.in-None.ensures.empty.0 refl in
    let nothing : pop s.tree ≡ None = (pop_size policy s sound).1 empty in
    rw nothing record {
      own = c.count_empty_departure.ensures.state s stood.own;
      tree = stood.tree ∙ ap (λ g. g.tree) (sym c.in-None.ensures.unchanged);
      pushes = c.pop.ensures.pushes ∙ stood.pushes ∙ sym c.count_empty_departure.ensures.pushes;
    }

pub returns-in-None-clause-departs : goal.returns-in-None-clause-departs
returns-in-None-clause-departs c = λ s sound stood.
    let policy : Policy = policy_in c.args.self.now.own in
    let empty : size s.tree ≡ 0 = ap (λ (t : SourceTree). size t) stood.tree ∙ c.in-None.ensures.empty.0 refl in
    let nothing : leaver s ≡ None = (leaver-none policy s sound).1 empty in
    record {
      value = rw nothing refl;
      none = ((λ _. empty), (λ _. refl));
      taken = rw nothing tt;
    }
