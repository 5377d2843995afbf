use Rattle.sched_core.proofs.Prelude.{ap, ◌∙◌, sym, ℕ, List, length, subst, ◌+◌, Policy, leads_in, class_of, SourceTree, Address, LeadsToLeaf, policy_in}
use Rattle.sched_defs.proofs.Leaving.{arrives_at_a_leaf}
use Rattle.sched_core.proofs.direct.DirectScheduler.arrive.Goals as goal

pub reserve-requires : goal.reserve-requires
reserve-requires c =
    let policy : Policy = policy_in c.args.self.now.own in
    let r = c.requires.can.stands in
    let leads : LeadsToLeaf r.state.tree (class_of policy c.args.packet.now).leaf = leads_in policy c.requires.can.accepted r.state r.sound c.args.packet.now r.has.known.class in
    record { leaf = subst (λ (a : Address). LeadsToLeaf c.args.under.now.tree a) (sym c.address.ensures.address) (subst (λ (t : SourceTree). LeadsToLeaf t (class_of policy c.args.packet.now).leaf) r.stood.tree leads) }

pub push_to-requires-clause-leaf : goal.push_to-requires-clause-leaf
push_to-requires-clause-leaf c =
    let policy : Policy = policy_in c.args.self.now.own in
    let r = c.requires.can.stands in
    let leads : LeadsToLeaf r.state.tree (class_of policy c.args.packet.now).leaf = leads_in policy c.requires.can.accepted r.state r.sound c.args.packet.now r.has.known.class in
    subst (λ (a : Address). LeadsToLeaf c.reserve.new.self.tree a) (sym c.in_ok-leaf.ensures.way.digits ∙ sym c.digits.ensures.digits)
    (subst (λ (t : SourceTree). LeadsToLeaf t (class_of policy c.args.packet.now).leaf) (r.stood.tree ∙ sym c.reserve.ensures.tree) leads)

pub push_to-requires-clause-ranks : goal.push_to-requires-clause-ranks
push_to-requires-clause-ranks c =
    let policy : Policy = policy_in c.args.self.now.own in
    let r = c.requires.can.stands in
    ap (λ (l : List ℕ). length l) (c.ranks.ensures.ranks ∙ c.in_ok-leaf.ensures.way.ranks r.state r.sound r.stood.own)
    ∙ (arrives_at_a_leaf policy c.args.packet.now r.state c.requires.can.accepted r.sound r.has).ranks.count
    ∙ ap (λ (l : List ℕ). length l + 1) (sym c.in_ok-leaf.ensures.way.digits ∙ sym c.digits.ensures.digits)
