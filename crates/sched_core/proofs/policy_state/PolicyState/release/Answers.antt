use Rattle.sched_core.proofs.Prelude.{arith, ◌≡◌, ap, ◌∙◌, sym, ℕ, List, subst, Some, refl, Option, None, is_some, if◌then◌else◌, ◌==◌, true≢false, Packet, held_at, number_at, Policy, LeavesItsLeaf, way_out, after_pops, size-pop, policy_of, AreStates, leaf_number, policy_in}
use Rattle.policy_defs.specs.Accepted.{IsAccepted}
use Rattle.sched_defs.specs.Sound.{IsKnown}
use Rattle.sched_defs.specs.SourceState.{left_with}
use Rattle.sched_core.specs.Totals.{MayTotals, Values, AreKept, AreSized, amounts_in, with_one_fewer}
use Rattle.sched_core.specs.declared.node_states.NodeStates.{NodeStates}
use Rattle.sched_core.proofs.LimitLaws.{kept-same, kept-sized, none-counted, amounts-left}
use Rattle.sched_core.proofs.Filling.{count-within, count-some, filled-left}
use Rattle.sched_core.proofs.PoppedPackets.{taken, is_held, leaves, leaver-popped, departed-popped}
use Rattle.sched_core.proofs.policy_state.PolicyState.release.Goals as goal
use Rattle.sched_core.proofs.policy_state.PolicyState.release.Goals.{After-index_mut, then-is_some, else-is_some}

pub unreachable-requires : goal.unreachable-requires
unreachable-requires c =
    let r = c.requires.stands in
    let held = is_held (policy_in c.args.self.now) r.state c.args.number c.args.digits.now c.args.ranks.now r.has r.sound in
    let none : None ≡ Some held.0 = sym c.if-not-take.ensures.value ∙ r.stood.held c.args.number ∙ held.1 in
    absurd (true≢false (sym (ap is_some none)))

pub pop_steps-requires-clause-ready : goal.pop_steps-requires-clause-ready
pop_steps-requires-clause-ready c =
    let r = c.requires.stands in
    let p : Packet = c.take.new.packet in
    let held : held_at c.args.self.now.held c.args.number ≡ Some p = c.if-not-take.ensures.value in
    record { known = r.sound.known c.args.number p (sym (r.stood.held c.args.number) ∙ held); accepted = c.requires.accepted; room = c.args.self.now.room c.args.number p held }

pub pop_steps-requires-clause-leaf_address : goal.pop_steps-requires-clause-leaf_address
pop_steps-requires-clause-leaf_address c =
    let r = c.requires.stands in
    (leaves (policy_in c.args.self.now) r.state c.args.number c.args.digits.now c.args.ranks.now r.has r.sound c.take.new.packet (sym (r.stood.held c.args.number) ∙ c.if-not-take.ensures.value)).leaf_is

pub pop_steps-requires-clause-even : goal.pop_steps-requires-clause-even
pop_steps-requires-clause-even c =
    let r = c.requires.stands in
    (leaves (policy_in c.args.self.now) r.state c.args.number c.args.digits.now c.args.ranks.now r.has r.sound c.take.new.packet (sym (r.stood.held c.args.number) ∙ c.if-not-take.ensures.value)).ranks.count

pub pop_steps-requires-clause-limit : goal.pop_steps-requires-clause-limit
pop_steps-requires-clause-limit c =
    let r = c.requires.stands in
    (leaves (policy_in c.args.self.now) r.state c.args.number c.args.digits.now c.args.ranks.now r.has r.sound c.take.new.packet (sym (r.stood.held c.args.number) ∙ c.if-not-take.ensures.value)).ranks.low

-- ---- the totals without the packet
pub take_from_totals-requires : goal.take_from_totals-requires
take_from_totals-requires c =
    let policy : Policy = policy_in c.args.self.now in
    let r = c.requires.stands in
    let p : Packet = c.take.new.packet in
    let held : r.state.held c.args.number ≡ Some p = sym (r.stood.held c.args.number) ∙ c.if-not-take.ensures.value in
    record {
      known = subst (λ (z : Policy). IsKnown z p) (sym c.pop_steps.ensures.kept.policy) (r.sound.known c.args.number p held);
      accepted = subst IsAccepted (sym c.pop_steps.ensures.kept.policy) c.requires.accepted;
      sized = subst (λ (z : Policy). AreSized z c.args.self.now.totals) (sym c.pop_steps.ensures.kept.policy) (kept-sized policy c.args.self.now.totals (amounts_in policy r.state) r.stood.totals);
    }

pub index_mut-requires : goal.index_mut-requires
index_mut-requires c =
    let policy : Policy = policy_in c.args.self.now in
    let r = c.requires.stands in
    let p : Packet = c.take.new.packet in
    let held : r.state.held c.args.number ≡ Some p = sym (r.stood.held c.args.number) ∙ c.if-not-take.ensures.value in
    let is : c.path.result.now.leaf ≡ leaf_number policy p = c.path.ensures.path.leaf in
    let within = count-within policy c.requires.accepted p (r.sound.known c.args.number p held).class c.args.self.now.filled.items r.state r.stood.filled c.path.result.now.leaf is in
    omega (arith, within, c.args.self.now.filled.ok)

pub overflow_sub-index_mut : goal.overflow_sub-index_mut
overflow_sub-index_mut c =
    let policy : Policy = policy_in c.args.self.now in
    let r = c.requires.stands in
    let p : Packet = c.take.new.packet in
    let held : r.state.held c.args.number ≡ Some p = sym (r.stood.held c.args.number) ∙ c.if-not-take.ensures.value in
    let is : c.path.result.now.leaf ≡ leaf_number policy p = c.path.ensures.path.leaf in
    let some = count-some policy c.requires.accepted p (r.sound.known c.args.number p held).class c.args.self.now.filled.items r.state r.stood.filled c.path.result.now.leaf is c.index_mut.result.now c.index_mut.ensures.value
    (taken policy r.state c.args.number c.args.digits.now c.args.ranks.now r.has) r.sound r.has.popped held in
    omega (arith, some)

record HasLeft (p : Packet) (policy : Policy) (node_states new : NodeStates) (q : Packet) (before after : MayTotals) : Type 0 where
  same : new ≡ node_states
  leaver : q ≡ p
  kept : (values : Values) → AreKept policy before values → AreKept policy after (with_one_fewer policy p values)

left : (c : After-index_mut) → HasLeft c.take.new.packet (policy_in c.args.self.now) c.pop_steps.new.self c.if-is_some.self.1.0 c.if-is_some.self.1.1.1.1.1.1.1.1.0 c.args.self.now.totals c.if-is_some.self.1.1.1.1.0
left c =
    let policy : Policy = policy_in c.args.self.now in
    let p : Packet = c.take.new.packet in
    elim c.if-is_some.branch [
      | then-is_some w ↦ rw w.self-is record {
        same = refl;
        leaver = refl;
        kept = λ values h. subst (λ (z : Policy). AreKept z w.take_from_totals.new.totals (with_one_fewer z p values)) c.pop_steps.ensures.kept.policy
            (w.take_from_totals.ensures.kept values (subst (λ (z : Policy). AreKept z c.args.self.now.totals values) (sym c.pop_steps.ensures.kept.policy) h));
      }
      | else-is_some w ↦ rw w.self-is record {
        same = refl;
        leaver = refl;
        kept = λ values h. none-counted policy c.args.self.now.totals values (with_one_fewer policy p values) (sym c.is_some.ensures ∙ w.if-is_some.false) h;
      }
    ]

pub returns-clause-state : goal.returns-clause-state
returns-clause-state c = λ s sound own next.
    let policy : Policy = policy_in c.args.self.now in
    let p : Packet = c.take.new.packet in
    let l = left (goal.at.returns-clause-state c).After-index_mut in
    let same : policy_of c.if-is_some.self.1.0 ≡ policy = ap policy_of l.same ∙ c.pop_steps.ensures.kept.policy in
    let held : s.held c.args.number ≡ Some p = sym (own.held c.args.number) ∙ c.if-not-take.ensures.value in
    let is : c.path.result.now.leaf ≡ leaf_number policy p = c.path.ensures.path.leaf in
    let one = taken policy s c.args.number c.args.digits.now c.args.ranks.now next in
    rw (departed-popped policy s c.args.number c.args.digits.now c.args.ranks.now next p held) record {
      nodes = subst (λ (z : NodeStates). AreStates z (after_pops (way_out policy p c.args.digits.now s.now) c.args.ranks.now s.nodes)) (sym l.same)
          (subst (λ (m : ℕ). AreStates c.pop_steps.new.self (after_pops (way_out policy p c.args.digits.now m) c.args.ranks.now s.nodes)) (sym own.now)
          (c.pop_steps.ensures.states s.nodes own.nodes));
      held = λ n. c.take.ensures.rest n ∙ ap (λ (o : Option Packet). if n == c.args.number then None else o) (own.held n);
      filled = filled-left policy c.requires.accepted p (sound.known c.args.number p held).class c.args.self.now.filled.items s own.filled c.path.result.now.leaf is c.index_mut.result.now c.index_mut.ensures.value
          one sound next.popped held (policy_of c.if-is_some.self.1.0) same;
      totals = subst (λ (z : Policy). AreKept z c.if-is_some.self.1.1.1.1.0 (amounts_in z (left_with policy s one (Some p)))) (sym same)
          (kept-same policy c.if-is_some.self.1.1.1.1.0 _ _ (amounts-left policy p s sound one next.popped held) (l.kept (amounts_in policy s) own.totals));
      few = omega (arith, own.few, size-pop s.tree one next.popped);
      now = own.now;
    }

pub returns-clause-value : goal.returns-clause-value
returns-clause-value c = λ s sound own next.
    let policy : Policy = policy_in c.args.self.now in
    let p : Packet = c.take.new.packet in
    let held : s.held c.args.number ≡ Some p = sym (own.held c.args.number) ∙ c.if-not-take.ensures.value in
    let l : LeavesItsLeaf policy s (record { packet = p; digits = c.args.digits.now; ranks = c.args.ranks.now }) = leaves policy s c.args.number c.args.digits.now c.args.ranks.now next sound p held in
    let number : p.number ≡ c.args.number = sound.numbered c.args.number p held in
    let leaf : number_at policy.tree c.args.digits.now ≡ c.path.result.now.leaf
    = ap (λ (a : List ℕ). number_at policy.tree a) l.leaf_is ∙ sym c.path.ensures.path.leaf in
    rw (leaver-popped policy s c.args.number c.args.digits.now c.args.ranks.now next p held, number, leaf, (left (goal.at.returns-clause-value c).After-index_mut).leaver) refl
