use Rattle.sched_core.proofs.Prelude.{arith, ◌≡◌, refl, ap, ◌∙◌, sym, ℕ, subst, Some, Option, if◌then◌else◌, ◌==◌, max, unwrap_or, err_from_is_err_and, Packet, Policy, States, leads_in, class_of, arrival_ranks, way_in, after_pushes, ranks_pushed, size-push, policy_of, AreStates, leaf_number, policy_in, AreFilled}
use Rattle.policy_defs.specs.Accepted.{IsAccepted}
use Rattle.sched_defs.specs.Events.{CanArrive}
use Rattle.sched_defs.specs.Sound.{IsKnown}
use Rattle.sched_defs.specs.SourceState.{pushed}
use Rattle.sched_core.specs.Totals.{MayTotals, AreKept, AreSized, AreFew, HasTotalsRoom, Values, amounts_in, with_one_more}
use Rattle.sched_core.specs.Agreement.{HasFlowRoom}
use Rattle.sched_core.specs.Held.{held_at}
use Rattle.sched_core.specs.declared.node_states.NodeStates.{NodeStates}
use Rattle.sched_core.proofs.SlotLaws.{if_same, if_other, split}
use Rattle.sched_core.proofs.LimitLaws.{kept-same, kept-sized, no-totals, none-counted, amounts-pushed, amounts-few}
use Rattle.sched_core.proofs.Filling.{count-within, count-few, filled-pushed}
use Rattle.sched_core.proofs.policy_state.PolicyState.admit.Goals as goal
use Rattle.sched_core.proofs.policy_state.PolicyState.admit.Goals.{After-put, After-index_mut, then-is_some+in_ok-reserve_totals, else-is_some, then-is_some-2, else-is_some-2}

pub returns-in_err-reserve-clause-err : goal.returns-in_err-reserve-clause-err
returns-in_err-reserve-clause-err c =
    let p = err_from_is_err_and c.from_residual.result c.from_residual.ensures.1 in
    rw (p.1) record {
      state = λ s sound own. record {
        nodes = c.reserve.ensures.states s.nodes own.nodes;
        held = own.held;
        filled = subst (λ (z : Policy). AreFilled z c.args.self.now.filled.items s) (sym c.reserve.ensures.policy) own.filled;
        totals = subst (λ (z : Policy). AreKept z c.args.self.now.totals (amounts_in z s)) (sym c.reserve.ensures.policy) own.totals;
        few = own.few;
        now = own.now;
      };
      trace = refl;
    }

-- ---- room for the totals, under the same policy
pub reserve_totals-requires : goal.reserve_totals-requires
reserve_totals-requires c =
    let policy : Policy = policy_in c.args.self.now in
    let r = c.requires.can.stands in
    record {
      known = subst (λ (z : Policy). IsKnown z c.args.packet.now) (sym c.reserve.ensures.policy) r.has.known;
      accepted = subst IsAccepted (sym c.reserve.ensures.policy) c.requires.can.accepted;
      sized = subst (λ (z : Policy). AreSized z c.args.self.now.totals) (sym c.reserve.ensures.policy) (kept-sized policy c.args.self.now.totals (amounts_in policy r.state) r.stood.totals);
    }

pub returns-in_err-reserve_totals-clause-err : goal.returns-in_err-reserve_totals-clause-err
returns-in_err-reserve_totals-clause-err c =
    let p = err_from_is_err_and c.from_residual-in_err-reserve_totals.result c.from_residual-in_err-reserve_totals.ensures.1 in
    rw (p.1) record {
      state = λ s sound own. record {
        nodes = c.reserve.ensures.states s.nodes own.nodes;
        held = own.held;
        filled = subst (λ (z : Policy). AreFilled z c.args.self.now.filled.items s) (sym c.reserve.ensures.policy) own.filled;
        totals = c.reserve_totals.ensures.kept (amounts_in (policy_of c.reserve.new.self) s)
            (subst (λ (z : Policy). AreKept z c.args.self.now.totals (amounts_in z s)) (sym c.reserve.ensures.policy) own.totals);
        few = own.few;
        now = own.now;
      };
      trace = refl;
    }

-- ---- there is room for the packet
record HasReserved (p : Packet) (old new : NodeStates) (before after : MayTotals) : Type 0 where
  policy : policy_of new ≡ policy_of old
  states : (values : States) → AreStates old values → AreStates new values
  room : HasFlowRoom new p
  rooms : (q : Packet) → HasFlowRoom old q → HasFlowRoom new q
  kept : (values : Values) → AreKept (policy_of old) before values → AreKept (policy_of old) after values
  totals_room : HasTotalsRoom (policy_of old) p after

reserved : (c : After-put) → HasReserved c.args.packet.now c.args.self.now.node_states c.if-is_some.self.1.0 c.args.self.now.totals c.if-is_some.self.1.1.1.1.0
reserved c = elim c.if-is_some.branch [
  | then-is_some+in_ok-reserve_totals w ↦ rw w.self-is record {
    policy = c.reserve.ensures.policy;
    states = c.reserve.ensures.states;
    room = c.in_ok-reserve.ensures.room;
    rooms = c.reserve.ensures.kept;
    kept = λ values h. subst (λ (z : Policy). AreKept z w.reserve_totals.new.totals values) c.reserve.ensures.policy
        (w.reserve_totals.ensures.kept values (subst (λ (z : Policy). AreKept z c.args.self.now.totals values) (sym c.reserve.ensures.policy) h));
    totals_room = subst (λ (z : Policy). HasTotalsRoom z c.args.packet.now w.reserve_totals.new.totals) c.reserve.ensures.policy w.in_ok-reserve_totals.ensures.room;
  }
  | else-is_some w ↦ rw w.self-is record {
    policy = c.reserve.ensures.policy;
    states = c.reserve.ensures.states;
    room = c.in_ok-reserve.ensures.room;
    rooms = c.reserve.ensures.kept;
    kept = λ values h. h;
    totals_room = no-totals (policy_in c.args.self.now) c.args.packet.now c.args.self.now.totals (sym c.is_some.ensures ∙ w.if-is_some.false);
  }
]

pub returns-in_err-put-clause-err : goal.returns-in_err-put-clause-err
returns-in_err-put-clause-err c =
    let r = reserved (goal.at.returns-in_err-put-clause-err c).After-put in
    let p = err_from_is_err_and c.from_residual-in_err-put.result c.from_residual-in_err-put.ensures.1 in
    rw (p.1) record {
      state = λ s sound own. record {
        nodes = r.states s.nodes own.nodes;
        held = λ n. c.in_err-put.ensures.err n ∙ own.held n;
        filled = subst (λ (z : Policy). AreFilled z c.args.self.now.filled.items s) (sym r.policy) own.filled;
        totals = subst (λ (z : Policy). AreKept z c.if-is_some.self.1.1.1.1.0 (amounts_in z s)) (sym r.policy) (r.kept (amounts_in (policy_in c.args.self.now) s) own.totals);
        few = own.few;
        now = own.now;
      };
      trace = refl;
    }

-- ---- the steps, under the same policy
pub push_steps-requires-clause-ready : goal.push_steps-requires-clause-ready
push_steps-requires-clause-ready c =
    let r = reserved (goal.at.push_steps-requires-clause-ready c).After-put in
    record {
      known = subst (λ (z : Policy). IsKnown z c.args.packet.now) (sym r.policy) c.requires.can.stands.has.known;
      accepted = subst IsAccepted (sym r.policy) c.requires.can.accepted;
      room = r.room;
    }

-- ---- the totals with the packet
pub add_to_totals-requires : goal.add_to_totals-requires
add_to_totals-requires c =
    let policy : Policy = policy_in c.args.self.now in
    let r = reserved (goal.at.add_to_totals-requires c).After-put in
    let one = c.requires.can.stands in
    let same : policy_of c.push_steps.new.self ≡ policy = c.push_steps.ensures.kept.policy ∙ r.policy in
    record {
      known = subst (λ (z : Policy). IsKnown z c.args.packet.now) (sym same) one.has.known;
      accepted = subst IsAccepted (sym same) c.requires.can.accepted;
      sized = subst (λ (z : Policy). AreSized z c.if-is_some.self.1.1.1.1.0) (sym same)
          (kept-sized policy c.if-is_some.self.1.1.1.1.0 (amounts_in policy one.state) (r.kept (amounts_in policy one.state) one.stood.totals));
      room = subst (λ (z : Policy). HasTotalsRoom z c.args.packet.now c.if-is_some.self.1.1.1.1.0) (sym same) r.totals_room;
    }

record HasAdded (p : Packet) (policy : Policy) (node_states new : NodeStates) (before after : MayTotals) : Type 0 where
  same : new ≡ node_states
  kept : (values : Values) → AreKept policy before values → AreFew values → AreKept policy after (with_one_more policy p values)

added : (c : After-index_mut) → policy_of c.if-is_some.self.1.0 ≡ policy_in c.args.self.now → HasAdded c.args.packet.now (policy_in c.args.self.now) c.push_steps.new.self c.if-is_some-2.self.1.0 c.if-is_some.self.1.1.1.1.0 c.if-is_some-2.self.1.1.1.1.0
added c is =
    let policy : Policy = policy_in c.args.self.now in
    let p : Packet = c.args.packet.now in
    let same : policy_of c.push_steps.new.self ≡ policy = c.push_steps.ensures.kept.policy ∙ is in
    elim c.if-is_some-2.branch [
      | then-is_some-2 w ↦ rw w.self-is record {
        same = refl;
        kept = λ values h few. subst (λ (z : Policy). AreKept z w.add_to_totals.new.totals (with_one_more z p values)) same
            (w.add_to_totals.ensures.kept values (subst (λ (z : Policy). AreKept z c.if-is_some.self.1.1.1.1.0 values) (sym same) h) few);
      }
      | else-is_some-2 w ↦ rw w.self-is record {
        same = refl;
        kept = λ values h few. none-counted policy c.if-is_some.self.1.1.1.1.0 values (with_one_more policy p values) (sym c.is_some-2.ensures ∙ w.if-is_some-2.false) h;
      }
    ]

pub index_mut-requires : goal.index_mut-requires
index_mut-requires c =
    let policy : Policy = policy_in c.args.self.now in
    let r = c.requires.can.stands in
    let within = count-within policy c.requires.can.accepted c.args.packet.now r.has.known.class c.args.self.now.filled.items r.state r.stood.filled c.path.result.now.leaf c.path.ensures.path.leaf in
    omega (arith, within, c.args.self.now.filled.ok)

pub overflow_add-index_mut : goal.overflow_add-index_mut
overflow_add-index_mut c =
    let policy : Policy = policy_in c.args.self.now in
    let r = c.requires.can.stands in
    let few = count-few policy c.requires.can.accepted c.args.packet.now r.has.known.class c.args.self.now.filled.items r.state r.stood.filled c.path.result.now.leaf c.path.ensures.path.leaf c.index_mut.result.now c.index_mut.ensures.value in
    omega (arith, few, r.stood.few, c.requires.can.few)

-- ---- the flow of each queued packet has room at its leaf
same-packet : (p q : Packet) → Some p ≡ Some q → p ≡ q
same-packet p q e = ap (λ (o : Option Packet). unwrap_or o p) e

pub invariant_of-self-2 : goal.invariant_of-self-2
invariant_of-self-2 c =
    let p : Packet = c.args.packet.now in
    let r = reserved (goal.at.invariant_of-self-2 c).After-put in
    let a = added (goal.at.invariant_of-self-2 c).After-index_mut r.policy in
    let rooms : (q : Packet) → HasFlowRoom c.if-is_some.self.1.0 q → HasFlowRoom c.if-is_some-2.self.1.0 q = λ q h. subst (λ (z : NodeStates). HasFlowRoom z q) (sym a.same) (c.push_steps.ensures.kept.rooms q h) in
    record {
      room = λ n q at. split n p.number
          (λ same. subst (λ (z : Packet). HasFlowRoom c.if-is_some-2.self.1.0 z)
          (same-packet p q (sym (if_same n p.number (Some p) (held_at c.args.self.now.held n) same) ∙ sym (c.in_ok-put.ensures.ok n) ∙ at))
          (rooms p r.room))
          (λ other. rooms q (r.rooms q
          (c.args.self.now.room n q (sym (if_other n p.number (Some p) (held_at c.args.self.now.held n) other) ∙ sym (c.in_ok-put.ensures.ok n) ∙ at))));
    }

pub returns-clause-ok : goal.returns-clause-ok
returns-clause-ok c = λ s sound own.
    let policy : Policy = policy_in c.args.self.now in
    let p : Packet = c.args.packet.now in
    let r = reserved (goal.at.returns-clause-ok c).After-put in
    let a = added (goal.at.returns-clause-ok c).After-index_mut r.policy in
    let one = c.requires.can.stands in
    let moment : c.max-moment.result ≡ max s.now p.moment = c.max-moment.ensures ∙ ap (λ (m : ℕ). max m p.moment) (sym own.now) in
    let same : policy_of c.if-is_some-2.self.1.0 ≡ policy = ap policy_of a.same ∙ c.push_steps.ensures.kept.policy ∙ r.policy in
    let is : c.path.result.now.leaf ≡ leaf_number policy p = c.path.ensures.path.leaf in
    let can : CanArrive policy s p = record { fresh = sym (own.held p.number) ∙ one.stood.held p.number ∙ one.has.fresh; known = one.has.known; moment = one.has.moment } in
    record {
      nodes =
          subst (λ (z : NodeStates). AreStates z (after_pushes (way_in policy p (max s.now p.moment)) s.nodes)) (sym a.same)
          (subst (λ (m : ℕ). AreStates c.push_steps.new.self (after_pushes (way_in policy p m) s.nodes)) moment
          (subst (λ (z : Policy). AreStates c.push_steps.new.self (after_pushes (way_in z p c.max-moment.result) s.nodes)) r.policy
          (c.push_steps.ensures.states s.nodes (r.states s.nodes own.nodes))));
      held = λ n. c.in_ok-put.ensures.ok n ∙ ap (λ (o : Option Packet). if n == p.number then Some p else o) (own.held n);
      filled = filled-pushed policy c.requires.can.accepted p one.has.known.class c.args.self.now.filled.items s own.filled c.path.result.now.leaf is c.index_mut.result.now c.index_mut.ensures.value (policy_of c.if-is_some-2.self.1.0) same sound can;
      totals = subst (λ (z : Policy). AreKept z c.if-is_some-2.self.1.1.1.1.0 (amounts_in z (pushed policy p s))) (sym same)
          (kept-same policy c.if-is_some-2.self.1.1.1.1.0 _ _ (amounts-pushed policy p s sound c.requires.can.accepted can)
          (a.kept (amounts_in policy s) (r.kept (amounts_in policy s) own.totals) (amounts-few policy s sound (omega (arith, own.few, c.requires.can.few)))));
      few = omega (arith, own.few, size-push s.tree (class_of policy p).leaf (arrival_ranks policy p s) p.number (leads_in policy c.requires.can.accepted s sound p one.has.known.class));
      now = sym moment;
    }

pub returns-clause-way : goal.returns-clause-way
returns-clause-way c =
    let p : Packet = c.args.packet.now in
    let r = reserved (goal.at.returns-clause-way c).After-put in
    record {
      digits = c.push_steps.ensures.trace.digits ∙ ap (λ (z : Policy). (class_of z p).leaf) r.policy;
      ranks = λ s sound own.
          let moment : c.max-moment.result ≡ max s.now p.moment = c.max-moment.ensures ∙ ap (λ (m : ℕ). max m p.moment) (sym own.now) in
          c.push_steps.ensures.ranks s.nodes (r.states s.nodes own.nodes)
          ∙ ap (λ (z : Policy). ranks_pushed s.nodes (way_in z p c.max-moment.result)) r.policy
          ∙ ap (λ (m : ℕ). ranks_pushed s.nodes (way_in (policy_in c.args.self.now) p m)) moment;
    }
