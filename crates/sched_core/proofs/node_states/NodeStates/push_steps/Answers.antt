use Rattle.sched_core.proofs.Prelude.{arith, ◌≡◌, ap, ◌∙◌, sym, ℕ, List, length, subst, ◌<◌, [], refl, ◌∷◌, ◌+◌, ◌≤◌, ◌++◌, length-append, take_more, take_all, length-take-le, slice_index_or, max_rank, depth, refilled, Packet, Policy, NodeState, Flow, Visit, States, class_of, way_in, after_pushes, ranks_pushed, policy_of, HaveValues, HasRoomAt, AreNodeStates, HasRoomAtLeaf, tree_for, class_for, AreLowRanks, IsReady, PacketPath}
use Rattle.rank_defs.specs.FlowGroups.{grouped}
use Rattle.policy_defs.specs.Policy.{group_at}
use Rattle.sched_core.proofs.ClassLeaves.{leaf-depth}
use Rattle.sched_core.specs.PathNodes.{IsClassPath}
use Rattle.sched_core.proofs.RootWays.{path-there, ready, whole-way}
use Rattle.sched_core.proofs.WayVisits.{all-more}
use Rattle.sched_core.proofs.StepsMade.{HavePushed, pushed-begun, pushed-more, pushed-ranks, pushed-values}
use Rattle.sched_core.proofs.node_states.NodeStates.push_steps.Goals as goal
use Rattle.sched_core.proofs.node_states.NodeStates.push_steps.Goals.{After-clear}

-- ---- the packet's path
abbrev path : After-clear → PacketPath
path c = record { policy = c.args.self.now.policy; path_nodes = record { ref_ptr = c.as_slice.result.ref_ptr; now = c.as_slice.result.now }; packet = c.args.packet; moment = c.args.moment }

on_path : (c : After-clear) → IsClassPath (policy_of c.args.self.now) (class_for (path c)) c.index-path.result.now
on_path c = path-there (policy_of c.args.self.now) c.args.packet.now c.requires.ready.known c.args.self.now.paths.items _ c.args.self.now.known c.index-path.ensures

is_ready : (c : After-clear) → IsReady (path c)
is_ready c = ready (path c) c.requires.ready.accepted c.requires.ready.known c.requires.moment c.index-path.result.now (on_path c) c.as_slice.ensures.value

has_room : (c : After-clear) → HasRoomAtLeaf (path c) c.as_mut_slice-states.result.now
has_room c =
    let policy : Policy = policy_of c.args.self.now in
    let p : Packet = c.args.packet.now in
    subst (λ (l : List NodeState). HasRoomAt policy.tree l (class_of policy p).leaf (Flow (grouped (group_at policy (class_of policy p).leaf) p.flow))) (sym c.as_mut_slice-states.ensures.value) c.requires.ready.room

values-there : (c : After-clear) {values : States} → HaveValues (policy_of c.args.self.now).tree c.args.self.now.states.items values → HaveValues (tree_for (path c)) c.as_mut_slice-states.result.now values
values-there c {values} h = subst (λ (l : List NodeState). HaveValues (policy_of c.args.self.now).tree l values) (sym c.as_mut_slice-states.ensures.value) h

-- ---- the steps above the leaf
pub loop-level-init : goal.loop-level-init
loop-level-init c = record {
  kept = subst (λ (l : List NodeState). AreNodeStates (policy_of c.args.self.now).tree l) (sym c.as_mut_slice-states.ensures.value) c.args.self.now.kept;
  room = λ a who h. h;
  digits = c.clear.ensures.digits;
  count = ap length c.clear.ensures.ranks;
  low = subst AreLowRanks (sym c.clear.ensures.ranks) tt;
  spare = refl;
  pushed = λ v h. pushed-begun (path (goal.at.loop-level-init c).After-clear) v c.as_mut_slice-states.result.now _ c.clear.ensures.ranks h;
}

pub push_at-rank-requires : goal.push_at-rank-requires
push_at-rank-requires c =
    let t = (goal.at.push_at-rank-requires c).After-clear in
    let is = is_ready t in
    record { there = record { ready = is; digits_are = (on_path t).digits; low = omega (arith, c.loop-level-test.true); kept = c.loop-level.invariant.kept; room = c.loop-level.invariant.room _ _ (has_room t) } }

pub step-requires-clause-room : goal.step-requires-clause-room
step-requires-clause-room c =
    let t = (goal.at.step-requires-clause-room c).After-clear in
    let is = is_ready t in
    let e : PacketPath = path t in
    let deep : length (class_for e).leaf ≤ depth (tree_for e) = leaf-depth (tree_for e) (class_for e).leaf is.leads in
    let level : ℕ = c.loop-level.level in
    let few : level ≤ length c.index-path.result.now.digits.now = omega (arith, c.loop-level-test.true) in
    let count : length c.loop-level.trace.digits ≡ level = ap length c.loop-level.invariant.digits ∙ length-take-le level c.index-path.result.now.digits.now few in
    omega (arith, count, deep, c.loop-level-test.true, ap length (on_path t).digits, c.loop-level.invariant.spare, c.clear.ensures.room, c.requires.levels)

pub loop-level-preserved : goal.loop-level-preserved
loop-level-preserved c =
    let t = (goal.at.loop-level-preserved c).After-clear in
    let is = is_ready t in
    let e : PacketPath = path t in
    let level = c.loop-level.level in
    let digits = c.index-path.result.now.digits.now in
    let above : level < length (class_for e).leaf = omega (arith, c.loop-level-test.true, ap length (on_path t).digits) in
    record {
      kept = c.push_at-rank.ensures.kept;
      room = λ a who h. c.push_at-rank.ensures.room a who (c.loop-level.invariant.room a who h);
      digits = c.step.ensures.digits ∙ ap (λ (ds : List ℕ). ds ++ slice_index_or digits level 0 ∷ []) c.loop-level.invariant.digits ∙ sym (take_more digits level 0 c.loop-level-test.true);
      count = ap length c.step.ensures.ranks ∙ length-append c.loop-level.trace.ranks _ ∙ ap (λ (n : ℕ). n + 1) c.loop-level.invariant.count;
      low = subst AreLowRanks (sym c.step.ensures.ranks) (all-more (λ r. r ≤ max_rank) c.loop-level.trace.ranks _ c.loop-level.invariant.low c.push_at-rank.ensures.limit);
      spare = c.step.ensures.room ∙ c.loop-level.invariant.spare;
      pushed = λ v h.
          let p : HavePushed e v level c.loop-level.states c.loop-level.trace.ranks = c.loop-level.invariant.pushed v h in
          pushed-more e v is level above c.loop-level.states c.push_at-rank.new.states c.loop-level.trace.ranks c.step.new.self.ranks c.push_at-rank.result p
          c.step.ensures.ranks (c.push_at-rank.ensures.rank p.now p.are) (c.push_at-rank.ensures.values p.now p.are);
    }

-- ---- the step at the leaf
pub push_at-rank-requires-2 : goal.push_at-rank-requires-2
push_at-rank-requires-2 c =
    let t = (goal.at.push_at-rank-requires-2 c).After-clear in
    let is = is_ready t in
    record { there = record { ready = is; digits_are = (on_path t).digits; low = omega arith; kept = c.loop-level.invariant.kept; room = c.loop-level.invariant.room _ _ (has_room t) } }

pub returns-clause-trace : goal.returns-clause-trace
returns-clause-trace c =
    let t = (goal.at.returns-clause-trace c).After-clear in
    record {
      digits = c.last.ensures.digits ∙ c.loop-level.invariant.digits ∙ take_all _ _ (omega (arith, c.loop-level-test.false)) ∙ (on_path t).digits;
      low = subst AreLowRanks (sym c.last.ensures.ranks) (all-more (λ r. r ≤ max_rank) c.loop-level.trace.ranks _ c.loop-level.invariant.low c.push_at-rank-2.ensures.limit);
      room = c.last.ensures.room ∙ c.loop-level.invariant.spare ∙ c.clear.ensures.room;
    }

pub returns-clause-ranks : goal.returns-clause-ranks
returns-clause-ranks c = λ v h.
    let t = (goal.at.returns-clause-ranks c).After-clear in
    let is = is_ready t in
    let e : PacketPath = path t in
    let level : ℕ = length c.index-path.result.now.digits.now in
    let all : c.loop-level.level ≡ level = omega (arith, c.loop-level-test.false, c.loop-level.auto.level-end) in
    let p : HavePushed e v level c.loop-level.states c.loop-level.trace.ranks = subst (λ (n : ℕ). HavePushed e v n c.loop-level.states c.loop-level.trace.ranks) all (c.loop-level.invariant.pushed v (values-there t h)) in
    pushed-ranks e v is level (ap length (on_path t).digits) c.loop-level.states c.loop-level.trace.ranks c.last.new.self.ranks c.push_at-rank-2.result p
    c.last.ensures.ranks (c.push_at-rank-2.ensures.rank p.now p.are)
    ∙ ap (ranks_pushed v) (whole-way (tree_for e) (class_for e) c.args.packet.now c.args.moment)

pub returns-clause-states : goal.returns-clause-states
returns-clause-states c = λ v h.
    let t = (goal.at.returns-clause-states c).After-clear in
    let is = is_ready t in
    let e : PacketPath = path t in
    let level : ℕ = length c.index-path.result.now.digits.now in
    let all : c.loop-level.level ≡ level = omega (arith, c.loop-level-test.false, c.loop-level.auto.level-end) in
    let p : HavePushed e v level c.loop-level.states c.loop-level.trace.ranks = subst (λ (n : ℕ). HavePushed e v n c.loop-level.states c.loop-level.trace.ranks) all (c.loop-level.invariant.pushed v (values-there t h)) in
    let whole : _ = refilled c.args.self.now.states c.push_at-rank-2.new.states (omega (arith, c.push_at-rank-2.ensures.kept.count, c.args.self.now.kept.count)) in
    subst (λ (l : List NodeState). HaveValues (tree_for e) l (after_pushes (way_in (policy_of c.args.self.now) c.args.packet.now c.args.moment) v)) (sym whole)
    (subst (λ (vs : List Visit). HaveValues (tree_for e) c.push_at-rank-2.new.states (after_pushes vs v)) (whole-way (tree_for e) (class_for e) c.args.packet.now c.args.moment)
    (pushed-values e v is level (ap length (on_path t).digits) c.loop-level.states c.push_at-rank-2.new.states c.loop-level.trace.ranks p (c.push_at-rank-2.ensures.values p.now p.are)))
