use Rattle.sched_core.proofs.Prelude.{arith, ◌≡◌, ap, ◌∙◌, sym, ℕ, List, length, subst, ◌<◌, [], refl, refilled, Packet, Policy, NodeState, Flow, Visit, class_of, way_out, visits_from, after_pops, policy_of, HaveValues, HasRoomAt, AreNodeStates, HasRoomAtLeaf, tree_for, class_for, IsReady, PacketPath}
use Rattle.rank_defs.specs.FlowGroups.{grouped}
use Rattle.policy_defs.specs.Policy.{group_at}
use Rattle.sched_core.specs.PathNodes.{IsClassPath}
use Rattle.sched_core.proofs.RootWays.{path-there, ready, whole-way}
use Rattle.sched_core.proofs.StepsMade.{HavePopped, popped-begun, popped-more, popped-values}
use Rattle.sched_core.proofs.node_states.NodeStates.pop_steps.Goals as goal
use Rattle.sched_core.proofs.node_states.NodeStates.pop_steps.Goals.{After-as_mut_slice-states}

-- ---- the packet's path
abbrev path : After-as_mut_slice-states → PacketPath
path c = record { policy = c.args.self.now.policy; path_nodes = record { ref_ptr = c.as_slice.result.ref_ptr; now = c.as_slice.result.now }; packet = c.args.packet; moment = c.args.moment }

on_path : (c : After-as_mut_slice-states) → IsClassPath (policy_of c.args.self.now) (class_for (path c)) c.index-path.result.now
on_path c = path-there (policy_of c.args.self.now) c.args.packet.now c.requires.ready.known c.args.self.now.paths.items _ c.args.self.now.known c.index-path.ensures

is_ready : (c : After-as_mut_slice-states) → IsReady (path c)
is_ready c = ready (path c) c.requires.ready.accepted c.requires.ready.known c.requires.moment c.index-path.result.now (on_path c) c.as_slice.ensures.value

has_room : (c : After-as_mut_slice-states) → HasRoomAtLeaf (path c) c.as_mut_slice-states.result.now
has_room c =
    let policy : Policy = policy_of c.args.self.now in
    let p : Packet = c.args.packet.now in
    subst (λ (l : List NodeState). HasRoomAt policy.tree l (class_of policy p).leaf (Flow (grouped (group_at policy (class_of policy p).leaf) p.flow))) (sym c.as_mut_slice-states.ensures.value) c.requires.ready.room

-- ---- the steps above the leaf
pub loop-level-init : goal.loop-level-init
loop-level-init c = record {
  kept = subst (λ (l : List NodeState). AreNodeStates (policy_of c.args.self.now).tree l) (sym c.as_mut_slice-states.ensures.value) c.args.self.now.kept;
  room = λ a who h. h;
  popped = λ v h. popped-begun (path (goal.at.loop-level-init c).After-as_mut_slice-states) v c.as_mut_slice-states.result.now c.args.ranks.now h;
}

pub pop_at-requires-clause-there : goal.pop_at-requires-clause-there
pop_at-requires-clause-there c =
    let t = (goal.at.pop_at-requires-clause-there c).After-as_mut_slice-states in
    record { ready = is_ready t; digits_are = c.requires.leaf_address; low = omega (arith, c.loop-level-test.true); kept = c.loop-level.invariant.kept; room = c.loop-level.invariant.room _ _ (has_room t) }

pub loop-level-preserved : goal.loop-level-preserved
loop-level-preserved c =
    let t = (goal.at.loop-level-preserved c).After-as_mut_slice-states in
    let e : PacketPath = path t in
    let level = c.loop-level.level in
    let above : level < length (class_for e).leaf = omega (arith, c.loop-level-test.true, ap length c.requires.leaf_address) in
    let some : level < length c.args.ranks.now = omega (arith, c.loop-level-test.true, c.requires.even) in
    record {
      kept = c.pop_at.ensures.kept;
      room = λ a who h. c.pop_at.ensures.room a who (c.loop-level.invariant.room a who h);
      popped = λ v h.
          let p : HavePopped e v c.args.ranks.now level c.loop-level.states = c.loop-level.invariant.popped v h in
          popped-more e v (is_ready t) level c.args.ranks.now _ some refl above c.loop-level.states c.pop_at.new.states p (c.pop_at.ensures.values p.now p.are);
    }

-- ---- the step at the leaf
pub pop_at-requires-2-clause-there : goal.pop_at-requires-2-clause-there
pop_at-requires-2-clause-there c =
    let t = (goal.at.pop_at-requires-2-clause-there c).After-as_mut_slice-states in
    record { ready = is_ready t; digits_are = c.requires.leaf_address; low = omega arith; kept = c.loop-level.invariant.kept; room = c.loop-level.invariant.room _ _ (has_room t) }

pub returns-clause-states : goal.returns-clause-states
returns-clause-states c = λ v h.
    let t = (goal.at.returns-clause-states c).After-as_mut_slice-states in
    let e : PacketPath = path t in
    let level : ℕ = length c.args.digits.now in
    let all : c.loop-level.level ≡ level = omega (arith, c.loop-level-test.false, c.loop-level.auto.level-end) in
    let some : level < length c.args.ranks.now = omega (arith, c.requires.even) in
    let first : HaveValues (tree_for e) c.as_mut_slice-states.result.now v = subst (λ (l : List NodeState). HaveValues (tree_for e) l v) (sym c.as_mut_slice-states.ensures.value) h in
    let p : HavePopped e v c.args.ranks.now level c.loop-level.states = subst (λ (n : ℕ). HavePopped e v c.args.ranks.now n c.loop-level.states) all (c.loop-level.invariant.popped v first) in
    let whole : _ = refilled c.args.self.now.states c.pop_at-2.new.states (omega (arith, c.pop_at-2.ensures.kept.count, c.args.self.now.kept.count)) in
    let way : _ = whole-way (tree_for e) (class_for e) c.args.packet.now c.args.moment ∙ ap (λ (ds : List ℕ). visits_from (tree_for e) [] ds (class_for e) c.args.packet.now c.args.moment) (sym c.requires.leaf_address) in
    subst (λ (l : List NodeState). HaveValues (tree_for e) l (after_pops (way_out (policy_of c.args.self.now) c.args.packet.now c.args.digits.now c.args.moment) c.args.ranks.now v)) (sym whole)
    (subst (λ (vs : List Visit). HaveValues (tree_for e) c.pop_at-2.new.states (after_pops vs c.args.ranks.now v)) way
    (popped-values e v (is_ready t) level c.args.ranks.now _ some refl (ap length c.requires.leaf_address) c.loop-level.states c.pop_at-2.new.states p (c.pop_at-2.ensures.values p.now p.are)))
