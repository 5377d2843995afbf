use Rattle.fabric_core.proofs.Prelude.{rules, ◌<◌, ◌≡◌, ℕ, get_or, length, ap, arith, refl, ◌+◌, ◌*◌, ◌^◌, ◌≤◌, subst, sym, ◌∙◌, set, map, AllByRecursion, NamesBelow, put, ArrayTakesRoom}
use Rattle.embed_defs.specs.Spills.{spills_for, spills_at_leaf}
use Rattle.fabric_core.proofs.LevelWalks.{at_index, at_inner, at_next_node, leaf_length}
use Rattle.fabric_core.proofs.PushSteps.{IsPushing, pushing_first, pushing_next, pushed_last, pushed_counts, room_for, few_for}
use Rattle.fabric_core.proofs.ArrayUpdates.{flows_stay}
use Rattle.fabric_core.proofs.RoomSteps.{IsTaking, taking_next, taken_last}
use Rattle.fabric_core.proofs.SpillSteps.{IsCounting, counting_first, counting_next, counted_last, few_byte}
use Rattle.fabric_core.proofs.walk.push_along.Goals as goal

pub loop-level-init : goal.loop-level-init
loop-level-init g c = record {
  begin = 0;
  width = 1;
  place = 0;
  at = refl;
  pushing = pushing_first g.Q.NodeQueue c.args.shape.now c.args.digits.now c.args.ranks.now c.args.item c.args.queues.now c.requires.array.nodes c.requires.room c.requires.few;
  taking = refl;
  counting = counting_first g.Q.NodeQueue c.args.shape.now c.args.digits.now c.args.ranks.now c.args.queues.now;
}

pub bounds-queues-node : goal.bounds-queues-node
bounds-queues-node g c =
    let l = c.loop-level in
    let i = l.invariant in
    omega (arith, i.at, at_index c.args.shape.now (length l.queues) l.level i.begin i.width i.place i.pushing.here)

pub push_pair-spills-requires-clause-room : goal.push_pair-spills-requires-clause-room
push_pair-spills-requires-clause-room g c =
    let l = c.loop-level in
    let i = l.invariant in
    let q = c.index-queues-node.result in
    subst (λ (n : ℕ). 1 ≤ g.Q.NodeQueue.spare (get_or l.queues n q)) (sym i.at)
    (room_for g.Q.NodeQueue c.args.shape.now c.args.digits.now c.args.ranks.now c.args.item c.args.queues.now l.queues l.level i.begin i.width i.place q i.pushing)

pub push_pair-spills-requires-clause-few : goal.push_pair-spills-requires-clause-few
push_pair-spills-requires-clause-few g c =
    let l = c.loop-level in
    let i = l.invariant in
    let q = c.index-queues-node.result in
    subst (λ (n : ℕ). g.Q.NodeQueue.pushes (get_or l.queues n q) < 2 ^ 62) (sym i.at)
    (few_for g.Q.NodeQueue c.args.shape.now c.args.digits.now c.args.ranks.now c.args.item c.args.queues.now l.queues l.level i.begin i.width i.place q i.pushing)

pub child-node-requires : goal.child-node-requires
child-node-requires g c =
    let l = c.loop-level in
    let i = l.invariant in
    let low : l.level < length c.args.shape.now = omega (arith, c.loop-level-test.true, leaf_length c.args.shape.now c.args.digits.now c.requires.path.leaf) in
    record { inner = omega (arith, i.at, at_inner c.args.shape.now (length l.queues) l.level i.begin i.width i.place low i.pushing.here) }

pub bounds-queues-node-2 : goal.bounds-queues-node-2
bounds-queues-node-2 g c =
    let l = c.loop-level in
    let i = l.invariant in
    omega (arith, i.at, at_index c.args.shape.now (length l.queues) l.level i.begin i.width i.place i.pushing.here)

pub push_pair-spills-requires-2-clause-room : goal.push_pair-spills-requires-2-clause-room
push_pair-spills-requires-2-clause-room g c =
    let l = c.loop-level in
    let i = l.invariant in
    let q = c.index-queues-node-2.result in
    subst (λ (n : ℕ). 1 ≤ g.Q.NodeQueue.spare (get_or l.queues n q)) (sym i.at)
    (room_for g.Q.NodeQueue c.args.shape.now c.args.digits.now c.args.ranks.now c.args.item c.args.queues.now l.queues l.level i.begin i.width i.place q i.pushing)

pub push_pair-spills-requires-2-clause-few : goal.push_pair-spills-requires-2-clause-few
push_pair-spills-requires-2-clause-few g c =
    let l = c.loop-level in
    let i = l.invariant in
    let q = c.index-queues-node-2.result in
    subst (λ (n : ℕ). g.Q.NodeQueue.pushes (get_or l.queues n q) < 2 ^ 62) (sym i.at)
    (few_for g.Q.NodeQueue c.args.shape.now c.args.digits.now c.args.ranks.now c.args.item c.args.queues.now l.queues l.level i.begin i.width i.place q i.pushing)

pub loop-level-preserved : goal.loop-level-preserved
loop-level-preserved g c =
    let l = c.loop-level in
    let i = l.invariant in
    let node = g.Q.NodeQueue in
    let ds = c.args.shape.now in
    let digits = c.args.digits.now in
    let ranks = c.args.ranks.now in
    let old = c.args.queues.now in
    let made = c.push_pair-spills.new.self in
    let q = c.index-queues-node.result in
    let leaf = c.requires.path.leaf in
    let more = c.loop-level-test.true in
    let begin = i.begin + i.width in
    let width = i.width * get_or ds l.level 0 in
    let place = i.place * get_or ds l.level 0 + get_or digits l.level 0 in
    let told = c.push_pair-spills.ensures in
    let entries : node.entries made ≡ put (node.entries (get_or l.queues (i.begin + i.place) q)) (get_or ranks l.level 0) c.from.result
    = subst (λ (n : ℕ). node.entries made ≡ put (node.entries (get_or l.queues n q)) (get_or ranks l.level 0) c.from.result) i.at told.entries in
    let pushes : node.pushes made ≡ node.pushes (get_or l.queues (i.begin + i.place) q) + 1
    = subst (λ (n : ℕ). node.pushes made ≡ node.pushes (get_or l.queues n q) + 1) i.at told.pushes in
    record {
      begin = begin;
      width = width;
      place = place;
      at = at_next_node ds (length l.queues) l.level i.begin i.width i.place (get_or digits l.level 0) l.node c.child-node.result (omega (arith, more, leaf_length ds digits leaf)) i.pushing.here i.at c.child-node.ensures.child;
      pushing = subst (λ (n : ℕ). IsPushing node ds digits ranks c.args.item old (set l.queues n made) (l.level + 1) begin width place) (sym i.at)
          (pushing_next node ds digits ranks c.args.item old l.queues l.level i.begin i.width i.place c.from.result made q leaf c.requires.path.one_more more i.pushing c.from.ensures
          entries pushes);
      taking = subst (λ (n : ℕ). IsTaking node ds digits old (set l.queues n made) (l.level + 1) begin width place) (sym i.at)
          (taking_next node ds digits old l.queues l.level i.begin i.width i.place made q leaf more i.pushing.here i.taking (told.spare ∙ ap (λ (n : ℕ). node.spare (get_or l.queues n q)) i.at));
      counting = subst (λ (n : ℕ). IsCounting node ds digits ranks old (set l.queues n made) (l.spilled + c.from-spilled.result) (l.level + 1) begin width place) (sym i.at)
          (counting_next node ds digits ranks old l.queues l.spilled c.from-spilled.result l.level i.begin i.width i.place c.from.result made q c.push_pair-spills.result leaf c.requires.path.one_more more i.pushing.here i.counting c.from.ensures
          (subst (λ (n : ℕ). NamesBelow (node.flows (get_or l.queues n q)) (node.entries (get_or l.queues n q)) → c.from.result < node.flows (get_or l.queues n q)
          → c.push_pair-spills.result ≡ spills_for (get_or ranks l.level 0) c.from.result (node.entries (get_or l.queues n q))) i.at told.inner)
          c.from-spilled.ensures (told.flows ∙ ap (λ (n : ℕ). node.flows (get_or l.queues n q)) i.at));
    }

pub returns-clause-entries : goal.returns-clause-entries
returns-clause-entries g c =
    let l = c.loop-level in
    let i = l.invariant in
    let node = g.Q.NodeQueue in
    let ds = c.args.shape.now in
    let made = c.push_pair-spills-2.new.self in
    let q = c.index-queues-node-2.result in
    let rank = get_or c.args.ranks.now (length c.args.digits.now) 0 in
    let end : length c.args.digits.now ≡ l.level = omega (arith, c.loop-level-test.false, l.auto.level-end) in
    ap (λ (n : ℕ). map node.entries (set l.queues n made)) i.at
    ∙ pushed_last node ds c.args.digits.now c.args.ranks.now c.args.item c.args.queues.now l.queues l.level i.begin i.width i.place rank made q c.requires.path.leaf (omega (arith, end)) i.pushing
    (ap (λ (z : ℕ). get_or c.args.ranks.now z 0) end) (c.push_pair-spills-2.ensures.entries ∙ ap (λ (n : ℕ). put (node.entries (get_or l.queues n q)) rank c.args.item) i.at)

pub returns-clause-pushes : goal.returns-clause-pushes
returns-clause-pushes g c =
    let l = c.loop-level in
    let i = l.invariant in
    let node = g.Q.NodeQueue in
    let made = c.push_pair-spills-2.new.self in
    let q = c.index-queues-node-2.result in
    subst (λ (m : ℕ). (n : ℕ) → AllByRecursion (λ k. k ≤ n) (map node.pushes c.args.queues.now) → AllByRecursion (λ k. k ≤ n + 1) (map node.pushes (set l.queues m made))) (sym i.at)
    (pushed_counts node c.args.shape.now c.args.digits.now c.args.ranks.now c.args.item c.args.queues.now l.queues l.level i.begin i.width i.place made q i.pushing
    (c.push_pair-spills-2.ensures.pushes ∙ ap (λ (n : ℕ). node.pushes (get_or l.queues n q) + 1) i.at))

pub returns-clause-less_room : goal.returns-clause-less_room
returns-clause-less_room g c =
    let l = c.loop-level in
    let i = l.invariant in
    let node = g.Q.NodeQueue in
    let made = c.push_pair-spills-2.new.self in
    let q = c.index-queues-node-2.result in
    subst (λ (n : ℕ). ArrayTakesRoom c.args.shape.now c.args.digits.now (map node.spare c.args.queues.now) (map node.spare (set l.queues n made))) (sym i.at)
    (taken_last node c.args.shape.now c.args.digits.now c.args.queues.now l.queues l.level i.begin i.width i.place made q c.requires.array.nodes c.requires.path.leaf (omega (arith, c.loop-level-test.false)) i.pushing.here i.taking
    (c.push_pair-spills-2.ensures.spare ∙ ap (λ (n : ℕ). node.spare (get_or l.queues n q)) i.at))

pub returns-clause-spills : goal.returns-clause-spills
returns-clause-spills g c =
    let l = c.loop-level in
    let i = l.invariant in
    let node = g.Q.NodeQueue in
    let made = c.push_pair-spills-2.new.self in
    let q = c.index-queues-node-2.result in
    let rank = get_or c.args.ranks.now (length c.args.digits.now) 0 in
    let end : length c.args.digits.now ≡ l.level = omega (arith, c.loop-level-test.false, l.auto.level-end) in
    record {
      flows = flows_stay node c.args.queues.now l.queues l.node made q i.counting.flows c.push_pair-spills-2.ensures.flows;
      spilled = counted_last node c.args.shape.now c.args.digits.now c.args.ranks.now c.args.queues.now l.queues l.spilled c.from-2.result l.level i.begin i.width i.place rank q c.push_pair-spills-2.result
          c.requires.path.leaf (omega (arith, end)) i.pushing.here i.counting (ap (λ (z : ℕ). get_or c.args.ranks.now z 0) end)
          (subst (λ (n : ℕ). node.flows (get_or l.queues n q) ≡ 1 → c.push_pair-spills-2.result ≡ spills_at_leaf rank (node.entries (get_or l.queues n q))) i.at c.push_pair-spills-2.ensures.leaf) c.from-2.ensures;
      few_spilled = omega (arith, i.counting.few, l.auto.level-end, c.from-2.ensures, few_byte c.push_pair-spills-2.result);
    }

pub offset_bounds-queues-node : goal.offset_bounds-queues-node
offset_bounds-queues-node g c =
    let l = c.loop-level in
    let i = l.invariant in
    let within : l.node < length l.queues = omega (arith, i.at, at_index c.args.shape.now (length l.queues) l.level i.begin i.width i.place i.pushing.here) in
    search rules

pub offset_bounds-queues-node-2 : goal.offset_bounds-queues-node-2
offset_bounds-queues-node-2 g c =
    let l = c.loop-level in
    let i = l.invariant in
    let within : l.node < length l.queues = omega (arith, i.at, at_index c.args.shape.now (length l.queues) l.level i.begin i.width i.place i.pushing.here) in
    search rules
