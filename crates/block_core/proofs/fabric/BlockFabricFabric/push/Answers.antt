use Rattle.block_core.proofs.Prelude.{arith, ◌≡◌, sym, subst, ℕ, ◌∙◌, ap, List, ◌+◌, ◌≤◌, Some, with_items_is, AllByRecursion, with_items, IsLeafAddress, less_room_along, push_along, few_kept, nodes_kept, pushed_queues, pushed_sound, flows_at, queues_at, ArrayTakesRoom, array_push, room_at, HasFlows, IsFlow, Block, entries_of, flows_of, pushes_of, BlockTree, block_queues, block_room, spare_of}
use Rattle.embed_defs.specs.Spills.{spills_along}
use Rattle.block_core.proofs.NodeSpills.{fewer_levels}
use Rattle.block_core.proofs.fabric.BlockFabricFabric.push.Goals as goal

pub invariant_of-self : goal.invariant_of-self
invariant_of-self c =
    let f = c.self.inside in
    let back = with_items_is f.queues c.push_along-spilled.new.queues (omega (arith, c.push_along-spilled.auto.queues, c.deref_mut.ensures.len)) in
    let leaf : IsLeafAddress f.shape c.args.digits.now = subst (λ (v : BlockTree). IsLeafAddress v.arities c.args.digits.now) (sym c.self.view_is) c.requires.path.leaf in
    let flows : flows_of (with_items f.queues c.push_along-spilled.new.queues).items ≡ flows_of f.queues.items
    = ap (λ (z : List Block). flows_of z) back ∙ c.push_along-spilled.ensures.spills.flows ∙ ap (λ (z : List Block). flows_of z) c.deref_mut.ensures.value in
    record {
      sound =
          pushed_sound f.shape (entries_of f.queues.items) (entries_of (with_items f.queues c.push_along-spilled.new.queues).items) (pushes_of f.queues.items) (pushes_of (with_items f.queues c.push_along-spilled.new.queues).items) f.pushed c.args.digits.now c.args.ranks.now c.args.item c.self.invariant.sound
          (subst (λ (v : BlockTree). IsLeafAddress v.arities c.args.digits.now) (sym c.self.view_is) c.requires.path.leaf)
          (ap (λ (z : List Block). entries_of z) back ∙ c.push_along-spilled.ensures.entries
          ∙ ap (λ (z : List Block). array_push f.shape (entries_of z) 0 1 0 c.args.digits.now c.args.ranks.now c.args.item) c.deref_mut.ensures.value)
          (λ n a. subst (λ (z : List Block). AllByRecursion (λ k. k ≤ n + 1) (pushes_of z)) (sym back)
          (c.push_along-spilled.ensures.pushes n (subst (λ (z : List Block). AllByRecursion (λ k. k ≤ n) (pushes_of z)) (sym c.deref_mut.ensures.value) a)));
      flows = subst (λ (z : List ℕ). HasFlows f.shape (flows_at f.shape z 0 1 0)) (sym flows) c.self.invariant.flows;
      few = omega (arith, c.self.invariant.few, c.from.ensures, c.push_along-spilled.ensures.spills.few_spilled, fewer_levels f.shape c.args.digits.now leaf, nodes_kept (λ (q : Block). q.entries) f.shape f.queues.items (pushes_of f.queues.items) f.pushed c.self.invariant.sound, few_kept (λ (q : Block). q.entries) f.shape f.queues.items (pushes_of f.queues.items) f.pushed c.self.invariant.sound);
    }

pub returns-clause-queues : goal.returns-clause-queues
returns-clause-queues c b =
    let f = c.self.inside in
    let back = with_items_is f.queues c.push_along-spilled.new.queues (omega (arith, c.push_along-spilled.auto.queues, c.deref_mut.ensures.len)) in
    pushed_queues f.shape (entries_of f.queues.items) (entries_of (with_items f.queues c.push_along-spilled.new.queues).items) (pushes_of f.queues.items) f.pushed c.args.digits.now c.args.ranks.now c.args.item c.self.invariant.sound
    (subst (λ (v : BlockTree). IsLeafAddress v.arities c.args.digits.now) (sym c.self.view_is) c.requires.path.leaf)
    (ap (λ (z : List Block). entries_of z) back ∙ c.push_along-spilled.ensures.entries
    ∙ ap (λ (z : List Block). array_push f.shape (entries_of z) 0 1 0 c.args.digits.now c.args.ranks.now c.args.item) c.deref_mut.ensures.value) b
    ∙ ap (λ (v : BlockTree). push_along c.args.digits.now c.args.ranks.now c.args.item (block_queues v) b) c.self.view_is

pub returns-clause-less_room : goal.returns-clause-less_room
returns-clause-less_room c b =
    let f = c.self.inside in
    let back = with_items_is f.queues c.push_along-spilled.new.queues (omega (arith, c.push_along-spilled.auto.queues, c.deref_mut.ensures.len)) in
    let taken : ArrayTakesRoom f.shape c.args.digits.now (spare_of f.queues.items) (spare_of c.push_along-spilled.new.queues)
    = subst (λ (z : List Block). ArrayTakesRoom f.shape c.args.digits.now (spare_of z) (spare_of c.push_along-spilled.new.queues)) c.deref_mut.ensures.value c.push_along-spilled.ensures.less_room in
    ap (λ (z : List Block). room_at f.shape (spare_of z) 0 1 0 b) back ∙ taken b ∙ ap (λ (v : BlockTree). less_room_along c.args.digits.now (block_room v) b) c.self.view_is

pub returns-clause-spilled : goal.returns-clause-spilled
returns-clause-spilled c =
    let f = c.self.inside in
    let same : c.push_along-spilled.result ≡ spills_along c.args.digits.now c.args.ranks.now (queues_at f.shape (entries_of f.queues.items) 0 1 0)
    = subst (λ (qs : List Block). HasFlows f.shape (flows_at f.shape (flows_of qs) 0 1 0) → IsFlow f.shape (queues_at f.shape (entries_of qs) 0 1 0)
    → c.push_along-spilled.result ≡ spills_along c.args.digits.now c.args.ranks.now (queues_at f.shape (entries_of qs) 0 1 0)) c.deref_mut.ensures.value
    c.push_along-spilled.ensures.spills.spilled
    c.self.invariant.flows c.self.invariant.sound.flow in
    ap (λ (n : ℕ). Some (f.spilled + n)) (c.from.ensures ∙ same) ∙ ap (λ (v : BlockTree). Some (v.spilled + spills_along c.args.digits.now c.args.ranks.now (block_queues v))) c.self.view_is
