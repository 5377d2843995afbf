use Rattle.sched_run.proofs.Prelude.{◌≡◌, ℕ, List, arith, sym, subst, length}
use Rattle.std.specs.Borrow.{Bor}
use Rattle.policy_defs.specs.Numbers.{IsNameOf}
use Rattle.sched_run.specs.Names.{AreNames}
use Rattle.sched_run.proofs.NameLaws.{each-more}
use Rattle.sched_run.proofs.names.NameTable.new.Goals as goal

pub loop-node-init : goal.loop-node-init
loop-node-init c = record {
  so_far = c.in_ok-names.ensures.len;
  room = omega (arith, c.in_ok-names.ensures.capacity);
  each = subst (λ (ns : List (Bor (List ℕ))). AreNames c.args.policy.now.policy ns) (sym c.in_ok-names.ensures.items) (λ n. tt);
}

pub push_reserved-requires : goal.push_reserved-requires
push_reserved-requires c = omega (arith, c.loop-node.invariant.so_far, c.loop-node.invariant.room, c.loop-node-test.true)

pub loop-node-preserved : goal.loop-node-preserved
loop-node-preserved c =
    let policy = c.args.policy.now.policy in
    let names = c.loop-node.names.items in
    let so_far : length names ≡ c.loop-node.node = omega (arith, c.loop-node.names.ok.0, c.loop-node.invariant.so_far) in
    let last : IsNameOf policy (length names) c.name.result.now = subst (λ (n : ℕ). IsNameOf policy n c.name.result.now) (sym so_far) c.name.ensures.name in
    record {
      so_far = omega (arith, c.push_reserved.ensures.len, c.loop-node.invariant.so_far);
      room = omega (arith, c.push_reserved.ensures.capacity, c.loop-node.invariant.room);
      each = subst (λ (ns : List (Bor (List ℕ))). AreNames policy ns) (sym c.push_reserved.ensures.items)
          (each-more (λ (n : ℕ) (name : Bor (List ℕ)). IsNameOf policy n name.now) names c.name.result c.loop-node.invariant.each last);
    }

pub invariant_of-result : goal.invariant_of-result
invariant_of-result c = record {
  all = omega (arith, c.loop-node.names.ok.0, c.loop-node.invariant.so_far, c.loop-node-test.false, c.loop-node.auto.node-end, c.count-count.ensures.count);
  each = c.loop-node.invariant.each;
}
