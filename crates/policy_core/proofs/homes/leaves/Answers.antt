use Rattle.policy_core.proofs.Prelude.{List, ◌≡◌, ℕ, ap, sym, subst, ◌∙◌, arith, length, ◌<◌, ◌+◌, Vec, get_or_default, Name, node_name, sense_of, given_back, ArePut}
use Rattle.std.proofs.Common.{Global}
use Rattle.policy_core.proofs.HomePasses.{IsPassing, node-within, pass-leaf, pass-node, pass-other, neither}
use Rattle.policy_core.proofs.HomeLaws.{homes-all}
use Rattle.policy_core.proofs.homes.leaves.Goals.{in-Leaf, in-Node, in_default}
use Rattle.policy_core.proofs.homes.leaves.Goals as goal

pub index-requires : goal.index-requires
index-requires c =
    let within : c.loop-statement.node < length c.in_ok-places.places.items =
    node-within c.args.lines.now c.args.classes.now c.in_ok-places.places.items c.loop-statement.leaves.items c.loop-statement.statement-index c.loop-statement.node c.loop-statement-item.result c.in-Leaf.field-0
    c.loop-statement-test.true c.loop-statement-item.is (ap (λ s. node_name (sense_of s)) c.in-Leaf.is) (c.in_ok-places.ensures.places.len ∙ c.requires.count) c.loop-statement.invariant in
    omega (arith, within, c.in_ok-places.places.ok)

pub overflow_add-node : goal.overflow_add-node
overflow_add-node c =
    let within : c.loop-statement.node < length c.in_ok-places.places.items =
    node-within c.args.lines.now c.args.classes.now c.in_ok-places.places.items c.loop-statement.leaves.items c.loop-statement.statement-index c.loop-statement.node c.loop-statement-item.result c.in-Leaf.field-0
    c.loop-statement-test.true c.loop-statement-item.is (ap (λ s. node_name (sense_of s)) c.in-Leaf.is) (c.in_ok-places.ensures.places.len ∙ c.requires.count) c.loop-statement.invariant in
    omega (arith, within, c.in_ok-places.places.ok)

pub overflow_add-node-in-Node : goal.overflow_add-node-in-Node
overflow_add-node-in-Node c =
    let within : c.loop-statement.node < length c.in_ok-places.places.items =
    node-within c.args.lines.now c.args.classes.now c.in_ok-places.places.items c.loop-statement.leaves.items c.loop-statement.statement-index c.loop-statement.node c.loop-statement-item.result c.in-Node.field-0
    c.loop-statement-test.true c.loop-statement-item.is (ap (λ s. node_name (sense_of s)) c.in-Node.is) (c.in_ok-places.ensures.places.len ∙ c.requires.count) c.loop-statement.invariant in
    omega (arith, within, c.in_ok-places.places.ok)

pub loop-statement-preserved : goal.loop-statement-preserved
loop-statement-preserved c = elim c.match-statement.branch [
  | in-Leaf w ↦ (
      let within : c.loop-statement.node < length c.in_ok-places.places.items =
      node-within c.args.lines.now c.args.classes.now c.in_ok-places.places.items c.loop-statement.leaves.items c.loop-statement.statement-index c.loop-statement.node c.loop-statement-item.result w.in-Leaf.field-0
      c.loop-statement-test.true c.loop-statement-item.is (ap (λ s. node_name (sense_of s)) w.in-Leaf.is) (c.in_ok-places.ensures.places.len ∙ c.requires.count) c.loop-statement.invariant in
      let back : c.match-statement.leaves.items ≡ w.put.new.leaves =
      ap (λ (v : Vec ℕ Global). v.items) w.leaves-is
      ∙ given_back c.loop-statement.leaves.len w.put.new.leaves c.loop-statement.leaves.items (omega (arith, w.put.ensures.len, ap length w.as_mut_slice.ensures.value, c.loop-statement.leaves.ok)) (omega (arith, c.loop-statement.leaves.ok)) in
      let put : ArePut c.args.classes.now w.in-Leaf.listed w.index.result.now c.loop-statement.leaves.items w.put.new.leaves =
      subst (λ (old : List ℕ). ArePut c.args.classes.now w.in-Leaf.listed w.index.result.now old w.put.new.leaves) w.as_mut_slice.ensures.value
      (subst (λ (names : List Name). ArePut c.args.classes.now names w.index.result.now w.as_mut_slice.result.now w.put.new.leaves) w.as_slice.ensures w.put.ensures) in
      subst (λ (n : ℕ). IsPassing c.args.lines.now c.args.classes.now c.in_ok-places.places.items (c.loop-statement.statement-index + 1) n c.match-statement.leaves.items) (sym w.node-is)
      (subst (λ (new : List ℕ). IsPassing c.args.lines.now c.args.classes.now c.in_ok-places.places.items (c.loop-statement.statement-index + 1) (c.loop-statement.node + 1) new) (sym back)
      (pass-leaf c.args.lines.now c.args.classes.now c.in_ok-places.places.items c.loop-statement.leaves.items w.put.new.leaves c.loop-statement.statement-index c.loop-statement.node w.index.result.now c.loop-statement-item.result _ _ _ _ w.in-Leaf.listed
      c.loop-statement-test.true c.loop-statement-item.is w.in-Leaf.is (w.index.ensures ∙ get_or_default c.in_ok-places.places.items c.loop-statement.node w.index.result.now 0 within) put c.loop-statement.invariant)))
  | in-Node w ↦
      subst (λ (n : ℕ). IsPassing c.args.lines.now c.args.classes.now c.in_ok-places.places.items (c.loop-statement.statement-index + 1) n c.match-statement.leaves.items) (sym w.node-is)
      (subst (λ (new : List ℕ). IsPassing c.args.lines.now c.args.classes.now c.in_ok-places.places.items (c.loop-statement.statement-index + 1) (c.loop-statement.node + 1) new) (sym (ap (λ (v : Vec ℕ Global). v.items) w.leaves-is))
      (pass-node c.args.lines.now c.args.classes.now c.in_ok-places.places.items c.loop-statement.leaves.items c.loop-statement.statement-index c.loop-statement.node c.loop-statement-item.result _ _ _ _ _
      c.loop-statement-test.true c.loop-statement-item.is w.in-Node.is c.loop-statement.invariant))
  | in_default w ↦
      subst (λ (n : ℕ). IsPassing c.args.lines.now c.args.classes.now c.in_ok-places.places.items (c.loop-statement.statement-index + 1) n c.match-statement.leaves.items) (sym w.node-is)
      (subst (λ (new : List ℕ). IsPassing c.args.lines.now c.args.classes.now c.in_ok-places.places.items (c.loop-statement.statement-index + 1) c.loop-statement.node new) (sym (ap (λ (v : Vec ℕ Global). v.items) w.leaves-is))
      (pass-other c.args.lines.now c.args.classes.now c.in_ok-places.places.items c.loop-statement.leaves.items c.loop-statement.statement-index c.loop-statement.node c.loop-statement-item.result
      c.loop-statement-test.true c.loop-statement-item.is (neither c.loop-statement-item.result.1 w.in_default.not-Leaf w.in_default.not-Node) c.loop-statement.invariant))
]

pub returns : goal.returns
returns c = record {
  homes = homes-all c.args.lines.now c.args.tree.now.rows c.args.classes.now c.in_ok-places.places.items c.loop-statement.leaves.items c.loop-statement.statement-index c.loop-statement.node
      c.requires.rising c.requires.apart c.requires.listed c.requires.classes c.requires.count c.in_ok-places.ensures.places (omega (arith, c.loop-statement-test.false)) c.loop-statement.invariant;
}
