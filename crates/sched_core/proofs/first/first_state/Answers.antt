use Rattle.sched_core.proofs.Prelude.{arith, ◌∙◌, sym, ◌<◌, ◌^◌, address_at, part_at}
use Rattle.sched_core.proofs.FirstStates.{program-of, shape-has, arity-is, fits, inner-node_state, leaf-node_state, first-values}
use Rattle.sched_core.proofs.first.first_state.Goals as goal

pub arity-requires : goal.arity-requires
arity-requires c = record { there = shape-has c.args.policy.now.policy.tree c.args.node c.requires.there c.address.result.now c.address.ensures.address _ c.topo.ensures.topology }

pub overflow_cast-children : goal.overflow_cast-children
overflow_cast-children c =
    let few : c.in-Some.children < 2 ^ 32 = fits c.args.policy.now.policy.tree c.args.node c.requires.there c.address.result.now c.address.ensures.address _ c.topo.ensures.topology c.in-Some.children c.topo.ensures.accepted.children (sym c.in-Some.is ∙ c.arity.ensures) in
    omega (arith, few)

pub returns-in-Some-clause-node_state : goal.returns-in-Some-clause-node_state
returns-in-Some-clause-node_state c =
    inner-node_state _ _ (program-of c.args.policy.now.policy.tree c.args.node c.requires.there _ _ c.transaction-transaction.ensures.same c.checked.ensures.program) c.inner.result c.in-Some.children
    (sym c.in-Some.is ∙ c.arity.ensures ∙ arity-is c.args.policy.now.policy.tree c.args.node c.requires.there c.address.result.now c.address.ensures.address _ c.topo.ensures.topology)
    c.inner.ensures.in_range c.inner.ensures.children c.inner.ensures.room

pub returns-in-Some-clause-first : goal.returns-in-Some-clause-first
returns-in-Some-clause-first c =
    first-values (part_at c.args.policy.now.policy.tree (address_at c.args.policy.now.policy.tree c.args.node)) _ (program-of c.args.policy.now.policy.tree c.args.node c.requires.there _ _ c.transaction-transaction.ensures.same c.checked.ensures.program) c.inner.result c.inner.ensures.first

pub returns-in-None-clause-node_state : goal.returns-in-None-clause-node_state
returns-in-None-clause-node_state c =
    leaf-node_state _ _ (program-of c.args.policy.now.policy.tree c.args.node c.requires.there _ _ c.transaction-transaction.ensures.same c.checked.ensures.program) c.leaf.result
    (sym c.in-None.is ∙ c.arity.ensures ∙ arity-is c.args.policy.now.policy.tree c.args.node c.requires.there c.address.result.now c.address.ensures.address _ c.topo.ensures.topology)
    c.leaf.ensures.in_range c.leaf.ensures.leaf

pub returns-in-None-clause-first : goal.returns-in-None-clause-first
returns-in-None-clause-first c =
    first-values (part_at c.args.policy.now.policy.tree (address_at c.args.policy.now.policy.tree c.args.node)) _ (program-of c.args.policy.now.policy.tree c.args.node c.requires.there _ _ c.transaction-transaction.ensures.same c.checked.ensures.program) c.leaf.result c.leaf.ensures.first
