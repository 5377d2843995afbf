use Rattle.sched_core.proofs.Prelude.{arith, ◌≡◌, ◌∙◌, length, ◌<◌, get_or, rules, topology, inner}
use Rattle.tree_core.proofs.NewTrees.{topology_inner}
use Rattle.sched_core.proofs.ChildCounts.{shapes, digit-within, part-there, arity-below, arity-here}
use Rattle.sched_core.proofs.first.+arity.Goals as goal

pub index-requires : goal.index-requires
index-requires t c =
    let is : topology c.args.topo.now ≡ inner tt (shapes c.in-Inner.children.items) = topology_inner _ _ c.in-Inner.is in
    let within : get_or c.args.address.now 0 0 < length c.in-Inner.children.items = digit-within _ c.in-Inner.children.items is c.args.address.now c.in-len1-up.len_at_least c.requires.there in
    omega (arith, within, c.in-Inner.children.ok.0)

pub arity-requires : goal.arity-requires
arity-requires t c =
    let is : topology c.args.topo.now ≡ inner tt (shapes c.in-Inner.children.items) = topology_inner _ _ c.in-Inner.is in
    (search rules, part-there _ c.in-Inner.children.items is c.args.address.now c.index.result.now c.in-len1-up.len_at_least c.requires.there c.index.ensures)

pub returns-in-empty : goal.returns-in-empty
returns-in-empty t c =
    let is : topology c.args.topo.now ≡ inner tt (shapes c.in-Inner.children.items) = topology_inner _ _ c.in-Inner.is in
    arity-here _ c.in-Inner.children.items is c.args.address.now c.len.result c.in-empty.len_below (c.len.ensures ∙ c.in-Inner.children.ok.0)

pub returns-in-len1-up : goal.returns-in-len1-up
returns-in-len1-up t c =
    let is : topology c.args.topo.now ≡ inner tt (shapes c.in-Inner.children.items) = topology_inner _ _ c.in-Inner.is in
    c.arity.ensures ∙ arity-below _ c.in-Inner.children.items is c.args.address.now c.index.result.now c.in-len1-up.len_at_least c.requires.there c.index.ensures
