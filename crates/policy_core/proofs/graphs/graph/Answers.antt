use Rattle.policy_core.proofs.Prelude.{arith, entries_of, lists}
use Rattle.policy_core.proofs.Kinship.{graph-more, graph-size}
use Rattle.policy_core.proofs.FamilyNames.{named, few-names, known-at}
use Rattle.policy_core.proofs.graphs.graph.Goals as goal

pub add_family-requires-clause-small : goal.add_family-requires-clause-small
add_family-requires-clause-small c = omega (arith, few-names (entries_of c.args.lines.now) c.args.nodes.now c.requires.nodes (named (entries_of c.args.lines.now) c.requires.rising c.requires.few))

pub add_family-requires-clause-declared : goal.add_family-requires-clause-declared
add_family-requires-clause-declared c = known-at c.args.lines.now c.args.nodes.now c.loop-statement.statement-index c.loop-statement-item.result c.requires.nodes (named (entries_of c.args.lines.now) c.requires.rising c.requires.few) c.loop-statement-test.true c.loop-statement-item.is

pub loop-statement-preserved : goal.loop-statement-preserved
loop-statement-preserved c = graph-more c.args.nodes.now c.args.lines.now c.loop-statement.statement-index c.loop-statement-item.result (lists c.loop-statement.graph.items) (lists c.add_family.new.graph.items) c.loop-statement-test.true c.loop-statement-item.is c.loop-statement.invariant c.in_ok-add_family.ensures

pub returns-clause-size : goal.returns-clause-size
returns-clause-size c =
    graph-size c.args.lines.now c.args.nodes.now c.loop-statement.graph.items c.loop-statement.statement-index c.requires.nodes c.loop-statement-test.false c.loop-statement.invariant

pub returns-clause-few : goal.returns-clause-few
returns-clause-few c =
    omega (
      arith,
      few-names (entries_of c.args.lines.now) c.args.nodes.now c.requires.nodes (named (entries_of c.args.lines.now) c.requires.rising c.requires.few),
      graph-size c.args.lines.now c.args.nodes.now c.loop-statement.graph.items c.loop-statement.statement-index c.requires.nodes c.loop-statement-test.false c.loop-statement.invariant,
    )
