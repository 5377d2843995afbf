use Rattle.policy_core.proofs.Prelude.{List, ap, sym, [], ◌∙◌, ◌++◌, cons_option, Node, given-more, entries_of, node_in, before, sense_of, AreMore}
use Rattle.policy_core.proofs.StatementUses.{known-here}
use Rattle.policy_core.proofs.nodes.policy_nodes.Goals as goal

pub loop-statement-preserved : goal.loop-statement-preserved
loop-statement-preserved c =
    let es = entries_of c.args.lines.now in
    let l = c.loop-statement-item.result in
    let i = c.loop-statement.statement-index in
    let more : AreMore es (sense_of l.1) c.loop-statement.policy_nodes c.add_policy_node.new.policy_nodes =
    c.in_ok-add_policy_node.ensures.added es c.requires.rising c.requires.few c.requires.transactions (before l.0 es)
    (known-here c.args.lines.now i l c.requires.few.0.1 c.loop-statement-test.true c.loop-statement-item.is) c.loop-statement.invariant.programs in
    record {
      nodes = more.nodes
          ∙ ap (λ (ns : List Node). ns ++ cons_option (node_in es (sense_of l.1)) []) c.loop-statement.invariant.nodes
          ∙ sym (given-more (node_in es) c.args.lines.now i l c.loop-statement-test.true c.loop-statement-item.is);
      programs = more.programs;
    }
