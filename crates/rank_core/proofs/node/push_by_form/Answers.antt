use Rattle.rank_core.proofs.NodeKept.{pushed-keeps, pushed-low}
use Rattle.rank_core.proofs.node.push_by_form.Goals as goal

pub returns-in-Fair-clause-keeps : goal.returns-in-Fair-clause-keeps
returns-in-Fair-clause-keeps c =
    pushed-keeps c.args.transaction.now c.args.who.now c.args.env.now c.args.state.now c.run_for.new.state c.requires.can c.run_for.ensures.room c.run_for.ensures.children c.run_for.ensures.after

pub returns-in_default-clause-rank_limit : goal.returns-in_default-clause-rank_limit
returns-in_default-clause-rank_limit c = pushed-low c.args.transaction.now c.args.who.now c.args.env.now c.args.state.now _ c.requires.can c.run_lines.ensures.rank

pub returns-in_default-clause-keeps : goal.returns-in_default-clause-keeps
returns-in_default-clause-keeps c =
    pushed-keeps c.args.transaction.now c.args.who.now c.args.env.now c.args.state.now c.run_lines.new.state c.requires.can c.run_lines.ensures.room c.run_lines.ensures.children c.run_lines.ensures.after
