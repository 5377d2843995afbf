use Rattle.rank_core.proofs.Prelude.{rules, ap, program_of, variable_in, memory_of}
use Rattle.rank_defs.specs.Formulas.{formula_of}
use Rattle.rank_defs.specs.Ranges.{declared}
use Rattle.rank_defs.proofs.Evaluation.{operation-fits, choice-true, choice-false, and-false, or-true}
use Rattle.rank_core.proofs.evaluate.+value.Goals as goal

pub number-computed-requires-clause-fits : goal.number-computed-requires-clause-fits
number-computed-requires-clause-fits t c =
    operation-fits (declared (program_of c.args.transaction.now)) (variable_in c.args.scope.now.env.now (memory_of c.args.scope.now)) (formula_of c.args.e.now) c.in-Two.op (formula_of c.in-Two.a.value) (formula_of c.in-Two.b.value) _ _ (ap formula_of c.in-Two.is) c.requires.inside c.requires.safe c.requires.counts (search rules) (search rules)

pub number-returns-then-truth : goal.number-returns-then-truth
number-returns-then-truth t c =
    choice-true (declared (program_of c.args.transaction.now)) (variable_in c.args.scope.now.env.now (memory_of c.args.scope.now)) (formula_of c.args.e.now) (formula_of c.in-If.test.value) (formula_of c.in-If.a.value) (formula_of c.in-If.b.value) _ (ap formula_of c.in-If.is) c.requires.inside c.requires.safe c.requires.counts (search rules) (search rules)

pub number-returns-else-truth : goal.number-returns-else-truth
number-returns-else-truth t c =
    choice-false (declared (program_of c.args.transaction.now)) (variable_in c.args.scope.now.env.now (memory_of c.args.scope.now)) (formula_of c.args.e.now) (formula_of c.in-If.test.value) (formula_of c.in-If.a.value) (formula_of c.in-If.b.value) _ (ap formula_of c.in-If.is) c.requires.inside c.requires.safe c.requires.counts (search rules) (search rules)

pub truth-returns-else-truth : goal.truth-returns-else-truth
truth-returns-else-truth t c =
    rw c.if-truth.false (and-false (declared (program_of c.args.transaction.now)) (variable_in c.args.scope.now.env.now (memory_of c.args.scope.now)) (formula_of c.args.e.now) (formula_of c.in-Two.a.value) (formula_of c.in-Two.b.value) (rw c.in-And.is at (ap formula_of c.in-Two.is)) c.requires.inside c.requires.safe c.requires.tells (search rules))

pub truth-returns-then-truth-2 : goal.truth-returns-then-truth-2
truth-returns-then-truth-2 t c =
    rw c.if-truth-2.true (or-true (declared (program_of c.args.transaction.now)) (variable_in c.args.scope.now.env.now (memory_of c.args.scope.now)) (formula_of c.args.e.now) (formula_of c.in-Two.a.value) (formula_of c.in-Two.b.value) (rw c.in-Or.is at (ap formula_of c.in-Two.is)) c.requires.inside c.requires.safe c.requires.tells (search rules))
