use Rattle.range_core.proofs.Prelude.{whole_proper, formula_of, program_of, declared}
use Rattle.rank_defs.proofs.Spans.{declared-ordered}
use Rattle.range_core.proofs.bounds.+bounds_of.Goals as goal

pub combined-requires-clause-left : goal.combined-requires-clause-left
combined-requires-clause-left t c =
    let p = program_of c.args.transaction.now
    in rw c.in_ok-left-in-Two.ensures.1 (whole_proper (declared p) (declared-ordered p c.requires) (formula_of c.deref.result.now) c.in_ok-left-in-Two.ensures.0)

pub combined-requires-clause-right : goal.combined-requires-clause-right
combined-requires-clause-right t c =
    let p = program_of c.args.transaction.now
    in rw c.in_ok-right-in-Two.ensures.1 (whole_proper (declared p) (declared-ordered p c.requires) (formula_of c.deref-in-Two.result.now) c.in_ok-right-in-Two.ensures.0)
