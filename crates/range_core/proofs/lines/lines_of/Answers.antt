use Rattle.range_core.proofs.Prelude.{◌≡◌, ap, false, refl, inl, true, entry, IsWide, MayDivideByZero, formula_of, program_of, assignment_of, declared, parts_divide}
use Rattle.rank_defs.proofs.LeastFaults.{least-clear, least-fault}
use Rattle.range_core.specs.declared.bounds.Bounds.{Bounds}
use Rattle.range_core.proofs.lines.lines_of.Goals as goal

pub returns-then-bounds : goal.returns-then-bounds
returns-then-bounds c =
    let p = program_of c.args.transaction.now
    in let e = entry p (assignment_of c.args.assign.now)
    in let d : c.in-Some.bounds.divides ≡ parts_divide (declared p) (formula_of c.args.assign.now.value) = ap (λ (b : Bounds). b.divides) c.in-Some.ensures.1
    in let h : c.in-Some.bounds.divides ≡ true = c.if-bounds.true
    in record { clash = c.clash_at-clash.ensures p; wide = least-clear IsWide e (λ w. w c.in-Some.ensures.0); zero = λ n. least-clear MayDivideByZero e (λ z. cc) }

pub returns-else-bounds : goal.returns-else-bounds
returns-else-bounds c =
    let p = program_of c.args.transaction.now
    in let e = entry p (assignment_of c.args.assign.now)
    in let d : c.in-Some.bounds.divides ≡ parts_divide (declared p) (formula_of c.args.assign.now.value) = ap (λ (b : Bounds). b.divides) c.in-Some.ensures.1
    in let h : c.in-Some.bounds.divides ≡ false = c.if-bounds.false
    in let z : parts_divide (declared p) (formula_of c.args.assign.now.value) ≡ false = cc
    in record { clash = c.clash_at-clash.ensures p; wide = least-clear IsWide e (λ w. w c.in-Some.ensures.0); zero = λ n. least-fault MayDivideByZero e z }

pub returns-in-None : goal.returns-in-None
returns-in-None c =
    let p = program_of c.args.transaction.now
    in let e = entry p (assignment_of c.args.assign.now)
    in record { clash = c.clash_at-clash.ensures p; wide = least-fault IsWide e c.in-None.ensures; zero = λ n. absurd (n e.assignment.line (inl (refl, c.in-None.ensures))) }
