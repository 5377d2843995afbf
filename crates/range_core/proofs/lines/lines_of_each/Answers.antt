use Rattle.range_core.proofs.Prelude.{map, subst, take, List, sym, [], add-one, ◌∷◌, map-append, entry, Entry, program_of, assignment_of, AreLeast}
use Rattle.range_core.proofs.LeastLines.{map-next}
use Rattle.range_core.proofs.lines.lines_of_each.Goals as goal

pub loop-assign-preserved : goal.loop-assign-preserved
loop-assign-preserved c =
    let p = program_of c.args.transaction.now
    in let seen = map assignment_of (take c.loop-assign.assign-index c.args.assigns.now)
    in let next = map-next assignment_of c.args.assigns.now c.loop-assign.assign-index c.assign-item.result c.assign-item.is c.loop-assign-test.true
    in rw (add-one, next) (subst (λ (es : List Entry). AreLeast es c.and-lines.result) (sym (map-append (entry p) seen (assignment_of c.assign-item.result ∷ []))) (c.and-lines.ensures (map (entry p) seen) (entry p (assignment_of c.assign-item.result) ∷ []) c.loop-assign.invariant c.lines_of.ensures))
