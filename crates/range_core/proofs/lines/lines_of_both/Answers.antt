use Rattle.range_core.proofs.Prelude.{map, subst, List, sym, map-append, entry, Entry, program_of, assignment_of, AreLeast}
use Rattle.rank_defs.specs.declared.transaction.Assign.{Assign}
use Rattle.range_core.proofs.lines.lines_of_both.Goals as goal

pub returns : goal.returns
returns c =
    let p = program_of c.args.transaction.now
    in let push = subst (λ (xs : List Assign). AreLeast (map (entry p) (map assignment_of xs)) c.lines_of_each-push.result) c.as_slice.ensures c.lines_of_each-push.ensures
    in let pop = subst (λ (xs : List Assign). AreLeast (map (entry p) (map assignment_of xs)) c.lines_of_each-pop.result) c.as_slice-2.ensures c.lines_of_each-pop.ensures
    in subst (λ (es : List Entry). AreLeast es c.and.result) (sym (map-append (entry p) p.push p.pop)) (c.and.ensures (map (entry p) p.push) (map (entry p) p.pop) push pop)
