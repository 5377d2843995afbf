use Rattle.mapcheck_core.proofs.Prelude.{◌≡◌, sym, List, ℕ, subst, ◌∙◌, ap, ◌+◌, Some, get_or, topology, IsLeast, breaks_at, lower_of}
use Rattle.mapcheck_core.proofs.LeastLines.{least_skip, least_take, tested}
use Rattle.mapcheck_core.proofs.check.least_line.Goals as goal
use Rattle.mapcheck_core.proofs.check.least_line.Goals.{then-is_broken, else-is_broken}

pub loop-number-preserved : goal.loop-number-preserved
loop-number-preserved c =
    let l = c.loop-number in
    let g = c.args.given.now in
    let test = breaks_at c.args.demand (topology c.args.topo.now) (topology c.args.middle.now) g in
    let is : test l.number ≡ c.is_broken.result =
    tested c.args.demand (topology c.args.topo.now) (topology c.args.middle.now) g l.number c.as_slice-image-items.result.now c.image-item.result c.as_slice.result.now c.is_broken.result
    c.as_slice-image-items.ensures c.loop-number-test.true c.image-item.is c.as_slice.ensures c.is_broken.ensures in
    elim c.if-is_broken.branch [
      | then-is_broken w ↦
          let lower : Some (lower_of l.least (get_or g.lines l.number 0)) ≡ c.if-is_broken.least =
          sym (w.least-is ∙ ap (λ (z : ℕ). Some z) (w.lower.ensures ∙ ap (λ (z : List ℕ). lower_of l.least (get_or z l.number 0)) c.as_slice-lines.ensures)) in
          subst (IsLeast test g.lines (l.number + 1)) lower (least_take test g.lines l.number l.least l.invariant (is ∙ w.if-is_broken.true))
      | else-is_broken w ↦ subst (IsLeast test g.lines (l.number + 1)) (sym w.least-is) (least_skip test g.lines l.number l.least l.invariant (is ∙ w.if-is_broken.false))
    ]
