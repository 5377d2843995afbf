use Rattle.mapcheck_core.proofs.Prelude.{◌≡◌, sym, subst, ◌∙◌, ap, refl, map, arith, inr, ◌+◌, false, take, ◌⊎◌, err_from_is_err_and, statements_of, line_text, Line, over, IsTreeFault, AreRead, TreeFault, Found}
use Rattle.mapcheck_core.specs.declared.tree_text.Found.TheVariants as found
use Rattle.mapcheck_core.specs.declared.tree_fault.TreeFault.TheVariants as fault
use Rattle.mapcheck_core.proofs.TreeSteps.{told_fault, told_second, told_more, more_tree, is_tree, is_none}
use Rattle.mapcheck_core.proofs.tree_text.read_lines.Goals as goal
use Rattle.mapcheck_core.proofs.tree_text.read_lines.Goals.{then-is_tree+else-place-gt0, else-is_tree+in-Tree+in-Inner-1, else-is_tree+in-Tree+in-Leaf-1, else-is_tree+in-Nothing-1}

pub loop-line-init : goal.loop-line-init
loop-line-init c = record { read = (refl, over 1); number = refl }

abbrev any_line : Line
any_line = record { start = 0; end = 0; clean = false }

pub returns-in_err-next-clause-fault : goal.returns-in_err-next-clause-fault
returns-in_err-next-clause-fault c =
    let text = c.args.text.now in
    let ls = c.as_slice-line-items.result.now in
    let i = c.loop-line.line-index in
    let left = err_from_is_err_and c.from_residual-in_err-next.result c.from_residual-in_err-next.ensures.1 in
    let texts : map (line_text text) ls ≡ statements_of text = ap (map (line_text text)) c.as_slice-line-items.ensures ∙ c.in_ok-lines.ensures.texts in
    let number : c.loop-line.number + 1 ≡ i + 1 = ap (λ n. n + 1) c.loop-line.invariant.number in
    let found = told_fault text ls i any_line c.loop-line.found c.loop-line.place (c.loop-line.number + 1) c.in_err-next.field-0.0 c.requires texts c.loop-line-test.true c.loop-line.invariant.read number c.in_err-next.ensures.fault in
    rw left.1 (subst (λ (f : TreeFault). (f ≡ fault.NoMemory) ⊎ IsTreeFault text f) (sym left.2) found)

pub returns-then-place-gt0-clause-fault : goal.returns-then-place-gt0-clause-fault
returns-then-place-gt0-clause-fault c =
    let text = c.args.text.now in
    let ls = c.as_slice-line-items.result.now in
    let i = c.loop-line.line-index in
    let texts : map (line_text text) ls ≡ statements_of text = ap (map (line_text text)) c.as_slice-line-items.ensures ∙ c.in_ok-lines.ensures.texts in
    let number : c.loop-line.number + 1 ≡ i + 1 = ap (λ n. n + 1) c.loop-line.invariant.number in
    inr (told_second text ls i any_line c.loop-line.found c.in_ok-next.next c.loop-line.place (c.loop-line.number + 1) c.requires texts c.loop-line-test.true c.loop-line.invariant.read number c.if-place-gt0.true (is_tree c.in_ok-next.next c.is_tree.result c.is_tree.ensures c.if-is_tree.true) c.in_ok-next.ensures.ok)

pub loop-line-preserved : goal.loop-line-preserved
loop-line-preserved c =
    let text = c.args.text.now in
    let ls = c.as_slice-line-items.result.now in
    let i = c.loop-line.line-index in
    let next = c.in_ok-next.next in
    let number : c.loop-line.number + 1 ≡ i + 1 = ap (λ n. n + 1) c.loop-line.invariant.number in
    let nothing : next ≡ found.Nothing → AreRead (map (line_text text) (take (i + 1) ls)) c.loop-line.found c.loop-line.place = told_more text ls i any_line c.loop-line.found next c.loop-line.place c.loop-line-test.true c.loop-line.invariant.read c.in_ok-next.ensures.ok in
    elim c.if-is_tree.branch [
      | then-is_tree+else-place-gt0 w ↦
          let none : c.loop-line.place ≡ 0 = let low = w.if-place-gt0.false in omega arith in
          let before : AreRead (map (line_text text) (take i ls)) c.loop-line.found 0 = subst (AreRead (map (line_text text) (take i ls)) c.loop-line.found) none c.loop-line.invariant.read in
          let more = more_tree text ls i any_line c.loop-line.found next c.loop-line-test.true before (is_tree next c.is_tree.result c.is_tree.ensures w.if-is_tree.true) c.in_ok-next.ensures.ok in
          record { read = subst (λ (f : Found). AreRead (map (line_text text) (take (i + 1) ls)) f c.if-is_tree.place) (sym w.found-is) (subst (AreRead (map (line_text text) (take (i + 1) ls)) next) (sym number ∙ sym w.place-is) more); number = number }
      | else-is_tree+in-Tree+in-Inner-1 w ↦ record { read = subst (λ (f : Found). AreRead (map (line_text text) (take (i + 1) ls)) f c.if-is_tree.place) (sym w.found-is) (subst (AreRead (map (line_text text) (take (i + 1) ls)) c.loop-line.found) (sym w.place-is) (nothing (is_none next c.is_tree.result c.is_tree.ensures w.if-is_tree.false))); number = number }
      | else-is_tree+in-Tree+in-Leaf-1 w ↦ record { read = subst (λ (f : Found). AreRead (map (line_text text) (take (i + 1) ls)) f c.if-is_tree.place) (sym w.found-is) (subst (AreRead (map (line_text text) (take (i + 1) ls)) c.loop-line.found) (sym w.place-is) (nothing (is_none next c.is_tree.result c.is_tree.ensures w.if-is_tree.false))); number = number }
      | else-is_tree+in-Nothing-1 w ↦ record { read = subst (λ (f : Found). AreRead (map (line_text text) (take (i + 1) ls)) f c.if-is_tree.place) (sym w.found-is) (subst (AreRead (map (line_text text) (take (i + 1) ls)) c.loop-line.found) (sym w.place-is) (nothing (is_none next c.is_tree.result c.is_tree.ensures w.if-is_tree.false))); number = number }
    ]
