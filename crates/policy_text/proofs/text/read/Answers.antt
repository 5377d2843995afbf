use Rattle.policy_text.proofs.Prelude.{ap, length, ◌∙◌, refl, map, ◌+◌, arith, err_from_is_err_and, line_text}
use Rattle.policy_text.proofs.EntryLaws.{rising, lines_written, entries_rise, entries_written}
use Rattle.policy_text.proofs.TextSteps.{sofar_start, sofar_next, cause_here, all_taken}
use Rattle.policy_text.proofs.text.read.Goals as goal

pub loop-line-init : goal.loop-line-init
loop-line-init c = (refl, sofar_start _ c.args.text.now _ _ (c.from_vec-held.ensures ∙ c.new.ensures.items) refl)

pub overflow_add-number : goal.overflow_add-number
overflow_add-number c = omega (arith, c.loop-line.invariant.0, c.loop-line-test.true, c.in_ok-lines.ensures.count, c.if-text-gt-MOST_TEXT.false, ap length c.as_slice-line-items.ensures)

pub returns-in_err-found-clause-cause : goal.returns-in_err-found-clause-cause
returns-in_err-found-clause-cause c =
    let p = err_from_is_err_and c.from_residual-in_err-found.result c.from_residual-in_err-found.ensures.1 in
    let texts = ap (map (line_text _)) c.as_slice-line-items.ensures ∙ c.in_ok-lines.ensures.texts in
    rw (p.1, p.2) (cause_here _ _ _ texts _ _ c.loop-line-test.true _ _ _ _ c.if-text-gt-MOST_TEXT.false c.loop-line.invariant.1 (ap (λ n. n + 1) c.loop-line.invariant.0) c.in_err-found.ensures)

pub loop-line-preserved : goal.loop-line-preserved
loop-line-preserved c =
    let texts = ap (map (line_text _)) c.as_slice-line-items.ensures ∙ c.in_ok-lines.ensures.texts in
    let at = ap (λ n. n + 1) c.loop-line.invariant.0 in
    (at, sofar_next _ _ _ texts _ _ c.loop-line-test.true _ _ _ _ _ _ c.loop-line.invariant.1 at c.in_ok-found.ensures c.mode_after-mode.ensures c.in_ok-keep.ensures)

pub invariant_of-result : goal.invariant_of-result
invariant_of-result c =
    let texts = ap (map (line_text _)) c.as_slice-line-items.ensures ∙ c.in_ok-lines.ensures.texts in
    let entries = all_taken _ _ _ _ _ _ texts c.loop-line-test.false c.loop-line.invariant.1 in
    record { rising = rising 1 _ (entries_rise _ _ _ _ entries); written = lines_written _ (entries_written _ _ _ _ entries) }

pub returns-clause-statements : goal.returns-clause-statements
returns-clause-statements c =
    let texts = ap (map (line_text _)) c.as_slice-line-items.ensures ∙ c.in_ok-lines.ensures.texts in
    record { short = c.if-text-gt-MOST_TEXT.false; entries = all_taken _ _ _ _ _ _ texts c.loop-line-test.false c.loop-line.invariant.1 }
