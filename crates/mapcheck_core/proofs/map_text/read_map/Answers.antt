use Rattle.mapcheck_core.proofs.Prelude.{◌≡◌, sym, List, ℕ, subst, map, inr, ◌⊎◌, Err, err_from_is_err_and, line_of_entry, AreMapLines, answer_of, Entry, MapFault}
use Rattle.mapcheck_core.specs.declared.fault.MapFault.TheVariants.{NoMemory}
use Rattle.mapcheck_core.specs.MapTexts.{too_long}
use Rattle.mapcheck_core.proofs.MapAnswers.{IsRight, lines_answer, line_answer, only_answer}
use Rattle.mapcheck_core.proofs.map_text.read_map.Goals as goal

pub returns-then-text-gt-MOST_MAP_BYTES-clause-answer : goal.returns-then-text-gt-MOST_MAP_BYTES-clause-answer
returns-then-text-gt-MOST_MAP_BYTES-clause-answer c = inr (too_long c.if-text-gt-MOST_MAP_BYTES.true)

pub returns-in_err-entries-clause-answer : goal.returns-in_err-entries-clause-answer
returns-in_err-entries-clause-answer c =
    let left = err_from_is_err_and c.from_residual.result c.from_residual.ensures.1 in
    let told = line_answer c.args.edition c.args.text.now c.args.names.now c.in_err-entries.field-0.0 c.if-text-gt-MOST_MAP_BYTES.false c.in_err-entries.ensures.fault in
    rw left.1 (subst (λ (f : MapFault). IsRight c.args.edition c.args.text.now c.args.names.now (Err f)) (sym left.2) told)

pub returns-in_err-entries-clause-only : goal.returns-in_err-entries-clause-only
returns-in_err-entries-clause-only c = only_answer c.args.edition c.args.text.now c.args.names.now c.from_residual.result (returns-in_err-entries-clause-answer c)

pub returns-clause-answer : goal.returns-clause-answer
returns-clause-answer c =
    let lines : AreMapLines c.args.edition c.args.text.now (map line_of_entry c.as_slice.result.now) = subst (λ (es : List Entry). AreMapLines c.args.edition c.args.text.now (map line_of_entry es)) (sym c.as_slice.ensures) c.in_ok-entries.ensures.ok in
    let told : (c.map_of.result ≡ answer_of c.args.names.now (map line_of_entry c.as_slice.result.now)) ⊎ (c.map_of.result ≡ Err NoMemory) =
    subst (λ (ns : List (List ℕ)). (c.map_of.result ≡ answer_of ns (map line_of_entry c.as_slice.result.now)) ⊎ (c.map_of.result ≡ Err NoMemory)) c.as_slice-2.ensures c.map_of.ensures in
    lines_answer c.args.edition c.args.text.now c.args.names.now (map line_of_entry c.as_slice.result.now) c.map_of.result lines told

pub returns-clause-only : goal.returns-clause-only
returns-clause-only c = only_answer c.args.edition c.args.text.now c.args.names.now c.map_of.result (returns-clause-answer c)
