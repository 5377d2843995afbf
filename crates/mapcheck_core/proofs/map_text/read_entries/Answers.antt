use Rattle.mapcheck_core.proofs.Prelude.{◌≡◌, sym, List, ℕ, subst, ◌∙◌, ap, [], refl, map, ◌∷◌, ◌+◌, false, ◌++◌, Option, take, get_or, ◌⊎◌, option_map, append-nil, map-append, err_from_is_err_and, option_to_list, statements_of, line_text, Line, line_of_entry, MapGives, IsInNoForm, Give, IsFirstAtFault, over, Entry, MapFault}
use Rattle.mapcheck_core.specs.declared.fault.MapFault.TheVariants as fault
use Rattle.mapcheck_core.proofs.LineLaws.{lines_more}
use Rattle.mapcheck_core.proofs.EntryLines.{told_fault}
use Rattle.mapcheck_core.proofs.map_text.read_entries.Goals as goal
use Rattle.mapcheck_core.proofs.map_text.read_entries.Goals.{in-Some+in_ok-push, in_default}

pub loop-line-init : goal.loop-line-init
loop-line-init c =
    let none = sym (c.from_vec-entries.ensures ∙ c.new.ensures.items) in
    record { give = subst (λ (es : List Entry). Give (MapGives c.args.edition) 1 [] (map line_of_entry es)) none (over 1); number = refl }

abbrev any_line : Line
any_line = record { start = 0; end = 0; clean = false }

pub returns-in_err-entry-clause-fault : goal.returns-in_err-entry-clause-fault
returns-in_err-entry-clause-fault c =
    let text = c.args.text.now in
    let ls = c.as_slice-line-items.result.now in
    let i = c.loop-line.line-index in
    let left = err_from_is_err_and c.from_residual-in_err-entry.result c.from_residual-in_err-entry.ensures.1 in
    let texts : map (line_text text) ls ≡ statements_of text = ap (map (line_text text)) c.as_slice-line-items.ensures ∙ c.in_ok-lines.ensures.texts in
    let number : c.loop-line.number + 1 ≡ i + 1 = ap (λ n. n + 1) c.loop-line.invariant.number in
    let found = told_fault c.args.edition text ls i any_line (map line_of_entry c.loop-line.entries) (c.loop-line.number + 1) c.in_err-entry.field-0.0 texts c.loop-line-test.true c.loop-line.invariant.give number c.in_err-entry.ensures.fault in
    rw left.1 (subst (λ (f : MapFault). (f ≡ fault.NoMemory) ⊎ ((n : ℕ) × (f ≡ fault.Line n) × IsFirstAtFault (MapGives c.args.edition) (IsInNoForm c.args.edition) (statements_of text) n)) (sym left.2) found)

pub loop-line-preserved : goal.loop-line-preserved
loop-line-preserved c =
    let text = c.args.text.now in
    let ls = c.as_slice-line-items.result.now in
    let i = c.loop-line.line-index in
    let es = c.loop-line.entries in
    let entry = c.in_ok-entry.field-0 in
    let number : c.loop-line.number + 1 ≡ i + 1 = ap (λ n. n + 1) c.loop-line.invariant.number in
    let here : MapGives c.args.edition (i + 1) (line_text text (get_or ls i any_line)) (option_to_list (option_map line_of_entry entry)) = subst (λ n. MapGives c.args.edition n (line_text text (get_or ls i any_line)) (option_to_list (option_map line_of_entry entry))) number c.in_ok-entry.ensures.ok in
    let more = lines_more (MapGives c.args.edition) text ls i any_line (map line_of_entry es) (option_to_list (option_map line_of_entry entry)) c.loop-line-test.true c.loop-line.invariant.give here in
    elim c.match-branch-3.branch [
      | in-Some+in_ok-push w ↦
          let all : map line_of_entry es ++ option_to_list (option_map line_of_entry entry) ≡ map line_of_entry c.match-branch-3.entries =
          ap (λ (o : Option Entry). map line_of_entry es ++ option_to_list (option_map line_of_entry o)) w.in-Some.is ∙ sym (ap (map line_of_entry) (w.entries-is ∙ w.in_ok-push.ensures.ok) ∙ map-append line_of_entry es (w.in-Some.entry ∷ [])) in
          record { give = subst (Give (MapGives c.args.edition) 1 (map (line_text text) (take (i + 1) ls))) all more; number = number }
      | in_default w ↦
          let all : map line_of_entry es ++ option_to_list (option_map line_of_entry entry) ≡ map line_of_entry c.match-branch-3.entries =
          ap (λ (o : Option Entry). map line_of_entry es ++ option_to_list (option_map line_of_entry o)) w.in_default.is ∙ append-nil (map line_of_entry es) ∙ sym (ap (map line_of_entry) w.entries-is) in
          record { give = subst (Give (MapGives c.args.edition) 1 (map (line_text text) (take (i + 1) ls))) all more; number = number }
    ]
