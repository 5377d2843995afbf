use Rattle.mapcheck_core.proofs.Prelude.{◌≡◌, sym, List, subst, ◌∙◌, ap, [], None, inr, Some, true, inl, Err, rules, both_ways, err_from_is_err_and, glyphs_of, is_clean_text, Says, Item, topology, read_on, measured, nothing, IsLarge}
use Rattle.text_core.specs.declared.refusal.Refusal.TheVariants as refusal
use Rattle.mapcheck_core.proofs.LineTrees.{sized, unsized, tree_line, no_tree_line, silent_line, large_from, small_from, no_items}
use Rattle.mapcheck_core.proofs.tree_text.read_line.Goals as goal
use Rattle.mapcheck_core.proofs.tree_text.read_line.Goals.{then-size-gt-MOST_NODES-via-then-size-gt-MOST_NODES, then-size-gt-MOST_NODES-via-else-size-gt-MOST_NODES+then-size-gt-MOST_LEVELS}

pub returns-in_err-items-clause-none : goal.returns-in_err-items-clause-none
returns-in_err-items-clause-none c = λ e n s g.
    let left = err_from_is_err_and c.from_residual.result c.from_residual.ensures.1 in
    let both = sym left.1 ∙ e in
    let none : left.0 ≡ refusal.NoForm = cc in
    silent_line c.args.statement.now (c.items.ensures.silent (c.in_err-items.was ∙ ap Err (sym left.2 ∙ none))) n s g

pub returns-then-is_empty-clause-ok : goal.returns-then-is_empty-clause-ok
returns-then-is_empty-clause-ok c = λ n.
    let clean : is_clean_text c.args.statement.now ≡ true = search rules in
    let empty : c.in_ok-items.items ≡ [] = c.is_empty.ensures.0 c.if-is_empty.true in
    nothing clean (subst (λ (is : List Item). Says c.args.statement.now (glyphs_of is)) empty c.in_ok-items.ensures.said)

pub returns-in_default-clause-none : goal.returns-in_default-clause-none
returns-in_default-clause-none c = λ e n s g.
    let items = c.in_ok-items.items in
    let none : measured (glyphs_of items) ≡ None = sym (c.measured.ensures ∙ ap (λ (is : List Item). measured (glyphs_of is)) c.as_slice.ensures) ∙ c.in_default.is in
    no_tree_line c.args.statement.now (glyphs_of items) c.in_ok-items.ensures.said (λ h. both_ways c.is_empty.result c.if-is_empty.false (c.is_empty.ensures.1 (no_items items h))) (unsized (glyphs_of items) none) n s g

pub returns-then-size-gt-MOST_NODES-clause-ok : goal.returns-then-size-gt-MOST_NODES-clause-ok
returns-then-size-gt-MOST_NODES-clause-ok c =
    let items = c.in_ok-items.items in
    let clean : is_clean_text c.args.statement.now ≡ true = search rules in
    let some : measured (glyphs_of items) ≡ Some c.in-Some.size = sym (c.measured.ensures ∙ ap (λ (is : List Item). measured (glyphs_of is)) c.as_slice.ensures) ∙ c.in-Some.is in
    let size = sized (glyphs_of items) c.in-Some.size some in
    let large : IsLarge size.shape =
    elim c.then-size-gt-MOST_NODES.branch [
      | then-size-gt-MOST_NODES-via-then-size-gt-MOST_NODES w ↦ large_from (glyphs_of items) c.in-Some.size size (inl w.if-size-gt-MOST_NODES.true)
      | then-size-gt-MOST_NODES-via-else-size-gt-MOST_NODES+then-size-gt-MOST_LEVELS w ↦ large_from (glyphs_of items) c.in-Some.size size (inr w.if-size-gt-MOST_LEVELS.true)
    ] in
    (size.shape, tree_line c.args.statement.now (glyphs_of items) size.shape clean c.in_ok-items.ensures.said size.reads, large)

pub tree_of-requires : goal.tree_of-requires
tree_of-requires c =
    let items = c.in_ok-items.items in
    let some : measured (glyphs_of items) ≡ Some c.in-Some.size = sym (c.measured.ensures ∙ ap (λ (is : List Item). measured (glyphs_of is)) c.as_slice.ensures) ∙ c.in-Some.is in
    let size = sized (glyphs_of items) c.in-Some.size some in
    (size.shape, ap (λ (is : List Item). read_on (glyphs_of is) [] []) c.as_slice-2.ensures ∙ size.reads)

pub returns-clause-ok : goal.returns-clause-ok
returns-clause-ok c =
    let items = c.in_ok-items.items in
    let shape = topology c.in_ok-tree_of.field-0 in
    let clean : is_clean_text c.args.statement.now ≡ true = search rules in
    let some : measured (glyphs_of items) ≡ Some c.in-Some.size = sym (c.measured.ensures ∙ ap (λ (is : List Item). measured (glyphs_of is)) c.as_slice.ensures) ∙ c.in-Some.is in
    let size = sized (glyphs_of items) c.in-Some.size some in
    let reads : read_on (glyphs_of items) [] [] ≡ Some shape = sym (ap (λ (is : List Item). read_on (glyphs_of is) [] []) c.as_slice-2.ensures) ∙ c.in_ok-tree_of.ensures in
    (tree_line c.args.statement.now (glyphs_of items) shape clean c.in_ok-items.ensures.said reads, small_from (glyphs_of items) c.in-Some.size shape size reads c.if-size-gt-MOST_NODES.false c.if-size-gt-MOST_LEVELS.false)
