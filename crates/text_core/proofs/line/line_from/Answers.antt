use Rattle.text_core.proofs.Prelude.{◌≡◌, arith, ◌+◌, [], ap, drop, ◌∷◌, take, ◌∙◌, refl, ◌-◌, prefix_len, list_all, Follow, is_text, line_at, statement_length, is_clean, Line}
use Rattle.text_core.proofs.LineLaws.{Follow-Hold}
use Rattle.text_core.proofs.TokenLemmas.{rest-from}
use Rattle.text_core.proofs.line.line_from.Goals as goal

pub returns : goal.returns
returns c =
    let text = c.args.text.now in
    let at = c.args.at in
    let n = c.line_length-length.result in
    let e = c.statement_length-end.result in
    let count : n ≡ prefix_len is_text (drop at text) = c.line_length-length.ensures.count ∙ ap (prefix_len is_text) (rest-from at text) in
    let same : at + n - at ≡ n = omega arith in
    let line : take (at + n - at) (drop at text) ≡ line_at text at = ap (λ m. take m (drop at text)) (same ∙ count) in
    let statement : e ≡ statement_length (line_at text at) = c.statement_length-end.ensures.count ∙ ap statement_length line in
    let clean : c.is_clean.result ≡ list_all is_clean (take (statement_length (line_at text at)) (line_at text at)) = c.is_clean.ensures ∙ ap (λ m. list_all is_clean (take m (take (at + n - at) (drop at text)))) statement ∙ ap (λ l. list_all is_clean (take (statement_length (line_at text at)) l)) line in
    let following : at + n + 1 ≡ at + prefix_len is_text (drop at text) + 1 = omega (arith, count) in
    let l : Line = record { start = at; end = at + e; clean = c.is_clean.result } in
    let follow : Follow text at (l ∷ []) (at + n + 1) = (c.requires, refl, ap (λ m. at + m) statement, clean, following) in
    let hold = Follow-Hold text at (l ∷ []) (at + n + 1) follow in
    record { line = follow; clean = hold.clean.0; within = hold.within.0; later = omega arith }
