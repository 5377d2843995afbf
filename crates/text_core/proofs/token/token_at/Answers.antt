use Rattle.text_core.proofs.Prelude.{length, ◌≡◌, arith, ap, sym, ◌∙◌, true, ◌<◌, get_or, rules, prefix_len-le-length, is_digit, is_word_byte}
use Rattle.text_core.proofs.TokenLemmas.{prefix_len-some, either}
use Rattle.text_core.proofs.token.token_at.Goals as goal

pub returns-then-is_word_start-clause-fits : goal.returns-then-is_word_start-clause-fits
returns-then-is_word_start-clause-fits c =
    let within = prefix_len-le-length is_word_byte c.args.bytes.now in
    let some : 0 < length c.args.bytes.now = search rules in
    let read : c.in_ok-first.field-0.now ≡ get_or c.args.bytes.now 0 0 = search rules in
    let first : is_word_byte (get_or c.args.bytes.now 0 0) ≡ true = ap is_word_byte (sym read) ∙ either _ _ c.if-is_word_start.ensures in
    let begun = prefix_len-some is_word_byte c.args.bytes.now some first in
    omega (arith, c.word_bytes.ensures)

pub returns-clause-fits : goal.returns-clause-fits
returns-clause-fits c =
    let within = prefix_len-le-length is_digit c.args.bytes.now in
    let some : 0 < length c.args.bytes.now = search rules in
    let read : c.in_ok-first.field-0.now ≡ get_or c.args.bytes.now 0 0 = search rules in
    let first : is_digit (get_or c.args.bytes.now 0 0) ≡ true = ap is_digit (sym read) ∙ sym c.if-not-is_digit.ensures in
    let begun = prefix_len-some is_digit c.args.bytes.now some first in
    omega (arith, c.digits-length.ensures)
