use Rattle.text_core.proofs.Prelude.{length, ◌≡◌, arith, ap, sym, ◌∙◌, true, ◌<◌, get_or, rules, is_run_byte}
use Rattle.text_core.proofs.TokenLemmas.{prefix_len-some, run_byte}
use Rattle.text_core.proofs.token.third_token_at.Goals as goal

pub returns-then-is_run_start-clause-fits : goal.returns-then-is_run_start-clause-fits
returns-then-is_run_start-clause-fits c =
    let some : 0 < length c.args.bytes.now = search rules in
    let read : c.in_ok-first.field-0.now ≡ get_or c.args.bytes.now 0 0 = search rules in
    let first : is_run_byte (get_or c.args.bytes.now 0 0) ≡ true = ap is_run_byte (sym read) ∙ run_byte c.in_ok-first.field-0.now (sym c.if-is_run_start.ensures) in
    let begun = prefix_len-some is_run_byte c.args.bytes.now some first in
    let within = c.run_bytes-length.ensures.within in
    omega (arith, c.run_bytes-length.ensures.count)
