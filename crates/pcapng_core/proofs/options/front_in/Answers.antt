use Rattle.std.proofs.Common.{arith, ◌∙◌, ⊎_elim}
use Rattle.pcapng_core.proofs.OptionFronts.{front-last, front-long, front-unit, front-other}
use Rattle.pcapng_core.proofs.options.front_in.Goals as goal

pub returns-then-filled-behind-clause-front : goal.returns-then-filled-behind-clause-front
returns-then-filled-behind-clause-front c =
    let len_is = c.from.ensures ∙ c.read_short-len.ensures in
    ⊎_elim
    (λ e. front-last c.args.big c.args.bytes.now c.args.behind c.read_short-code.result c.from.result c.requires c.read_short-code.ensures len_is e)
    (λ e. front-long c.args.big c.args.bytes.now c.args.behind c.read_short-code.result c.from.result c.requires c.read_short-code.ensures len_is e.1)
    c.if-filled-behind.either

pub returns-then-len-eq1-clause-front : goal.returns-then-len-eq1-clause-front
returns-then-len-eq1-clause-front c =
    let len_is = c.from.ensures ∙ c.read_short-len.ensures in
    front-unit c.args.big c.args.bytes.now c.args.behind c.read_short-code.result c.from.result c.requires c.read_short-code.ensures len_is
    (omega arith) (omega arith) (omega arith)

pub returns-else-code-eq-UNIT_CODE-clause-front : goal.returns-else-code-eq-UNIT_CODE-clause-front
returns-else-code-eq-UNIT_CODE-clause-front c =
    let len_is = c.from.ensures ∙ c.read_short-len.ensures in
    front-other c.args.big c.args.bytes.now c.args.behind c.read_short-code.result c.from.result c.requires c.read_short-code.ensures len_is
    (omega arith) (λ e. omega (arith, e)) (λ a b. omega (arith, a, b, c.else-code-eq-UNIT_CODE.either))
