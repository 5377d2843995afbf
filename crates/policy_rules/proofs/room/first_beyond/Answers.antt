use Rattle.policy_rules.proofs.Prelude.{◌∙◌, ap, List, sym, take, not, Entry, is_one_too_many, entries_of, IsRoom}
use Rattle.policy_rules.proofs.PassLemmas.{ends_here, goes_on}
use Rattle.policy_rules.proofs.room.first_beyond.Goals as goal

pub returns-then-not-admit : goal.returns-then-not-admit
returns-then-not-admit c =
    let done : List Entry = take c.loop-line.line-index (entries_of c.args.lines.now) in
    ends_here (λ done. IsRoom done c.loop-line.room) is_one_too_many c.args.lines.now c.loop-line.line-index c.loop-line-item.result
    c.requires.rising c.loop-line-test.true c.loop-line-item.is c.loop-line.invariant
    (sym (c.admit.ensures.beyond done c.loop-line.invariant.keeps) ∙ ap not c.if-not-admit.true)

pub loop-line-preserved : goal.loop-line-preserved
loop-line-preserved c =
    let done : List Entry = take c.loop-line.line-index (entries_of c.args.lines.now) in
    goes_on (λ done. IsRoom done c.loop-line.room) is_one_too_many c.args.lines.now c.loop-line.line-index c.loop-line-item.result
    c.requires.rising c.loop-line-test.true c.loop-line-item.is c.loop-line.invariant _
    (sym (c.admit.ensures.beyond done c.loop-line.invariant.keeps) ∙ ap not c.if-not-admit.false)
    (c.admit.ensures.room c.if-not-admit.false done c.loop-line-item.result.0 c.loop-line.invariant.keeps)
