use Rattle.std.proofs.Common.{◌∙◌, sym}
use Rattle.mapcheck_core.proofs.PlaceLaws.{next_step, no_step}
use Rattle.mapcheck_core.proofs.places.+part.Goals as goal

pub returns-in-Some : goal.returns-in-Some
returns-in-Some t c =
    let found = c.in-Some.ensures.lookup in
    c.part.ensures ∙ sym (next_step c.args.topo.now c.in-Inner.children c.deref.result.now c.in-Some.child.now c.args.address.now c.in-Inner.is c.deref.ensures.value c.in-len1-up.len_at_least found.0 found.1)

pub returns-in-None : goal.returns-in-None
returns-in-None t c =
    let found = c.in-None.ensures.lookup in
    sym (no_step c.args.topo.now c.in-Inner.children c.deref.result.now c.args.address.now c.in-Inner.is c.deref.ensures.value c.in-len1-up.len_at_least found.0)
