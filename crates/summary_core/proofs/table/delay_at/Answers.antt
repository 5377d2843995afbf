use Rattle.summary_core.proofs.Prelude.{refl, ◌==◌, eqb-true, eqb-false, delay_of}
use Rattle.std.proofs.lemmas.Option.{slice_get_past, slice_get_read}
use Rattle.summary_core.proofs.Tables.{one_longer, none_longer}
use Rattle.summary_core.proofs.table.delay_at.Goals as goal

pub returns-in-Some : goal.returns-in-Some
returns-in-Some c = λ roomy i.
    one_longer c.args.lists.now.items c.args.index c.in-Some.delays.now c.push_delay.new.delays (delay_of c.args.event)
    (slice_get_read c.args.lists.now.items _ c.args.index c.in-Some.delays.now refl c.in-Some.ensures.item.3.0 c.in-Some.ensures.item.1) (c.push_delay.ensures roomy)
    i (i == c.args.index) (eqb-true i c.args.index) (eqb-false i c.args.index)

pub returns-in-None : goal.returns-in-None
returns-in-None c = λ roomy i. none_longer c.args.lists.now.items c.args.index (delay_of c.args.event) (slice_get_past c.args.lists.now.items c.args.index c.in-None.ensures.item.3) i (i == c.args.index) (eqb-true i c.args.index)
