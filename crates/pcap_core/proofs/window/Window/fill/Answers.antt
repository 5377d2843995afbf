use Rattle.pcap_core.proofs.Prelude.{◌≡◌, ap, arith, ◌∙◌, sym, length, ◌-◌, take, with_items_is}
use Rattle.pcap_core.proofs.Windows.{fill-end}
use Rattle.pcap_core.proofs.window.Window.fill.Goals as goal

pub returns-clause-end : goal.returns-clause-end
returns-clause-end g c none =
    let size : length c.read.new.buf ≡ c.open.new.self.buffer.len = omega (arith, c.read.auto.buf, c.deref_mut.ensures.len) in
    fill-end (g.S.Shelf.left c.args.shelf.now) (g.S.Shelf.left c.read.new.self) _ c.read.new.buf c.in_ok-self.field-0
    (c.in_ok-self.ensures.end (omega (arith, c.in_ok-open.ensures.room, c.deref_mut.ensures.len)))
    (omega (arith, c.in_ok-self.ensures.bound, c.read.auto.buf)) c.requires.empty
    (ap (take (c.in_ok-self.field-0 - 0)) (sym (with_items_is c.open.new.self.buffer c.read.new.buf size)) ∙ none)
