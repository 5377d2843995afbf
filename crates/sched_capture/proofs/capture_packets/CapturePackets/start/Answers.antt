use Rattle.sched_capture.proofs.Prelude.{sym, subst, ◌∙◌, true≢false, err_from_is_err_and, Opens, pcap_ng, IsHeaderFault, Refuses}
use Rattle.pcap_core.specs.Held.{held}
use Rattle.sched_capture.specs.Arrivals as one
use Rattle.pcapng_core.specs.Left as blocks_left
use Rattle.sched_capture.proofs.Fronts.{as-newer, as-classic}
use Rattle.sched_capture.proofs.capture_packets.CapturePackets.start.Goals as goal

pub returns-in_ok-arrivals-clause-opens : goal.returns-in_ok-arrivals-clause-opens
returns-in_ok-arrivals-clause-opens g c =
    as-newer (λ file. Opens file (one.contents_of blocks_left.contents_left c.in_ok-arrivals.arrivals (g.S.Shelf.left c.start.new.shelf))) _ (held c.hold.new.self) c.new-window.ensures
    (g.S.Shelf.left c.args.shelf.now) (g.S.Shelf.left c.hold.new.shelf) c.in_ok-hold.ensures.same c.in_ok-hold.ensures.short
    (subst (λ xs. IsHeaderFault xs pcap_ng) c.front.ensures (c.is_newer.ensures.0 c.if-is_newer.true)) c.in_ok-arrivals.ensures.opens

pub returns-in_err-arrivals-clause-refuses : goal.returns-in_err-arrivals-clause-refuses
returns-in_err-arrivals-clause-refuses g c =
    let p = err_from_is_err_and c.from_residual-in_err-arrivals.result c.from_residual-in_err-arrivals.ensures.1 in
    rw (p.1, p.2) (as-newer (Refuses _) _ (held c.hold.new.self) c.new-window.ensures
    (g.S.Shelf.left c.args.shelf.now) (g.S.Shelf.left c.hold.new.shelf) c.in_ok-hold.ensures.same c.in_ok-hold.ensures.short
    (subst (λ xs. IsHeaderFault xs pcap_ng) c.front.ensures (c.is_newer.ensures.0 c.if-is_newer.true)) c.in_err-arrivals.ensures.refuses)

pub returns-in_err-arrivals-2-clause-refuses : goal.returns-in_err-arrivals-2-clause-refuses
returns-in_err-arrivals-2-clause-refuses g c =
    let p = err_from_is_err_and c.from_residual-in_err-arrivals-2.result c.from_residual-in_err-arrivals-2.ensures.1 in
    rw (p.1, p.2) (as-classic (Refuses _) _ (held c.hold.new.self) c.new-window.ensures
    (g.S.Shelf.left c.args.shelf.now) (g.S.Shelf.left c.hold.new.shelf) c.in_ok-hold.ensures.same c.in_ok-hold.ensures.short
    (λ is. true≢false (sym (c.is_newer.ensures.1 (subst (λ xs. IsHeaderFault xs pcap_ng) (sym c.front.ensures) is)) ∙ c.if-is_newer.false)) c.in_err-arrivals-2.ensures.refuses)
