use Rattle.pcapng_core.proofs.Prelude.{◌≡◌, ◌∙◌, ap, sym, Carried, arith, Some, None, IfSome, common_steps, broken, front_of, packet_told, fault_in, carry_of, rest_left, IsOver, NgFault}
use Rattle.pcapng_core.proofs.FoundBlocks.{some-map}
use Rattle.pcapng_core.proofs.Packets.{goes-more, goes-over, goes-leaves, goes-broken}
use Rattle.pcapng_core.proofs.Refusals.{err-passed}
use Rattle.pcapng_core.proofs.reader.NgReader.read_packet.Goals as goal

pub returns-in_err-read_block-clause-fault : goal.returns-in_err-read_block-clause-fault
returns-in_err-read_block-clause-fault g c =
    let old = rest_left c.args.self.now (g.S.Shelf.left c.args.shelf.now) in
    let mid = rest_left c.loop-packet.self (g.S.Shelf.left c.loop-packet.shelf) in
    let first = carry_of c.args.self.now in
    let last = carry_of c.loop-packet.self in
    let x = c.in_err-read_block.field-0.0 in
    err-passed c.from_residual.result x
    (λ (e : NgFault). IfSome (fault_in e) (λ fault. IfSome old (IsOver first (Some fault))))
    c.from_residual.ensures.1
    (some-map (fault_in x) (λ fault. IfSome mid (λ left. front_of last left ≡ broken fault)) (λ fault. IfSome old (IsOver first (Some fault)))
    (λ fault named broke. goes-broken first last fault old mid c.loop-packet.invariant.goes_on broke)
    c.in_err-read_block.ensures.fault)

pub returns-in-End-clause-ended : goal.returns-in-End-clause-ended
returns-in-End-clause-ended g c =
    let e = c.in_ok-read_block.ensures in
    let end = e.ended c.in-End.is in
    let same = e.same c.in-End.is in
    let before = rest_left c.loop-packet.self (g.S.Shelf.left c.loop-packet.shelf) in
    record {
      ended = goes-over (carry_of c.args.self.now) (carry_of c.loop-packet.self) _ _ c.loop-packet.invariant.goes_on end.ended same.1;
      over = goes-leaves (carry_of c.args.self.now) (carry_of c.loop-packet.self) _ before _ c.loop-packet.invariant.goes_on end.over;
      came = λ none. same.1 (ap (λ (k : Carried). k.blocks) (sym same.0) ∙ none);
    }

pub returns-in-Packet-clause-found : goal.returns-in-Packet-clause-found
returns-in-Packet-clause-found g c =
    let found = rw c.in-Packet.is at c.in_ok-read_block.ensures.found in
    goes-more (carry_of c.args.self.now) (carry_of c.loop-packet.self) (carry_of c.read_block.new.self) (Some (packet_told c.in-Packet.packet c.read_block.new.into.items)) _ _ _
    c.loop-packet.invariant.goes_on (found (λ e. absurd (cc)))

pub loop-packet-smaller : goal.loop-packet-smaller
loop-packet-smaller g c =
    let counted = rw c.in-Other.is at c.in_ok-read_block.ensures.counted in
    omega (arith, counted (λ e. absurd (cc)), c.read_block.new.self.carry.few)

pub loop-packet-preserved : goal.loop-packet-preserved
loop-packet-preserved g c =
    let found = rw c.in-Other.is at c.in_ok-read_block.ensures.found in
    let counted = rw c.in-Other.is at c.in_ok-read_block.ensures.counted in
    record {
      goes_on = goes-more (carry_of c.args.self.now) (carry_of c.loop-packet.self) (carry_of c.read_block.new.self) None _ _ _ c.loop-packet.invariant.goes_on (found (λ e. absurd (cc)));
      counted = omega (arith, counted (λ e. absurd (cc)), c.loop-packet.invariant.counted);
      given = c.in_ok-read_block.ensures.given ∙ c.loop-packet.invariant.given;
      live = c.in_ok-read_block.ensures.live ∙ c.loop-packet.invariant.live;
      serves = grind (arith, common_steps);
    }
