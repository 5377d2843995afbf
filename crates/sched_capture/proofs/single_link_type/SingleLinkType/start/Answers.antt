use Rattle.sched_capture.proofs.Prelude.{◌≡◌, Some, None, arith, refl, Opens, FileContents, captured_by, one_link_in, EachFileOf}
use Rattle.sched_capture.specs.CapturePackets.{resolved_of, given_by, contents_of}
use Rattle.sched_capture.proofs.PacketsLeft.{begins, captured_at_start}
use Rattle.sched_capture.proofs.SingleLinkTypePackets.{behind_ahead, is_first, opens_first, opens_none, link_of_first, link_of_none, refuses_first}
use Rattle.sched_capture.proofs.single_link_type.SingleLinkType.start.Given.{Over}
use Rattle.sched_capture.proofs.single_link_type.SingleLinkType.start.Goals as goal

-- ---- a first packet
opens_some : (g : Over) (c : goal.In-Ok-Some g) → let b = c.next_packet.new.self in let link = c.in-Ok-Some.link in
    EachFileOf (contents_of c.args.arrivals (g.S.Shelf.left c.args.source.now)) (λ (file : FileContents).
    Opens (one_link_in file) (behind_ahead link (given_by b) (captured_by b) (Some c.next_packet.new.packet) (contents_of b (g.S.Shelf.left c.next_packet.new.source))))
opens_some g c file opened =
    let b = c.next_packet.new.self in
    let e = c.in-Ok-Some.ensures in
    let next = rw c.in-Ok-Some.field-0-is at e.next in
    let one : given_by b ≡ 1 = omega (arith, (rw c.in-Ok-Some.field-0-is at e.given), c.requires.none_given) in
    opens_first file (contents_of c.args.arrivals (g.S.Shelf.left c.args.source.now)) (contents_of b (g.S.Shelf.left c.next_packet.new.source)) c.next_packet.new.packet c.in-Ok-Some.link (given_by b) (captured_by b)
    one next.comes opened

pub returns-in-Ok-Some-clause-begins : goal.returns-in-Ok-Some-clause-begins
returns-in-Ok-Some-clause-begins g c =
    rw (c.next_packet.ensures.policy) (λ file opened. begins (resolved_of c.args.arrivals) (one_link_in file) _ 0 refl (opens_some g c file opened))

pub returns-in-Ok-Some-clause-captures : goal.returns-in-Ok-Some-clause-captures
returns-in-Ok-Some-clause-captures g c = λ file opened. captured_at_start (one_link_in file) _ 0 refl (opens_some g c file opened)

pub returns-in-Ok-Some-clause-link : goal.returns-in-Ok-Some-clause-link
returns-in-Ok-Some-clause-link g c =
    let a = c.args.arrivals in
    let b = c.next_packet.new.self in
    let e = c.in-Ok-Some.ensures in
    let next = rw c.in-Ok-Some.field-0-is at e.next in
    λ file opened. link_of_first file (contents_of a (g.S.Shelf.left c.args.source.now)) (contents_of b (g.S.Shelf.left c.next_packet.new.source)) _ next.comes opened

pub returns-in-Ok-Some-clause-ready : goal.returns-in-Ok-Some-clause-ready
returns-in-Ok-Some-clause-ready g c =
    let a = c.args.arrivals in
    let b = c.next_packet.new.self in
    let e = c.in-Ok-Some.ensures in
    let next = rw c.in-Ok-Some.field-0-is at e.next in
    record {
      arrivals = e.ready;
      ahead = rw (c.next_packet.ensures.policy) (is_first (resolved_of a) (given_by a) (given_by b) c.in-Ok-Some.link (contents_of a (g.S.Shelf.left c.args.source.now))
          (contents_of b (g.S.Shelf.left c.next_packet.new.source)) c.next_packet.new.packet (captured_by b) c.requires.none_given (rw c.in-Ok-Some.field-0-is at e.given) next);
    }

-- ---- no packet
opens_end : (g : Over) (c : goal.In-Ok-None g) → let b = c.next_packet.new.self in
    EachFileOf (contents_of c.args.arrivals (g.S.Shelf.left c.args.source.now)) (λ (file : FileContents).
    Opens (one_link_in file) (behind_ahead 0 (given_by b) (captured_by b) None (contents_of b (g.S.Shelf.left c.next_packet.new.source))))
opens_end g c file opened =
    let b = c.next_packet.new.self in
    let e = c.in-Ok-None.ensures in
    opens_none file (contents_of c.args.arrivals (g.S.Shelf.left c.args.source.now)) (contents_of b (g.S.Shelf.left c.next_packet.new.source)) 0 (given_by b) (captured_by b)
    (rw c.in-Ok-None.field-0-is at e.ended).at (rw c.in-Ok-None.field-0-is at e.ended).over opened

pub returns-in-Ok-None-clause-begins : goal.returns-in-Ok-None-clause-begins
returns-in-Ok-None-clause-begins g c =
    let b = c.next_packet.new.self in
    let none : given_by b ≡ 0 = omega (arith, (rw c.in-Ok-None.field-0-is at c.in-Ok-None.ensures.given), c.requires.none_given) in
    rw (c.next_packet.ensures.policy) (λ file opened. begins (resolved_of c.args.arrivals) (one_link_in file) _ (given_by b) none (opens_end g c file opened))

pub returns-in-Ok-None-clause-captures : goal.returns-in-Ok-None-clause-captures
returns-in-Ok-None-clause-captures g c =
    let b = c.next_packet.new.self in
    let none : given_by b ≡ 0 = omega (arith, (rw c.in-Ok-None.field-0-is at c.in-Ok-None.ensures.given), c.requires.none_given) in
    λ file opened. captured_at_start (one_link_in file) _ (given_by b) none (opens_end g c file opened)

pub returns-in-Ok-None-clause-link : goal.returns-in-Ok-None-clause-link
returns-in-Ok-None-clause-link g c = λ file opened. link_of_none file (contents_of c.args.arrivals (g.S.Shelf.left c.args.source.now)) (rw c.in-Ok-None.field-0-is at c.in-Ok-None.ensures.ended).at opened

-- ---- a read error
pub returns-clause-refuses : goal.returns-clause-refuses
returns-clause-refuses g c = λ file opened. refuses_first file (contents_of c.args.arrivals (g.S.Shelf.left c.args.source.now)) c.in-Err.error c.in-Err.ensures.fault opened
