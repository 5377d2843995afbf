use Rattle.sched_capture.proofs.Prelude.{◌≡◌, Some, None, sym, option_map, other_link, captured_by, rest_of_link}
use Rattle.outside_core.specs.declared.read_error.ReadError.TheVariants.{Fault}
use Rattle.sched_capture.specs.CapturePackets.{resolved_of, given_by, contents_of}
use Rattle.sched_capture.proofs.PacketsLeft.{Gives, gives, none_known, is_read_error}
use Rattle.sched_capture.proofs.SingleLinkTypePackets.{behind_ahead, first_next, next_alike, stops_at_other, stops_at_end, over_at_end}
use Rattle.sched_capture.proofs.single_link_type.SingleLinkTypePackets.next.Given.{Over}
use Rattle.sched_capture.proofs.single_link_type.SingleLinkTypePackets.next.Goals as goal

-- ---- the packet read ahead
first_gives : (g : Over) (c : goal.In-Some g) → let o = c.args.self.now in let a = o.arrivals in let left = contents_of a (g.S.Shelf.left c.args.source.now) in
    Gives (resolved_of a) 0 (given_by a) (behind_ahead o.link (given_by a) (captured_by a) (Some c.in-Some.first) left) (behind_ahead o.link (given_by a) (captured_by a) None left) c.in-Some.first (captured_by a)
first_gives g c =
    let o = c.args.self.now in
    let a = o.arrivals in
    let p = c.in-Some.first in
    let left = contents_of a (g.S.Shelf.left c.args.source.now) in
    let is = rw (sym c.in-Some.ensures.value) at c.requires.ready.ahead in
    gives (resolved_of a) 0 (given_by a) (behind_ahead o.link (given_by a) (captured_by a) (Some p) left) (behind_ahead o.link (given_by a) (captured_by a) None left)
    o.link p (captured_by a) is.one (first_next (resolved_of a) (given_by a) o.link (captured_by a) p left is)

pub returns-in-Some-clause-next : goal.returns-in-Some-clause-next
returns-in-Some-clause-next g c = rw (sym c.in-Some.ensures.value, c.take.ensures.after) (λ _. (first_gives g c).packet)

pub returns-in-Some-clause-known : goal.returns-in-Some-clause-known
returns-in-Some-clause-known g c = rw (sym c.in-Some.ensures.value, c.take.ensures.after) (first_gives g c).known

-- ---- the next packet of its link type
next_gives : (g : Over) (c : goal.Then-link-self g) → let o = c.args.self.now in let a = o.arrivals in let b = c.next_packet.new.self in
    Gives (resolved_of a) (given_by a) (given_by b) (option_map (rest_of_link o.link (given_by a)) (contents_of a (g.S.Shelf.left c.args.source.now)))
    (option_map (rest_of_link o.link (given_by b)) (contents_of b (g.S.Shelf.left c.next_packet.new.source))) c.next_packet.new.packet (captured_by b)
next_gives g c =
    let o = c.args.self.now in
    let a = o.arrivals in
    let b = c.next_packet.new.self in
    let p = c.next_packet.new.packet in
    let old = contents_of a (g.S.Shelf.left c.args.source.now) in
    let left = contents_of b (g.S.Shelf.left c.next_packet.new.source) in
    let given = rw c.in-Ok-Some.field-0-is at c.in-Ok-Some.ensures.given in
    let is = rw c.in-Ok-Some.field-0-is at c.in-Ok-Some.ensures.next in
    gives (resolved_of a) (given_by a) (given_by b) (option_map (rest_of_link o.link (given_by a)) old) (option_map (rest_of_link o.link (given_by b)) left)
    o.link p (captured_by b) given (next_alike (resolved_of a) (given_by a) (given_by b) o.link c.in-Ok-Some.link old left p (captured_by b) given c.if-link-self.true is)

pub returns-in-Ok-Some-clause-next : goal.returns-in-Ok-Some-clause-next
returns-in-Ok-Some-clause-next g c =
    let gone : c.args.self.now.ahead ≡ None = sym c.in_default.ensures.value in
    rw (gone, c.take.ensures.after, c.next_packet.ensures.policy) (λ _. (next_gives g c).packet)

pub returns-in-Ok-Some-clause-known : goal.returns-in-Ok-Some-clause-known
returns-in-Ok-Some-clause-known g c =
    let gone : c.args.self.now.ahead ≡ None = sym c.in_default.ensures.value in
    rw (gone, c.take.ensures.after) (next_gives g c).known

-- ---- a packet of another link type
pub returns-in-Ok-Some-2-clause-fault : goal.returns-in-Ok-Some-2-clause-fault
returns-in-Ok-Some-2-clause-fault g c =
    let o = c.args.self.now in
    let a = o.arrivals in
    let b = c.next_packet.new.self in
    let p = c.next_packet.new.packet in
    let old = contents_of a (g.S.Shelf.left c.args.source.now) in
    let gone : c.args.self.now.ahead ≡ None = sym c.in_default.ensures.value in
    rw (gone) (is_read_error (resolved_of a) (given_by a) (option_map (rest_of_link o.link (given_by a)) old) (Fault other_link p.number)
    (stops_at_other (resolved_of a) (given_by a) o.link c.in-Ok-Some.link old (contents_of b (g.S.Shelf.left c.next_packet.new.source)) p (captured_by b) c.if-link-self.false
    (rw c.in-Ok-Some.field-0-is at c.in-Ok-Some.ensures.next)))

-- ---- the end
pub returns-in-Ok-None-clause-known : goal.returns-in-Ok-None-clause-known
returns-in-Ok-None-clause-known g c =
    let o = c.args.self.now in
    let b = c.next_packet.new.self in
    let left = contents_of b (g.S.Shelf.left c.next_packet.new.source) in
    rw (c.take.ensures.after) (none_known _ (given_by b) (option_map (rest_of_link o.link (given_by b)) left)
    (over_at_end o.link (given_by b) left (rw c.in-Ok-None.field-0-is at c.in-Ok-None.ensures.ended).over))

pub returns-in-Err-clause-fault : goal.returns-in-Err-clause-fault
returns-in-Err-clause-fault g c =
    let o = c.args.self.now in
    let a = o.arrivals in
    let old = contents_of a (g.S.Shelf.left c.args.source.now) in
    let gone : c.args.self.now.ahead ≡ None = sym c.in_default.ensures.value in
    rw (gone) (is_read_error (resolved_of a) (given_by a) (option_map (rest_of_link o.link (given_by a)) old) c.in-Err.error
    (stops_at_end o.link (given_by a) old c.in-Err.error c.in-Err.ensures.fault))
