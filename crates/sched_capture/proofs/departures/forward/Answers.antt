use Rattle.sched_capture.proofs.Prelude.{◌≡◌, on_err_weaker, on_ok_weaker, IfOk-weaker, Appended, AppendedPrefix, LeavesPart, Leaves, run_of, laid_in, captures_of, link_of}
use Rattle.sched_capture.specs.SingleLinkType.{left_of}
use Rattle.sched_capture.proofs.ForwardFiles.{in_told}
use Rattle.sched_capture.proofs.ForwardRefusals.{part_of_answer}
use Rattle.sched_capture.proofs.departures.forward.Goals as goal

pub returns-in-Ok-clause-ending : goal.returns-in-Ok-clause-ending
returns-in-Ok-clause-ending g c =
    let parts = c.into_parts-policy in
    let packets = c.in-Ok.packets in
    let file = g.S.Shelf.left c.begin_one_link.new.shelf in
    rw (← parts.ensures.policy) (IfOk-weaker c.forward_packets.result _ _ (λ e all. in_told parts.result.0 c.args.rate (g.S.Shelf.content c.args.shelf.now c.args.capture.now) (left_of packets file) (captures_of packets file) (link_of packets) _ (λ a. e ≡ a.ending)
    (λ l captured known each. each (link_of packets) captured) (record { begins = c.in-Ok.ensures.begins; captures = c.in-Ok.ensures.captures; one = c.in-Ok.ensures.link }) all) c.forward_packets.ensures.ending)

pub returns-in-Ok-clause-text : goal.returns-in-Ok-clause-text
returns-in-Ok-clause-text g c =
    let parts = c.into_parts-policy in
    let packets = c.in-Ok.packets in
    let file = g.S.Shelf.left c.begin_one_link.new.shelf in
    rw (← parts.ensures.policy) (on_ok_weaker c.forward_packets.result (λ all. in_told parts.result.0 c.args.rate (g.S.Shelf.content c.args.shelf.now c.args.capture.now) (left_of packets file) (captures_of packets file) (link_of packets) _
    (λ a. Appended (g.K.Sink.written c.args.sink.now) (g.K.Sink.written c.forward_packets.new.sink) a.text)
    (λ l captured known each. each captured known) (record { begins = c.in-Ok.ensures.begins; captures = c.in-Ok.ensures.captures; one = c.in-Ok.ensures.link }) all) (rw c.in-Ok.ensures.unwritten at c.forward_packets.ensures.text))

pub returns-in-Ok-clause-part : goal.returns-in-Ok-clause-part
returns-in-Ok-clause-part g c =
    let parts = c.into_parts-policy in
    let packets = c.in-Ok.packets in
    let file = g.S.Shelf.left c.begin_one_link.new.shelf in
    rw (← parts.ensures.policy) (on_err_weaker c.forward_packets.result (λ all. in_told parts.result.0 c.args.rate (g.S.Shelf.content c.args.shelf.now c.args.capture.now) (left_of packets file) (captures_of packets file) (link_of packets) _
    (λ a. AppendedPrefix (g.K.Sink.written c.args.sink.now) (g.K.Sink.written c.forward_packets.new.sink) a.text)
    (λ l captured known each. each captured known) (record { begins = c.in-Ok.ensures.begins; captures = c.in-Ok.ensures.captures; one = c.in-Ok.ensures.link }) all) (rw c.in-Ok.ensures.unwritten at c.forward_packets.ensures.part))

pub returns-in-Ok-clause-fabric : goal.returns-in-Ok-clause-fabric
returns-in-Ok-clause-fabric g c =
    let parts = c.into_parts-policy in
    let packets = c.in-Ok.packets in
    let file = g.S.Shelf.left c.begin_one_link.new.shelf in
    rw (← parts.ensures.policy, ← parts.ensures.target, ← parts.ensures.map) (on_ok_weaker c.forward_packets.result (λ all. in_told parts.result.0 c.args.rate (g.S.Shelf.content c.args.shelf.now c.args.capture.now) (left_of packets file) (captures_of packets file) (link_of packets) _
    (λ a. Leaves g.F.Fabric (run_of parts.result.0.policy (laid_in parts.result.2 parts.result.1) a.events) c.args.fabric.now c.forward_packets.new.fabric)
    (λ l captured known each. each) (record { begins = c.in-Ok.ensures.begins; captures = c.in-Ok.ensures.captures; one = c.in-Ok.ensures.link }) all) c.forward_packets.ensures.fabric)

pub returns-in-Ok-clause-fabric_part : goal.returns-in-Ok-clause-fabric_part
returns-in-Ok-clause-fabric_part g c =
    let parts = c.into_parts-policy in
    let packets = c.in-Ok.packets in
    let file = g.S.Shelf.left c.begin_one_link.new.shelf in
    rw (← parts.ensures.policy, ← parts.ensures.target, ← parts.ensures.map) (on_err_weaker c.forward_packets.result (λ all. in_told parts.result.0 c.args.rate (g.S.Shelf.content c.args.shelf.now c.args.capture.now) (left_of packets file) (captures_of packets file) (link_of packets) _
    (λ a. LeavesPart g.F.Fabric (run_of parts.result.0.policy (laid_in parts.result.2 parts.result.1) a.events) c.args.fabric.now c.forward_packets.new.fabric)
    (λ l captured known each. each) (record { begins = c.in-Ok.ensures.begins; captures = c.in-Ok.ensures.captures; one = c.in-Ok.ensures.link }) all) c.forward_packets.ensures.fabric_part)

pub returns-clause-part : goal.returns-clause-part
returns-clause-part g c =
    let parts = c.into_parts-policy in
    rw (← parts.ensures.policy) (part_of_answer parts.result.0 c.args.rate (g.S.Shelf.content c.args.shelf.now c.args.capture.now) (g.K.Sink.written c.args.sink.now) (g.K.Sink.written c.begin_one_link.new.sink) (rw c.in-Err-Err.field-0-is at c.in-Err-Err.ensures.part))
