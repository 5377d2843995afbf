use Rattle.packet_core.proofs.Prelude.{◌∙◌, sym, subst, refl, Fields, IsSortedByFields, policy_of, extra_of}
use Rattle.packet_defs.specs.Ethernet.{type_at}
use Rattle.packet_core.proofs.FieldsThere.{raw-ipv4, frame-link, frame-is, frame-ipv4, number-from}
use Rattle.packet_core.proofs.classifier.Classifier.classify.Goals as goal

pub returns-in-101 : goal.returns-in-101
returns-in-101 c =
    (subst (λ (f : Fields). IsSortedByFields (policy_of c.args.self.now) f c.args.packet.now c.put-in-101.new.packet)
    (c.ipv4_fields.ensures ∙ sym (raw-ipv4 (policy_of c.args.self.now).policy.version c.args.link c.args.bytes.now c.in-101.is (sym c.if-is_ipv4-2.ensures))) c.put-in-101.ensures) (extra_of c.args.link c.args.bytes.now)

pub returns-then-read_u16-eq-IPV4 : goal.returns-then-read_u16-eq-IPV4
returns-then-read_u16-eq-IPV4 c =
    let frame = c.read_frame-vlan in
    let bytes = c.args.bytes.now in
    (subst (λ (f : Fields). IsSortedByFields (policy_of c.args.self.now) f c.args.packet.now c.put.new.packet)
    (frame-ipv4 bytes frame.result.vlan frame.result.place c.ipv4_fields-fields.result frame.ensures.vlan frame.ensures.place
    (sym (c.read_u16.ensures ∙ number-from 2 frame.result.place bytes) ∙ c.if-read_u16-eq-IPV4.true) (sym c.if-is_ipv4.ensures) c.ipv4_fields-fields.ensures
    ∙ sym (frame-link (policy_of c.args.self.now).policy.version c.args.link bytes c.in-1.is)) c.put.ensures) (extra_of c.args.link bytes)

pub returns-else-is_ipv4 : goal.returns-else-is_ipv4
returns-else-is_ipv4 c =
    let frame = c.read_frame-vlan in
    let bytes = c.args.bytes.now in
    (subst (λ (f : Fields). IsSortedByFields (policy_of c.args.self.now) f c.args.packet.now c.put-in-1.new.packet)
    (frame-is bytes (type_at frame.result.place bytes) frame.result.vlan frame.result.place c.read_payload-fields.result frame.ensures.vlan refl frame.ensures.place c.read_payload-fields.ensures
    ∙ sym (frame-link (policy_of c.args.self.now).policy.version c.args.link bytes c.in-1.is)) c.put-in-1.ensures) (extra_of c.args.link bytes)
