use Rattle.packet_core.proofs.Prelude.{◌∙◌, ap, arith, true, refl, get_or, ◌+◌, ◌/◌, ◌%◌, length}
use Rattle.std.proofs.Common.{rules}
use Rattle.std.proofs.lemmas.Bool.{le-leb, lt-leb, and_left, and_right}
use Rattle.std.proofs.lemmas.Nat.{and_mask}
use Rattle.packet_core.proofs.FieldsThere.{byte-at, number-from, port-there, port-none, ipv6-is, ported, unported, has-ports}
use Rattle.packet_defs.specs.Bytes.{number_at}
use Rattle.packet_core.proofs.internet.ipv6_fields.Goals as goal

-- the ports aren't captured
pub returns-then-at-bytes : goal.returns-then-at-bytes
returns-then-at-bytes c =
    let at = c.args.at in
    let bytes = c.args.bytes.now in
    let none = and_right _ _ (lt-leb (at + 40 + 4) (length bytes) c.if-at-bytes.true) in
    ipv6-is at bytes _ c.read_u128.result c.read_u128-2.result _ _ (and_mask (c.read_u16.result / 16) 8 ∙ ap (λ n. n / 16 % 256) (c.read_u16.ensures ∙ number-from 2 at bytes))
    (c.read_u128.ensures ∙ number-from 16 (at + 8) bytes) (c.read_u128-2.ensures ∙ number-from 16 (at + 24) bytes)
    (port-none _ (at + 40) bytes none) (port-none _ (at + 42) bytes none)

pub returns-in-6 : goal.returns-in-6
returns-in-6 c =
    let at = c.args.at in
    let bytes = c.args.bytes.now in
    let there = le-leb (at + 40 + 4) (length bytes) c.if-at-bytes.false in
    let kind = ported _ _ (byte-at (at + 6) bytes) c.in-6.is in
    ipv6-is at bytes _ c.read_u128.result c.read_u128-2.result _ _ (and_mask (c.read_u16.result / 16) 8 ∙ ap (λ n. n / 16 % 256) (c.read_u16.ensures ∙ number-from 2 at bytes))
    (c.read_u128.ensures ∙ number-from 16 (at + 8) bytes) (c.read_u128-2.ensures ∙ number-from 16 (at + 24) bytes)
    (port-there _ (at + 40) c.read_u16-in-6.result bytes (has-ports true _ _ refl kind there) (c.read_u16-in-6.ensures ∙ number-from 2 (at + 40) bytes))
    (port-there _ (at + 42) c.read_u16-in-6-2.result bytes (has-ports true _ _ refl kind there) (c.read_u16-in-6-2.ensures ∙ number-from 2 (at + 40 + 2) bytes ∙ ap (λ i. number_at 2 i bytes) (omega arith)))

-- a protocol without ports
pub returns-in_default : goal.returns-in_default
returns-in_default c =
    let at = c.args.at in
    let bytes = c.args.bytes.now in
    let none = and_left _ _ (unported (get_or bytes (at + 6) 0) _ (byte-at (at + 6) bytes) (search rules) (search rules)) in
    ipv6-is at bytes _ c.read_u128.result c.read_u128-2.result _ _ (and_mask (c.read_u16.result / 16) 8 ∙ ap (λ n. n / 16 % 256) (c.read_u16.ensures ∙ number-from 2 at bytes))
    (c.read_u128.ensures ∙ number-from 16 (at + 8) bytes) (c.read_u128-2.ensures ∙ number-from 16 (at + 24) bytes)
    (port-none _ (at + 40) bytes none) (port-none _ (at + 42) bytes none)
