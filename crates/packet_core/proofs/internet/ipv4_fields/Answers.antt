use Rattle.packet_core.proofs.Prelude.{◌∙◌, sym, ap, arith, get_or, ◌≡◌, ◌+◌, ◌*◌, ◌%◌, length}
use Rattle.std.proofs.Common.{rules}
use Rattle.std.proofs.lemmas.Bool.{eq-eqb, ne_eqb, le-leb, lt-leb, and_left, and_right}
use Rattle.std.proofs.lemmas.Nat.{and_mask}
use Rattle.packet_core.proofs.FieldsThere.{byte-at, number-from, port-there, port-none, ipv4-is, ported, unported, has-ports}
use Rattle.packet_defs.specs.Bytes.{number_at}
use Rattle.packet_defs.specs.Internet.{behind_ipv4}
use Rattle.packet_core.proofs.internet.ipv4_fields.Goals as goal

-- not the first fragment
pub returns-then-read_u16-ne0 : goal.returns-then-read_u16-ne0
returns-then-read_u16-ne0 c =
    let at = c.args.at in
    let bytes = c.args.bytes.now in
    let offset = and_mask c.read_u16.result 13 ∙ ap (λ n. n % 8192) (c.read_u16.ensures ∙ number-from 2 (at + 6) bytes) in
    let none = and_left _ _ (ne_eqb (number_at 2 (at + 6) bytes % 8192) 0 (λ e. c.if-read_u16-ne0.true (offset ∙ e))) in
    ipv4-is at bytes c.from-2.result c.from-3.result _ _ (c.from-2.ensures ∙ c.read_u32.ensures ∙ number-from 4 (at + 12) bytes) (c.from-3.ensures ∙ c.read_u32-2.ensures ∙ number-from 4 (at + 16) bytes)
    (port-none _ (behind_ipv4 at bytes) bytes none) (port-none _ (behind_ipv4 at bytes + 2) bytes none)

-- the ports aren't captured
pub returns-then-behind-bytes : goal.returns-then-behind-bytes
returns-then-behind-bytes c =
    let at = c.args.at in
    let bytes = c.args.bytes.now in
    let words : c.from.result ≡ number_at 1 at bytes % 16 = c.from.ensures ∙ and_mask (get_or bytes at 0) 4 ∙ ap (λ n. n % 16) (byte-at at bytes) in
    let none = and_right _ _ (and_right _ _ (lt-leb (behind_ipv4 at bytes + 4) (length bytes) (omega (arith, words, c.if-behind-bytes.true)))) in
    ipv4-is at bytes c.from-2.result c.from-3.result _ _ (c.from-2.ensures ∙ c.read_u32.ensures ∙ number-from 4 (at + 12) bytes) (c.from-3.ensures ∙ c.read_u32-2.ensures ∙ number-from 4 (at + 16) bytes)
    (port-none _ (behind_ipv4 at bytes) bytes none) (port-none _ (behind_ipv4 at bytes + 2) bytes none)

pub returns-in-6 : goal.returns-in-6
returns-in-6 c =
    let at = c.args.at in
    let bytes = c.args.bytes.now in
    let words : c.from.result ≡ number_at 1 at bytes % 16 = c.from.ensures ∙ and_mask (get_or bytes at 0) 4 ∙ ap (λ n. n % 16) (byte-at at bytes) in
    let offset = and_mask c.read_u16.result 13 ∙ ap (λ n. n % 8192) (c.read_u16.ensures ∙ number-from 2 (at + 6) bytes) in
    let first = eq-eqb (number_at 2 (at + 6) bytes % 8192) 0 (sym offset ∙ c.if-read_u16-ne0.false) in
    let there = le-leb (behind_ipv4 at bytes + 4) (length bytes) (omega (arith, words, c.if-behind-bytes.false)) in
    let all = has-ports _ _ _ first (ported _ _ (byte-at (at + 9) bytes) c.in-6.is) there in
    ipv4-is at bytes c.from-2.result c.from-3.result _ _ (c.from-2.ensures ∙ c.read_u32.ensures ∙ number-from 4 (at + 12) bytes) (c.from-3.ensures ∙ c.read_u32-2.ensures ∙ number-from 4 (at + 16) bytes)
    (port-there _ (behind_ipv4 at bytes) c.read_u16-in-6.result bytes all (c.read_u16-in-6.ensures ∙ number-from 2 (at + 4 * c.from.result) bytes ∙ ap (λ n. number_at 2 (at + 4 * n) bytes) words))
    (port-there _ (behind_ipv4 at bytes + 2) c.read_u16-in-6-2.result bytes all (c.read_u16-in-6-2.ensures ∙ number-from 2 (at + 4 * c.from.result + 2) bytes ∙ ap (λ n. number_at 2 (at + 4 * n + 2) bytes) words))

-- a protocol without ports
pub returns-in_default : goal.returns-in_default
returns-in_default c =
    let at = c.args.at in
    let bytes = c.args.bytes.now in
    let none = and_right _ _ (and_left _ _ (unported (get_or bytes (at + 9) 0) _ (byte-at (at + 9) bytes) (search rules) (search rules))) in
    ipv4-is at bytes c.from-2.result c.from-3.result _ _ (c.from-2.ensures ∙ c.read_u32.ensures ∙ number-from 4 (at + 12) bytes) (c.from-3.ensures ∙ c.read_u32-2.ensures ∙ number-from 4 (at + 16) bytes)
    (port-none _ (behind_ipv4 at bytes) bytes none) (port-none _ (behind_ipv4 at bytes + 2) bytes none)
