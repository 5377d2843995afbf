-- The packets that a policy makes of captured ones.
use Rattle.std.specs.Prelude.{◌≡◌, refl, ℕ, ◌+◌, unwrap_or, List, [], ◌∷◌}
use Rattle.rank_defs.specs.declared.environment.FlowKey.{FlowKey}
use Rattle.pcap_defs.specs.Packet.{CapturedPacket}
use Rattle.packet_defs.specs.declared.extra.Header.{Header}
use Rattle.packet_defs.specs.declared.packet.Packet.{Packet}
use Rattle.packet_defs.specs.Flow.{flow_of}
use Rattle.packet_defs.specs.Headers.{fields_in}
use Rattle.packet_defs.specs.Extra.{header_in}
use Rattle.packet_defs.specs.Test.{class_among}
use Rattle.packet_core.specs.Tests.{classes_of}
use Rattle.policy_text_defs.specs.declared.condition.FieldName.TheVariants.{Dport}
use Rattle.policy_text_defs.specs.declared.condition.Condition.TheVariants.{Field}
use Rattle.policy_defs.specs.Policy.{one_leaf}
use Rattle.policy_rules.specs.Alternatives.{alternatives_of}
use Rattle.policy_rules.specs.Resolved.{Resolved}

-- The class of a packet of this original length is the first to which it belongs. There always is
-- one, because the last class has no conditions.
abbrev pub class_given : Resolved → Header → ℕ → ℕ
class_given policy header length = unwrap_or (class_among (classes_of policy.conditions) header length) 0

-- The packet with this number. Its own link type and the policy's version determine the headers read
-- from its captured bytes.
abbrev pub packet_of : Resolved → ℕ → CapturedPacket → Packet
packet_of policy n p = record {
  number = n;
  class = class_given policy (header_in policy.policy.version p.link p.captured) p.original;
  len = p.original;
  moment = p.moment;
  flow = flow_of (fields_in policy.policy.version p.link p.captured);
}

-- the packets of a capture, the first of which has this number
abbrev pub packets_from : Resolved → ℕ → List CapturedPacket → List Packet
packets_from policy n [] = []
packets_from policy n (p ∷ packets) = packet_of policy n p ∷ packets_from policy (n + 1) packets

-- a UDP packet from port 4096 of 10.0.0.1 to port 53 of 10.0.0.2, without a link header, and its
-- flow
abbrev question : List ℕ
question =
    69 ∷ 0 ∷ 0 ∷ 28 ∷ 0 ∷ 0 ∷ 0 ∷ 0 ∷ 64 ∷ 17 ∷ 0 ∷ 0 ∷ 10 ∷ 0 ∷ 0 ∷ 1 ∷ 10 ∷ 0 ∷ 0 ∷ 2 ∷ 16 ∷ 0 ∷ 0 ∷ 53 ∷ 0 ∷ 8 ∷ 0 ∷ 0 ∷ []

abbrev asked : FlowKey
asked = record { version = 4; source = 167772161; target = 167772162; proto = 17; sport = 4096; dport = 53 }

abbrev no_flow : FlowKey
no_flow = record { version = 0; source = 0; target = 0; proto = 0; sport = 0; dport = 0 }

-- name servers first, and then all others
abbrev servers_first : Resolved
servers_first = record { policy = one_leaf; conditions = alternatives_of (Field Dport 53 53 ∷ []) ∷ [] ∷ [] }

-- the second has another link type, of which no headers are read
packets_from-two_classes :
    packets_from servers_first 1
    (record { link = 101; moment = 1000002000; original = 1500; captured = question } ∷ record { link = 147; moment = 3000; original = 60; captured = question } ∷ [])
    ≡ record { number = 1; class = 0; len = 1500; moment = 1000002000; flow = asked }
    ∷ record { number = 2; class = 1; len = 60; moment = 3000; flow = no_flow } ∷ []
packets_from-two_classes = refl

-- under another link type, version 3 reads the headers and version 1 doesn't
abbrev raw_question : CapturedPacket
raw_question = record { link = 228; moment = 3000; original = 60; captured = question }

packet_of-in_version_3 : packet_of (record servers_first { policy = record one_leaf { version = 3 } }) 1 raw_question ≡ record { number = 1; class = 0; len = 60; moment = 3000; flow = asked }
packet_of-in_version_3 = refl

packet_of-in_version_1 : packet_of servers_first 1 raw_question ≡ record { number = 1; class = 1; len = 60; moment = 3000; flow = no_flow }
packet_of-in_version_1 = refl
