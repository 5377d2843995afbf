-- The flow of a packet.
use Rattle.std.specs.Prelude.{unwrap_or}
use Rattle.rank_defs.specs.declared.environment.FlowKey.{FlowKey}
use Rattle.packet_defs.specs.declared.fields.Fields.{Fields}

-- its version, addresses, protocol and ports, each 0 if absent; so all packets without an IP header
-- are one flow
abbrev pub flow_of : Fields → FlowKey
flow_of fields = record {
  version = unwrap_or fields.version 0;
  source = unwrap_or fields.source 0;
  target = unwrap_or fields.target 0;
  proto = unwrap_or fields.proto 0;
  sport = unwrap_or fields.sport 0;
  dport = unwrap_or fields.dport 0;
}
