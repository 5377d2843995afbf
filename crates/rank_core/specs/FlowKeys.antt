-- The keys of flows.
use Rattle.std.specs.Prelude.{Bool, ◌&&◌, ◌==◌}
use Rattle.rank_defs.specs.declared.environment.FlowKey.{FlowKey}
use Rattle.rank_core.specs.declared.flows.OrderedKey.{OrderedKey}

-- the ordered key of a flow
abbrev pub key_of : FlowKey → OrderedKey
key_of f =
    record { sport = f.sport; dport = f.dport; source = f.source; target = f.target; proto = f.proto; version = f.version }

-- whether a key belongs to the flow
abbrev pub has_key : FlowKey → OrderedKey → Bool
has_key f k =
    f.version == k.version && f.source == k.source && f.target == k.target && f.proto == k.proto && f.sport == k.sport && f.dport == k.dport
