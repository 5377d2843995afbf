-- The flows by which packets are grouped: the packets of one group have equal keys.
use Rattle.std.specs.Prelude.{◌≡◌, refl, [], ◌∷◌, map}
use Rattle.rank_defs.specs.declared.environment.FlowKey.{FlowKey}
use Rattle.rank_defs.specs.declared.flow_group.FlowGroup.{FlowGroup}
use Rattle.rank_defs.specs.declared.flow_group.FlowGroup.TheVariants.{FiveTuple, Source, Target, Hosts}

-- the key of a packet's group, from the packet's own flow: the fields that don't count are 0
abbrev pub grouped : FlowGroup → FlowKey → FlowKey
grouped FiveTuple f = f
grouped Source f = record { version = f.version; source = f.source; target = 0; proto = 0; sport = 0; dport = 0 }
grouped Target f = record { version = f.version; source = 0; target = f.target; proto = 0; sport = 0; dport = 0 }
grouped Hosts f = record { version = f.version; source = f.source; target = f.target; proto = 0; sport = 0; dport = 0 }

abbrev a_flow : FlowKey
a_flow = record { version = 4; source = 1; target = 2; proto = 17; sport = 5; dport = 6 }

-- each group keeps the IP version, and the fields that it is named by
pub groups : map (λ (g : FlowGroup). grouped g a_flow) (FiveTuple ∷ Source ∷ Target ∷ Hosts ∷ []) ≡
    a_flow
    ∷ record { version = 4; source = 1; target = 0; proto = 0; sport = 0; dport = 0 }
    ∷ record { version = 4; source = 0; target = 2; proto = 0; sport = 0; dport = 0 }
    ∷ record { version = 4; source = 1; target = 2; proto = 0; sport = 0; dport = 0 } ∷ []
groups = refl
