-- The limits and flow groups of leaves and nodes, and their settings.
use Rattle.std.specs.Prelude.{◌≡◌, refl, ℕ, Bool, true, false, ◌&&◌, [], ◌∷◌, map, Option, Some, None}
use Rattle.rank_defs.specs.declared.flow_group.FlowGroup.{FlowGroup}
use Rattle.rank_defs.specs.declared.flow_group.FlowGroup.TheVariants.{Hosts}
use Rattle.policy_text_defs.specs.declared.attribute.Attrs.{Attrs}
use Rattle.policy_text_defs.specs.declared.queueing.Queueing.{Queueing}
use Rattle.policy_text_defs.specs.declared.queueing.Bound.{Bound}
use Rattle.policy_text_defs.specs.declared.queueing.Bound.TheVariants as bound
use Rattle.policy_text_defs.specs.declared.setting.Settings.{Settings}

-- no limit, and no flow group
abbrev pub no_queueing : Queueing
no_queueing = record { packets = None; bytes = None; per_flow = None; by = None }

-- a limit in packets alone, if there is one
abbrev pub only_packets : Option ℕ → Queueing
only_packets limit = record { packets = limit; bytes = None; per_flow = None; by = None }

-- a limit, by what it counts
abbrev pub bound_value : Bound → Queueing → Option ℕ
bound_value bound.Packets q = q.packets
bound_value bound.Bytes q = q.bytes
bound_value bound.PerFlow q = q.per_flow

abbrev pub with_bound : Bound → ℕ → Queueing → Queueing
with_bound bound.Packets n q = record q { packets = Some n }
with_bound bound.Bytes n q = record q { bytes = Some n }
with_bound bound.PerFlow n q = record q { per_flow = Some n }

abbrev pub with_group : FlowGroup → Queueing → Queueing
with_group g q = record q { by = Some g }

abbrev pub is_open : {A : Type 0} → Option A → Bool
is_open None = true
is_open (Some a) = false

-- a limit in packets is all that is given, if anything is
abbrev pub has_only_packets : Queueing → Bool
has_only_packets q = is_open q.bytes && (is_open q.per_flow && is_open q.by)

-- nothing is given
abbrev pub has_nothing : Queueing → Bool
has_nothing q = is_open q.packets && has_only_packets q

abbrev pub settings_of : Attrs → Queueing → Settings
settings_of a q = record { attrs = a; queueing = q }

abbrev pub with_attrs : Attrs → Settings → Settings
with_attrs a s = settings_of a s.queueing

-- the settings with this limit
abbrev pub with_limit : Bound → ℕ → Settings → Settings
with_limit b n s = settings_of s.attrs (with_bound b n s.queueing)

-- the settings with this flow group
abbrev pub with_flow : FlowGroup → Settings → Settings
with_flow g s = settings_of s.attrs (with_group g s.queueing)

limits_are_set_alone : with_bound bound.Bytes 1500 (only_packets (Some 4)) ≡ record { packets = Some 4; bytes = Some 1500; per_flow = None; by = None }
limits_are_set_alone = refl

packets_alone : map has_only_packets (no_queueing ∷ only_packets (Some 4) ∷ with_bound bound.Bytes 4 no_queueing ∷ with_bound bound.PerFlow 4 no_queueing ∷ with_group Hosts no_queueing ∷ []) ≡ true ∷ true ∷ false ∷ false ∷ false ∷ []
packets_alone = refl

nothing_at_all : map has_nothing (no_queueing ∷ only_packets (Some 4) ∷ with_group Hosts no_queueing ∷ []) ≡ true ∷ false ∷ false ∷ []
nothing_at_all = refl
