-- What taps are shown of a run: each packet that departed, and each that was dropped.
use Rattle.std.specs.Prelude.{ℕ, List, [], ◌∷◌, ◌++◌}
use Rattle.tree_defs.specs.Tree.{Address}
use Rattle.packet_defs.specs.declared.packet.Packet.{Packet}
use Rattle.packet_defs.specs.declared.packet.Departed.{Departed}
use Rattle.policy_defs.specs.Policy.{Policy}
use Rattle.policy_defs.specs.Numbers.{number_at}
use Rattle.sched_defs.specs.Events as events
use Rattle.tap_core.specs.declared.kinds.Dropped.{Dropped}
use Rattle.tap_core.specs.Lists.{Shown, departed, dropped}

-- a packet that departed from a leaf
abbrev pub gone : Policy → Packet → Address → Departed
gone policy p a = record { packet = p.number; class = p.class; leaf = number_at policy.tree a; len = p.len }

-- a packet that was dropped at a leaf
abbrev pub lost : Policy → Packet → Address → Dropped
lost policy p a = record { packet = p.number; class = p.class; leaf = number_at policy.tree a; len = p.len }

-- a packet that was dropped at the leaf with a number
abbrev pub drop_of : Packet → ℕ → Dropped
drop_of p leaf = record { packet = p.number; class = p.class; leaf = leaf; len = p.len }

-- a packet that departed, by its number, class, leaf and length
abbrev pub departure_of : ℕ → ℕ → ℕ → ℕ → Departed
departure_of packet class leaf len = record { packet = packet; class = class; leaf = leaf; len = len }

abbrev pub shown_of : Policy → events.Outcome → List Shown
shown_of policy (events.Arrived p a ranks) = []
shown_of policy (events.Departed p a ranks start) = departed (gone policy p a) ∷ []
shown_of policy (events.Dropped p a) = dropped (lost policy p a) ∷ []
shown_of policy events.Empty = []

abbrev pub shown_in : Policy → List events.Outcome → List Shown
shown_in policy [] = []
shown_in policy (o ∷ os) = shown_of policy o ++ shown_in policy os
