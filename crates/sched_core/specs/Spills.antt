-- The number of nodes of a target at which the pushes of events spill.
use Rattle.std.specs.Prelude.{ℕ, ◌+◌, if◌then◌else◌, Option, None, Some, option_map, List, [], ◌∷◌}
use Rattle.tree_defs.specs.Tree.{Tree, Address}
use Rattle.embed_defs.specs.Spilling.{push_spills}
use Rattle.packet_defs.specs.declared.packet.Packet.{Packet}
use Rattle.policy_defs.specs.Policy.{Policy}
use Rattle.sched_defs.specs.SourceState.{SourceState, class_of, arrival_ranks, is_full, arrived, departed}
use Rattle.sched_defs.specs.Events.{Event, Arrive, Depart}
use Rattle.sched_core.specs.Origins.{Origin, images_of}

-- a count that rose, if it is known
abbrev pub raised : Option ℕ → ℕ → Option ℕ
raised told more = option_map (λ n. n + more) told

-- the number of nodes at which the push of an arrival spills, along the images of the source's
-- nodes, if there are images; a packet that is dropped isn't pushed
abbrev pub arrival_spills : Option (Tree Address) → Policy → Packet → SourceState → ℕ
arrival_spills None policy p s = 0
arrival_spills (Some images) policy p s = if is_full policy p s then 0 else push_spills images s.tree (class_of policy p).leaf (arrival_ranks policy p s)

-- the same along the images in the target that has the queues, if there is one
abbrev pub spills_at : Option Origin → Policy → Packet → SourceState → ℕ
spills_at origin policy p s = arrival_spills (images_of origin) policy p s

-- the spills of all arrivals among events in a row
abbrev pub spills_in : Option (Tree Address) → Policy → List Event → SourceState → ℕ
spills_in images policy [] s = 0
spills_in images policy (Arrive p ∷ events) s = arrival_spills images policy p s + spills_in images policy events (arrived policy p s)
spills_in images policy (Depart start ∷ events) s = spills_in images policy events (departed policy s)
