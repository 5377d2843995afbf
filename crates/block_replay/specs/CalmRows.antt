-- Worked examples of pushes, with two leaves below a root.
use Rattle.std.specs.Prelude.{◌≡◌, refl, ℕ, None, List, [], ◌∷◌, codes}
use Rattle.tree_defs.specs.Tree.{Tree, leaf, inner, none, more, Address}
use Rattle.rank_defs.specs.declared.flow_group.FlowGroup.TheVariants.{FiveTuple}
use Rattle.rank_defs.specs.Builtins.{Builtin, named, fifo, shortest, rr, stfq}
use Rattle.policy_defs.specs.Policy.{Policy, Node, no_marks, no_limits}
use Rattle.embed_defs.specs.Spilling.{push_spills}
use Rattle.sched_defs.specs.SourceState.{SourceState, start, arrival_ranks}
use Rattle.sched_defs.specs.Events.{Event, Arrive, Depart, after}
use Rattle.sched_defs.specs.Rows.{packet}
use Rattle.block_replay.specs.CalmLaws.{NoneSpills}

abbrev pub node_of : Builtin → Node
node_of b = record { name = b.name; using = b.name; program = b.program; marks = no_marks; limits = no_limits; group = FiveTuple }

abbrev pub leaf_node : Tree Node
leaf_node = leaf (node_of (named (codes "fifo") fifo))

-- two classes, each with a leaf below a root of this transaction
abbrev pub pair_by : Builtin → Policy
pair_by b = record {
  version = 1;
  tree = inner (node_of b) (more leaf_node (more leaf_node none));
  classes = record { marks = no_marks; leaf = 0 ∷ [] } ∷ record { marks = no_marks; leaf = 1 ∷ [] } ∷ [];
}

-- laid into the binary tree of height 1
abbrev pub side_by_side : Tree Address
side_by_side = inner [] (more (leaf (0 ∷ [])) (more (leaf (1 ∷ [])) none))

-- a long packet is queued, and a short one of its class arrives
abbrev pub long_waits : Policy → SourceState
long_waits policy = after policy (Arrive (packet 1 1500 0) ∷ []) (start policy)

abbrev pub spills_of_short : Policy → ℕ
spills_of_short policy =
    push_spills side_by_side (long_waits policy).tree (0 ∷ []) (arrival_ranks policy (packet 2 40 0) (long_waits policy))

pub spills_of_short-shortest : spills_of_short (pair_by (named (codes "shortest") shortest)) ≡ 1
spills_of_short-shortest = refl

pub spills_of_short-stfq : spills_of_short (pair_by (named (codes "stfq") stfq)) ≡ 0
spills_of_short-stfq = refl

-- packets of both classes, with a departure between
abbrev pub by_turns : List Event
by_turns = Arrive (packet 1 1500 0) ∷ Arrive (packet 2 40 0) ∷ Depart None ∷ Arrive (record (packet 3 40 0) { class = 1 }) ∷ Arrive (packet 4 40 0) ∷ []

pub NoneSpills-by_turns : NoneSpills side_by_side (pair_by (named (codes "rr") rr)) by_turns (start (pair_by (named (codes "rr") rr)))
NoneSpills-by_turns = (refl, (refl, (refl, (refl, tt))))
