-- Worked examples of runs through a fabric.
use Rattle.std.specs.Prelude.{◌≡◌, refl, None, Some, List, [], ◌∷◌}
use Rattle.tree_defs.specs.Tree.{Tree, leaf, inner, none, more, Address}
use Rattle.sched_defs.specs.SourceState.{start}
use Rattle.sched_defs.specs.Events.{Event, Arrive, Depart, pushed_in, asked_in}
use Rattle.sched_defs.specs.Rows.{packet, in_turn, inversion, one_leaf_limited}
use Rattle.sched_core.specs.Spills.{raised, spills_in}
use Rattle.sched_embedded.specs.Laid.{leaf_of}
use Rattle.sched_embedded.specs.Fabrics.{FabricRun, outcomes_of}

-- ---- leaves of classes
pub leaf_of-second_class : leaf_of in_turn 1 ≡ 1 ∷ []
leaf_of-second_class = refl

pub leaf_of-no_such_class : leaf_of in_turn 2 ≡ []
leaf_of-no_such_class = refl

-- ---- pushes and pops of a fabric
-- a leaf with a limit of one packet: the second packet is dropped, and the last two departures find
-- nothing
abbrev pub one_dropped : FabricRun
one_dropped = record {
  policy = one_leaf_limited;
  laid = record { images = leaf []; arities = [] };
  events = Arrive (packet 1 4 1) ∷ Arrive (packet 2 4 2) ∷ Depart None ∷ Depart None ∷ Depart None ∷ [];
}

pub pushed_in-one_dropped : pushed_in (outcomes_of one_dropped) ≡ 1
pushed_in-one_dropped = refl

pub asked_in-one_dropped : asked_in (outcomes_of one_dropped) ≡ 3
asked_in-one_dropped = refl

-- ---- spills
-- one leaf below the root, laid two levels below it: the root's entries pass through a transit node
abbrev pub through : Tree Address
through = inner [] (more (leaf (0 ∷ 1 ∷ [])) none)

-- the second packet has a lower rank than the first at the root and a greater one at the leaf
abbrev pub two_come : List Event
two_come = Arrive (packet 1 100 0) ∷ Arrive (packet 2 60 1) ∷ []

pub spills_in-root_and_transit_node : raised (Some 5) (spills_in (Some through) inversion two_come (start inversion)) ≡ Some 7
spills_in-root_and_transit_node = refl

pub spills_in-not_told : raised None (spills_in (Some through) inversion two_come (start inversion)) ≡ None
spills_in-not_told = refl
