-- Sizes of runs, worked by hand from the definitions of size_core.
use Rattle.std.specs.Prelude.{◌≡◌, refl, ℕ, true, false, None, Some, Option, option_map, filter_map, map, List, [], ◌∷◌, codes}
use Rattle.tree_defs.specs.Tree.{Tree, leaf, inner, none, more, Address}
use Rattle.packet_defs.specs.declared.packet.Packet.{Packet}
use Rattle.rank_defs.specs.Builtins.{fifo}
use Rattle.policy_defs.specs.Policy.{Policy, Class, no_marks}
use Rattle.sched_defs.specs.Rows.{packet, node}
use Rattle.sched_defs.specs.Events.{Outcome, Arrived, Departed, Dropped}
use Rattle.embed_defs.specs.Lift.{with_transit}
use Rattle.sched_embedded.specs.Laid.{Laid}
use Rattle.size_core.specs.declared.limits.Limits.{Limits}
use Rattle.size_core.specs.Places.{places}
use Rattle.size_core.specs.Sizes.{Crossing, Sized, sizes_after, with_pushes}
use Rattle.size_core.specs.Stores.{Stores}
use Rattle.size_core.specs.Use.{Use}

abbrev no_limits : Limits
no_limits = record { entries = None; bits = None }

abbrev of_class : ℕ → ℕ → Packet
of_class n c = record (packet n 1500 0) { class = c }

abbrev class_to : Address → Class
class_to a = record { marks = no_marks; leaf = a }

-- pushes, most entries, greatest rank and span of each node, with its address
abbrev Row : Type 0
Row = Address × ℕ × ℕ × ℕ × ℕ

abbrev row_of : Address → Use → Row
row_of b u = (b, u.pushes, u.most, u.top, u.span)

abbrev rows_in : Laid → Policy → Sized → List Row
rows_in l policy s = map (λ b. row_of b (s.uses b)) (with_pushes s.uses (places l policy))

abbrev rows_of : Laid → Policy → List Outcome → List Row
rows_of l policy os = rows_in l policy (sizes_after l policy no_limits false 1 os)

-- the first push that passes a limit: the event, the packet, the node
abbrev first_crossing : Limits → Laid → Policy → List Outcome → Option (ℕ × ℕ × Address)
first_crossing limits l policy os = option_map (λ (c : Crossing). (c.event, c.packet, c.address)) (sizes_after l policy limits false 1 os).crossing

-- the use of the rank stores of each node with a push
abbrev stores_in : Laid → Policy → Sized → List (ℕ × ℕ × ℕ × ℕ)
stores_in l policy s = filter_map (λ b. option_map (λ (u : Stores). (u.most.heads, u.most.stored, u.most.spilled, u.most.spills)) (s.uses b).stores) (with_pushes s.uses (places l policy))

abbrev stores_of : Laid → Policy → List Outcome → List (ℕ × ℕ × ℕ × ℕ)
stores_of l policy os = stores_in l policy (sizes_after l policy no_limits true 1 os)

-- ---- three classes
-- a leaf, and a node with two leaves
abbrev three_classes : Policy
three_classes = record {
  version = 1;
  tree = inner (node (codes "root") fifo) (more (leaf (node (codes "a") fifo)) (more (inner (node (codes "bc") fifo) (more (leaf (node (codes "b") fifo)) (more (leaf (node (codes "c") fifo)) none))) none));
  classes = class_to (0 ∷ []) ∷ class_to (1 ∷ 0 ∷ []) ∷ class_to (1 ∷ 1 ∷ []) ∷ [];
}

-- The last two arrivals tie at the root. The second packet's entry has the root's least rank, but
-- the third packet departs, because it has the lower rank at the node.
abbrev four_came : List Outcome
four_came = Arrived (of_class 1 0) [] (5 ∷ 9 ∷ []) ∷ Arrived (of_class 2 1) [] (3 ∷ 7 ∷ 4 ∷ []) ∷ Arrived (of_class 3 1) [] (8 ∷ 6 ∷ 2 ∷ [])
    ∷ Arrived (of_class 4 2) [] (8 ∷ 10 ∷ 1 ∷ []) ∷ Dropped (of_class 5 2) [] ∷ Departed (of_class 3 1) [] (3 ∷ 6 ∷ 2 ∷ []) None ∷ []

-- in a binary target of height 3; 0 and 0 1 are transit nodes
abbrev binary : Laid
binary = record { images = with_transit; arities = 2 ∷ 2 ∷ 2 ∷ [] }

sizes-binary : rows_of binary three_classes four_came
    ≡ ([], 4, 4, 8, 5) ∷ (0 ∷ [], 4, 4, 8, 5) ∷ (0 ∷ 1 ∷ [], 1, 1, 5, 0) ∷ (0 ∷ 1 ∷ 0 ∷ [], 1, 1, 9, 0)
    ∷ (0 ∷ 0 ∷ [], 3, 3, 10, 4) ∷ (0 ∷ 0 ∷ 0 ∷ [], 2, 2, 4, 2) ∷ (0 ∷ 0 ∷ 1 ∷ [], 1, 1, 1, 0) ∷ []
sizes-binary = refl

-- The root has one store, in which rank 3 spills. The node 0 has one store for the leaf and one for
-- the node.
stores-binary : stores_of binary three_classes four_came
    ≡ (1, 3, 1, 1) ∷ (2, 3, 0, 0) ∷ (1, 1, 0, 0) ∷ (1, 1, 0, 0) ∷ (2, 1, 1, 1) ∷ (1, 1, 1, 1) ∷ (1, 1, 0, 0) ∷ []
stores-binary = refl

-- the third push is one entry too many for the root, and rank 9 doesn't fit in 3 bits at the leaf
crossing-entries : first_crossing (record { entries = Some 2; bits = None }) binary three_classes four_came ≡ Some (3, 3, [])
crossing-entries = refl

crossing-bits : first_crossing (record { entries = Some 2; bits = Some 3 }) binary three_classes four_came ≡ Some (1, 1, 0 ∷ 1 ∷ 0 ∷ [])
crossing-bits = refl

crossing-none : first_crossing (record { entries = Some 4; bits = Some 4 }) binary three_classes four_came ≡ None
crossing-none = refl

-- in a target of arity 4 and height 2; 1 is a transit node
abbrev of_four : Laid
of_four = record {
  images = inner [] (more (leaf (1 ∷ 0 ∷ [])) (more (inner (0 ∷ []) (more (leaf (0 ∷ 0 ∷ [])) (more (leaf (0 ∷ 3 ∷ [])) none))) none));
  arities = 4 ∷ 4 ∷ [];
}

sizes-of_four : rows_of of_four three_classes four_came
    ≡ ([], 4, 4, 8, 5) ∷ (1 ∷ [], 1, 1, 5, 0) ∷ (1 ∷ 0 ∷ [], 1, 1, 9, 0) ∷ (0 ∷ [], 3, 3, 10, 4) ∷ (0 ∷ 0 ∷ [], 2, 2, 4, 2) ∷ (0 ∷ 3 ∷ [], 1, 1, 1, 0) ∷ []
sizes-of_four = refl

-- ---- the office of examples/office
abbrev four : {A : Type 0} → A → Tree A → Tree A → Tree A → Tree A → Tree A
four a s t u v = inner a (more s (more t (more u (more v none))))

abbrev office : Policy
office = record {
  version = 1;
  tree = inner (node (codes "root") fifo) (more
      (four (node (codes "urgent") fifo) (leaf (node (codes "voice") fifo)) (leaf (node (codes "video") fifo)) (leaf (node (codes "ssh") fifo)) (leaf (node (codes "dns") fifo)))
      (more (four (node (codes "normal") fifo) (leaf (node (codes "web") fifo)) (leaf (node (codes "mail") fifo)) (leaf (node (codes "backup") fifo)) (leaf (node (codes "other") fifo))) none));
  classes = class_to (0 ∷ 0 ∷ []) ∷ class_to (0 ∷ 1 ∷ []) ∷ class_to (0 ∷ 2 ∷ []) ∷ class_to (0 ∷ 3 ∷ [])
      ∷ class_to (1 ∷ 0 ∷ []) ∷ class_to (1 ∷ 1 ∷ []) ∷ class_to (1 ∷ 2 ∷ []) ∷ class_to (1 ∷ 3 ∷ []) ∷ [];
}

abbrev office_laid : Laid
office_laid = record {
  images = inner [] (more
      (four (0 ∷ 0 ∷ []) (leaf (0 ∷ 0 ∷ 0 ∷ [])) (leaf (0 ∷ 0 ∷ 1 ∷ [])) (leaf (0 ∷ 0 ∷ 2 ∷ [])) (leaf (0 ∷ 0 ∷ 3 ∷ [])))
      (more (four (0 ∷ 1 ∷ []) (leaf (0 ∷ 1 ∷ 0 ∷ [])) (leaf (0 ∷ 1 ∷ 1 ∷ [])) (leaf (0 ∷ 1 ∷ 2 ∷ [])) (leaf (0 ∷ 1 ∷ 3 ∷ []))) none));
  arities = 4 ∷ 4 ∷ 4 ∷ [];
}

-- the events of examples/office/report
abbrev office_run : List Outcome
office_run =
    Arrived (of_class 1 4) [] (1 ∷ 0 ∷ 0 ∷ []) ∷ Arrived (of_class 2 4) [] (1 ∷ 375000 ∷ 1500000 ∷ []) ∷ Arrived (of_class 3 0) [] (0 ∷ 0 ∷ 0 ∷ [])
    ∷ Arrived (of_class 4 4) [] (1 ∷ 750000 ∷ 0 ∷ []) ∷ Arrived (of_class 5 7) [] (1 ∷ 0 ∷ 0 ∷ []) ∷ Departed (of_class 3 0) [] (0 ∷ 0 ∷ 0 ∷ []) None ∷ Departed (of_class 1 4) [] (1 ∷ 0 ∷ 0 ∷ []) None
    ∷ Arrived (of_class 6 3) [] (0 ∷ 0 ∷ 0 ∷ []) ∷ Arrived (of_class 7 6) [] (1 ∷ 0 ∷ 0 ∷ []) ∷ Arrived (of_class 8 1) [] (0 ∷ 0 ∷ 0 ∷ []) ∷ Departed (of_class 6 3) [] (0 ∷ 0 ∷ 0 ∷ []) None
    ∷ Departed (of_class 8 1) [] (0 ∷ 0 ∷ 0 ∷ []) None ∷ Departed (of_class 5 7) [] (1 ∷ 0 ∷ 0 ∷ []) None ∷ Departed (of_class 7 6) [] (1 ∷ 0 ∷ 0 ∷ []) None
    ∷ Departed (of_class 4 4) [] (1 ∷ 375000 ∷ 0 ∷ []) None ∷ Departed (of_class 2 4) [] (1 ∷ 750000 ∷ 1500000 ∷ []) None ∷ []

sizes-office : rows_of office_laid office office_run
    ≡ ([], 8, 6, 1, 1) ∷ (0 ∷ [], 8, 6, 1, 1) ∷ (0 ∷ 0 ∷ [], 3, 2, 0, 0) ∷ (0 ∷ 0 ∷ 0 ∷ [], 1, 1, 0, 0) ∷ (0 ∷ 0 ∷ 1 ∷ [], 1, 1, 0, 0) ∷ (0 ∷ 0 ∷ 3 ∷ [], 1, 1, 0, 0)
    ∷ (0 ∷ 1 ∷ [], 5, 4, 750000, 750000) ∷ (0 ∷ 1 ∷ 0 ∷ [], 3, 3, 1500000, 1500000) ∷ (0 ∷ 1 ∷ 2 ∷ [], 1, 1, 0, 0) ∷ (0 ∷ 1 ∷ 3 ∷ [], 1, 1, 0, 0) ∷ []
sizes-office = refl
