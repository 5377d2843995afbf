-- The queues of a complete tree in one array, level by level from the root. Take the node at index
-- `place` of its level, and let d be the level's arity. Its child x is at index `place` * d + x of
-- the next level.
use Rattle.std.specs.Prelude.{◌≡◌, refl, ℕ, ◌+◌, ◌*◌, List, [], ◌∷◌, Option, Some, None, option_map, nat_lt, slice_index, slice_index_or, slice_set, drop, if◌then◌else◌}
use Rattle.tree_defs.specs.Queue.{Queue, Taking, put, take_least}
use Rattle.tree_defs.specs.Tree.{Popping, option_bind}
use Rattle.embed_defs.specs.Family.{Address, Family, SameRoom, HasNoLessRoom, less_room_along}

-- the number of nodes of the complete tree of these arities
abbrev pub nodes : List ℕ → ℕ
nodes [] = 1
nodes (d ∷ arities) = 1 + d * nodes arities

-- The array's item for each address below a node. The node's level begins at an index of the array
-- and has a width; the node is at index `place` of its level.
abbrev pub read : {A : Type 0} → List ℕ → List A → A → ℕ → ℕ → ℕ → Address → A
read [] items none begin width place [] = slice_index_or items (begin + place) none
read [] items none begin width place (x ∷ b) = none
read (d ∷ arities) items none begin width place [] = slice_index_or items (begin + place) none
read (d ∷ arities) items none begin width place (x ∷ b) = if nat_lt x d then read arities items none (begin + width) (width * d) (place * d + x) b else none

abbrev pub queues_at : List ℕ → List Queue → ℕ → ℕ → ℕ → Family
queues_at arities queues = read arities queues []

abbrev pub room_at : List ℕ → List ℕ → ℕ → ℕ → ℕ → Address → ℕ
room_at arities spare = read arities spare 0

abbrev pub flows_at : List ℕ → List ℕ → ℕ → ℕ → ℕ → Address → ℕ
flows_at arities flows = read arities flows 0

-- ---- pushes
abbrev pub put_at : List Queue → ℕ → ℕ → ℕ → List Queue
put_at queues n rank value = slice_set queues n (put (slice_index_or queues n []) rank value)

abbrev pub array_push : List ℕ → List Queue → ℕ → ℕ → ℕ → Address → List ℕ → ℕ → List Queue
array_push [] queues begin width place a ranks item = put_at queues (begin + place) (slice_index ranks 0) item
array_push (d ∷ arities) queues begin width place [] ranks item = queues
array_push (d ∷ arities) queues begin width place (x ∷ a) ranks item =
    array_push arities (put_at queues (begin + place) (slice_index ranks 0) x) (begin + width) (width * d) (place * d + x) a (drop 1 ranks) item

-- ---- pops
abbrev pub of_last : List Queue → ℕ → Taking → Popping (List Queue)
of_last queues n e = record { value = e.value; digits = []; ranks = e.rank ∷ []; left = slice_set queues n e.rest }

abbrev pub of_digit : Taking → Popping (List Queue) → Popping (List Queue)
of_digit e p = record { value = p.value; digits = e.value ∷ p.digits; ranks = e.rank ∷ p.ranks; left = p.left }

abbrev pub array_pop : List ℕ → List Queue → ℕ → ℕ → ℕ → Option (Popping (List Queue))
array_pop [] queues begin width place = option_map (of_last queues (begin + place)) (take_least (slice_index_or queues (begin + place) []))
array_pop (d ∷ arities) queues begin width place =
    option_bind (take_least (slice_index_or queues (begin + place) []))
    (λ e. option_map (of_digit e) (array_pop arities (slice_set queues (begin + place) e.rest) (begin + width) (width * d) (place * d + e.value)))

-- a pop from the root gives v along these digits and ranks, and leaves these queues
abbrev pub ArrayPops : List ℕ → List Queue → ℕ → List ℕ → List ℕ → List Queue → Type 0
ArrayPops arities queues v digits ranks left =
    array_pop arities queues 0 1 0 ≡ Some (record { value = v; digits = digits; ranks = ranks; left = left })

-- ---- free slots
-- no node has fewer free slots
abbrev pub ArrayKeepsRoom : List ℕ → List ℕ → List ℕ → Type 0
ArrayKeepsRoom arities old new = HasNoLessRoom (room_at arities old 0 1 0) (room_at arities new 0 1 0)

-- each node on the path to an address has one free slot fewer; all other nodes have the same number
-- as before
abbrev pub ArrayTakesRoom : List ℕ → Address → List ℕ → List ℕ → Type 0
ArrayTakesRoom arities a old new = SameRoom (room_at arities new 0 1 0) (less_room_along a (room_at arities old 0 1 0))

-- ---- a root with two children, and three leaves below each
pub nodes-two_by_three : nodes (2 ∷ 3 ∷ []) ≡ 9
nodes-two_by_three = refl

pub nodes-widest : nodes (64 ∷ 64 ∷ 16 ∷ []) ≡ 69697
nodes-widest = refl

abbrev pub numbered : List ℕ
numbered = 0 ∷ 1 ∷ 2 ∷ 3 ∷ 4 ∷ 5 ∷ 6 ∷ 7 ∷ 8 ∷ []

pub read-second_child : read (2 ∷ 3 ∷ []) numbered 99 0 1 0 (1 ∷ []) ≡ 2
read-second_child = refl

pub read-its_first_leaf : read (2 ∷ 3 ∷ []) numbered 99 0 1 0 (1 ∷ 0 ∷ []) ≡ 6
read-its_first_leaf = refl

pub read-no_such_leaf : read (2 ∷ 3 ∷ []) numbered 99 0 1 0 (0 ∷ 3 ∷ []) ≡ 99
read-no_such_leaf = refl

-- ---- pushes and pops of the same tree: the root, two nodes, and three leaves below each
abbrev pub nine : List Queue
nine = [] ∷ [] ∷ [] ∷ [] ∷ [] ∷ [] ∷ [] ∷ [] ∷ [] ∷ []

-- packet 40 goes to the last leaf, packet 41 to the first leaf, and packet 42 to a leaf with the
-- same parent as packet 40's
abbrev pub one_pushed : List Queue
one_pushed = array_push (2 ∷ 3 ∷ []) nine 0 1 0 (1 ∷ 2 ∷ []) (5 ∷ 7 ∷ 9 ∷ []) 40

abbrev pub two_pushed : List Queue
two_pushed = array_push (2 ∷ 3 ∷ []) one_pushed 0 1 0 (0 ∷ 0 ∷ []) (5 ∷ 1 ∷ 1 ∷ []) 41

pub array_push-each_depth : one_pushed ≡ ((5, 1) ∷ []) ∷ [] ∷ ((7, 2) ∷ []) ∷ [] ∷ [] ∷ [] ∷ [] ∷ [] ∷ ((9, 40) ∷ []) ∷ []
array_push-each_depth = refl

pub array_push-last_of_its_rank : two_pushed ≡ ((5, 1) ∷ (5, 0) ∷ []) ∷ ((1, 0) ∷ []) ∷ ((7, 2) ∷ []) ∷ ((1, 41) ∷ []) ∷ [] ∷ [] ∷ [] ∷ [] ∷ ((9, 40) ∷ []) ∷ []
array_push-last_of_its_rank = refl

-- Ranks tie at the root and at its second child. At each, the first to arrive is popped, whatever
-- the ranks below.
pub array_pop-ties :
    array_pop (2 ∷ 3 ∷ []) (array_push (2 ∷ 3 ∷ []) two_pushed 0 1 0 (1 ∷ 0 ∷ []) (5 ∷ 7 ∷ 1 ∷ []) 42) 0 1 0
    ≡ Some (record {
      value = 40;
      digits = 1 ∷ 2 ∷ [];
      ranks = 5 ∷ 7 ∷ 9 ∷ [];
      left = ((5, 0) ∷ (5, 1) ∷ []) ∷ ((1, 0) ∷ []) ∷ ((7, 0) ∷ []) ∷ ((1, 41) ∷ []) ∷ [] ∷ [] ∷ ((1, 42) ∷ []) ∷ [] ∷ [] ∷ [];
    })
array_pop-ties = refl

-- The root's entry was pushed with packet 40, but packet 42 departs, because it has the lower rank
-- at the child.
pub array_pop-another_packet :
    array_pop (2 ∷ 3 ∷ []) (array_push (2 ∷ 3 ∷ []) two_pushed 0 1 0 (1 ∷ 0 ∷ []) (6 ∷ 3 ∷ 10 ∷ []) 42) 0 1 0
    ≡ Some (record {
      value = 42;
      digits = 1 ∷ 0 ∷ [];
      ranks = 5 ∷ 3 ∷ 10 ∷ [];
      left = ((5, 0) ∷ (6, 1) ∷ []) ∷ ((1, 0) ∷ []) ∷ ((7, 2) ∷ []) ∷ ((1, 41) ∷ []) ∷ [] ∷ [] ∷ [] ∷ [] ∷ ((9, 40) ∷ []) ∷ [];
    })
array_pop-another_packet = refl

pub array_pop-nothing : array_pop (2 ∷ 3 ∷ []) nine 0 1 0 ≡ None
array_pop-nothing = refl
