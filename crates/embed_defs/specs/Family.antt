-- The queues of a complete tree as a family: one queue for each address.
use Rattle.std.specs.Prelude.{◌≡◌, refl, ℕ, zero, suc, ◌-◌, ◌<◌, ◌≤◌, List, [], ◌∷◌, length, Option, Some, option_map, nat_eq, slice_index, drop, if◌then◌else◌}
use Rattle.std.specs.List.{AllByRecursion}
use Rattle.tree_defs.specs.Queue.{Queue, put, take_least, Taking}
use Rattle.tree_defs.specs.Tree.{Popping, option_bind}

-- the digits of a node, from the root down
abbrev pub Address : Type 0
Address = List ℕ

abbrev pub Family : Type 0
Family = Address → Queue

-- the queues of the subtree below a digit
abbrev pub below : Family → ℕ → Family
below F x b = F (x ∷ b)

-- A push along an address. Each proper prefix of the address gets a rank and the next digit; the
-- address itself gets the last rank and the item.
abbrev pub push_along : Address → List ℕ → ℕ → Family → Family
push_along [] ranks item F [] = put (F []) (slice_index ranks 0) item
push_along [] ranks item F (y ∷ b) = F (y ∷ b)
push_along (x ∷ a) ranks item F [] = put (F []) (slice_index ranks 0) x
push_along (x ∷ a) ranks item F (y ∷ b) = if nat_eq x y then push_along a (drop 1 ranks) item (below F x) b else F (y ∷ b)

-- the family with the queue at its root replaced
abbrev pub with_root : Family → Queue → Family
with_root F q [] = q
with_root F q (y ∷ b) = F (y ∷ b)

-- the family with the queue at its root and the queues below one digit replaced
abbrev pub with_branch : Family → Queue → ℕ → Family → Family
with_branch F q x G [] = q
with_branch F q x G (y ∷ b) = if nat_eq x y then G b else F (y ∷ b)

abbrev pub popped_last : Family → Taking → Popping Family
popped_last F e = record { value = e.value; digits = []; ranks = e.rank ∷ []; left = with_root F e.rest }

abbrev pub popped_digit : Family → Taking → Popping Family → Popping Family
popped_digit F e p = record { value = p.value; digits = e.value ∷ p.digits; ranks = e.rank ∷ p.ranks; left = with_branch F e.rest e.value p.left }

-- a pop of a complete tree of this height: each value popped at an inner node is the next digit,
-- down to a leaf
abbrev pub pop_along : ℕ → Family → Option (Popping Family)
pop_along zero F = option_map (popped_last F) (take_least (F []))
pop_along (suc h) F = option_bind (take_least (F [])) (λ e. option_map (popped_digit F e) (pop_along h (below F e.value)))

-- all queues are empty
abbrev pub IsEmpty : Family → Type 0
IsEmpty F = (b : Address) → F b ≡ []

-- two families with equal queues
abbrev pub SameQueues : Family → Family → Type 0
SameQueues F G = (b : Address) → F b ≡ G b

-- A pop gives v along these digits and ranks, and leaves G.
pub record Pops (height : ℕ) (F : Family) (v : ℕ) (digits ranks : List ℕ) (G : Family) : Type 0 where
  pub taken : Popping Family
  pub popped : pop_along height F ≡ Some taken
  pub value : taken.value ≡ v
  pub digits_are : taken.digits ≡ digits
  pub ranks_are : taken.ranks ≡ ranks
  pub left : SameQueues G taken.left

-- the same for the complete tree of these arities
abbrev pub PopsFrom : List ℕ → Family → ℕ → List ℕ → List ℕ → Family → Type 0
PopsFrom arities = Pops (length arities)

-- the address of a leaf of the complete tree of these arities: one digit for each level, below the
-- level's arity
abbrev pub IsLeafAddress : List ℕ → Address → Type 0
IsLeafAddress [] [] = Unit {0}
IsLeafAddress [] (x ∷ a) = ⊥
IsLeafAddress (d ∷ arities) [] = ⊥
IsLeafAddress (d ∷ arities) (x ∷ a) = (x < d) × IsLeafAddress arities a

-- at least one free slot at each node on the path to an address
abbrev pub HasRoomAlong : (Address → ℕ) → Address → Type 0
HasRoomAlong room [] = 0 < room []
HasRoomAlong room (x ∷ a) = (0 < room []) × HasRoomAlong (λ b. room (x ∷ b)) a

-- one free slot fewer at each node on the path to an address, and the same number elsewhere
abbrev pub less_room_along : Address → (Address → ℕ) → Address → ℕ
less_room_along [] room [] = room [] - 1
less_room_along [] room (y ∷ b) = room (y ∷ b)
less_room_along (x ∷ a) room [] = room [] - 1
less_room_along (x ∷ a) room (y ∷ b) = if nat_eq x y then less_room_along a (λ c. room (x ∷ c)) b else room (y ∷ b)

-- the same number of free slots at each address
abbrev pub SameRoom : (Address → ℕ) → (Address → ℕ) → Type 0
SameRoom room other = (b : Address) → room b ≡ other b

-- the second has at least as many free slots at each address
abbrev pub HasNoLessRoom : (Address → ℕ) → (Address → ℕ) → Type 0
HasNoLessRoom room other = (b : Address) → room b ≤ other b

-- the greatest rank that a fabric accepts, 2^62 - 1
abbrev pub most_rank : ℕ
most_rank = 4611686018427387903

-- each rank is at most `most_rank`
abbrev pub AreRanks : List ℕ → Type 0
AreRanks ranks = AllByRecursion (λ r. r ≤ most_rank) ranks

-- packet 7 is pushed along digit 1 with rank 5 at the root, and popped again
abbrev pub two_levels : Family
two_levels = push_along (1 ∷ []) (5 ∷ 2 ∷ []) 7 (λ _. [])

pub push_along-root : two_levels [] ≡ (5, 1) ∷ []
push_along-root = refl

pub push_along-leaf : two_levels (1 ∷ []) ≡ (2, 7) ∷ []
push_along-leaf = refl

pub push_along-beside : two_levels (0 ∷ []) ≡ []
push_along-beside = refl

abbrev pub shown : Popping Family → Popping Queue
shown p = record { value = p.value; digits = p.digits; ranks = p.ranks; left = p.left (1 ∷ []) }

pub pop_along-two_levels : option_map shown (pop_along 1 two_levels) ≡ Some (record { value = 7; digits = 1 ∷ []; ranks = 5 ∷ 2 ∷ []; left = [] })
pop_along-two_levels = refl

-- Each node has three free slots; a push along digit 1 takes one at the root and one at that child.
abbrev pub three_places : Address → ℕ
three_places = less_room_along (1 ∷ []) (λ _. 3)

pub less_room_along-root : three_places [] ≡ 2
less_room_along-root = refl

pub less_room_along-leaf : three_places (1 ∷ []) ≡ 2
less_room_along-leaf = refl

pub less_room_along-beside : three_places (0 ∷ []) ≡ 3
less_room_along-beside = refl

pub less_room_along-beyond : three_places (1 ∷ 1 ∷ []) ≡ 3
less_room_along-beyond = refl
