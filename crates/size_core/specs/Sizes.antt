-- How large the queues of a target get in a run, address by address.
use Rattle.std.specs.Prelude.{◌≡◌, ◌<◌, ℕ, ◌+◌, ◌*◌, Bool, true, false, if◌then◌else◌, nat_eq, nat_lt, filter, Option, None, Some, option_map, MatchOption, IfSome, List, [], ◌∷◌, ◌++◌, map, length, drop, slice_get, slice_index, slice_index_or}
use Rattle.std.specs.Option.{option_map_or}
use Rattle.tree_defs.specs.Queue.{Entry}
use Rattle.tree_defs.specs.Tree.{Address, IsAddressOf}
use Rattle.policy_defs.specs.Policy.{Policy, name_at}
use Rattle.sched_defs.specs.Events as run
use Rattle.embed_defs.specs.Images.{image_map}
use Rattle.embed_defs.specs.Lift.{lift_ranks}
use Rattle.sched_embedded.specs.Laid.{Laid, leaf_of}
use Rattle.size_core.specs.declared.limits.Limits.{Limits}
use Rattle.size_core.specs.declared.limits.Limit.{Limit}
use Rattle.size_core.specs.declared.limits.Overflow.{Overflow}
use Rattle.size_core.specs.declared.size.NodeSize.{NodeSize}
use Rattle.size_core.specs.declared.size.StoreUse.{StoreUse}
use Rattle.size_core.specs.declared.size.Sizes as size
use Rattle.size_core.specs.Stores.{Stores, no_stores}
use Rattle.size_core.specs.Use.{Use, unused, pushed, popped}
use Rattle.size_core.specs.Limits.{passes, first_of}
use Rattle.size_core.specs.Places.{places}

-- the first push that passed a limit: the event's number, the packet's number, the node's address
pub record Crossing : Type 0 where
  pub event : ℕ
  pub packet : ℕ
  pub address : Address
  pub limit : Limit

-- the use of the node at each address, and the first push that passed a limit
pub record Sized : Type 0 where
  pub uses : Address → Use
  pub crossing : Option Crossing

-- ---- one packet
-- The entry of a packet at b, if b is on the path to an address. At the address itself it is the
-- packet's number with the last rank, and above it the next digit with the rank of that depth.
abbrev pub entry_at : Address → List ℕ → ℕ → Address → Option Entry
entry_at [] ranks packet [] = Some (slice_index ranks 0, packet)
entry_at [] ranks packet (y ∷ b) = None
entry_at (x ∷ a) ranks packet [] = Some (slice_index ranks 0, x)
entry_at (x ∷ a) ranks packet (y ∷ b) = if nat_eq x y then entry_at a (drop 1 ranks) packet b else None

-- whether b is on the path to an address
abbrev pub is_on : Address → Address → Bool
is_on a [] = true
is_on [] (y ∷ b) = false
is_on (x ∷ a) (y ∷ b) = if nat_eq x y then is_on a b else false

abbrev pub crossing_at : Limits → ℕ → ℕ → Address → Use → ℕ → Option Crossing
crossing_at limits event packet b u rank = option_map (λ l. record { event = event; packet = packet; address = b; limit = l }) (passes limits (length u.queue) rank)

-- the first limit that a push passes, from a node down along the remaining digits
abbrev pub crossing_along : Limits → ℕ → ℕ → Address → Address → List ℕ → (Address → Use) → Option Crossing
crossing_along limits event packet b [] ranks uses = crossing_at limits event packet b (uses b) (slice_index ranks 0)
crossing_along limits event packet b (x ∷ a) ranks uses =
    first_of (crossing_at limits event packet b (uses b) (slice_index ranks 0)) (crossing_along limits event packet (b ++ x ∷ []) a (drop 1 ranks) uses)

-- a packet is pushed along an address with these ranks
abbrev pub push_sized : Limits → ℕ → ℕ → Address → List ℕ → Sized → Sized
push_sized limits event packet a ranks s = record {
  uses = λ b. option_map_or (λ e. pushed e.0 e.1 (s.uses b)) (entry_at a ranks packet b) (s.uses b);
  crossing = first_of s.crossing (crossing_along limits event packet [] a ranks s.uses);
}

-- a packet is popped along an address
abbrev pub pop_sized : Address → Sized → Sized
pop_sized a s = record {
  uses = λ b. if is_on a b then popped (s.uses b) else s.uses b;
  crossing = s.crossing;
}

-- ---- a run
-- A packet goes along the image of its class's leaf, with the lifted ranks. The event has this
-- number.
abbrev pub sized : Laid → Policy → Limits → ℕ → run.Outcome → Sized → Sized
sized l policy limits event (run.Arrived p a ranks) s = push_sized limits event p.number (image_map l.images (leaf_of policy p.class)) (lift_ranks l.images (leaf_of policy p.class) ranks) s
sized l policy limits event (run.Departed p a ranks start) s = pop_sized (image_map l.images (leaf_of policy p.class)) s
sized l policy limits event (run.Dropped p a) s = s
sized l policy limits event run.Empty s = s

-- the first outcome has this event number
abbrev pub sized_all : Laid → Policy → Limits → ℕ → List run.Outcome → Sized → Sized
sized_all l policy limits event [] s = s
sized_all l policy limits event (o ∷ os) s = sized_all l policy limits (event + 1) os (sized l policy limits event o s)

-- the empty rank stores of a node at a depth, if they are watched: one flow for each child, and one
-- at a leaf
abbrev pub stores_at : List ℕ → Bool → ℕ → Option Stores
stores_at arities stores depth = if stores then Some (no_stores (slice_index_or arities depth 1)) else None

-- nothing was pushed yet; rank stores are watched too if `stores` is true
abbrev pub unused_at : List ℕ → Bool → Address → Use
unused_at arities stores b = unused (stores_at arities stores (length b))

abbrev pub no_sizes : List ℕ → Bool → Sized
no_sizes arities stores = record { uses = unused_at arities stores; crossing = None }

-- the sizes after these outcomes
abbrev pub sizes_after : Laid → Policy → Limits → Bool → ℕ → List run.Outcome → Sized
sizes_after l policy limits stores event os = sized_all l policy limits event os (no_sizes l.arities stores)

-- ---- results
-- the policy's node at the address a has its image at b
pub record HasImage (l : Laid) (policy : Policy) (b a : Address) : Type 0 where
  pub address : IsAddressOf policy.tree a
  pub image : image_map l.images a ≡ b

-- the name of a node of the policy whose image is b, if there is one
abbrev pub IsNameAt : Laid → Policy → Address → Option (List ℕ) → Type 0
IsNameAt l policy b name = MatchOption name ((a : Address) → HasImage l policy b a → ⊥) (λ n. (a : Address) × HasImage l policy b a × n ≡ name_at policy a)

-- the size of a node with its address as a list
pub record Line : Type 0 where
  pub address : Address
  pub name : Option (List ℕ)
  pub pushes : ℕ
  pub most : ℕ
  pub top : ℕ
  pub span : ℕ
  pub stores : Option StoreUse

abbrev pub line_of : NodeSize → Line
line_of n = record { address = n.address.items; name = n.name; pushes = n.pushes; most = n.most; top = n.top; span = n.span; stores = n.stores }

-- the figures of a use
pub record IsSizeOf (u : Use) (n : Line) : Type 0 where
  pub pushes : n.pushes ≡ u.pushes
  pub most : n.most ≡ u.most
  pub top : n.top ≡ u.top
  pub span : n.span ≡ u.span
  pub stores : n.stores ≡ option_map (λ s. s.most) u.stores

-- an overflow with its address as a list
abbrev pub crossing_of : Overflow → Crossing
crossing_of o = record { event = o.event; packet = o.packet; address = o.address.items; limit = o.limit }

-- the address of the line at an index, if there is one
abbrev pub line_address : List Line → ℕ → Option Address
line_address ns i = option_map (λ n. n.address) (slice_get ns i)

-- the addresses whose nodes have a push
abbrev pub with_pushes : (Address → Use) → List Address → List Address
with_pushes uses bs = filter (λ b. nat_lt 0 (uses b).pushes) bs

-- Exactly the nodes with a push are listed, each once, in the order of places. A packet has one entry on each level, so all
-- levels together hold the root's entries times the number of levels.
pub record AreSizesOf (l : Laid) (policy : Policy) (s : Sized) (r : size.Sizes) : Type 0 where
  pub each : (i : ℕ) → IfSome (slice_get (map line_of r.nodes.items) i) (λ n. IsSizeOf (s.uses n.address) n × IsNameAt l policy n.address n.name × 0 < n.pushes)
  pub all : (b : Address) → 0 < (s.uses b).pushes → (i : ℕ) × line_address (map line_of r.nodes.items) i ≡ Some b
  pub once : (i j : ℕ) (b : Address) → line_address (map line_of r.nodes.items) i ≡ Some b → line_address (map line_of r.nodes.items) j ≡ Some b → i ≡ j
  pub order : map (λ n. n.address) (map line_of r.nodes.items) ≡ with_pushes s.uses (places l policy)
  pub entries : r.entries ≡ (s.uses []).most * (length l.arities + 1)
  pub overflow : option_map crossing_of r.overflow ≡ s.crossing
