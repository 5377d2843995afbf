-- How large the queues of a target got, as text.
use Rattle.std.specs.Prelude.{◌≡◌, refl, ℕ, Option, None, Some, Vec, List, [], ◌∷◌, ◌++◌, codes}
use Rattle.std.proofs.Common.{ap, ◌∙◌}
use Rattle.std.specs.Fmt.{digits}
use Rattle.std.specs.Int.Count.{count_leading_zeros}
use Rattle.std.specs.declared.alloc.Global.{Global}
use Rattle.size_core.specs.Numbers.{bits_for, number_text}
use Rattle.size_core.specs.Memory.{memory_of}
use Rattle.size_core.specs.declared.limits.Limit.{Limit}
use Rattle.size_core.specs.declared.limits.Limit.TheVariants.{Entries, Bits}
use Rattle.size_core.specs.declared.limits.Overflow.{Overflow}
use Rattle.size_core.specs.declared.memory.Widths.{Widths}
use Rattle.size_core.specs.declared.size.NodeSize.{NodeSize}
use Rattle.size_core.specs.declared.size.Sizes.{Sizes}
use Rattle.size_core.specs.declared.size.StoreUse.{StoreUse}

-- each digit after a slash
abbrev pub digits_text : List ℕ → List ℕ
digits_text [] = []
digits_text (d ∷ ds) = number_text (codes "/") d ++ digits_text ds

-- the address of a node: a slash for the root, else the digits of the path
abbrev pub address_text : List ℕ → List ℕ
address_text [] = codes "/"
address_text (d ∷ ds) = digits_text (d ∷ ds)

-- the name of the policy's node that a node serves
abbrev pub serves_text : Option (List ℕ) → List ℕ
serves_text None = codes " transit"
serves_text (Some name) = codes " " ++ name

-- the maximum number of entries, and the number of pushes
unfoldable pub counts_text : ℕ → ℕ → List ℕ
counts_text most pushes = number_text (codes ": at most ") most ++ (number_text (codes " entries of ") pushes ++ codes " pushed")

-- a number and the bits that it needs
unfoldable pub field_text : List ℕ → ℕ → List ℕ
field_text words n = number_text words n ++ (number_text (codes ", ") (bits_for n) ++ codes " bits")

-- the figures of a node's queue
unfoldable pub queue_text : NodeSize → List ℕ
queue_text n = counts_text n.most n.pushes ++ (field_text (codes "; greatest rank ") n.top ++ (field_text (codes "; greatest difference ") n.span ++ codes "\n"))

-- the line of a node's rank stores
unfoldable pub use_text : StoreUse → List ℕ
use_text s =
    number_text (codes "  stores: at most ") s.heads
    ++ (number_text (codes " heads, ") s.stored
    ++ (number_text (codes " entries in a store, ") s.spilled ++ (number_text (codes " spilled; ") s.spills ++ codes " spills\n")))

abbrev pub stores_text : Option StoreUse → List ℕ
stores_text None = []
stores_text (Some s) = use_text s

unfoldable pub node_text : NodeSize → List ℕ
node_text n = codes "node " ++ (address_text n.address.items ++ (serves_text n.name ++ (queue_text n ++ stores_text n.stores)))

abbrev pub nodes_text : List NodeSize → List ℕ
nodes_text [] = []
nodes_text (n ∷ ns) = node_text n ++ nodes_text ns

-- the widths of a rank and of an entry, to the end of the line
unfoldable pub widths_text : ℕ → ℕ → List ℕ
widths_text rank entry = number_text (codes " bits, for ") rank ++ (number_text (codes " bits of rank and ") entry ++ codes " of entry\n")

-- the line of the memory, if widths are given
abbrev pub memory_text : List NodeSize → Option Widths → List ℕ
memory_text ns None = []
memory_text ns (Some w) = number_text (codes "memory: ") (memory_of w ns) ++ widths_text w.rank w.entry

abbrev pub limit_text : Limit → List ℕ
limit_text Entries = codes "entries\n"
limit_text Bits = codes "rank bits\n"

-- the line of the first push that passed a limit
unfoldable pub push_text : Overflow → List ℕ
push_text o =
    number_text (codes "limit passed: event ") o.event
    ++ (number_text (codes ", packet ") o.packet
    ++ (codes ", node " ++ (address_text o.address.items ++ (codes ", by its " ++ limit_text o.limit))))

abbrev pub passed_text : Option Overflow → List ℕ
passed_text None = []
passed_text (Some o) = push_text o

-- each node, all nodes, the memory, and the first push that passed a limit
abbrev pub sizes_text : Sizes → Option Widths → List ℕ
sizes_text s w =
    nodes_text s.nodes.items
    ++ (number_text (codes "all nodes: at most ") s.entries
    ++ (codes " entries\n" ++ (memory_text s.nodes.items w ++ passed_text s.overflow)))

-- the root of a policy with one leaf
abbrev pub root : Vec ℕ Global → NodeSize
root address = record {
  address = address;
  name = Some (codes "root");
  pushes = 8;
  most = 7;
  top = 9;
  span = 3;
  stores = None;
}

-- a node that only passes packets on
abbrev pub transit : Vec ℕ Global → NodeSize
transit address = record {
  address = address;
  name = None;
  pushes = 3;
  most = 2;
  top = 1500;
  span = 0;
  stores = None;
}

-- the root over rank stores
abbrev pub stored : Vec ℕ Global → NodeSize
stored address = record (root address) { stores = Some (record { heads = 2; stored = 3; spilled = 1; spills = 4 }) }

abbrev pub widths : Widths
widths = record { rank = 16; entry = 32 }

abbrev pub overflow : Limit → Vec ℕ Global → Overflow
overflow limit address = record { event = 12; packet = 7; address = address; limit = limit }

node_text-root : (at : Vec ℕ Global) → at.items ≡ []
    → node_text (root at) ≡ codes "node / root: at most 7 entries of 8 pushed; greatest rank 9, 4 bits; greatest difference 3, 2 bits\n"
unfolding node_text queue_text counts_text field_text bits_for count_leading_zeros number_text digits
node_text-root at is = ap (λ address. codes "node " ++ (address_text address ++ (codes " root" ++ (queue_text (root at) ++ [])))) is

node_text-transit : (at : Vec ℕ Global) → at.items ≡ 0 ∷ 1 ∷ []
    → node_text (transit at) ≡ codes "node /0/1 transit: at most 2 entries of 3 pushed; greatest rank 1500, 11 bits; greatest difference 0, 0 bits\n"
unfolding node_text queue_text counts_text field_text bits_for count_leading_zeros number_text digits
node_text-transit at is = ap (λ address. codes "node " ++ (address_text address ++ (codes " transit" ++ (queue_text (transit at) ++ [])))) is

node_text-stored : (at : Vec ℕ Global) → at.items ≡ []
    → node_text (stored at) ≡ codes "node / root: at most 7 entries of 8 pushed; greatest rank 9, 4 bits; greatest difference 3, 2 bits\n  stores: at most 2 heads, 3 entries in a store, 1 spilled; 4 spills\n"
unfolding node_text queue_text counts_text field_text use_text bits_for count_leading_zeros number_text digits
node_text-stored at is = ap (λ address. codes "node " ++ (address_text address ++ (codes " root" ++ (queue_text (stored at) ++ stores_text (stored at).stores)))) is

-- nine entries of 48 bits
memory_of-two : (at : Vec ℕ Global) → memory_of widths (root at ∷ transit at ∷ []) ≡ 432
memory_of-two at = refl

push_text-entries : (at : Vec ℕ Global) → at.items ≡ 0 ∷ 1 ∷ [] → push_text (overflow Entries at) ≡ codes "limit passed: event 12, packet 7, node /0/1, by its entries\n"
unfolding push_text number_text digits
push_text-entries at is = ap (λ address. codes "limit passed: event 12, packet 7, node " ++ (address_text address ++ codes ", by its entries\n")) is

push_text-bits : (at : Vec ℕ Global) → at.items ≡ [] → push_text (overflow Bits at) ≡ codes "limit passed: event 12, packet 7, node /, by its rank bits\n"
unfolding push_text number_text digits
push_text-bits at is = ap (λ address. codes "limit passed: event 12, packet 7, node " ++ (address_text address ++ codes ", by its rank bits\n")) is

-- neither widths nor limits are given
sizes_text-plain : (at : Vec ℕ Global) (nodes : Vec NodeSize Global) → at.items ≡ [] → nodes.items ≡ root at ∷ []
    → sizes_text (record { nodes = nodes; entries = 7; overflow = None }) None
    ≡ codes "node / root: at most 7 entries of 8 pushed; greatest rank 9, 4 bits; greatest difference 3, 2 bits\nall nodes: at most 7 entries\n"
unfolding number_text digits
sizes_text-plain at nodes at_is are =
    ap (λ ns. nodes_text ns ++ codes "all nodes: at most 7 entries\n") are
    ∙ ap (λ line. (line ++ []) ++ codes "all nodes: at most 7 entries\n") (node_text-root at at_is)

-- both are given, and the root passes the limit of entries
sizes_text-whole : (at : Vec ℕ Global) (nodes : Vec NodeSize Global) → at.items ≡ [] → nodes.items ≡ root at ∷ []
    → sizes_text (record { nodes = nodes; entries = 7; overflow = Some (overflow Entries at) }) (Some widths)
    ≡ codes "node / root: at most 7 entries of 8 pushed; greatest rank 9, 4 bits; greatest difference 3, 2 bits\nall nodes: at most 7 entries\nmemory: 336 bits, for 16 bits of rank and 32 of entry\nlimit passed: event 12, packet 7, node /, by its entries\n"
unfolding widths_text push_text number_text digits
sizes_text-whole at nodes at_is are =
    ap (λ ns. nodes_text ns ++ (codes "all nodes: at most 7 entries\n" ++ (memory_text ns (Some widths) ++ push_text (overflow Entries at)))) are
    ∙ ap (λ line. (line ++ []) ++ (codes "all nodes: at most 7 entries\n" ++ (memory_text (root at ∷ []) (Some widths) ++ push_text (overflow Entries at)))) (node_text-root at at_is)
    ∙ ap (λ address. codes "node / root: at most 7 entries of 8 pushed; greatest rank 9, 4 bits; greatest difference 3, 2 bits\nall nodes: at most 7 entries\nmemory: 336 bits, for 16 bits of rank and 32 of entry\nlimit passed: event 12, packet 7, node " ++ (address_text address ++ codes ", by its entries\n")) at_is
