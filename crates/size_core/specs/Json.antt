-- How large the queues of a target got, as one JSON object. The names of a policy have only letters,
-- digits and `_`, so nothing is escaped.
use Rattle.std.specs.Prelude.{◌≡◌, refl, ℕ, Option, None, Some, Vec, List, [], ◌∷◌, ◌++◌, codes}
use Rattle.std.proofs.Common.{ap, ◌∙◌}
use Rattle.std.specs.Fmt.{digits}
use Rattle.std.specs.Int.Count.{count_leading_zeros}
use Rattle.std.specs.declared.alloc.Global.{Global}
use Rattle.size_core.specs.Numbers.{bits_for, number_text}
use Rattle.size_core.specs.Memory.{memory_of}
use Rattle.size_core.specs.Text.{root, transit, stored, widths, overflow}
use Rattle.size_core.specs.declared.limits.Limit.{Limit}
use Rattle.size_core.specs.declared.limits.Limit.TheVariants.{Entries, Bits}
use Rattle.size_core.specs.declared.limits.Overflow.{Overflow}
use Rattle.size_core.specs.declared.memory.Widths.{Widths}
use Rattle.size_core.specs.declared.size.NodeSize.{NodeSize}
use Rattle.size_core.specs.declared.size.Sizes.{Sizes}
use Rattle.size_core.specs.declared.size.StoreUse.{StoreUse}

-- digits after others
abbrev pub more_digits_json : List ℕ → List ℕ
more_digits_json [] = []
more_digits_json (d ∷ ds) = number_text (codes ",") d ++ more_digits_json ds

-- the digits of the path to a node, from the root down
abbrev pub address_json : List ℕ → List ℕ
address_json [] = codes "[]"
address_json (d ∷ ds) = number_text (codes "[") d ++ (more_digits_json ds ++ codes "]")

-- the name of the policy's node that a node serves, or null
abbrev pub serves_json : Option (List ℕ) → List ℕ
serves_json None = codes ",\"serves\":null"
serves_json (Some name) = codes ",\"serves\":\"" ++ (name ++ codes "\"")

-- the number of pushes, and the maximum number of entries
unfoldable pub counts_json : ℕ → ℕ → List ℕ
counts_json pushes most = number_text (codes ",\"pushes\":") pushes ++ number_text (codes ",\"entries\":") most

-- a number and the bits that it needs, each after its key
unfoldable pub field_json : List ℕ → List ℕ → ℕ → List ℕ
field_json key bits_key n = number_text key n ++ number_text bits_key (bits_for n)

-- the figures of a node's queue
unfoldable pub queue_json : NodeSize → List ℕ
queue_json n =
    counts_json n.pushes n.most
    ++ (field_json (codes ",\"rank\":") (codes ",\"rank_bits\":") n.top ++ field_json (codes ",\"difference\":") (codes ",\"difference_bits\":") n.span)

-- the use of a node's rank stores
unfoldable pub use_json : StoreUse → List ℕ
use_json s =
    number_text (codes "{\"heads\":") s.heads
    ++ (number_text (codes ",\"entries\":") s.stored
    ++ (number_text (codes ",\"spilled\":") s.spilled ++ (number_text (codes ",\"spills\":") s.spills ++ codes "}")))

-- the use of a node's rank stores, or null if it has none
abbrev pub stores_json : Option StoreUse → List ℕ
stores_json None = codes "null"
stores_json (Some s) = use_json s

unfoldable pub node_json : NodeSize → List ℕ
node_json n =
    codes "{\"address\":"
    ++ (address_json n.address.items
    ++ (serves_json n.name ++ (queue_json n ++ (codes ",\"stores\":" ++ (stores_json n.stores ++ codes "}")))))

-- nodes after others
abbrev pub more_json : List NodeSize → List ℕ
more_json [] = []
more_json (n ∷ ns) = codes "," ++ (node_json n ++ more_json ns)

abbrev pub nodes_json : List NodeSize → List ℕ
nodes_json [] = []
nodes_json (n ∷ ns) = node_json n ++ more_json ns

-- the bits of the memory, or null if no widths are given
abbrev pub memory_json : List NodeSize → Option Widths → List ℕ
memory_json ns None = codes ",\"memory\":null"
memory_json ns (Some w) = number_text (codes ",\"memory\":") (memory_of w ns)

abbrev pub limit_json : Limit → List ℕ
limit_json Entries = codes "\"entries\""
limit_json Bits = codes "\"rank_bits\""

-- the numbers of the event and of the packet, and the key of the address
unfoldable pub event_json : ℕ → ℕ → List ℕ
event_json event packet = number_text (codes "{\"event\":") event ++ (number_text (codes ",\"packet\":") packet ++ codes ",\"address\":")

unfoldable pub push_json : Overflow → List ℕ
push_json o = event_json o.event o.packet ++ (address_json o.address.items ++ (codes ",\"limit\":" ++ (limit_json o.limit ++ codes "}")))

-- the first push that passed a limit, or null
abbrev pub passed_json : Option Overflow → List ℕ
passed_json None = codes "null"
passed_json (Some o) = push_json o

abbrev pub sizes_json : Sizes → Option Widths → List ℕ
sizes_json s w =
    codes "{\"nodes\":["
    ++ (nodes_json s.nodes.items
    ++ (number_text (codes "],\"entries\":") s.entries
    ++ (memory_json s.nodes.items w ++ (codes ",\"passed\":" ++ (passed_json s.overflow ++ codes "}\n")))))

node_json-root : (at : Vec ℕ Global) → at.items ≡ []
    → node_json (root at) ≡ codes "{\"address\":[],\"serves\":\"root\",\"pushes\":8,\"entries\":7,\"rank\":9,\"rank_bits\":4,\"difference\":3,\"difference_bits\":2,\"stores\":null}"
unfolding node_json queue_json counts_json field_json bits_for count_leading_zeros number_text digits
node_json-root at is = ap (λ address. codes "{\"address\":" ++ (address_json address ++ (codes ",\"serves\":\"root\"" ++ (queue_json (root at) ++ codes ",\"stores\":null}")))) is

node_json-transit : (at : Vec ℕ Global) → at.items ≡ 0 ∷ 1 ∷ []
    → node_json (transit at) ≡ codes "{\"address\":[0,1],\"serves\":null,\"pushes\":3,\"entries\":2,\"rank\":1500,\"rank_bits\":11,\"difference\":0,\"difference_bits\":0,\"stores\":null}"
unfolding node_json queue_json counts_json field_json bits_for count_leading_zeros number_text digits
node_json-transit at is = ap (λ address. codes "{\"address\":" ++ (address_json address ++ (codes ",\"serves\":null" ++ (queue_json (transit at) ++ codes ",\"stores\":null}")))) is

node_json-stored : (at : Vec ℕ Global) → at.items ≡ []
    → node_json (stored at) ≡ codes "{\"address\":[],\"serves\":\"root\",\"pushes\":8,\"entries\":7,\"rank\":9,\"rank_bits\":4,\"difference\":3,\"difference_bits\":2,\"stores\":{\"heads\":2,\"entries\":3,\"spilled\":1,\"spills\":4}}"
unfolding node_json queue_json counts_json field_json use_json bits_for count_leading_zeros number_text digits
node_json-stored at is = ap (λ address. codes "{\"address\":" ++ (address_json address ++ (codes ",\"serves\":\"root\"" ++ (queue_json (stored at) ++ (codes ",\"stores\":" ++ (stores_json (stored at).stores ++ codes "}")))))) is

push_json-entries : (at : Vec ℕ Global) → at.items ≡ 0 ∷ 1 ∷ [] → push_json (overflow Entries at) ≡ codes "{\"event\":12,\"packet\":7,\"address\":[0,1],\"limit\":\"entries\"}"
unfolding push_json event_json number_text digits
push_json-entries at is = ap (λ address. codes "{\"event\":12,\"packet\":7,\"address\":" ++ (address_json address ++ codes ",\"limit\":\"entries\"}")) is

push_json-bits : (at : Vec ℕ Global) → at.items ≡ [] → push_json (overflow Bits at) ≡ codes "{\"event\":12,\"packet\":7,\"address\":[],\"limit\":\"rank_bits\"}"
unfolding push_json event_json number_text digits
push_json-bits at is = ap (λ address. codes "{\"event\":12,\"packet\":7,\"address\":" ++ (address_json address ++ codes ",\"limit\":\"rank_bits\"}")) is

-- neither widths nor limits are given
sizes_json-plain : (at : Vec ℕ Global) (nodes : Vec NodeSize Global) → at.items ≡ [] → nodes.items ≡ root at ∷ []
    → sizes_json (record { nodes = nodes; entries = 7; overflow = None }) None
    ≡ codes "{\"nodes\":[{\"address\":[],\"serves\":\"root\",\"pushes\":8,\"entries\":7,\"rank\":9,\"rank_bits\":4,\"difference\":3,\"difference_bits\":2,\"stores\":null}],\"entries\":7,\"memory\":null,\"passed\":null}\n"
unfolding number_text digits
sizes_json-plain at nodes at_is are =
    ap (λ ns. codes "{\"nodes\":[" ++ (nodes_json ns ++ codes "],\"entries\":7,\"memory\":null,\"passed\":null}\n")) are
    ∙ ap (λ object. codes "{\"nodes\":[" ++ ((object ++ []) ++ codes "],\"entries\":7,\"memory\":null,\"passed\":null}\n")) (node_json-root at at_is)

-- both are given, and the root passes the limit of rank bits
sizes_json-whole : (at : Vec ℕ Global) (nodes : Vec NodeSize Global) → at.items ≡ [] → nodes.items ≡ root at ∷ []
    → sizes_json (record { nodes = nodes; entries = 7; overflow = Some (overflow Bits at) }) (Some widths)
    ≡ codes "{\"nodes\":[{\"address\":[],\"serves\":\"root\",\"pushes\":8,\"entries\":7,\"rank\":9,\"rank_bits\":4,\"difference\":3,\"difference_bits\":2,\"stores\":null}],\"entries\":7,\"memory\":336,\"passed\":{\"event\":12,\"packet\":7,\"address\":[],\"limit\":\"rank_bits\"}}\n"
unfolding number_text digits
sizes_json-whole at nodes at_is are =
    ap (λ ns. codes "{\"nodes\":[" ++ (nodes_json ns ++ (codes "],\"entries\":7" ++ (memory_json ns (Some widths) ++ (codes ",\"passed\":" ++ (push_json (overflow Bits at) ++ codes "}\n")))))) are
    ∙ ap (λ object. codes "{\"nodes\":[" ++ ((object ++ []) ++ (codes "],\"entries\":7,\"memory\":336,\"passed\":" ++ (push_json (overflow Bits at) ++ codes "}\n")))) (node_json-root at at_is)
    ∙ ap (λ passed. codes "{\"nodes\":[{\"address\":[],\"serves\":\"root\",\"pushes\":8,\"entries\":7,\"rank\":9,\"rank_bits\":4,\"difference\":3,\"difference_bits\":2,\"stores\":null}],\"entries\":7,\"memory\":336,\"passed\":" ++ (passed ++ codes "}\n")) (push_json-bits at at_is)

-- widths are given
memory_json-widths : (at : Vec ℕ Global) → memory_json (root at ∷ transit at ∷ []) (Some widths) ≡ codes ",\"memory\":432"
unfolding number_text digits
memory_json-widths at = refl
