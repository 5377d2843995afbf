-- The text of sizes, in each form, is determined by their lines.
use Rattle.study.proofs.Prelude.{ap, ◌∙◌, ◌≡◌, refl, List, ℕ, Option, None, Some, sym, ◌∷◌, [], ◌++◌, map, ◌+◌, min, sum_by, ◌*◌, ◌-◌, ◌^◌, codes, option_map, Overflow, Sizes, shown, Form, Json, Text}
use Rattle.std.proofs.lemmas.List.Sums.{sum_by-cons}
use Rattle.size_core.specs.declared.memory.Widths.{Widths}
use Rattle.size_core.specs.declared.size.NodeSize.{NodeSize}
use Rattle.size_core.specs.Numbers.{number_text}
use Rattle.size_core.specs.Memory.{queue_bits, memory_of}
use Rattle.size_core.specs.Sizes.{Line, line_of, Crossing, crossing_of}
use Rattle.size_core.specs.Text.{address_text, serves_text, counts_text, field_text, queue_text, stores_text, node_text, nodes_text, memory_text, widths_text, limit_text, push_text, passed_text}
use Rattle.size_core.specs.Json.{address_json, serves_json, counts_json, field_json, queue_json, stores_json, node_json, more_json, nodes_json, memory_json, event_json, limit_json, push_json, passed_json}

-- ---- one node
abbrev line_text : Line → List ℕ
line_text l =
    codes "node "
    ++ (address_text l.address
    ++ (serves_text l.name
    ++ ((counts_text l.most l.pushes ++ (field_text (codes "; greatest rank ") l.top ++ (field_text (codes "; greatest difference ") l.span ++ codes "\n"))) ++ stores_text l.stores)))

node_by_line : (n : NodeSize) → node_text n ≡ line_text (line_of n)
unfolding node_text queue_text
node_by_line n = refl

abbrev line_json : Line → List ℕ
line_json l =
    codes "{\"address\":"
    ++ (address_json l.address
    ++ (serves_json l.name
    ++ ((counts_json l.pushes l.most ++ (field_json (codes ",\"rank\":") (codes ",\"rank_bits\":") l.top ++ field_json (codes ",\"difference\":") (codes ",\"difference_bits\":") l.span))
    ++ (codes ",\"stores\":" ++ (stores_json l.stores ++ codes "}")))))

json_by_line : (n : NodeSize) → node_json n ≡ line_json (line_of n)
unfolding node_json queue_json
json_by_line n = refl

-- ---- all nodes
first_line : (n m : NodeSize) (ns ms : List NodeSize) → map line_of (n ∷ ns) ≡ map line_of (m ∷ ms) → line_of n ≡ line_of m
first_line n m ns ms same = cc

other_lines : (n m : NodeSize) (ns ms : List NodeSize) → map line_of (n ∷ ns) ≡ map line_of (m ∷ ms) → map line_of ns ≡ map line_of ms
other_lines n m ns ms same = cc

same_text : (n m : NodeSize) → line_of n ≡ line_of m → node_text n ≡ node_text m
same_text n m same = node_by_line n ∙ ap line_text same ∙ sym (node_by_line m)

same_json : (n m : NodeSize) → line_of n ≡ line_of m → node_json n ≡ node_json m
same_json n m same = json_by_line n ∙ ap line_json same ∙ sym (json_by_line m)

same_texts : (ns ms : List NodeSize) → map line_of ns ≡ map line_of ms → nodes_text ns ≡ nodes_text ms
same_texts [] [] same = refl
same_texts [] (m ∷ ms) same = cc
same_texts (n ∷ ns) [] same = cc
same_texts (n ∷ ns) (m ∷ ms) same =
    ap (λ (t : List ℕ). t ++ nodes_text ns) (same_text n m (first_line n m ns ms same)) ∙ ap (λ (t : List ℕ). node_text m ++ t) (same_texts ns ms (other_lines n m ns ms same))

same_more : (ns ms : List NodeSize) → map line_of ns ≡ map line_of ms → more_json ns ≡ more_json ms
same_more [] [] same = refl
same_more [] (m ∷ ms) same = cc
same_more (n ∷ ns) [] same = cc
same_more (n ∷ ns) (m ∷ ms) same =
    ap (λ (t : List ℕ). codes "," ++ (t ++ more_json ns)) (same_json n m (first_line n m ns ms same)) ∙ ap (λ (t : List ℕ). codes "," ++ (node_json m ++ t)) (same_more ns ms (other_lines n m ns ms same))

same_jsons : (ns ms : List NodeSize) → map line_of ns ≡ map line_of ms → nodes_json ns ≡ nodes_json ms
same_jsons [] [] same = refl
same_jsons [] (m ∷ ms) same = cc
same_jsons (n ∷ ns) [] same = cc
same_jsons (n ∷ ns) (m ∷ ms) same =
    ap (λ (t : List ℕ). t ++ more_json ns) (same_json n m (first_line n m ns ms same)) ∙ ap (λ (t : List ℕ). node_json m ++ t) (same_more ns ms (other_lines n m ns ms same))

same_bits : (w : Widths) (ns ms : List NodeSize) → map line_of ns ≡ map line_of ms → sum_by (queue_bits w) ns ≡ sum_by (queue_bits w) ms
same_bits w [] [] same = refl
same_bits w [] (m ∷ ms) same = cc
same_bits w (n ∷ ns) [] same = cc
same_bits w (n ∷ ns) (m ∷ ms) same =
    let one : queue_bits w n ≡ queue_bits w m = ap (λ (l : Line). l.most * (w.rank + w.entry)) (first_line n m ns ms same) in
    let rest : sum_by (queue_bits w) ns ≡ sum_by (queue_bits w) ms = same_bits w ns ms (other_lines n m ns ms same) in
    sum_by-cons (queue_bits w) n ns ∙ ap (λ k. k + sum_by (queue_bits w) ns) one ∙ ap (λ k. queue_bits w m + k) rest ∙ sym (sum_by-cons (queue_bits w) m ms)

same_memory : (w : Widths) (ns ms : List NodeSize) → map line_of ns ≡ map line_of ms → memory_of w ns ≡ memory_of w ms
same_memory w ns ms same = ap (λ k. min k (2 ^ 128 - 1)) (same_bits w ns ms same)

memory_line : (w : Option Widths) (ns ms : List NodeSize) → map line_of ns ≡ map line_of ms → memory_text ns w ≡ memory_text ms w
memory_line None ns ms same = refl
memory_line (Some w) ns ms same = ap (λ k. number_text (codes "memory: ") k ++ widths_text w.rank w.entry) (same_memory w ns ms same)

memory_member : (w : Option Widths) (ns ms : List NodeSize) → map line_of ns ≡ map line_of ms → memory_json ns w ≡ memory_json ms w
memory_member None ns ms same = refl
memory_member (Some w) ns ms same = ap (λ k. number_text (codes ",\"memory\":") k) (same_memory w ns ms same)

-- ---- the first push that passed a limit
abbrev crossing_text : Crossing → List ℕ
crossing_text x =
    number_text (codes "limit passed: event ") x.event
    ++ (number_text (codes ", packet ") x.packet
    ++ (codes ", node " ++ (address_text x.address ++ (codes ", by its " ++ limit_text x.limit))))

push_by_crossing : (o : Overflow) → push_text o ≡ crossing_text (crossing_of o)
unfolding push_text
push_by_crossing o = refl

abbrev crossing_json : Crossing → List ℕ
crossing_json x = event_json x.event x.packet ++ (address_json x.address ++ (codes ",\"limit\":" ++ (limit_json x.limit ++ codes "}")))

json_by_crossing : (o : Overflow) → push_json o ≡ crossing_json (crossing_of o)
unfolding push_json
json_by_crossing o = refl

one_crossing : (o p : Overflow) → option_map crossing_of (Some o) ≡ option_map crossing_of (Some p) → crossing_of o ≡ crossing_of p
one_crossing o p same = cc

same_passed : (o p : Option Overflow) → option_map crossing_of o ≡ option_map crossing_of p → passed_text o ≡ passed_text p
same_passed None None same = refl
same_passed None (Some p) same = cc
same_passed (Some o) None same = cc
same_passed (Some o) (Some p) same = push_by_crossing o ∙ ap crossing_text (one_crossing o p same) ∙ sym (push_by_crossing p)

same_member : (o p : Option Overflow) → option_map crossing_of o ≡ option_map crossing_of p → passed_json o ≡ passed_json p
same_member None None same = refl
same_member None (Some p) same = cc
same_member (Some o) None same = cc
same_member (Some o) (Some p) same = json_by_crossing o ∙ ap crossing_json (one_crossing o p same) ∙ sym (json_by_crossing p)

-- ---- sizes
pub same_shown : (form : Form) (r q : Sizes) (w : Option Widths) → map line_of r.nodes.items ≡ map line_of q.nodes.items → r.entries ≡ q.entries → option_map crossing_of r.overflow ≡ option_map crossing_of q.overflow
    → shown form r w ≡ shown form q w
same_shown Text r q w nodes entries passed =
    let a = same_texts r.nodes.items q.nodes.items nodes in
    let b = memory_line w r.nodes.items q.nodes.items nodes in
    let c = same_passed r.overflow q.overflow passed in
    λ i. a i ++ (number_text (codes "all nodes: at most ") (entries i) ++ (codes " entries\n" ++ (b i ++ c i)))
same_shown Json r q w nodes entries passed =
    let a = same_jsons r.nodes.items q.nodes.items nodes in
    let b = memory_member w r.nodes.items q.nodes.items nodes in
    let c = same_member r.overflow q.overflow passed in
    λ i. codes "{\"nodes\":[" ++ (a i ++ (number_text (codes "],\"entries\":") (entries i) ++ (b i ++ (codes ",\"passed\":" ++ (c i ++ codes "}\n")))))
