-- A file is read block by block, and goes on after whole blocks.
use Rattle.pcapng_defs.proofs.Prelude.{List, refl, ℕ, ◌≡◌, ap, arith, length, ◌∙◌, ◌≤◌, None, Some, sym, ◌+◌, Option, [], subst, ◌++◌, ◌<◌, suc, zero, MatchOption, append_assoc, ◌∷◌, ⊤, AllByRecursion, CapturedPacket, max_rank, Carried, at_start, BlockFault, IsBounded, FaultsAreNumbered, GoesBlockByBlock, GoesOnBehindBlocks, IsNumbered, PacketsAreBounded, PacketsAreFew, BlockFront, found, broken, most_blocks, nothing, Reading, at_front, front_of, packets_in, reading_of, behind}
use Rattle.std.specs.Prelude.{unwrap_or}
use Rattle.pcapng_defs.specs.NgCapture.{read_from}
use Rattle.pcapng_defs.proofs.Fronts.{Says, front_of-says}
use Rattle.pcapng_defs.proofs.LongerFronts.{Stands, front_of-stands}

none_some : {A : Type 0} {x : A} → None ≡ Some x → ⊥
none_some {A = A} e = subst (λ (o : Option A). MatchOption o ⊤ (λ y. ⊥)) e tt

some_same : {x y : BlockFault} → Some x ≡ Some y → x ≡ y
some_same {x = x} e = ap (λ o. unwrap_or o x) e

behind-behind : (packets others : List CapturedPacket) (r : Reading) → behind packets (behind others r) ≡ behind (packets ++ others) r
behind-behind packets others r = ap (λ xs. record r { packets = xs }) (sym (append_assoc packets others r.packets))

at_front-same : (n m : ℕ) (c : Carried) (rest : List ℕ) (front : BlockFront) → Says c rest front → length rest ≤ n → length rest ≤ m
    → ((after : Carried) (others : List ℕ) → length others < n → length others < m → read_from n after others ≡ read_from m after others)
    → at_front (λ after others. read_from n after others) c front ≡ at_front (λ after others. read_from m after others) c front
at_front-same n m c rest nothing h l k next = refl
at_front-same n m c rest (broken fault) h l k next = refl
at_front-same n m c rest (found packet after others) h l k next =
    ap (behind (packets_in packet)) (next after others (omega (arith, h.1, l)) (omega (arith, h.1, k)))

-- all step counts above the number of bytes read the same
read_from-same : (n m : ℕ) (c : Carried) (rest : List ℕ) → length rest < n → length rest < m → read_from n c rest ≡ read_from m c rest
unfolding read_from
read_from-same zero m c rest l k = absurd (omega arith)
read_from-same (suc n) zero c rest l k = absurd (omega arith)
read_from-same (suc n) (suc m) c rest l k =
    at_front-same n m c rest (front_of c rest) (front_of-says c rest) (omega arith) (omega arith)
    (λ after others x y. read_from-same n m after others x y)

at_front-whole : (c : Carried) (rest : List ℕ) (front : BlockFront) → Says c rest front
    → ((after : Carried) (others : List ℕ) → length others < length rest → read_from (length rest) after others ≡ reading_of after others)
    → at_front (λ after others. read_from (length rest) after others) c front ≡ at_front reading_of c front
at_front-whole c rest nothing h next = refl
at_front-whole c rest (broken fault) h next = refl
at_front-whole c rest (found packet after others) h next = ap (behind (packets_in packet)) (next after others h.1)

pub goes_block_by_block : GoesBlockByBlock
unfolding read_from
goes_block_by_block c rest =
    at_front-whole c rest (front_of c rest) (front_of-says c rest)
    (λ after others less. read_from-same (length rest) (suc (length others)) after others less (omega arith))

-- the fault after some blocks is that of the next block
abbrev EndsNext : Reading → Type 0
EndsNext r = (fault : BlockFault) → r.fault ≡ Some fault → IsNumbered fault r.carried.blocks

at_front-ends : (n : ℕ) (c : Carried) (rest : List ℕ) (front : BlockFront) → Says c rest front → c.blocks ≤ most_blocks
    → ((after : Carried) (others : List ℕ) → after.blocks ≤ most_blocks → EndsNext (read_from n after others))
    → EndsNext (at_front (λ after others. read_from n after others) c front)
at_front-ends n c rest nothing h few next fault e = absurd (none_some e)
at_front-ends n c rest (broken found_fault) h few next fault e =
    subst (λ f. IsNumbered f c.blocks) (some_same e)
    (record { least_code = h.least_code; most_code = h.most_code; next = h.next; most_place = omega (arith, h.next, few) })
at_front-ends n c rest (found packet after others) h few next fault e =
    next after others (omega (arith, h.0.counted, few, h.2)) fault e

read_from-ends : (n : ℕ) (c : Carried) (rest : List ℕ) → c.blocks ≤ most_blocks → EndsNext (read_from n c rest)
unfolding read_from
read_from-ends zero c rest few = λ fault e. absurd (none_some e)
read_from-ends (suc n) c rest few =
    at_front-ends n c rest (front_of c rest) (front_of-says c rest) few (λ after others h. read_from-ends n after others h)

pub faults_are_numbered : FaultsAreNumbered
faults_are_numbered file fault e = read_from-ends (suc (length file)) at_start file (omega arith) fault e

bounded_append : (packets others : List CapturedPacket) → AllByRecursion IsBounded packets → AllByRecursion IsBounded others → AllByRecursion IsBounded (packets ++ others)
bounded_append [] others h k = k
bounded_append (p ∷ packets) others h k = (h.0, bounded_append packets others h.1 k)

at_front-bounded : (n : ℕ) (c : Carried) (rest : List ℕ) (front : BlockFront) → Says c rest front → c.moment ≤ max_rank
    → ((after : Carried) (others : List ℕ) → after.moment ≤ max_rank → AllByRecursion IsBounded (read_from n after others).packets)
    → AllByRecursion IsBounded (at_front (λ after others. read_from n after others) c front).packets
at_front-bounded n c rest nothing h early next = tt
at_front-bounded n c rest (broken fault) h early next = tt
at_front-bounded n c rest (found packet after others) h early next =
    bounded_append (packets_in packet) (read_from n after others).packets (h.0.bounded early) (next after others (h.0.early early))

read_from-bounded : (n : ℕ) (c : Carried) (rest : List ℕ) → c.moment ≤ max_rank → AllByRecursion IsBounded (read_from n c rest).packets
unfolding read_from
read_from-bounded zero c rest early = tt
read_from-bounded (suc n) c rest early =
    at_front-bounded n c rest (front_of c rest) (front_of-says c rest) early (λ after others h. read_from-bounded n after others h)

pub packets_are_bounded : PacketsAreBounded
packets_are_bounded file = read_from-bounded (suc (length file)) at_start file (omega arith)

-- after the first `blocks` blocks, each further block has at most one packet, and the limit of
-- blocks holds
abbrev AreFew : ℕ → Reading → Type 0
AreFew blocks r = (blocks + length r.packets ≤ r.carried.blocks) × (r.carried.blocks ≤ most_blocks)

one_at_most : (packet : Option CapturedPacket) (packets : List CapturedPacket) → length (packets_in packet ++ packets) ≤ suc (length packets)
one_at_most None packets = omega arith
one_at_most (Some p) packets = omega arith

at_front-few : (n : ℕ) (c : Carried) (rest : List ℕ) (front : BlockFront) → Says c rest front → c.blocks ≤ most_blocks
    → ((after : Carried) (others : List ℕ) → after.blocks ≤ most_blocks → AreFew after.blocks (read_from n after others))
    → AreFew c.blocks (at_front (λ after others. read_from n after others) c front)
at_front-few n c rest nothing h few next = (omega arith, few)
at_front-few n c rest (broken fault) h few next = (omega arith, few)
at_front-few n c rest (found packet after others) h few next =
    let more = next after others (omega (arith, h.0.counted, few, h.2)) in
    let one = one_at_most packet (read_from n after others).packets in
    (omega (arith, more.0, one, h.0.counted), more.1)

read_from-few : (n : ℕ) (c : Carried) (rest : List ℕ) → c.blocks ≤ most_blocks → AreFew c.blocks (read_from n c rest)
unfolding read_from
read_from-few zero c rest few = (omega arith, few)
read_from-few (suc n) c rest few =
    at_front-few n c rest (front_of c rest) (front_of-says c rest) few (λ after others h. read_from-few n after others h)

pub packets_are_few : PacketsAreFew
packets_are_few file =
    let few = read_from-few (suc (length file)) at_start file (omega arith) in
    (omega (arith, few.0), few.1)

-- the reading of these bytes with others after them
abbrev Follows : Carried → List ℕ → List ℕ → Reading → Type 0
Follows c first others r = r.fault ≡ None → reading_of c (first ++ others) ≡ behind r.packets (reading_of r.carried others)

at_front-follows : (n : ℕ) (c : Carried) (first others : List ℕ) (front : BlockFront) → Says c first front → Stands c first others front → length first ≤ n
    → ((after : Carried) (left : List ℕ) → length left < n → Follows after left others (read_from n after left))
    → Follows c first others (at_front (λ after left. read_from n after left) c front)
at_front-follows n c first others nothing h stands less next whole = ap (λ xs. reading_of c (xs ++ others)) h
at_front-follows n c first others (broken fault) h stands less next whole = absurd (none_some (sym whole))
at_front-follows n c first others (found packet after left) h stands less next whole =
    goes_block_by_block c (first ++ others)
    ∙ ap (at_front reading_of c) stands
    ∙ ap (behind (packets_in packet)) (next after left (omega (arith, h.1, less)) whole)
    ∙ behind-behind (packets_in packet) (read_from n after left).packets (reading_of (read_from n after left).carried others)

read_from-follows : (n : ℕ) (c : Carried) (first others : List ℕ) → length first < n → Follows c first others (read_from n c first)
unfolding read_from
read_from-follows zero c first others less = absurd (omega arith)
read_from-follows (suc n) c first others less =
    at_front-follows n c first others (front_of c first) (front_of-says c first) (front_of-stands c first others) (omega arith)
    (λ after left h. read_from-follows n after left others h)

pub goes_on : GoesOnBehindBlocks
goes_on c first others whole = read_from-follows (suc (length first)) c first others (omega arith) whole
