-- The front of the remaining bytes, in every case.
use Rattle.pcapng_defs.proofs.Prelude.{List, refl, ℕ, ◌≡◌, arith, length, ◌≤◌, Bool, None, Some, ◌+◌, Option, [], eqb, ltb, true, ◌&&◌, ◌<◌, Err, Ok, Result, drop, leb, not, take, ◌-◌, ◌≢◌, length-drop, slice_get, ◌%◌, length-take, min, ◌*◌, ◌/◌, ◌^◌, cond_both, ltb-false, eqb-false, not-false, and_parts, eqb-true, leb-true, nil_from_length, AllByRecursion, long_at, short_at, CapturedPacket, most_captured, max_rank, Carried, BlockKind, block_gives, kind_of, enhanced, enhanced_at, interface, least_total, most_interfaces, most_total, ng_major, other, section, simple, simple_at, simple_len, packet_at, BlockFault, code, place, IsBounded, BlockFront, found, broken, most_blocks, nothing, block_len, fits_kind, front_at, front_in, front_with, order_at, packets_in, Interface}
use Rattle.pcapng_defs.specs.Moment.{moment_in, units_a_second}
use Rattle.pcapng_defs.specs.NgCapture.{front_of}

-- the fault has a code of 11 to 19 and is that of the next block
pub record IsNextFault (c : Carried) (fault : BlockFault) : Type 0 where
  pub least_code : 11 ≤ code fault
  pub most_code : code fault ≤ 19
  pub next : place fault ≡ c.blocks + 1

-- one more block was read, and timestamps stay bounded
pub record IsNext (c : Carried) (packet : Option CapturedPacket) (after : Carried) : Type 0 where
  pub counted : after.blocks ≡ c.blocks + 1
  pub early : c.moment ≤ max_rank → after.moment ≤ max_rank
  pub bounded : c.moment ≤ max_rank → AllByRecursion IsBounded (packets_in packet)

-- the condition for each result of a whole block
abbrev pub GivesSays : Carried → Result (Option CapturedPacket × Carried) BlockFault → Type 0
GivesSays c (Err fault) = IsNextFault c fault
GivesSays c (Ok given) = IsNext c given.0 given.1

-- the condition for each front
abbrev pub Says : Carried → List ℕ → BlockFront → Type 0
Says c rest nothing = rest ≡ []
Says c rest (broken fault) = IsNextFault c fault
Says c rest (found packet after others) = IsNext c packet after × (length others < length rest) × (c.blocks ≢ most_blocks)

packet_at-says : (c : Carried) (i : Interface) (moment original count at : ℕ) (block : List ℕ) → (c.moment ≤ max_rank → moment ≤ max_rank)
    → GivesSays c (packet_at c i moment original count at block)
packet_at-says c i moment original count at block early =
    cond_both (leb count most_captured && leb (at + count + 4) (length block)) _ _ (GivesSays c)
    (λ e.
    let short : length (take count (drop at block)) ≤ most_captured = omega (arith, leb-true _ _ (and_parts (leb count most_captured) (leb (at + count + 4) (length block)) e).0, length-take count (drop at block)) in
    record { counted = refl; early = early; bounded = λ h. (record { short = short; early = early h }, tt) })
    (λ e. record { least_code = omega arith; most_code = omega arith; next = refl })

moment-early : (x : ℕ) → min x max_rank ≤ max_rank
moment-early x = omega arith

enhanced_at-says : (c : Carried) (big : Bool) (block : List ℕ) (i : Option Interface) → GivesSays c (enhanced_at c big block i)
enhanced_at-says c big block None = record { least_code = omega arith; most_code = omega arith; next = refl }
enhanced_at-says c big block (Some i) =
    packet_at-says c i (moment_in i.unit (long_at big 12 block * 2 ^ 32 + long_at big 16 block)) (long_at big 24 block) (long_at big 20 block) 28 block
    (λ h. moment-early ((long_at big 12 block * 2 ^ 32 + long_at big 16 block) * 10 ^ 9 / units_a_second i.unit))

simple_at-says : (c : Carried) (big : Bool) (block : List ℕ) (i : Option Interface) → GivesSays c (simple_at c big block i)
simple_at-says c big block None = record { least_code = omega arith; most_code = omega arith; next = refl }
simple_at-says c big block (Some i) = packet_at-says c i c.moment (long_at big 8 block) (simple_len i (long_at big 8 block)) 12 block (λ h. h)

pub block_gives-says : (c : Carried) (big : Bool) (block : List ℕ) (kind : BlockKind) → GivesSays c (block_gives c big block kind)
block_gives-says c big block section =
    cond_both (eqb (short_at big 12 block) ng_major) _ _ (GivesSays c)
    (λ e. record { counted = refl; early = λ h. h; bounded = λ h. tt })
    (λ e. record { least_code = omega arith; most_code = omega arith; next = refl })
block_gives-says c big block interface =
    cond_both (eqb (length c.described) most_interfaces) _ _ (GivesSays c)
    (λ e. record { least_code = omega arith; most_code = omega arith; next = refl })
    (λ e. record { counted = refl; early = λ h. h; bounded = λ h. tt })
block_gives-says c big block enhanced = enhanced_at-says c big block (slice_get c.described (long_at big 8 block))
block_gives-says c big block simple = simple_at-says c big block (slice_get c.described 0)
block_gives-says c big block other = record { counted = refl; early = λ h. h; bounded = λ h. tt }

front_with-says : (c : Carried) (rest others : List ℕ) (r : Result (Option CapturedPacket × Carried) BlockFault) → GivesSays c r → length others < length rest → c.blocks ≢ most_blocks
    → Says c rest (front_with others r)
front_with-says c rest others (Err fault) h less few = h
front_with-says c rest others (Ok given) h less few = (h, less, few)

pub least_total-some : (kind : BlockKind) → block_len ≤ least_total kind
least_total-some section = omega arith
least_total-some interface = omega arith
least_total-some enhanced = omega arith
least_total-some simple = omega arith
least_total-some other = omega arith

-- a total length that a block can have is at least twelve bytes
pub fits_kind-some : (kind : BlockKind) (total : ℕ) → fits_kind kind total ≡ true → block_len ≤ total
fits_kind-some kind total h =
    let front = (and_parts (eqb (total % 4) 0 && leb (least_total kind) total) (leb total most_total) h).0 in
    let least = leb-true (least_total kind) total (and_parts (eqb (total % 4) 0) (leb (least_total kind) total) front).1 in
    omega (arith, least, least_total-some kind)

front_at-says : (c : Carried) (big : Bool) (rest : List ℕ) (kind : BlockKind) (total : ℕ) → c.blocks ≢ most_blocks → Says c rest (front_at c big rest kind total)
front_at-says c big rest kind total few =
    cond_both (not (fits_kind kind total)) _ _ (Says c rest)
    (λ e. record { least_code = omega arith; most_code = omega arith; next = refl }) (λ fits.
    cond_both (ltb (length rest) total) _ _ (Says c rest)
    (λ e. record { least_code = omega arith; most_code = omega arith; next = refl }) (λ whole.
    cond_both (not (eqb (long_at big (total - 4) rest) total)) _ _ (Says c rest)
    (λ e. record { least_code = omega arith; most_code = omega arith; next = refl }) (λ same.
    let some = fits_kind-some kind total (not-false (fits_kind kind total) fits) in
    let room = ltb-false _ _ whole in
    let less : length (drop total rest) < length rest = omega (arith, some, room, length-drop total rest) in
    front_with-says c rest (drop total rest) (block_gives c big (take total rest) kind) (block_gives-says c big (take total rest) kind) less few)))

front_in-says : (c : Carried) (rest : List ℕ) (order : Option Bool) → c.blocks ≢ most_blocks → Says c rest (front_in c rest order)
front_in-says c rest None few = record { least_code = omega arith; most_code = omega arith; next = refl }
front_in-says c rest (Some big) few = front_at-says c big rest (kind_of (long_at big 0 rest)) (long_at big 4 rest) few

pub front_of-says : (c : Carried) (rest : List ℕ) → Says c rest (front_of c rest)
unfolding front_of
front_of-says c rest =
    cond_both (eqb (length rest) 0 && not (eqb c.blocks 0)) _ _ (Says c rest)
    (λ e. nil_from_length rest (eqb-true _ _ (and_parts (eqb (length rest) 0) (not (eqb c.blocks 0)) e).0)) (λ some.
    cond_both (eqb c.blocks most_blocks) _ _ (Says c rest)
    (λ e. record { least_code = omega arith; most_code = omega arith; next = refl }) (λ few.
    cond_both (ltb (length rest) block_len) _ _ (Says c rest)
    (λ e. record { least_code = omega arith; most_code = omega arith; next = refl }) (λ long.
    front_in-says c rest (order_at c rest) (λ e. eqb-false _ _ few e))))
