-- The body of a block from its front, and the result of the whole block.
use Rattle.pcapng_core.proofs.Prelude.{◌≡◌, ℕ, List, sym, ◌∙◌, ap, arith, length, ◌+◌, Option, Some, subst, ◌≤◌, None, ◌-◌, IfSome, ◌++◌, drop, refl, take, Bool, [], eqb, true, false, ◌&&◌, Err, Ok, Result, if◌then◌else◌, leb, slice_get, ◌*◌, ◌^◌, ◌∷◌, IsSomeAnd, unwrap_or, long_at, short_at, CapturedPacket, most_captured, Carried, block_gives, most_interfaces, ng_major, enhanced_at, packet_at, past, simple_at, simple_len, BlockFault, interfaces, ng_version, packet_length, unit_of, moment_in, Interface, Unit, front_len, body_said, captured_in, enhanced_body, packet_body, packet_told, simple_body, went, fault_in, kind_said, Body, Packet, NgFault, Interfaces, NgVersion, PacketLength, Kind}
use Rattle.std.specs.Option.{option_map}
use Rattle.pcapng_core.specs.declared.start.Kind.TheVariants as kind
use Rattle.pcapng_core.specs.declared.body.Body.TheVariants as body

-- a packet with its captured bytes, if there is one
abbrev pub told : List ℕ → Option Packet → Option CapturedPacket
told into packet = option_map (λ p. packet_told p into) packet

-- the result of a whole block with this body; `captured` are its captured bytes, and its options
-- give the unit
abbrev pub Gives : Carried → Bool → Unit → List ℕ → Body → Result (Option CapturedPacket × Carried) BlockFault → Type 0
Gives c big unit captured (body.Faulty e) given = IsSomeAnd (fault_in e) (λ fault. given ≡ Err fault)
Gives c big unit captured b given = IfSome (went c big unit b) (λ y. given ≡ Ok (told captured y.0, y.1))

-- a section header
section-gives : (b big : Bool) (c : Carried) (unit : Unit) (into : List ℕ)
    → Gives c big unit into (if b then body.Section else body.Faulty (NgVersion (c.blocks + 1)))
    (if b then Ok (None, record (past c) { big = big; described = [] }) else Err (ng_version (c.blocks + 1)))
section-gives true big c unit into = refl
section-gives false big c unit into = refl

-- an interface
interface-gives : (b big : Bool) (c : Carried) (link snapshot : ℕ) (unit : Unit) (j : Interface) (into : List ℕ)
    → record { link = link; snapshot = snapshot; unit = unit } ≡ j
    → Gives c big unit into (if b then body.Faulty (Interfaces (c.blocks + 1)) else body.Interface link snapshot)
    (if b then Err (interfaces (c.blocks + 1)) else Ok (None, record (past c) { described = c.described ++ j ∷ [] }))
interface-gives true big c link snapshot unit j into same = refl
interface-gives false big c link snapshot unit j into same = ap (λ k. Ok (None, record (past c) { described = c.described ++ k ∷ [] })) (sym same)

-- a packet
packet-gives : (b big : Bool) (c : Carried) (unit : Unit) (p : Packet) (into captured : List ℕ)
    → (b ≡ true → into ≡ captured)
    → Gives c big unit into (if b then body.Packet p else body.Faulty (PacketLength (c.blocks + 1)))
    (if b then Ok (Some (packet_told p captured), record (past c) { moment = p.moment }) else Err (packet_length (c.blocks + 1)))
packet-gives true big c unit p into captured same = ap (λ xs. Ok (Some (packet_told p xs), record (past c) { moment = p.moment })) (sym (same refl))
packet-gives false big c unit p into captured same = refl

-- a packet whose captured bytes are at this position
packet_at-gives : (big : Bool) (c : Carried) (unit : Unit) (i : Interface) (moment captured len at : ℕ) (into block : List ℕ)
    → into ≡ take (captured_in (packet_body (record { link = i.link; moment = moment; captured = captured; len = len }) at (length block) (c.blocks + 1))) (drop at block)
    → Gives c big unit into (packet_body (record { link = i.link; moment = moment; captured = captured; len = len }) at (length block) (c.blocks + 1))
    (packet_at c i moment len captured at block)
packet_at-gives big c unit i moment captured len at into block taken =
    let p : Packet = record { link = i.link; moment = moment; captured = captured; len = len } in
    let fits : Bool = leb captured most_captured && leb (at + captured + 4) (length block) in
    packet-gives fits big c unit p into (take captured (drop at block))
    (λ e. taken ∙ ap (λ (b : Bool). take (captured_in (if b then body.Packet p else body.Faulty (PacketLength (c.blocks + 1)))) (drop at block)) e)

-- an enhanced packet, with the values in its front
enhanced-gives : (c : Carried) (big : Bool) (unit : Unit) (front into block : List ℕ) (i : Option Interface)
    → ((at : ℕ) → at + 4 ≤ 28 → long_at big at block ≡ long_at big at front)
    → into ≡ take (captured_in (enhanced_body c big (length block) front i)) (drop 28 block)
    → Gives c big unit into (enhanced_body c big (length block) front i) (enhanced_at c big block i)
enhanced-gives c big unit front into block None at taken = refl
enhanced-gives c big unit front into block (Some i) at taken =
    let b = enhanced_body c big (length block) front (Some i) in
    let given : ℕ → ℕ → ℕ → ℕ → Result (Option CapturedPacket × Carried) BlockFault =
    λ high low len count. packet_at c i (moment_in i.unit (high * 2 ^ 32 + low)) len count 28 block in
    let same : enhanced_at c big block (Some i) ≡ given (long_at big 12 front) (long_at big 16 front) (long_at big 24 front) (long_at big 20 front) =
    ap (λ m. given m (long_at big 16 block) (long_at big 24 block) (long_at big 20 block)) (at 12 (omega arith))
    ∙ ap (λ m. given (long_at big 12 front) m (long_at big 24 block) (long_at big 20 block)) (at 16 (omega arith))
    ∙ ap (λ m. given (long_at big 12 front) (long_at big 16 front) m (long_at big 20 block)) (at 24 (omega arith))
    ∙ ap (λ m. given (long_at big 12 front) (long_at big 16 front) (long_at big 24 front) m) (at 20 (omega arith)) in
    subst (λ r. Gives c big unit into b r) (sym same)
    (packet_at-gives big c unit i (moment_in i.unit (long_at big 12 front * 2 ^ 32 + long_at big 16 front)) (long_at big 20 front) (long_at big 24 front) 28 into block taken)

-- a simple packet, with the values in its front
simple-gives : (c : Carried) (big : Bool) (unit : Unit) (front into block : List ℕ) (i : Option Interface)
    → long_at big 8 block ≡ long_at big 8 front
    → into ≡ take (captured_in (simple_body c big (length block) front i)) (drop 12 block)
    → Gives c big unit into (simple_body c big (length block) front i) (simple_at c big block i)
simple-gives c big unit front into block None at taken = refl
simple-gives c big unit front into block (Some i) at taken =
    subst (λ r. Gives c big unit into (simple_body c big (length block) front (Some i)) r)
    (sym (ap (λ m. packet_at c i c.moment m (simple_len i m) 12 block) at))
    (packet_at-gives big c unit i c.moment (simple_len i (long_at big 8 front)) (long_at big 8 front) 12 into block taken)

-- a whole block, whose first bytes are `front` and whose captured bytes are `into`
pub block-gives : (k : Kind) (c : Carried) (big : Bool) (unit : Unit) (front into block : List ℕ)
    → ((at : ℕ) → at + 4 ≤ front_len k → long_at big at block ≡ long_at big at front)
    → ((at : ℕ) → at + 2 ≤ front_len k → short_at big at block ≡ short_at big at front)
    → into ≡ take (captured_in (body_said c big (length block) front k)) (drop (front_len k) block)
    → (k ≡ kind.Interface → unit_of big (take (length block - 20) (drop 16 block)) ≡ unit)
    → Gives c big unit into (body_said c big (length block) front k) (block_gives c big block (kind_said k))
block-gives kind.Section c big unit front into block long short taken options =
    subst (λ m. Gives c big unit into (body_said c big (length block) front kind.Section) (if eqb m ng_major then Ok (None, record (past c) { big = big; described = [] }) else Err (ng_version (c.blocks + 1))))
    (sym (short 12 (omega arith)))
    (section-gives (eqb (short_at big 12 front) ng_major) big c unit into)
block-gives kind.Interface c big unit front into block long short taken options =
    let whole : ℕ → ℕ → Unit → Interface = λ link snapshot u. record { link = link; snapshot = snapshot; unit = u } in
    interface-gives (eqb (length c.described) most_interfaces) big c (short_at big 8 front) (long_at big 12 front) unit _ into
    (ap (λ m. whole m (long_at big 12 front) unit) (sym (short 8 (omega arith)))
    ∙ ap (λ m. whole (short_at big 8 block) m unit) (sym (long 12 (omega arith)))
    ∙ ap (λ u. whole (short_at big 8 block) (long_at big 12 block) u) (sym (options refl)))
block-gives kind.Enhanced c big unit front into block long short taken options =
    subst (λ m. Gives c big unit into (body_said c big (length block) front kind.Enhanced) (enhanced_at c big block (slice_get c.described m)))
    (sym (long 8 (omega arith)))
    (enhanced-gives c big unit front into block (slice_get c.described (long_at big 8 front)) long taken)
block-gives kind.Simple c big unit front into block long short taken options =
    simple-gives c big unit front into block (slice_get c.described 0) (long 8 (omega arith)) taken
block-gives kind.Other c big unit front into block long short taken options = refl

some_same : {A : Type 0} {x y : A} → Some x ≡ Some y → x ≡ y
some_same {x = x} e = ap (λ o. unwrap_or o x) e

told-went : (into : List ℕ) (x y : Option Packet × Carried) (given : Result (Option CapturedPacket × Carried) BlockFault)
    → given ≡ Ok (told into x.0, x.1) → Some x ≡ Some y → given ≡ Ok (told into y.0, y.1)
told-went into x y given h e = h ∙ ap (λ (p : Option Packet × Carried). Ok (told into p.0, p.1)) (some_same e)

-- the result of the block if a reader goes past it
pub gives-went : (b : Body) (c : Carried) (big : Bool) (unit : Unit) (into : List ℕ) (y : Option Packet × Carried) (given : Result (Option CapturedPacket × Carried) BlockFault)
    → Gives c big unit into b given → went c big unit b ≡ Some y → given ≡ Ok (told into y.0, y.1)
gives-went body.Section c big unit into y given h e = told-went into _ y given h e
gives-went (body.Interface link snapshot) c big unit into y given h e = told-went into _ y given h e
gives-went (body.Packet p) c big unit into y given h e = told-went into _ y given h e
gives-went body.Other c big unit into y given h e = told-went into _ y given h e
gives-went (body.Faulty fault) c big unit into y given h e = absurd (cc)

-- the result of the block if it is at fault
faulty-same : (o : Option BlockFault) (fault : BlockFault) (given : Result (Option CapturedPacket × Carried) BlockFault)
    → IsSomeAnd o (λ f. given ≡ Err f) → o ≡ Some fault → given ≡ Err fault
faulty-same None fault given h e = absurd h
faulty-same (Some f) fault given h e = h ∙ ap Err (some_same e)

pub gives-faulty : (b : Body) (e : NgFault) (c : Carried) (big : Bool) (unit : Unit) (into : List ℕ) (fault : BlockFault) (given : Result (Option CapturedPacket × Carried) BlockFault)
    → Gives c big unit into b given → b ≡ body.Faulty e → fault_in e ≡ Some fault → given ≡ Err fault
gives-faulty b e c big unit into fault given h is named =
    faulty-same (fault_in e) fault given (subst (λ x. Gives c big unit into x given) is h) named
