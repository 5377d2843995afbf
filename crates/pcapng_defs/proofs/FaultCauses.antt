-- Each fault is read exactly if the remaining bytes have it.
use Rattle.pcapng_defs.proofs.Prelude.{List, refl, ℕ, ◌≡◌, ap, arith, length, ◌∙◌, ◌≤◌, Bool, None, Some, sym, ◌+◌, Option, [], eqb, ltb, subst, true, ◌&&◌, ◌++◌, ◌<◌, Err, Ok, Result, drop, leb, not, take, ◌-◌, ◌≢◌, false, slice_get, ⊎_elim, inl, inr, ◌⊎◌, cond_both, ltb-false, eqb-false, not-false, and_left, and_parts, cond-false, cond-true, eqb-true, le-ltb, ne_eqb, and_cases, and_from, and_right, eq-eqb, leb-false, lt-ltb, not_from_true, false_from_ne_true, lt-leb, ltb-true, not-true, not_from_false, true≢false, length-take-le, nil_from_length, take-append-drop, ⊤, long_at, short_at, CapturedPacket, most_captured, Carried, BlockKind, block_gives, kind_of, enhanced, enhanced_at, interface, most_interfaces, ng_major, other, section, simple, simple_at, simple_len, BlockFault, block_cut, block_end, code, block_length, interfaces, ng_version, no_interface, order_magic, packet_length, too_many_blocks, BlockFront, found, broken, most_blocks, nothing, block_len, fits_kind, front_at, front_in, front_with, order_at, IsWholeBlock, Interface}
use Rattle.pcapng_defs.specs.NgCapture.{front_of}
use Rattle.pcapng_defs.specs.FaultCauses.{IsTooLong, IsBodyFault, IsBegun, HasLength, IsCutFront, HasBadBody, IsBlockFault, ReadsFaults}
use Rattle.pcapng_defs.proofs.Fronts.{fits_kind-some}
use Rattle.pcapng_defs.proofs.LongerFronts.{order_at-longer, faults_stand}
use Rattle.pcapng_defs.proofs.WholeBlocks.{taken-whole, whole_front}

-- the condition for each result of a body: a returned fault is the body's
abbrev BodyTells : Carried → Bool → List ℕ → BlockKind → Result (Option CapturedPacket × Carried) BlockFault → Type 0
BodyTells c big block kind (Err fault) = IsBodyFault c big block kind fault
BodyTells c big block kind (Ok given) = ⊤

too_long : (count at : ℕ) (block : List ℕ) → (leb count most_captured && leb (at + count + 4) (length block)) ≡ false → IsTooLong count at block
too_long count at block e = ⊎_elim
    (λ h. inl (leb-false count most_captured h))
    (λ h. inr (leb-false (at + count + 4) (length block) h))
    (and_cases (leb count most_captured) (leb (at + count + 4) (length block)) e)

not_fitting : (count at : ℕ) (block : List ℕ) → IsTooLong count at block → (leb count most_captured && leb (at + count + 4) (length block)) ≡ false
not_fitting count at block h = ⊎_elim
    (λ l. and_left (leb count most_captured) (leb (at + count + 4) (length block)) (lt-leb _ _ l))
    (λ l. and_right (leb count most_captured) (leb (at + count + 4) (length block)) (lt-leb _ _ l))
    h

enhanced-tells : (c : Carried) (big : Bool) (block : List ℕ) (i : Option Interface) → slice_get c.described (long_at big 8 block) ≡ i → BodyTells c big block enhanced (enhanced_at c big block i)
enhanced-tells c big block None e = (refl, inl (refl, e))
enhanced-tells c big block (Some i) e =
    cond_both (leb (long_at big 20 block) most_captured && leb (28 + long_at big 20 block + 4) (length block)) _ _ (BodyTells c big block enhanced)
    (λ h. tt) (λ h. (refl, i, inl (refl, e, too_long (long_at big 20 block) 28 block h)))

simple-tells : (c : Carried) (big : Bool) (block : List ℕ) (i : Option Interface) → slice_get c.described 0 ≡ i → BodyTells c big block simple (simple_at c big block i)
simple-tells c big block None e = (refl, inr (refl, e))
simple-tells c big block (Some i) e =
    cond_both (leb (simple_len i (long_at big 8 block)) most_captured && leb (12 + simple_len i (long_at big 8 block) + 4) (length block)) _ _ (BodyTells c big block simple)
    (λ h. tt) (λ h. (refl, i, inr (refl, e, too_long (simple_len i (long_at big 8 block)) 12 block h)))

block_gives-tells : (c : Carried) (big : Bool) (block : List ℕ) (kind : BlockKind) → BodyTells c big block kind (block_gives c big block kind)
block_gives-tells c big block section =
    cond_both (eqb (short_at big 12 block) ng_major) _ _ (BodyTells c big block section) (λ e. tt) (λ e. (refl, refl, λ h. eqb-false _ _ e h))
block_gives-tells c big block interface =
    cond_both (eqb (length c.described) most_interfaces) _ _ (BodyTells c big block interface) (λ e. (refl, refl, eqb-true _ _ e)) (λ e. tt)
block_gives-tells c big block enhanced = enhanced-tells c big block (slice_get c.described (long_at big 8 block)) refl
block_gives-tells c big block simple = simple-tells c big block (slice_get c.described 0) refl
block_gives-tells c big block other = tt

block_gives-fault : (c : Carried) (big : Bool) (block : List ℕ) (kind : BlockKind) (fault : BlockFault) → IsBodyFault c big block kind fault → block_gives c big block kind ≡ Err fault
block_gives-fault c big block kind (ng_version n) h =
    ap (block_gives c big block) h.1 ∙ cond-false _ _ _ (ne_eqb _ _ h.2) ∙ ap (λ m. Err (ng_version m)) (sym h.0)
block_gives-fault c big block kind (interfaces n) h =
    ap (block_gives c big block) h.1 ∙ cond-true _ _ _ (eq-eqb _ _ h.2) ∙ ap (λ m. Err (interfaces m)) (sym h.0)
block_gives-fault c big block kind (no_interface n) h = ⊎_elim
    (λ k. ap (block_gives c big block) k.0 ∙ ap (enhanced_at c big block) k.1 ∙ ap (λ m. Err (no_interface m)) (sym h.0))
    (λ k. ap (block_gives c big block) k.0 ∙ ap (simple_at c big block) k.1 ∙ ap (λ m. Err (no_interface m)) (sym h.0))
    h.1
block_gives-fault c big block kind (packet_length n) h = ⊎_elim
    (λ k. ap (block_gives c big block) k.0 ∙ ap (enhanced_at c big block) k.1
    ∙ cond-false _ _ _ (not_fitting (long_at big 20 block) 28 block k.2) ∙ ap (λ m. Err (packet_length m)) (sym h.0))
    (λ k. ap (block_gives c big block) k.0 ∙ ap (simple_at c big block) k.1
    ∙ cond-false _ _ _ (not_fitting (simple_len h.1 (long_at big 8 block)) 12 block k.2) ∙ ap (λ m. Err (packet_length m)) (sym h.0))
    h.2
block_gives-fault c big block kind (block_cut n) h = absurd h
block_gives-fault c big block kind (block_length n) h = absurd h
block_gives-fault c big block kind (order_magic n) h = absurd h
block_gives-fault c big block kind (too_many_blocks n) h = absurd h
block_gives-fault c big block kind (block_end n) h = absurd h

-- the condition for each front: a fault is that of the remaining bytes, and at the end nothing is
-- left
abbrev Tells : Carried → List ℕ → BlockFront → Type 0
Tells c rest nothing = (rest ≡ []) × (c.blocks ≢ 0)
Tells c rest (broken fault) = IsBlockFault c rest fault
Tells c rest (found packet after others) = ⊤

body-is : (c : Carried) (rest : List ℕ) (fault : BlockFault) → HasBadBody c rest fault → IsBlockFault c rest fault
body-is c rest (ng_version n) h = h
body-is c rest (interfaces n) h = h
body-is c rest (no_interface n) h = h
body-is c rest (packet_length n) h = h
body-is c rest (block_cut n) h = absurd h.body
body-is c rest (block_length n) h = absurd h.body
body-is c rest (order_magic n) h = absurd h.body
body-is c rest (too_many_blocks n) h = absurd h.body
body-is c rest (block_end n) h = absurd h.body

front_with-tells : (c : Carried) (big : Bool) (rest block others : List ℕ) (kind : BlockKind) (r : Result (Option CapturedPacket × Carried) BlockFault)
    → c.blocks ≢ most_blocks → rest ≡ block ++ others → order_at c block ≡ Some big → IsWholeBlock big kind block → BodyTells c big block kind r
    → Tells c rest (front_with others r)
front_with-tells c big rest block others kind (Ok given) few split order whole h = tt
front_with-tells c big rest block others kind (Err fault) few split order whole h =
    body-is c rest fault (record { big = big; kind = kind; block = block; others = others; split = split; few = few; order = order; whole = whole; body = h })

-- the front of twelve bytes or more whose block has a byte order
front_at-tells : (c : Carried) (big : Bool) (rest : List ℕ) → IsBegun c big rest → Tells c rest (front_at c big rest (kind_of (long_at big 0 rest)) (long_at big 4 rest))
front_at-tells c big rest b =
    let kind = kind_of (long_at big 0 rest) in
    let total = long_at big 4 rest in
    cond_both (not (fits_kind kind total)) _ _ (Tells c rest)
    (λ e. (refl, big, b, λ h. true≢false (sym h ∙ not-true (fits_kind kind total) e))) (λ fits.
    let fit = not-false (fits_kind kind total) fits in
    cond_both (ltb (length rest) total) _ _ (Tells c rest)
    (λ e. (refl, inr (big, b, fit, ltb-true _ _ e))) (λ whole.
    let room : total ≤ length rest = ltb-false _ _ whole in
    cond_both (not (eqb (long_at big (total - 4) rest) total)) _ _ (Tells c rest)
    (λ e. (refl, big, b, fit, room, λ h. eqb-false _ _ (not-true (eqb (long_at big (total - 4) rest) total) e) h)) (λ same.
    let split : take total rest ++ drop total rest ≡ rest = take-append-drop total rest in
    let long : block_len ≤ length (take total rest) = omega (arith, fits_kind-some kind total fit, length-take-le total rest room) in
    front_with-tells c big rest (take total rest) (drop total rest) kind (block_gives c big (take total rest) kind) b.few (sym split)
    (sym (order_at-longer c (take total rest) (drop total rest) long) ∙ ap (order_at c) split ∙ b.order)
    (taken-whole big rest total fit room refl (eqb-true _ _ (not-false (eqb (long_at big (total - 4) rest) total) same)))
    (block_gives-tells c big (take total rest) kind))))

front_in-tells : (c : Carried) (rest : List ℕ) (order : Option Bool) → c.blocks ≢ most_blocks → block_len ≤ length rest → order_at c rest ≡ order → Tells c rest (front_in c rest order)
front_in-tells c rest None few enough e = (refl, few, enough, e)
front_in-tells c rest (Some big) few enough e = front_at-tells c big rest (record { few = few; enough = enough; order = e })

-- if it isn't the end, something is left or no block was read yet
left_or_first : (c : Carried) (rest : List ℕ) → (eqb (length rest) 0 && not (eqb c.blocks 0)) ≡ false → (0 < length rest) ⊎ (c.blocks ≡ 0)
left_or_first c rest h = ⊎_elim
    (λ e. inl (omega (arith, eqb-false _ _ e)))
    (λ e. inr (eqb-true _ _ (not-false (eqb c.blocks 0) e)))
    (and_cases (eqb (length rest) 0) (not (eqb c.blocks 0)) h)

left_behind_blocks : (c : Carried) (rest : List ℕ) → c.blocks ≡ most_blocks → (0 < length rest) ⊎ (c.blocks ≡ 0) → 0 < length rest
left_behind_blocks c rest full h = ⊎_elim (λ l. l) (λ z. omega (arith, full, z)) h

front_of-tells : (c : Carried) (rest : List ℕ) → Tells c rest (front_of c rest)
unfolding front_of
front_of-tells c rest =
    cond_both (eqb (length rest) 0 && not (eqb c.blocks 0)) _ _ (Tells c rest)
    (λ e.
    let both = and_parts (eqb (length rest) 0) (not (eqb c.blocks 0)) e in
    (nil_from_length rest (eqb-true _ _ both.0), λ z. eqb-false _ _ (not-true (eqb c.blocks 0) both.1) z)) (λ some.
    cond_both (eqb c.blocks most_blocks) _ _ (Tells c rest)
    (λ e. (refl, eqb-true _ _ e, left_behind_blocks c rest (eqb-true _ _ e) (left_or_first c rest some))) (λ few.
    cond_both (ltb (length rest) block_len) _ _ (Tells c rest)
    (λ e. (refl, inl (record { few = λ h. eqb-false _ _ few h; cut = ltb-true _ _ e; some = left_or_first c rest some }))) (λ long.
    front_in-tells c rest (order_at c rest) (λ h. eqb-false _ _ few h) (ltb-false _ _ long) refl)))

front_of-nothing : (c : Carried) (rest : List ℕ) → rest ≡ [] → c.blocks ≢ 0 → front_of c rest ≡ nothing
unfolding front_of
front_of-nothing c rest none came =
    cond-true _ _ _ (and_from (eqb (length rest) 0) (not (eqb c.blocks 0)) (eq-eqb _ _ (ap length none)) (not_from_false (eqb c.blocks 0) (ne_eqb _ _ came)))

-- if something is left or no block was read yet, it isn't the end
not_over : (c : Carried) (rest : List ℕ) → (0 < length rest) ⊎ (c.blocks ≡ 0) → (eqb (length rest) 0 && not (eqb c.blocks 0)) ≡ false
not_over c rest h = ⊎_elim
    (λ l. and_left (eqb (length rest) 0) (not (eqb c.blocks 0)) (ne_eqb (length rest) 0 (λ e. omega (arith, l, e))))
    (λ z. and_right (eqb (length rest) 0) (not (eqb c.blocks 0)) (not_from_true (eqb c.blocks 0) (eq-eqb _ _ z)))
    h

-- the front of twelve bytes or more, if another block is allowed
front_of-long : (c : Carried) (rest : List ℕ) → c.blocks ≢ most_blocks → block_len ≤ length rest → front_of c rest ≡ front_in c rest (order_at c rest)
unfolding front_of
front_of-long c rest few enough =
    cond-false _ _ _ (not_over c rest (inl (omega (arith, enough))))
    ∙ cond-false _ _ _ (ne_eqb c.blocks most_blocks few)
    ∙ cond-false _ _ _ (le-ltb (length rest) block_len enough)

front_of-begun : (c : Carried) (big : Bool) (rest : List ℕ) → IsBegun c big rest → front_of c rest ≡ front_at c big rest (kind_of (long_at big 0 rest)) (long_at big 4 rest)
front_of-begun c big rest b = front_of-long c rest b.few b.enough ∙ ap (front_in c rest) b.order

front_of-full : (c : Carried) (rest : List ℕ) → c.blocks ≡ most_blocks → 0 < length rest → front_of c rest ≡ broken (too_many_blocks (c.blocks + 1))
unfolding front_of
front_of-full c rest full some = cond-false _ _ _ (not_over c rest (inl some)) ∙ cond-true _ _ _ (eq-eqb c.blocks most_blocks full)

front_of-cut : (c : Carried) (rest : List ℕ) → IsCutFront c rest → front_of c rest ≡ broken (block_cut (c.blocks + 1))
unfolding front_of
front_of-cut c rest h =
    cond-false _ _ _ (not_over c rest h.some)
    ∙ cond-false _ _ _ (ne_eqb c.blocks most_blocks h.few)
    ∙ cond-true _ _ _ (lt-ltb (length rest) block_len h.cut)

front_at-length : (c : Carried) (big : Bool) (rest : List ℕ) → (HasLength big rest → ⊥) → front_at c big rest (kind_of (long_at big 0 rest)) (long_at big 4 rest) ≡ broken (block_length (c.blocks + 1))
front_at-length c big rest h =
    cond-true _ _ _ (not_from_false (fits_kind (kind_of (long_at big 0 rest)) (long_at big 4 rest)) (false_from_ne_true (fits_kind (kind_of (long_at big 0 rest)) (long_at big 4 rest)) h))

front_at-short : (c : Carried) (big : Bool) (rest : List ℕ) (kind : BlockKind) (total : ℕ) → fits_kind kind total ≡ true → length rest < total → front_at c big rest kind total ≡ broken (block_cut (c.blocks + 1))
front_at-short c big rest kind total fit less =
    cond-false _ _ _ (not_from_true (fits_kind kind total) fit)
    ∙ cond-true _ _ _ (lt-ltb (length rest) total less)

front_at-differs : (c : Carried) (big : Bool) (rest : List ℕ) (kind : BlockKind) (total : ℕ) → fits_kind kind total ≡ true → total ≤ length rest → long_at big (total - 4) rest ≢ total
    → front_at c big rest kind total ≡ broken (block_end (c.blocks + 1))
front_at-differs c big rest kind total fit room differ =
    cond-false _ _ _ (not_from_true (fits_kind kind total) fit)
    ∙ cond-false _ _ _ (le-ltb (length rest) total room)
    ∙ cond-true _ _ _ (not_from_false (eqb (long_at big (total - 4) rest) total) (ne_eqb _ _ differ))

-- a fault of a body, in the block alone and with the others after it
bad_body : (c : Carried) (rest : List ℕ) (fault : BlockFault) → HasBadBody c rest fault → fault ≢ block_cut (c.blocks + 1) → front_of c rest ≡ broken fault
bad_body c rest fault h uncut =
    ap (front_of c) h.split
    ∙ faults_stand c fault h.block h.others
    (whole_front c h.big h.block h.kind h.few h.order h.whole ∙ ap (front_with []) (block_gives-fault c h.big h.block h.kind fault h.body)) uncut

front_of-fault : (c : Carried) (rest : List ℕ) (fault : BlockFault) → IsBlockFault c rest fault → front_of c rest ≡ broken fault
front_of-fault c rest (too_many_blocks n) h = front_of-full c rest h.1 h.2 ∙ ap (λ m. broken (too_many_blocks m)) (sym h.0)
front_of-fault c rest (order_magic n) h = front_of-long c rest h.1 h.2 ∙ ap (front_in c rest) h.3 ∙ ap (λ m. broken (order_magic m)) (sym h.0)
front_of-fault c rest (block_length n) h = front_of-begun c h.1 rest h.2 ∙ front_at-length c h.1 rest h.3 ∙ ap (λ m. broken (block_length m)) (sym h.0)
front_of-fault c rest (block_cut n) h = ⊎_elim
    (λ k. front_of-cut c rest k ∙ ap (λ m. broken (block_cut m)) (sym h.0))
    (λ k. front_of-begun c k.0 rest k.1 ∙ front_at-short c k.0 rest (kind_of (long_at k.0 0 rest)) (long_at k.0 4 rest) k.2 k.3 ∙ ap (λ m. broken (block_cut m)) (sym h.0))
    h.1
front_of-fault c rest (block_end n) h =
    front_of-begun c h.1 rest h.2
    ∙ front_at-differs c h.1 rest (kind_of (long_at h.1 0 rest)) (long_at h.1 4 rest) h.3 h.4 h.5
    ∙ ap (λ m. broken (block_end m)) (sym h.0)
front_of-fault c rest (ng_version n) h = bad_body c rest (ng_version n) h (λ e. absurd (omega (arith, ap code e)))
front_of-fault c rest (interfaces n) h = bad_body c rest (interfaces n) h (λ e. absurd (omega (arith, ap code e)))
front_of-fault c rest (no_interface n) h = bad_body c rest (no_interface n) h (λ e. absurd (omega (arith, ap code e)))
front_of-fault c rest (packet_length n) h = bad_body c rest (packet_length n) h (λ e. absurd (omega (arith, ap code e)))

pub reads_faults : ReadsFaults
reads_faults = record {
  faults = λ c rest fault. (λ h. front_of-fault c rest fault h, λ e. subst (Tells c rest) e (front_of-tells c rest));
  ends = λ c rest. (λ h. front_of-nothing c rest h.0 h.1, λ e. subst (Tells c rest) e (front_of-tells c rest));
}
