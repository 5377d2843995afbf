-- The front stays the same whatever bytes follow, except for the end of a file and a cut block.
use Rattle.pcapng_defs.proofs.Prelude.{List, refl, ℕ, ◌≡◌, ap, arith, length, ◌∙◌, ◌≤◌, Bool, None, Some, ◌+◌, Option, eqb, ltb, subst, true, ◌&&◌, ◌++◌, Err, Ok, Result, drop, not, take, ◌-◌, ◌≢◌, false, length-append, ⊎_elim, if◌then◌else◌, ◌==◌, cond_both, ltb-false, eqb-false, not-false, and_left, cond-false, cond-true, le-ltb, ne_eqb, and_cases, and_right, take-append-le, drop-append-le, ⊤, number_at-append, long_at, CapturedPacket, Carried, BlockKind, block_gives, kind_of, section_type, BlockFault, block_cut, block_end, BlocksStand, FaultsStand, BlockFront, found, broken, most_blocks, nothing, block_len, fits_kind, front_at, front_in, front_with, order_at, order_in, order_number}
use Rattle.pcapng_defs.specs.NgCapture.{front_of}
use Rattle.pcapng_defs.proofs.Fronts.{fits_kind-some}

-- this is also the front of the bytes with more bytes after them
abbrev pub Stands : Carried → List ℕ → List ℕ → BlockFront → Type 0
Stands c rest more nothing = ⊤
Stands c rest more (broken fault) = fault ≢ block_cut (c.blocks + 1) → front_of c (rest ++ more) ≡ broken fault
Stands c rest more (found packet after others) = front_of c (rest ++ more) ≡ found packet after (others ++ more)

-- the byte order in the first twelve bytes
order_in-longer : (rest more : List ℕ) → block_len ≤ length rest → order_in (rest ++ more) ≡ order_in rest
order_in-longer rest more long =
    ap (λ m. if m == order_number then Some false else if long_at true 8 (rest ++ more) == order_number then Some true else None)
    (number_at-append false 4 8 rest more (omega (arith, long)))
    ∙ ap (λ m. if long_at false 8 rest == order_number then Some false else if m == order_number then Some true else None)
    (number_at-append true 4 8 rest more (omega (arith, long)))

pub order_at-longer : (c : Carried) (rest more : List ℕ) → block_len ≤ length rest → order_at c (rest ++ more) ≡ order_at c rest
order_at-longer c rest more long =
    ap (λ m. if m == section_type then order_in (rest ++ more) else if c.blocks == 0 then None else Some c.big)
    (number_at-append c.big 4 0 rest more (omega (arith, long)))
    ∙ ap (λ o. if long_at c.big 0 rest == section_type then o else if c.blocks == 0 then None else Some c.big)
    (order_in-longer rest more long)

front_with-stands : (c : Carried) (rest more others : List ℕ) (r : Result (Option CapturedPacket × Carried) BlockFault)
    → front_of c (rest ++ more) ≡ front_with (others ++ more) r → Stands c rest more (front_with others r)
front_with-stands c rest more others (Err fault) e = λ h. e
front_with-stands c rest more others (Ok given) e = e

front_at-stands : (c : Carried) (big : Bool) (rest more : List ℕ) (kind : BlockKind) (total : ℕ)
    → front_of c (rest ++ more) ≡ front_at c big (rest ++ more) kind total → Stands c rest more (front_at c big rest kind total)
front_at-stands c big rest more kind total longer =
    cond_both (not (fits_kind kind total)) _ _ (Stands c rest more)
    (λ e h. longer ∙ cond-true _ _ _ e) (λ fits.
    cond_both (ltb (length rest) total) _ _ (Stands c rest more)
    (λ e h. absurd (h refl)) (λ whole.
    let some = fits_kind-some kind total (not-false (fits_kind kind total) fits) in
    let room : total ≤ length rest = ltb-false _ _ whole in
    let end : long_at big (total - 4) (rest ++ more) ≡ long_at big (total - 4) rest = number_at-append big 4 (total - 4) rest more (omega (arith, some, room)) in
    let past : front_of c (rest ++ more) ≡ (if not (long_at big (total - 4) (rest ++ more) == total) then broken (block_end (c.blocks + 1)) else front_with (drop total (rest ++ more)) (block_gives c big (take total (rest ++ more)) kind)) =
    longer ∙ cond-false _ _ _ fits ∙ cond-false _ _ _ (le-ltb (length (rest ++ more)) total (omega (arith, room, length-append rest more))) in
    cond_both (not (eqb (long_at big (total - 4) rest) total)) _ _ (Stands c rest more)
    (λ e h. past ∙ cond-true _ _ _ (ap (λ m. not (eqb m total)) end ∙ e)) (λ same.
    front_with-stands c rest more (drop total rest) (block_gives c big (take total rest) kind) (
    past ∙ cond-false _ _ _ (ap (λ m. not (eqb m total)) end ∙ same)
    ∙ ap (λ xs. front_with xs (block_gives c big (take total (rest ++ more)) kind)) (drop-append-le total rest more room)
    ∙ ap (λ xs. front_with (drop total rest ++ more) (block_gives c big xs kind)) (take-append-le total rest more room)))))

front_in-stands : (c : Carried) (rest more : List ℕ) (order : Option Bool) → block_len ≤ length rest
    → front_of c (rest ++ more) ≡ front_in c (rest ++ more) order → Stands c rest more (front_in c rest order)
front_in-stands c rest more None long longer = λ h. longer
front_in-stands c rest more (Some big) long longer =
    front_at-stands c big rest more (kind_of (long_at big 0 rest)) (long_at big 4 rest) (
    longer
    ∙ ap (λ m. front_at c big (rest ++ more) (kind_of m) (long_at big 4 (rest ++ more))) (number_at-append big 4 0 rest more (omega (arith, long)))
    ∙ ap (λ m. front_at c big (rest ++ more) (kind_of (long_at big 0 rest)) m) (number_at-append big 4 4 rest more (omega (arith, long))))

-- if something was left, something is left with more bytes after it
still_some : (c : Carried) (rest more : List ℕ) → (eqb (length rest) 0 && not (eqb c.blocks 0)) ≡ false → (eqb (length (rest ++ more)) 0 && not (eqb c.blocks 0)) ≡ false
still_some c rest more h = ⊎_elim
    (λ e. and_left (eqb (length (rest ++ more)) 0) (not (eqb c.blocks 0)) (ne_eqb (length (rest ++ more)) 0 (λ none. omega (arith, eqb-false _ _ e, length-append rest more, none))))
    (λ e. and_right (eqb (length (rest ++ more)) 0) (not (eqb c.blocks 0)) e)
    (and_cases (eqb (length rest) 0) (not (eqb c.blocks 0)) h)

pub front_of-stands : (c : Carried) (rest more : List ℕ) → Stands c rest more (front_of c rest)
unfolding front_of
front_of-stands c rest more =
    cond_both (eqb (length rest) 0 && not (eqb c.blocks 0)) _ _ (Stands c rest more) (λ e. tt) (λ some.
    let still = still_some c rest more some in
    cond_both (eqb c.blocks most_blocks) _ _ (Stands c rest more)
    (λ e h. cond-false _ _ _ still ∙ cond-true _ _ _ e) (λ few.
    cond_both (ltb (length rest) block_len) _ _ (Stands c rest more)
    (λ e h. absurd (h refl)) (λ short.
    let long : block_len ≤ length rest = ltb-false _ _ short in
    front_in-stands c rest more (order_at c rest) long (
    cond-false _ _ _ still ∙ cond-false _ _ _ few
    ∙ cond-false _ _ _ (le-ltb (length (rest ++ more)) block_len (omega (arith, long, length-append rest more)))
    ∙ ap (front_in c (rest ++ more)) (order_at-longer c rest more long)))))

pub blocks_stand : BlocksStand
blocks_stand c after packet rest others more e = subst (Stands c rest more) e (front_of-stands c rest more)

pub faults_stand : FaultsStand
faults_stand c fault rest more e h = subst (Stands c rest more) e (front_of-stands c rest more) h
