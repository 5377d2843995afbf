-- A block is found exactly if the remaining bytes begin with one.
use Rattle.pcapng_defs.proofs.Prelude.{List, refl, ℕ, ◌≡◌, ap, arith, length, ◌∙◌, ◌≤◌, Bool, None, Some, sym, ◌+◌, Option, [], eqb, ltb, subst, true, ◌&&◌, ◌++◌, Err, Ok, Result, drop, leb, not, take, ◌-◌, ◌≢◌, ◌%◌, cond_both, ltb-false, eqb-false, not-false, and_left, and_parts, cond-false, eqb-true, le-ltb, leb-true, ne_eqb, and_from, eq-eqb, not_from_true, le-leb, length-take-le, take-append-drop, drop_all, take_all, ⊤, number_at-append, long_at, CapturedPacket, Carried, BlockKind, block_gives, kind_of, least_total, most_total, BlockFault, BlockFront, found, most_blocks, block_len, fits_kind, front_at, front_in, front_with, order_at, IsWholeBlock, IsBlock, ReadsBlocks}
use Rattle.pcapng_defs.specs.NgCapture.{front_of}
use Rattle.pcapng_defs.proofs.Fronts.{least_total-some, fits_kind-some}
use Rattle.pcapng_defs.proofs.LongerFronts.{order_at-longer, blocks_stand}

fits_whole : (big : Bool) (kind : BlockKind) (block : List ℕ) → IsWholeBlock big kind block → fits_kind kind (length block) ≡ true
fits_whole big kind block w =
    and_from (eqb (length block % 4) 0 && leb (least_total kind) (length block)) (leb (length block) most_total)
    (and_from (eqb (length block % 4) 0) (leb (least_total kind) (length block)) (eq-eqb _ _ w.filled) (le-leb _ _ w.enough))
    (le-leb _ _ w.short)

front_at-whole : (c : Carried) (big : Bool) (block : List ℕ) (kind : BlockKind) → IsWholeBlock big kind block
    → front_at c big block kind (length block) ≡ front_with [] (block_gives c big block kind)
front_at-whole c big block kind w =
    cond-false _ _ _ (not_from_true (fits_kind kind (length block)) (fits_whole big kind block w))
    ∙ cond-false _ _ _ (le-ltb (length block) (length block) (omega arith))
    ∙ cond-false _ _ _ (not_from_true (eqb (long_at big (length block - 4) block) (length block)) (eq-eqb _ _ w.behind))
    ∙ ap (λ xs. front_with xs (block_gives c big (take (length block) block) kind)) (drop_all (length block) block (omega arith))
    ∙ ap (λ xs. front_with [] (block_gives c big xs kind)) (take_all (length block) block (omega arith))

-- the front of a whole block alone
pub whole_front : (c : Carried) (big : Bool) (block : List ℕ) (kind : BlockKind) → c.blocks ≢ most_blocks → order_at c block ≡ Some big → IsWholeBlock big kind block
    → front_of c block ≡ front_with [] (block_gives c big block kind)
unfolding front_of
whole_front c big block kind few order w =
    let long : block_len ≤ length block = omega (arith, least_total-some kind, w.enough) in
    cond-false _ _ _ (and_left (eqb (length block) 0) (not (eqb c.blocks 0)) (ne_eqb (length block) 0 (λ e. omega (arith, long, e))))
    ∙ cond-false _ _ _ (ne_eqb c.blocks most_blocks few)
    ∙ cond-false _ _ _ (le-ltb (length block) block_len long)
    ∙ ap (front_in c block) order
    ∙ ap (λ k. front_at c big block k (long_at big 4 block)) w.kind_is
    ∙ ap (front_at c big block kind) w.before
    ∙ front_at-whole c big block kind w

front_of-whole : (c : Carried) (packet : Option CapturedPacket) (after : Carried) (block : List ℕ) → IsBlock c packet after block → front_of c block ≡ found packet after []
front_of-whole c packet after block b = whole_front c b.big block b.kind b.few b.order b.whole ∙ ap (front_with []) b.gives

-- the block that was found
abbrev Splits : Carried → List ℕ → BlockFront → Type 0
Splits c rest (found packet after others) = (block : List ℕ) × (rest ≡ block ++ others) × IsBlock c packet after block
Splits c rest _ = ⊤

front_with-splits : (c : Carried) (big : Bool) (rest block others : List ℕ) (kind : BlockKind) (r : Result (Option CapturedPacket × Carried) BlockFault)
    → c.blocks ≢ most_blocks → rest ≡ block ++ others → order_at c block ≡ Some big → IsWholeBlock big kind block → block_gives c big block kind ≡ r
    → Splits c rest (front_with others r)
front_with-splits c big rest block others kind (Err fault) few split order whole gives = tt
front_with-splits c big rest block others kind (Ok given) few split order whole gives =
    (block, split, record { big = big; kind = kind; few = few; order = order; whole = whole; gives = gives })

-- the block of `total` bytes at the front has the numbers that were read
pub taken-whole : (big : Bool) (rest : List ℕ) (total : ℕ) → fits_kind (kind_of (long_at big 0 rest)) total ≡ true → total ≤ length rest
    → long_at big 4 rest ≡ total → long_at big (total - 4) rest ≡ total → IsWholeBlock big (kind_of (long_at big 0 rest)) (take total rest)
taken-whole big rest total fits room before behind =
    let kind = kind_of (long_at big 0 rest) in
    let some = fits_kind-some (kind_of (long_at big 0 rest)) total fits in
    let front = and_parts (eqb (total % 4) 0 && leb (least_total kind) total) (leb total most_total) fits in
    let sizes = and_parts (eqb (total % 4) 0) (leb (least_total kind) total) front.0 in
    let len : length (take total rest) ≡ total = length-take-le total rest room in
    let split : take total rest ++ drop total rest ≡ rest = take-append-drop total rest in
    let at : (at : ℕ) → at + 4 ≤ total → long_at big at (take total rest) ≡ long_at big at rest =
    λ at h. sym (number_at-append big 4 at (take total rest) (drop total rest) (omega (arith, len, h))) ∙ ap (long_at big at) split in
    record {
      kind_is = ap kind_of (at 0 (omega (arith, some)));
      before = at 4 (omega (arith, some)) ∙ before ∙ sym len;
      behind = ap (λ m. long_at big (m - 4) (take total rest)) len ∙ at (total - 4) (omega (arith, some)) ∙ behind ∙ sym len;
      filled = ap (λ m. m % 4) len ∙ eqb-true (total % 4) 0 sizes.0;
      enough = omega (arith, leb-true (least_total kind) total sizes.1, len);
      short = omega (arith, leb-true total most_total front.1, len);
    }

front_at-splits : (c : Carried) (big : Bool) (rest : List ℕ) (total : ℕ) → c.blocks ≢ most_blocks → order_at c rest ≡ Some big → long_at big 4 rest ≡ total
    → Splits c rest (front_at c big rest (kind_of (long_at big 0 rest)) total)
front_at-splits c big rest total few order before =
    let kind = kind_of (long_at big 0 rest) in
    cond_both (not (fits_kind kind total)) _ _ (Splits c rest) (λ e. tt) (λ fits.
    cond_both (ltb (length rest) total) _ _ (Splits c rest) (λ e. tt) (λ whole.
    cond_both (not (eqb (long_at big (total - 4) rest) total)) _ _ (Splits c rest) (λ e. tt) (λ same.
    let fit = not-false (fits_kind kind total) fits in
    let some = fits_kind-some kind total fit in
    let room : total ≤ length rest = ltb-false _ _ whole in
    let split : take total rest ++ drop total rest ≡ rest = take-append-drop total rest in
    let long : block_len ≤ length (take total rest) = omega (arith, some, length-take-le total rest room) in
    front_with-splits c big rest (take total rest) (drop total rest) kind (block_gives c big (take total rest) kind) few (sym split)
    (sym (order_at-longer c (take total rest) (drop total rest) long) ∙ ap (order_at c) split ∙ order)
    (taken-whole big rest total fit room before (eqb-true _ _ (not-false (eqb (long_at big (total - 4) rest) total) same))) refl)))

front_in-splits : (c : Carried) (rest : List ℕ) (order : Option Bool) → c.blocks ≢ most_blocks → order_at c rest ≡ order → Splits c rest (front_in c rest order)
front_in-splits c rest None few e = tt
front_in-splits c rest (Some big) few e = front_at-splits c big rest (long_at big 4 rest) few e refl

front_of-splits : (c : Carried) (rest : List ℕ) → Splits c rest (front_of c rest)
unfolding front_of
front_of-splits c rest =
    cond_both (eqb (length rest) 0 && not (eqb c.blocks 0)) _ _ (Splits c rest) (λ e. tt) (λ some.
    cond_both (eqb c.blocks most_blocks) _ _ (Splits c rest) (λ e. tt) (λ few.
    cond_both (ltb (length rest) block_len) _ _ (Splits c rest) (λ e. tt) (λ long.
    front_in-splits c rest (order_at c rest) (λ e. eqb-false _ _ few e) refl)))

pub reads_blocks : ReadsBlocks
reads_blocks c after packet rest others = (
  λ h. ap (front_of c) h.1 ∙ blocks_stand c after packet h.0 [] others (front_of-whole c packet after h.0 h.2),
  λ e. subst (Splits c rest) e (front_of-splits c rest),
)
