-- The block at the front of the remaining bytes, as it was read in pieces.
use Rattle.pcapng_core.proofs.Prelude.{◌≡◌, ℕ, List, sym, ◌∙◌, ap, arith, length, ◌+◌, Option, Some, subst, ◌<◌, ◌≤◌, ◌-◌, ◌++◌, drop, take, ⊎_elim, take-append-add, cases_lt, length-take-le, drop-take, take-take, number_at-append, long_at, short_at, Carried, block_gives, BlockFault, unit_of, broken, front_of, front_with, found, Unit, IsStart, HasRoom, IsReadTo, front_len, body_said, captured_in, went, fault_in, kind_said, Packet, NgFault, Start}
use Rattle.pcapng_core.specs.declared.body.Body.TheVariants as body
use Rattle.pcapng_core.specs.declared.start.Kind.TheVariants as kind
use Rattle.pcapng_core.proofs.Blocks.{front-read}
use Rattle.pcapng_core.proofs.Bodies.{Gives, told, block-gives, gives-went, gives-faulty}

-- bytes within a prefix are those of the whole
within : (at n total : ℕ) (rest : List ℕ) → at + n ≤ total → take n (drop at (take total rest)) ≡ take n (drop at rest)
within at n total rest h =
    let sum : at + (total - at) ≡ total = omega (arith, h) in
    ap (λ m. take n (drop at (take m rest))) (sym sum)
    ∙ ap (take n) (drop-take at (total - at) rest)
    ∙ take-take n (total - at) (drop at rest) (omega (arith, h))

-- captured bytes end inside the block
ends-inside : (s : Start) (n captured : ℕ) → HasRoom s n captured → n + captured ≤ s.total
ends-inside s n captured room = ⊎_elim
    (λ (more : 12 < s.total). omega (arith, room.room more))
    (λ (most : s.total ≤ 12).
    let same : s.total ≡ 12 = omega (arith, most, room.least) in
    omega (arith, same, (room.short same).0, (room.short same).1))
    (cases_lt 12 s.total)

module _ (c : Carried) (s : Start) (front into more : List ℕ) (captured : ℕ) (unit : Unit) (rest others : List ℕ)
    (start : IsStart c s rest) (split : rest ≡ front ++ more) (size : length front ≡ front_len s.kind)
    (counted : captured ≡ captured_in (body_said c s.big s.total front s.kind))
    (read : IsReadTo s (length front) captured into unit rest others) (room : HasRoom s (length front) captured) where
  -- the result of the whole block
  found-gives : Gives c s.big unit into (body_said c s.big s.total front s.kind) (block_gives c s.big (take s.total rest) (kind_said s.kind))
  found-gives =
      let total = s.total in
      let n = length front in
      let block = take s.total rest in
      let inside : n + captured ≤ total = ends-inside s n captured room in
      let whole : length (take s.total rest) ≡ s.total = length-take-le total rest read.whole in
      let sum : total ≡ n + (total - n) = omega (arith, inside) in
      let opened : take s.total rest ≡ front ++ take (s.total - length front) more =
      ap (take total) split ∙ ap (λ m. take m (front ++ more)) sum ∙ take-append-add front more (total - n) in
      let long : (at : ℕ) → at + 4 ≤ front_len s.kind → long_at s.big at block ≡ long_at s.big at front =
      λ at h. ap (long_at s.big at) opened ∙ number_at-append s.big 4 at front (take (total - n) more) (omega (arith, size, h)) in
      let short : (at : ℕ) → at + 2 ≤ front_len s.kind → short_at s.big at block ≡ short_at s.big at front =
      λ at h. ap (short_at s.big at) opened ∙ number_at-append s.big 2 at front (take (total - n) more) (omega (arith, size, h)) in
      let taken : into ≡ take (captured_in (body_said c s.big (length block) front s.kind)) (drop (front_len s.kind) block) =
      read.into_is ∙ sym (within n captured total rest inside)
      ∙ ap (λ m. take captured (drop m block)) size
      ∙ ap (λ m. take m (drop (front_len s.kind) block)) (counted ∙ ap (λ m. captured_in (body_said c s.big m front s.kind)) (sym whole)) in
      let options : s.kind ≡ kind.Interface → unit_of s.big (take (length block - 20) (drop 16 block)) ≡ unit =
      λ e.
      ap (λ m. unit_of s.big (take (m - 20) (drop 16 block))) whole
      ∙ ap (unit_of s.big) (within 16 (total - 20) total rest (omega (arith, (room.options e).2)))
      ∙ read.unit_is e in
      subst (λ m. Gives c s.big unit into (body_said c s.big m front s.kind) (block_gives c s.big block (kind_said s.kind))) whole
      (block-gives s.kind c s.big unit front into block long short taken options)

  pub found-block : (y : Option Packet × Carried) → went c s.big unit (body_said c s.big s.total front s.kind) ≡ Some y → front_of c rest ≡ found (told into y.0) y.1 others
  found-block y e =
      front-read c s rest start read.whole read.end
      ∙ ap (front_with (drop s.total rest)) (gives-went _ c s.big unit into y _ found-gives e)
      ∙ ap (found (told into y.0) y.1) (sym read.behind)

  pub found-faulty : (e : NgFault) (fault : BlockFault) → body_said c s.big s.total front s.kind ≡ body.Faulty e → fault_in e ≡ Some fault → front_of c rest ≡ broken fault
  found-faulty e fault is named =
      front-read c s rest start read.whole read.end
      ∙ ap (front_with (drop s.total rest)) (gives-faulty _ e c s.big unit into fault _ found-gives is named)
