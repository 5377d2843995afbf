-- The reading after a block's front, in terms of all bytes that were left at the front.
use Rattle.pcapng_core.proofs.Prelude.{◌≡◌, ℕ, List, sym, ◌∙◌, ap, arith, length, ◌+◌, Option, Some, ◌≤◌, None, ◌-◌, IfSome, ◌++◌, drop, refl, take, ◌≢◌, take-append_seam, Passes, TakesFront, number_at-append, long_at, block_end, unit_of, Unit, HasRoom, IsEndFault, ReadsTo, IsUnitOf, Start}
use Rattle.pcapng_core.specs.declared.start.Kind.TheVariants as kind

-- a number read after n bytes were skipped is the number at position n
number-behind : (s : Start) (n : ℕ) (left rest end others : List ℕ) → rest ≡ drop n left → rest ≡ end ++ others → length end ≡ 4 → long_at s.big n left ≡ long_at s.big 0 end
number-behind s n left rest end others passed taken four =
    ap (long_at s.big 0) (sym passed ∙ taken) ∙ number_at-append s.big 4 0 end others (omega (arith, four))

-- the captured bytes are directly after the front
captured-at : (n captured : ℕ) (left rest into others : List ℕ) → rest ≡ drop n left → rest ≡ into ++ others → length into ≡ captured → into ≡ take captured (drop n left)
captured-at n captured left rest into others passed taken size =
    sym (take-append_seam into others) ∙ ap (λ m. take m (into ++ others)) size ∙ ap (take captured) (sym taken ∙ passed)

-- a whole block: its front is skipped, captured bytes are taken, others skipped, and its end taken
pub behind-read : (s : Start) (n captured gap : ℕ) (into end : List ℕ) (unit : Unit) (old r0 r1 r2 r3 : Option (List ℕ)) → HasRoom s n captured → n + captured + gap + 4 ≡ s.total
    → Passes n old r0 → TakesFront r0 r1 into → length into ≡ captured → Passes (n + captured) old r1 → Passes gap r1 r2 → (s.kind ≡ kind.Interface → IsUnitOf s.big gap r1 unit) → Passes (n + captured + gap) old r2
    → TakesFront r2 r3 end → length end ≡ 4 → Passes s.total old r3 → long_at s.big 0 end ≡ s.total → ReadsTo s n captured into unit old r3
behind-read s n captured gap into end unit None r0 r1 r2 r3 room sum p0 taken size p1 passed options p2 ends four p3 same = tt
behind-read s n captured gap into end unit (Some old) None r1 r2 r3 room sum p0 taken size p1 passed options p2 ends four p3 same = absurd p0
behind-read s n captured gap into end unit (Some old) (Some r0) None r2 r3 room sum p0 taken size p1 passed options p2 ends four p3 same = absurd p1
behind-read s n captured gap into end unit (Some old) (Some r0) (Some r1) None r3 room sum p0 taken size p1 passed options p2 ends four p3 same = absurd p2
behind-read s n captured gap into end unit (Some old) (Some r0) (Some r1) (Some r2) None room sum p0 taken size p1 passed options p2 ends four p3 same = absurd p3
behind-read s n captured gap into end unit (Some old) (Some r0) (Some r1) (Some r2) (Some r3) room sum p0 taken size p1 passed options p2 ends four p3 same =
    let last : n + captured + gap ≡ s.total - 4 = omega (arith, sum) in
    record {
      whole = p3.0;
      end = number-behind s (s.total - 4) old r2 end r3 (p2.1 ∙ ap (λ m. drop m old) last) ends four ∙ same;
      behind = p3.1;
      into_is = captured-at n captured old r0 into r1 p0.1 taken size;
      unit_is = λ e.
          let at = room.options e in
          let gap_is : gap ≡ s.total - 20 = omega (arith, sum, at.0, at.1) in
          let place : n + captured ≡ 16 = omega (arith, at.0, at.1) in
          ap (λ m. unit_of s.big (take m (drop 16 old))) (sym gap_is)
          ∙ ap (λ m. unit_of s.big (take gap (drop m old))) (sym place)
          ∙ ap (λ xs. unit_of s.big (take gap xs)) (sym p1.1)
          ∙ options e passed.0;
    }

-- the total length at the end differs
pub behind-differs : (s : Start) (number : ℕ) (old r2 r3 : Option (List ℕ)) (end : List ℕ) → 4 ≤ s.total → Passes (s.total - 4) old r2 → TakesFront r2 r3 end → length end ≡ 4 → Passes s.total old r3
    → long_at s.big 0 end ≢ s.total → IfSome old (λ left. IsEndFault s number left (block_end number))
behind-differs s number None r2 r3 end least passed ends four p3 differ = tt
behind-differs s number (Some old) None r3 end least passed ends four p3 differ = absurd passed
behind-differs s number (Some old) (Some r2) None end least passed ends four p3 differ = absurd ends
behind-differs s number (Some old) (Some r2) (Some r3) end least passed ends four p3 differ =
    (refl, p3.0, λ e. differ (sym (number-behind s (s.total - 4) old r2 end r3 passed.1 ends four) ∙ e))
