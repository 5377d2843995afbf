-- The search for the least height, level by level.
use Rattle.embed_core.proofs.Prelude.{◌≡◌, length, arith, List, ◌+◌, ℕ, ◌<◌, [], refl, ◌≤◌, get_or, ◌∷◌, suc, zero, eqb, min, ◌%◌, ◌/◌, count_by, carried, carried-bound, carried-fits, times, times-count, wide-positive, AreWide, Arities, FitsBelow, enough, IsLeast, AreLower}

lower-each : (h : ℕ) (ns : List ℕ) → ((k : ℕ) → k < length ns → get_or ns k 0 < h) → AreLower h ns
lower-each h [] f = tt
lower-each h (n ∷ ns) f = (let l : n < h = f 0 (omega arith) in omega arith, lower-each h ns (λ k l. f (suc k) (omega arith)))

each-lower : (h : ℕ) (ns : List ℕ) (k : ℕ) → AreLower h ns → k < length ns → get_or ns k 0 < h
each-lower h [] k w l = absurd (omega arith)
each-lower h (n ∷ ns) zero w l = omega (arith, w.0)
each-lower h (n ∷ ns) (suc k) w l = each-lower h ns k w.1 (omega arith)

-- if the current height doesn't fit, the least height is greater
pub goes_on : (a : Arities) (ns : List ℕ) (h : ℕ) → AreWide a → ((carried a ns h ≤ 1) × ((k : ℕ) → k < length ns → get_or ns k 0 < h) → ⊥) → ((m : ℕ) → FitsBelow a ns m → h ≤ m) → (m : ℕ) → FitsBelow a ns m → h + 1 ≤ m
goes_on a ns h b short least m f =
    let l : h ≤ m = least m f in
    let n : h ≡ m → ⊥ = λ e. let g = (carried-fits a ns m (wide-positive a b)).0 f in short ((rw e g.1), (λ k i. rw e (each-lower m ns k g.0 i))) in
    omega arith

pub stops : (a : Arities) (ns : List ℕ) (h : ℕ) → AreWide a → carried a ns h ≤ 1 → ((k : ℕ) → k < length ns → get_or ns k 0 < h) → ((m : ℕ) → FitsBelow a ns m → h ≤ m) → IsLeast (FitsBelow a ns) h
stops a ns h b c l f = record { holds = (carried-fits a ns h (wide-positive a b)).1 (lower-each h ns l, c); least = f }

pub next-carried : (a : Arities) (ns : List ℕ) (h k d r : ℕ) → k ≡ count_by (λ x. eqb x h) ns → d ≡ a h → r ≡ (carried a ns h + k) / d + min 1 ((carried a ns h + k) % d) → r ≡ carried a ns (h + 1)
next-carried a ns h k d r e f g =
    let q : k ≡ times h ns = omega (arith, e, times-count h ns) in
    let s : h + 1 ≡ suc h = omega arith in
    rw (s, g, f, q) refl

pub few-carried : (a : Arities) (ns : List ℕ) (h k : ℕ) → AreWide a → k ≡ count_by (λ x. eqb x h) ns → carried a ns h + k ≤ enough ns
few-carried a ns h k b e = omega (arith, e, carried-bound a ns h (wide-positive a b), times-count h ns, enough-length ns)
  where
    enough-length : (ns : List ℕ) → length ns ≤ enough ns
    enough-length [] = omega arith
    enough-length (n ∷ ns) = omega (arith, enough-length ns)
