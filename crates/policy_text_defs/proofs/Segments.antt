-- The number of an IPv6 address and its segments.
use Rattle.policy_text_defs.proofs.Prelude.{List, ℕ, [], refl, ◌≡◌, ◌∷◌, ◌++◌, subst, Bool, true, false, sym, arith, codes, ◌≤◌, ◌∙◌, ap, suc, zero, length, ◌<◌, ◌+◌, ◌-◌, length-append, AllByRecursion}
use Rattle.std.specs.Prelude.{◌^◌, ◌*◌, ◌/◌, ◌%◌, replicate}
use Rattle.std.proofs.Common.{inl, inr, get_or, lit≤}
use Rattle.std.specs.Net.Grammar.{IsColonHex, IsGroup, IsGroupsAfter, IsDotted}
use Rattle.std.specs.Net.Addr.{segments_of as octet_segments}
use Rattle.std.proofs.lemmas.Int.Digits.{digits_value-lt}
use Rattle.std.proofs.Math.Nat.{pow-le-pow_right}
use Rattle.std.proofs.NetLemmas.Texts.{AllSegments}
use Rattle.policy_text_defs.specs.Tests.{joined_from, joined}
use Rattle.policy_text_defs.specs.Canonical.{segments_before, segments_of}

-- what is left of a number without its K last segments
abbrev above : ℕ → ℕ → ℕ
above zero a = a
above (suc k) a = above k (a / 65536)

joined_segments : (k a : ℕ) (later : List ℕ) → above k a ≡ 0 → joined_from 0 (segments_before k a later) ≡ joined_from a later
joined_segments zero a later none = ap (λ n. joined_from n later) (sym none)
joined_segments (suc k) a later none =
    let same : (a / 65536) * 65536 + a % 65536 ≡ a = omega arith in
    joined_segments k (a / 65536) ((a % 65536) ∷ later) none ∙ ap (λ n. joined_from n later) same

none_above : (a : ℕ) → a < 2 ^ 128 → above 8 a ≡ 0
none_above a small =
    let b : a / 65536 < 2 ^ 112 = omega arith in
    let c : a / 65536 / 65536 < 2 ^ 96 = omega arith in
    let d : a / 65536 / 65536 / 65536 < 2 ^ 80 = omega arith in
    let e : a / 65536 / 65536 / 65536 / 65536 < 2 ^ 64 = omega arith in
    let f : a / 65536 / 65536 / 65536 / 65536 / 65536 < 2 ^ 48 = omega arith in
    let g : a / 65536 / 65536 / 65536 / 65536 / 65536 / 65536 < 2 ^ 32 = omega arith in
    let h : a / 65536 / 65536 / 65536 / 65536 / 65536 / 65536 / 65536 < 2 ^ 16 = omega arith in
    omega arith

-- the segments of an address are those that its number was made of
pub joined_same : (a : ℕ) → a < 2 ^ 128 → joined (segments_of a) ≡ a
joined_same a small = joined_segments 8 a [] (none_above a small)

fits_before : (k a : ℕ) (later : List ℕ) → AllSegments later → AllSegments (segments_before k a later)
fits_before zero a later all = all
fits_before (suc k) a later all =
    let first : a % 65536 < 2 ^ 16 = omega arith in
    let both : AllSegments ((a % 65536) ∷ later) = λ i. elim i as (λ j. get_or ((a % 65536) ∷ later) j 0 < 2 ^ 16) [ zero ↦ first | suc j ↦ all j ] in
    fits_before k (a / 65536) ((a % 65536) ∷ later) both

pub segments_fit : (a : ℕ) → AllSegments (segments_of a)
segments_fit a = fits_before 8 a [] (λ i. omega arith)

-- ---- the number of a written address

abbrev AreSegments : List ℕ → Type 0
AreSegments ss = AllByRecursion (λ s. s < 65536) ss

above-div : (k a : ℕ) → above k (a / 65536) ≡ above k a / 65536
above-div zero a = refl
above-div (suc k) a = above-div k (a / 65536)

above_joined : (n : ℕ) (ss : List ℕ) → AreSegments ss → above (length ss) (joined_from n ss) ≡ n
above_joined n [] all = refl
above_joined n (s ∷ ss) all =
    let later = above_joined (n * 65536 + s) ss all.1 in
    let fits = all.0 in
    let same : (n * 65536 + s) / 65536 ≡ n = omega arith in
    above-div (length ss) (joined_from (n * 65536 + s) ss) ∙ ap (λ m. m / 65536) later ∙ same

small_above : (a : ℕ) → above 8 a ≡ 0 → a < 2 ^ 128
small_above a none =
    let h : a / 65536 / 65536 / 65536 / 65536 / 65536 / 65536 / 65536 < 2 ^ 16 = omega arith in
    let g : a / 65536 / 65536 / 65536 / 65536 / 65536 / 65536 < 2 ^ 32 = omega arith in
    let f : a / 65536 / 65536 / 65536 / 65536 / 65536 < 2 ^ 48 = omega arith in
    let e : a / 65536 / 65536 / 65536 / 65536 < 2 ^ 64 = omega arith in
    let d : a / 65536 / 65536 / 65536 < 2 ^ 80 = omega arith in
    let c : a / 65536 / 65536 < 2 ^ 96 = omega arith in
    let b : a / 65536 < 2 ^ 112 = omega arith in
    omega arith

joined_small : (ss : List ℕ) → length ss ≡ 8 → AreSegments ss → joined ss < 2 ^ 128
joined_small ss eight all = small_above (joined ss) (ap (λ k. above k (joined ss)) (sym eight) ∙ above_joined 0 ss all)

all-append : (ss rs : List ℕ) → AreSegments ss → AreSegments rs → AreSegments (ss ++ rs)
all-append [] rs all others = others
all-append (s ∷ ss) rs all others = (all.0, all-append ss rs all.1 others)

all_zeros : (n : ℕ) → AreSegments (replicate n 0)
all_zeros zero = tt
all_zeros (suc n) = (omega arith, all_zeros n)

zeros_many : (n : ℕ) → length {A = ℕ} (replicate n 0) ≡ n
zeros_many zero = refl
zeros_many (suc n) = ap suc (zeros_many n)

group_fits : (group : List ℕ) (s : ℕ) → IsGroup group s → s < 65536
group_fits group s is =
    let below = digits_value-lt 16 group is.0.0.1 in
    let most : 16 ^ length group ≤ 16 ^ 4 = pow-le-pow_right (lit≤ tt) is.1 in
    let value = is.0.1 in
    omega arith

dotted_fit : (text octets : List ℕ) → IsDotted text octets → AreSegments (octet_segments octets)
dotted_fit text octets is =
    let fit = is.fit in
    let first : is.a * 256 + is.b < 65536 = omega (arith, fit.0, fit.1) in
    let second : is.c * 256 + is.d < 65536 = omega (arith, fit.2, fit.3) in
    subst (λ l. AreSegments (octet_segments l)) (sym is.value) (first, (second, tt))

groups_fit : (ipv4 : Bool) (lead text ss : List ℕ) → IsGroupsAfter ipv4 lead text ss → AreSegments ss
groups_fit ipv4 lead text [] is = tt
groups_fit ipv4 lead text (s ∷ ss) (inl is) = (group_fits is.0 s is.3, groups_fit ipv4 (codes ":") is.1 ss is.4)
groups_fit ipv4 lead text (s ∷ ss) (inr is) = subst AreSegments (sym is.5) (dotted_fit is.0 is.1 is.4)

elided_many : (head tail : List ℕ) → length head + length tail < 8 → length (head ++ replicate (8 - length head - length tail) 0 ++ tail) ≡ 8
elided_many head tail room = omega (arith, length-append (head ++ replicate (8 - length head - length tail) 0) tail, length-append head (replicate (8 - length head - length tail) 0), zeros_many (8 - length head - length tail))

-- an address that is written has 128 bits
pub written_small : (w ss : List ℕ) → IsColonHex w ss → joined ss < 2 ^ 128
written_small w ss (inl is) = joined_small ss is.1 (groups_fit true [] w ss is.0)
written_small w ss (inr is) =
    let zeros : List ℕ = replicate (8 - length is.head - length is.tail) 0 in
    let front : AreSegments (is.head ++ zeros) = all-append is.head zeros (groups_fit false [] is.head_text is.head is.head_groups) (all_zeros (8 - length is.head - length is.tail)) in
    let all : AreSegments (is.head ++ zeros ++ is.tail) = all-append (is.head ++ zeros) is.tail front (groups_fit true [] is.tail_text is.tail is.tail_groups) in
    subst (λ l. joined l < 2 ^ 128) (sym is.value) (joined_small (is.head ++ zeros ++ is.tail) (elided_many is.head is.tail is.room) all)
