-- Bounds on the numbers of a packet agree with the conditions that they were prepared from.
use Rattle.packet_core.proofs.Prelude.{◌∙◌, sym, ap, arith, length, map, List, ℕ, ◌≡◌, refl, false, position, take, true, ◌+◌, ◌<◌, Bool, None, Option, Some, [], ◌++◌, ◌∷◌, ◌≤◌, drop, eqb, get_or, inl, inr, leb, lit<, min, ◌%◌, ◌&&◌, ◌*◌, ◌-◌, ◌/◌, ◌^◌, map-append, map_more, list_all-map, list_all, meets, agree, Field, dport, dscp, in_range, is_present_and, len, proto, sport, vlan, Fields, position-map, numbers_of, absent, address, number, place}
use Rattle.std.specs.Option.{option_eq, MatchOption}
use Rattle.std.specs.Prelude.{if◌then◌else◌, unwrap_or}
use Rattle.std.proofs.lemmas.Bool.{cases_order, cases_lt, eq-eqb, ne_eqb, le-leb, lt-leb, and_left, and_right}
use Rattle.std.proofs.lemmas.Bool.Decides.{nat_tests}
use Rattle.std.proofs.lemmas.Nat.{div-add-mod', mul-add-lt, shl_whole, one_shl, pow_pos, shr_le, shr_split}
use Rattle.std.proofs.Math.Nat.{mod-lt, mul_comm, min-eq_left, min-eq_right, pow-le-pow_right}
use Rattle.std.proofs.lemmas.List.Quantifiers.{position-Some}

-- the number b is in block q of s numbers exactly if q is b / s
pub within-block : (q s b : ℕ) → 0 < s → (leb (q * s) b && leb b (q * s + (s - 1))) ≡ eqb q (b / s)
within-block q s b some =
    let d = b / s in
    let whole : d * s + b % s ≡ b = div-add-mod' b s in
    let rest : b % s < s = mod-lt b some in
    elim (cases_order q d) [
      | inl same ↦
          let e : q * s ≡ d * s = ap (λ x. x * s) same in
          rw (eq-eqb q d same, le-leb (q * s) b (omega (arith, e, whole)), le-leb b (q * s + (s - 1)) (omega (arith, e, whole, rest))) refl
      | inr other ↦ elim other [
        | inl less ↦
            let over : q * s + (s - 1) < s * d = mul-add-lt q s (s - 1) d less (omega (arith, some)) in
            rw (ne_eqb q d (λ e. omega (arith, e, less))) (and_right _ _ (lt-leb b (q * s + (s - 1)) (omega (arith, over, whole, mul_comm s d))))
        | inr more ↦
            let under : d * s + b % s < s * q = mul-add-lt d s (b % s) q more rest in
            rw (ne_eqb q d (λ e. omega (arith, e, more))) (and_left _ _ (lt-leb (q * s) b (omega (arith, under, whole, mul_comm s q))))
      ]
    ]

-- one more element is prepared
pub one_more : {X Y : Type 0} (f : X → Bool) (g : Y → Bool) (xs : List X) (ys : List Y) (i : ℕ) (x : X) (y : Y)
    → map f xs ≡ map g (take i ys) → i < length ys → f x ≡ g (get_or ys i y) → map f (xs ++ x ∷ []) ≡ map g (take (i + 1) ys)
one_more f g xs ys i x y so inside same =
    map-append f xs (x ∷ []) ∙ ap (λ zs. zs ++ f x ∷ []) so ∙ ap (λ b. map g (take i ys) ++ b ∷ []) same ∙ sym (map_more g ys i y inside)

-- prepared conditions are met exactly if the original ones are
pub same-all : {X Y : Type 0} (f : X → Bool) (g : Y → Bool) (xs : List X) (ys : List Y) → map f xs ≡ map g ys → list_all f xs ≡ list_all g ys
same-all f g xs ys e = sym (list_all-map (λ b. b) f xs) ∙ ap (list_all (λ b. b)) e ∙ list_all-map (λ b. b) g ys

pub same-position : {X Y : Type 0} (f : X → Bool) (g : Y → Bool) (xs : List X) (ys : List Y) → map f xs ≡ map g ys → position f xs ≡ position g ys
same-position f g xs ys e = position-map f (λ b. b) xs ∙ ap (position (λ b. b)) e ∙ sym (position-map g (λ b. b) ys)

-- -- ---- an address agrees in this many leading bits
leading : (a given k bits other low size : ℕ) → a ≡ given → k ≡ 32 - bits → low ≡ a / 2 ^ k * 2 ^ k → size ≡ 2 ^ k → (leb low other && leb other (low + (size - 1))) ≡ agree bits given other
leading a given k bits other low size same others low-is size-is =
    rw (low-is, size-is, sym same, sym others) (within-block (a / 2 ^ k) (2 ^ k) other (pow_pos k))

low-whole : (a k : ℕ) → a < 2 ^ 32 → k ≤ 32 → a / 2 ^ k * 2 ^ k % 2 ^ 64 ≡ a / 2 ^ k * 2 ^ k
low-whole a k fits few = shl_whole (a / 2 ^ k) 32 k 64 (omega (arith, fits, shr_le a k)) (omega (arith, few))

pub agrees : (a given k bits other : ℕ) → a ≡ given → k ≡ 32 - bits → given < 2 ^ 32
    → (leb (a / 2 ^ k * 2 ^ k % 2 ^ 64) other && leb other (a / 2 ^ k * 2 ^ k % 2 ^ 64 + (1 * 2 ^ k % 2 ^ 64 - 1))) ≡ agree bits given other
agrees a given k bits other same others fits =
    leading a given k bits other (a / 2 ^ k * 2 ^ k % 2 ^ 64) (1 * 2 ^ k % 2 ^ 64) same others (low-whole a k (omega (arith, same, fits)) (omega (arith, others))) (one_shl k 64 (omega (arith, others)))

pub agrees-few : (a given k bits : ℕ) → a ≡ given → k ≡ 32 - bits → given < 2 ^ 32 → a / 2 ^ k * 2 ^ k % 2 ^ 64 + (1 * 2 ^ k % 2 ^ 64 - 1) < 2 ^ 33
agrees-few a given k bits same others fits =
    let size : 2 ^ k ≤ 2 ^ 32 = pow-le-pow_right (lit< tt) {i = k} {j = 32} (omega (arith, others)) in
    omega (arith, low-whole a k (omega (arith, same, fits)) (omega (arith, others)), one_shl k 64 (omega (arith, others)), size, pow_pos k, shr_split a k, same, fits)

-- -- ---- the test of a condition on the number at its index
present : (o : Option ℕ) (low high : ℕ) → high < absent → (leb low (number o) && leb (number o) high) ≡ is_present_and (λ v. leb low v && leb v high) o
present None low high few = and_right _ _ (lt-leb absent high few)
present (Some v) low high few = refl

pub field-holds : (f : Field) (fields : Fields) (n low high : ℕ) → high < absent
    → (leb low (get_or (numbers_of fields n) (place f) 0) && leb (get_or (numbers_of fields n) (place f) 0) high) ≡ meets fields n (in_range f low high)
field-holds vlan fields n low high few = present fields.vlan low high few
field-holds dscp fields n low high few = present fields.dscp low high few
field-holds proto fields n low high few = present fields.proto low high few
field-holds sport fields n low high few = present fields.sport low high few
field-holds dport fields n low high few = present fields.dport low high few
field-holds len fields n low high few = refl

one-number : (v w : ℕ) → (leb w v && leb v w) ≡ eqb v w
one-number v w = grind (arith, nat_tests)

pub is-version : (o : Option ℕ) (version : ℕ) → option_eq eqb o (Some version) ≡ is_present_and (λ v. eqb v version) o
is-version None version = refl
is-version (Some v) version = refl

pub version-holds : (o : Option ℕ) (version : ℕ) → version < absent → (leb version (number o) && leb (number o) version) ≡ is_present_and (λ v. eqb v version) o
version-holds None version few = and_right _ _ (lt-leb absent version few)
version-holds (Some v) version few = one-number v version

capped : (x low high : ℕ) → high < absent → (leb low (min x absent) && leb (min x absent) high) ≡ (leb low x && leb x high)
capped x low high few = elim (cases_lt absent x) [
  | inl over ↦ rw (min-eq_right {n = absent} {m = x} (omega (arith, over))) (and_right _ _ (lt-leb absent high few) ∙ sym (and_right _ _ (lt-leb x high (omega (arith, over, few)))))
  | inr within ↦ rw (min-eq_left {n = x} {m = absent} within) refl
]

pub address-holds : (four : Bool) (o : Option ℕ) (low high : ℕ) (test : ℕ → Bool) → high < absent → ((x : ℕ) → (leb low x && leb x high) ≡ test x)
    → (leb low (address four o) && leb (address four o) high) ≡ (four && is_present_and test o)
address-holds false o low high test few same = and_right _ _ (lt-leb absent high few)
address-holds true None low high test few same = and_right _ _ (lt-leb absent high few)
address-holds true (Some x) low high test few same = capped x low high few ∙ same x

-- numbers and addresses as they are made of fields
pub number-is : (o : Option ℕ) (r : ℕ) → MatchOption o (r ≡ absent) (λ x. r ≡ x) → r ≡ number o
number-is None r h = h
number-is (Some x) r h = h

pub address-is : (four : Bool) (o given : Option ℕ) (r u most : ℕ) → r ≡ min u most → u ≡ unwrap_or given most → most ≡ absent → given ≡ (if four then o else None) → r ≡ address four o
address-is four o given r u most least or all from = least ∙ ap (λ n. min n most) (or ∙ ap (λ g. unwrap_or g most) from) ∙ ap (λ m. min (unwrap_or (if four then o else None) m) m) all ∙ capped-address four o
  where
    capped-address : (four : Bool) (o : Option ℕ) → min (unwrap_or (if four then o else None) absent) absent ≡ address four o
    capped-address false o = omega arith
    capped-address true None = omega arith
    capped-address true (Some x) = refl

-- an address is never above `absent`
pub address-kept : (four : Bool) (o : Option ℕ) → leb (address four o) absent ≡ true
address-kept false o = refl
address-kept true None = refl
address-kept true (Some x) = le-leb (min x absent) absent (omega arith)

-- -- ---- the first class that is found
pub found-class : (o g : Option ℕ) (r : ℕ) → o ≡ g → (o ≡ None → ⊥) → ((k : ℕ) → o ≡ Some k → r ≡ k) → g ≡ Some r
found-class None g r same found is = absurd (found refl)
found-class (Some k) g r same found is = sym same ∙ ap Some (sym (is k refl))

found-below : (o : Option ℕ) (r most : ℕ) → (o ≡ None → ⊥) → ((k : ℕ) → o ≡ Some k → k < most) → ((k : ℕ) → o ≡ Some k → r ≡ k) → r < most
found-below None r most found below is = absurd (found refl)
found-below (Some k) r most found below is = omega (arith, is k refl, below k refl)

pub found-there : {X : Type 0} (p : X → Bool) (xs : List X) (r : ℕ) → (position p xs ≡ None → ⊥) → ((k : ℕ) → position p xs ≡ Some k → r ≡ k) → r < length xs
found-there p [] r found is = absurd (found refl)
found-there p (x ∷ xs) r found is = found-below (position p (x ∷ xs)) r (length (x ∷ xs)) found (λ k e. (position-Some p (x ∷ xs) k x e).0) is

-- -- ---- a class, by its first bounds and the others
pub met-none : {X Y : Type 0} (f : X → Bool) (g : Y → Bool) (first : Bool) (xs : List X) (ys : List Y) → first ≡ true → xs ≡ [] → ys ≡ [] → (first && list_all f xs) ≡ list_all g ys
met-none f g first xs ys all none nothing = rw (all, none, nothing) refl

pub met-some : {X Y : Type 0} (f : X → Bool) (g : Y → Bool) (first : Bool) (xs : List X) (ys : List Y) (d : Y) → 0 < length ys → first ≡ g (get_or ys 0 d) → list_all f xs ≡ list_all g (drop 1 ys) → (first && list_all f xs) ≡ list_all g ys
met-some f g first xs [] d some same others = absurd (omega (arith, some))
met-some f g first xs (y ∷ ys) d some same others = ap (λ b. b && list_all f xs) same ∙ ap (λ b. g y && b) others
