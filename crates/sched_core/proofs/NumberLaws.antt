-- The numbers that have a packet.
use Rattle.sched_core.proofs.Prelude.{arith, ◌≡◌, ap, ◌∙◌, sym, ℕ, List, length, subst, Some, ◌<◌, [], refl, ◌∷◌, Option, None, ◌+◌, ◌≤◌, suc, zero, ◌++◌, is_some, if◌then◌else◌, nat_eq, ◌==◌, Bool, false, true≢false, ap₂, true, ◌||◌, add-one, eq-eqb, ne_eqb, nat_lt, ltb-true, ltb-false, list_any-append, AllByRecursion, IsDistinct, list_any, Packet, numbers_below}
use Rattle.std.proofs.lemmas.Map.Keys.{IsDistinct-cons}
use Rattle.sched_core.proofs.SlotLaws.{if_same, if_other, split, by_bool}

pub none-found : (o : Option Packet) → is_some o ≡ false → o ≡ None
none-found (Some p) h = absurd (true≢false h)
none-found None h = refl

-- one more number
pub below-found : (f : ℕ → Option Packet) (k : ℕ) → is_some (f k) ≡ true → numbers_below f (suc k) ≡ k ∷ numbers_below f k
below-found f k h = ap (λ (t : Bool). if t then k ∷ numbers_below f k else numbers_below f k) h

pub below-none : (f : ℕ → Option Packet) (k : ℕ) → is_some (f k) ≡ false → numbers_below f (suc k) ≡ numbers_below f k
below-none f k h = ap (λ (t : Bool). if t then k ∷ numbers_below f k else numbers_below f k) h

-- ---- the same packets are found
pub below-same : (f g : ℕ → Option Packet) (k : ℕ) → ((n : ℕ) → n < k → f n ≡ g n) → numbers_below f k ≡ numbers_below g k
below-same f g zero h = refl
below-same f g (suc k) h = ap₂ (λ (o : Option Packet) (l : List ℕ). if is_some o then k ∷ l else l) (h k (omega arith)) (below-same f g k (λ n l. h n (omega arith)))

-- ---- how many numbers there are
pub below-length : (f : ℕ → Option Packet) (k : ℕ) → length (numbers_below f k) ≤ k
below-length f zero = omega arith
below-length f (suc k) = by_bool (is_some (f k))
    (λ some. omega (arith, ap length (below-found f k some), below-length f k))
    (λ none. omega (arith, ap length (below-none f k none), below-length f k))

below-suc : (f g : ℕ → Option Packet) (k : ℕ) (b : Bool) → ((n : ℕ) → n < k → g n ≡ f n) → is_some (g k) ≡ b → length (numbers_below g (suc k)) ≡ length (numbers_below f k) + (if b then 1 else 0)
below-suc f g k true h e = ap length (below-found g k e) ∙ omega (arith, ap length (below-same g f k h))
below-suc f g k false h e = ap length (below-none g k e) ∙ omega (arith, ap length (below-same g f k h))

-- one more packet, under the next number
pub below-next : (f g : ℕ → Option Packet) (k : ℕ) (b : Bool) → ((n : ℕ) → n < k → g n ≡ f n) → is_some (g k) ≡ b → length (numbers_below g (k + 1)) ≡ length (numbers_below f k) + (if b then 1 else 0)
below-next f g k b h e = ap (λ (z : ℕ). length (numbers_below g z)) (add-one k) ∙ below-suc f g k b h e

-- no packet between
pub below-farther : (f : ℕ → Option Packet) (a b : ℕ) → a ≤ b → ((n : ℕ) → a ≤ n → f n ≡ None) → numbers_below f b ≡ numbers_below f a
below-farther f a zero h none = let e : zero ≡ a = omega arith in ap (numbers_below f) e
below-farther f a (suc b) h none = split a (suc b)
    (λ same. ap (numbers_below f) (sym same))
    (λ other. below-none f b (ap is_some (none b (omega arith))) ∙ below-farther f a b (omega arith) none)

-- one packet is removed
pub below-without : (f g : ℕ → Option Packet) (m k : ℕ) → m < k → is_some (f m) ≡ true → ((n : ℕ) → g n ≡ (if n == m then None else f n)) → length (numbers_below g k) + 1 ≡ length (numbers_below f k)
below-without f g m zero h some e = absurd (omega arith)
below-without f g m (suc k) h some e = split k m
    (λ same. let gone : is_some (g k) ≡ false = ap is_some (e k ∙ if_same k m None (f k) same) in
    let there : is_some (f k) ≡ true = ap (λ (z : ℕ). is_some (f z)) same ∙ some in
    omega (arith, ap length (below-none g k gone), ap length (below-found f k there), ap length (below-same g f k (λ n l. e n ∙ if_other n m None (f n) (omega arith)))))
    (λ other. let kept : g k ≡ f k = e k ∙ if_other k m None (f k) other in
    let rest : length (numbers_below g k) + 1 ≡ length (numbers_below f k) = below-without f g m k (omega arith) some e in
    by_bool (is_some (f k))
    (λ found. omega (arith, ap length (below-found g k (ap is_some kept ∙ found)), ap length (below-found f k found), rest))
    (λ none. omega (arith, ap length (below-none g k (ap is_some kept ∙ none)), ap length (below-none f k none), rest)))

-- one packet is added
pub below-with : (f g : ℕ → Option Packet) (m k : ℕ) (p : Packet) → m < k → f m ≡ None → ((n : ℕ) → g n ≡ (if n == m then Some p else f n)) → length (numbers_below g k) ≡ length (numbers_below f k) + 1
below-with f g m k p h free e =
    let fewer = below-without g f m k h (ap is_some (e m ∙ if_same m m (Some p) (f m) refl))
    (λ n. split n m (λ same. ap f same ∙ free ∙ sym (if_same n m None (g n) same)) (λ other. sym (if_other n m None (g n) other ∙ e n ∙ if_other n m (Some p) (f n) other))) in
    omega (arith, fewer)

-- without numbers there is no packet
pub below-empty : (f : ℕ → Option Packet) (k n : ℕ) → length (numbers_below f k) ≡ 0 → n < k → f n ≡ None
below-empty f zero n e h = absurd (omega arith)
below-empty f (suc k) n e h = by_bool (is_some (f k))
    (λ some. absurd (omega (arith, ap length (below-found f k some))))
    (λ none. split n k
    (λ same. ap f same ∙ none-found (f k) none)
    (λ other. below-empty f k n (omega (arith, ap length (below-none f k none))) (omega arith)))

pub none-at-all : (f : ℕ → Option Packet) (k n : ℕ) → length (numbers_below f k) ≡ 0 → ((m : ℕ) → k ≤ m → f m ≡ None) → f n ≡ None
none-at-all f k n e none = by_bool (nat_lt n k) (λ near. below-empty f k n e (ltb-true n k near)) (λ far. none n (ltb-false n k far))

pub found-below : (f : ℕ → Option Packet) (k n : ℕ) → is_some (f n) ≡ true → ((m : ℕ) → k ≤ m → f m ≡ None) → n < k
found-below f k n some none = by_bool (nat_lt n k) (λ near. ltb-true n k near) (λ far. absurd (true≢false (sym some ∙ ap is_some (none n (ltb-false n k far)))))

-- ---- which numbers they are
pub any-far : (f : ℕ → Option Packet) (k n : ℕ) → k ≤ n → list_any (nat_eq n) (numbers_below f k) ≡ false
any-far f zero n h = refl
any-far f (suc k) n h = by_bool (is_some (f k))
    (λ some. ap (list_any (nat_eq n)) (below-found f k some) ∙ ap₂ ◌||◌ (ne_eqb n k (omega arith)) (any-far f k n (omega arith)))
    (λ none. ap (list_any (nat_eq n)) (below-none f k none) ∙ any-far f k n (omega arith))

pub any-below : (f : ℕ → Option Packet) (k n : ℕ) → n < k → list_any (nat_eq n) (numbers_below f k) ≡ is_some (f n)
any-below f zero n h = absurd (omega arith)
any-below f (suc k) n h = by_bool (is_some (f k))
    (λ some. ap (list_any (nat_eq n)) (below-found f k some) ∙ split n k
    (λ same. ap (λ (t : Bool). t || list_any (nat_eq n) (numbers_below f k)) (eq-eqb n k same) ∙ sym some ∙ ap (λ (z : ℕ). is_some (f z)) (sym same))
    (λ other. ap (λ (t : Bool). t || list_any (nat_eq n) (numbers_below f k)) (ne_eqb n k other) ∙ any-below f k n (omega arith)))
    (λ none. ap (list_any (nat_eq n)) (below-none f k none) ∙ split n k
    (λ same. any-far f k n (omega arith) ∙ sym none ∙ ap (λ (z : ℕ). is_some (f z)) (sym same))
    (λ other. any-below f k n (omega arith)))

pub any-found : (f : ℕ → Option Packet) (k n : ℕ) → ((m : ℕ) → k ≤ m → f m ≡ None) → list_any (nat_eq n) (numbers_below f k) ≡ is_some (f n)
any-found f k n none = by_bool (nat_lt n k)
    (λ near. any-below f k n (ltb-true n k near))
    (λ far. let h : k ≤ n = ltb-false n k far in any-far f k n h ∙ sym (ap is_some (none n h)))

-- ---- each once
or_false : (a b : Bool) → (a || b) ≡ false → (a ≡ false) × (b ≡ false)
or_false true b h = absurd (true≢false h)
or_false false b h = (refl, h)

none-pass : (test : ℕ → Bool) (ys : List ℕ) → list_any test ys ≡ false → AllByRecursion (λ y. test y ≡ false) ys
none-pass test [] h = tt
none-pass test (y ∷ ys) h = let both = or_false (test y) (list_any test ys) h in (both.0, none-pass test ys both.1)

pub distinct-below : (f : ℕ → Option Packet) (k : ℕ) (ks : List ℕ) → IsDistinct nat_eq ks → ((n : ℕ) → is_some (f n) ≡ true → list_any (nat_eq n) ks ≡ false) → IsDistinct nat_eq (numbers_below f k ++ ks)
distinct-below f zero ks d h = d
distinct-below f (suc k) ks d h = by_bool (is_some (f k))
    (λ some. subst (λ (l : List ℕ). IsDistinct nat_eq (l ++ ks)) (sym (below-found f k some))
    (IsDistinct-cons nat_eq k (numbers_below f k ++ ks)
    (none-pass (nat_eq k) (numbers_below f k ++ ks) (list_any-append (nat_eq k) (numbers_below f k) ks ∙ ap₂ ◌||◌ (any-far f k k (omega arith)) (h k some)))
    (distinct-below f k ks d h)))
    (λ none. subst (λ (l : List ℕ). IsDistinct nat_eq (l ++ ks)) (sym (below-none f k none)) (distinct-below f k ks d h))
