-- The packets in slots, as they arrive and depart.
use Rattle.sched_core.proofs.Prelude.{arith, ◌≡◌, ap, ◌∙◌, sym, ℕ, List, length, subst, Some, ◌<◌, [], refl, ◌∷◌, Option, None, ◌+◌, ◌≤◌, get_or, suc, zero, ◌++◌, is_some, if◌then◌else◌, nat_eq, ◌==◌, Bool, false, take, true≢false, set, true, ◌%◌, ◌&&◌, ◌≢◌, IfSome, add-one, eq-eqb, ne_eqb, eqb-true, nat_le, and_from, and_parts, eqb-false, le-leb, leb-true, ⊤, Packet, packet_in, packet_among, are_ordered, filled_among, place_behind, place_of, is_filled, base_with, later_than, stands_at, lt-ltb, ltb-true, ◌^◌, ◌/◌, Slot}
use Rattle.std.specs.Prelude.{◌*◌}

-- ---- a test of two numbers
pub if_same : {X : Type 0} (n m : ℕ) (a b : X) → n ≡ m → (if n == m then a else b) ≡ a
if_same {X = X} n m a b e = ap (λ (t : Bool). if t then a else b) (eq-eqb n m e)

pub if_other : {X : Type 0} (n m : ℕ) (a b : X) → n ≢ m → (if n == m then a else b) ≡ b
if_other {X = X} n m a b e = ap (λ (t : Bool). if t then a else b) (ne_eqb n m e)

pub split : {P : Type 0} (n m : ℕ) → (n ≡ m → P) → (n ≢ m → P) → P
split {P = P} n m same other = by (nat_eq n m) refl
  where
    by : (t : Bool) → nat_eq n m ≡ t → P
    by true e = same (eqb-true n m e)
    by false e = other (eqb-false n m e)

pub by_bool : {P : Type 0} (t : Bool) → (t ≡ true → P) → (t ≡ false → P) → P
by_bool true one other = one refl
by_bool false one other = other refl

-- ---- whether a packet is at a position
pub place-there : (place : ℕ) (s : Slot) → stands_at place s ≡ true → place_of s ≡ place
place-there place s h = eqb-true (place_of s) place (and_parts (place_of s == place) (is_filled s) h).0

pub filled-there : (place : ℕ) (s : Slot) → stands_at place s ≡ true → is_filled s ≡ true
filled-there place s h = (and_parts (place_of s == place) (is_filled s) h).1

pub elsewhere : (place : ℕ) (s : Slot) → place_of s ≢ place → stands_at place s ≡ false
elsewhere place s ne = ap (λ (t : Bool). t && is_filled s) (ne_eqb (place_of s) place ne)

and_false : (a : Bool) → (a && false) ≡ false
and_false true = refl
and_false false = refl

pub unfilled : (place : ℕ) (s : Slot) → is_filled s ≡ false → stands_at place s ≡ false
unfilled place s e = ap (λ (t : Bool). (place_of s == place) && t) e ∙ and_false (place_of s == place)

pub filled-here : (place : ℕ) (s : Slot) → is_filled s ≡ true → stands_at place s ≡ (place == place_of s)
filled-here place s e = split place (place_of s)
    (λ same. ap (λ (t : Bool). t && is_filled s) (eq-eqb (place_of s) place (sym same)) ∙ e ∙ sym (eq-eqb place (place_of s) same))
    (λ other. elsewhere place s (λ r. other (sym r)) ∙ sym (ne_eqb place (place_of s) other))

pub stands-there : (place : ℕ) (s : Slot) → place_of s ≡ place → is_filled s ≡ true → stands_at place s ≡ true
stands-there place s e f = and_from (place_of s == place) (is_filled s) (eq-eqb (place_of s) place e) f

-- the mark tells whether a packet is there
pub stands-marked : (place : ℕ) (s : Slot) → place < 64 → s.mark ≡ place → stands_at place s ≡ true
stands-marked place s h e = stands-there place s (omega (arith, h, e)) (lt-ltb s.mark 64 (omega (arith, h, e)))

pub unmarked : (place : ℕ) (s : Slot) → s.mark ≢ place → stands_at place s ≡ false
unmarked place s ne = by_bool (is_filled s)
    (λ f. elsewhere place s (λ e. ne (omega (arith, e, ltb-true s.mark 64 f))))
    (λ f. unfilled place s f)

pub emptied-mark : (s : Slot) → 64 ≤ s.mark → is_filled s ≡ false
emptied-mark s h = by_bool (is_filled s) (λ f. absurd (omega (arith, h, ltb-true s.mark 64 f))) (λ f. f)

-- the first slot decides
pub first-stands : (b : ℕ) (s : Slot) (xs : List Slot) (n : ℕ) → stands_at (n % 64) s ≡ true → packet_among b (s ∷ xs) n ≡ Some (packet_in b n s)
first-stands b s xs n h = ap (λ (t : Bool). if t then Some (packet_in b n s) else packet_among b xs n) h

pub first-passed : (b : ℕ) (s : Slot) (xs : List Slot) (n : ℕ) → stands_at (n % 64) s ≡ false → packet_among b (s ∷ xs) n ≡ packet_among b xs n
first-passed b s xs n h = ap (λ (t : Bool). if t then Some (packet_in b n s) else packet_among b xs n) h

-- one or none
abbrev one_if : Bool → ℕ
one_if t = if t then 1 else 0

-- ---- the order
abbrev pub AreOrdered : ℕ → List Slot → Type 0
AreOrdered least [] = ⊤
AreOrdered least (x ∷ xs) = (least ≤ place_of x) × AreOrdered (place_of x + 1) xs

pub ordered-in : (least : ℕ) (xs : List Slot) → are_ordered least xs ≡ true → AreOrdered least xs
ordered-in least [] h = tt
ordered-in least (x ∷ xs) h =
    let both = and_parts (nat_le least (place_of x)) (are_ordered (place_of x + 1) xs) h in
    (leb-true least (place_of x) both.0, ordered-in (place_of x + 1) xs both.1)

pub ordered-out : (least : ℕ) (xs : List Slot) → AreOrdered least xs → are_ordered least xs ≡ true
ordered-out least [] o = refl
ordered-out least (x ∷ xs) o = and_from (nat_le least (place_of x)) (are_ordered (place_of x + 1) xs) (le-leb least (place_of x) o.0) (ordered-out (place_of x + 1) xs o.1)

pub ordered-from : (a b : ℕ) (xs : List Slot) → a ≤ b → AreOrdered b xs → AreOrdered a xs
ordered-from a b [] h o = tt
ordered-from a b (x ∷ xs) h o = (omega (arith, o.0), o.1)

pub among-before : (b : ℕ) (least : ℕ) (xs : List Slot) (n : ℕ) → AreOrdered least xs → n % 64 < least → packet_among b xs n ≡ None
among-before b least [] n o h = refl
among-before b least (x ∷ xs) n o h = first-passed b x xs n (elsewhere (n % 64) x (omega (arith, o.0))) ∙ among-before b (place_of x + 1) xs n o.1 (omega (arith, o.0))

pub behind-grows : (least : ℕ) (xs : List Slot) → AreOrdered least xs → least ≤ place_behind least xs
behind-grows least [] o = omega arith
behind-grows least (x ∷ xs) o = omega (arith, o.0, behind-grows (place_of x + 1) xs o.1)

pub behind-last : (least : ℕ) (xs : List Slot) (k : ℕ) (d : Slot) → length xs ≡ k + 1 → place_behind least xs ≡ place_of (get_or xs k d) + 1
behind-last least [] k d e = absurd (omega arith)
behind-last least (x ∷ []) zero d e = refl
behind-last least (x ∷ []) (suc k) d e = absurd (omega arith)
behind-last least (x ∷ y ∷ xs) zero d e = absurd (omega arith)
behind-last least (x ∷ y ∷ xs) (suc k) d e = behind-last (place_of x + 1) (y ∷ xs) k d (omega arith)

pub among-behind : (b : ℕ) (least : ℕ) (xs : List Slot) (n : ℕ) → AreOrdered least xs → place_behind least xs ≤ n % 64 → packet_among b xs n ≡ None
among-behind b least [] n o h = refl
among-behind b least (x ∷ xs) n o h = first-passed b x xs n (elsewhere (n % 64) x (omega (arith, behind-grows (place_of x + 1) xs o.1))) ∙ among-behind b (place_of x + 1) xs n o.1 h

-- ---- the timestamp of the chunk
pub base-first : (b : ℕ) (xs : List Slot) (p : Packet) → length xs ≡ 0 → p.moment ≡ base_with b xs p
base-first b [] p e = refl
base-first b (x ∷ xs) p e = absurd (omega arith)

pub base-kept : (b : ℕ) (xs : List Slot) (p : Packet) → 0 < length xs → b ≡ base_with b xs p
base-kept b [] p h = absurd (omega arith)
base-kept b (x ∷ xs) p h = refl

pub among-based : (b : ℕ) (xs : List Slot) (p : Packet) (n : ℕ) → packet_among (base_with b xs p) xs n ≡ packet_among b xs n
among-based b [] p n = refl
among-based b (x ∷ xs) p n = refl

-- what a slot has of a timestamp gives it back
pub timestamp-back : (b m : ℕ) → b < 2 ^ 64 → m < 2 ^ 64 → (b + (later_than b m / 2 ^ 32 * 2 ^ 32 + later_than b m % 2 ^ 32)) % 2 ^ 64 ≡ m
timestamp-back b m h small = omega (arith, h, small)

-- ---- one more slot
pub ordered-push : (least : ℕ) (xs : List Slot) (s : Slot) → AreOrdered least xs → place_behind least xs ≤ place_of s → AreOrdered least (xs ++ s ∷ [])
ordered-push least [] s o h = (h, tt)
ordered-push least (x ∷ xs) s o h = (o.0, ordered-push (place_of x + 1) xs s o.1 h)

pub filled-push : (xs : List Slot) (s : Slot) → is_filled s ≡ true → filled_among (xs ++ s ∷ []) ≡ filled_among xs + 1
filled-push [] s e = omega (arith, ap one_if e)
filled-push (x ∷ xs) s e = omega (arith, filled-push xs s e)

push-same : (b : ℕ) (xs : List Slot) (s : Slot) (n : ℕ) → packet_among b xs n ≡ None → stands_at (n % 64) s ≡ true → packet_among b (xs ++ s ∷ []) n ≡ Some (packet_in b n s)
push-same b [] s n h e = first-stands b s [] n e
push-same b (x ∷ xs) s n h e = by_bool (stands_at (n % 64) x)
    (λ at. absurd (true≢false (ap is_some (sym (first-stands b x xs n at) ∙ h))))
    (λ at. first-passed b x (xs ++ s ∷ []) n at ∙ push-same b xs s n (sym (first-passed b x xs n at) ∙ h) e)

push-other : (b : ℕ) (xs : List Slot) (s : Slot) (n : ℕ) → stands_at (n % 64) s ≡ false → packet_among b (xs ++ s ∷ []) n ≡ packet_among b xs n
push-other b [] s n e = first-passed b s [] n e
push-other b (x ∷ xs) s n e = ap (λ (t : Option Packet). if stands_at (n % 64) x then Some (packet_in b n x) else t) (push-other b xs s n e)

pub among-push : (b : ℕ) (least : ℕ) (xs : List Slot) (s : Slot) (n : ℕ) → AreOrdered least xs → place_behind least xs ≤ place_of s → is_filled s ≡ true
    → packet_among b (xs ++ s ∷ []) n ≡ (if n % 64 == place_of s then Some (packet_in b n s) else packet_among b xs n)
among-push b least xs s n o h e = split (n % 64) (place_of s)
    (λ same. push-same b xs s n (among-behind b least xs n o (omega arith)) (filled-here (n % 64) s e ∙ eq-eqb (n % 64) (place_of s) same) ∙ sym (if_same (n % 64) (place_of s) (Some (packet_in b n s)) (packet_among b xs n) same))
    (λ other. push-other b xs s n (elsewhere (n % 64) s (λ r. other (sym r))) ∙ sym (if_other (n % 64) (place_of s) (Some (packet_in b n s)) (packet_among b xs n) other))

-- ---- the positions of packets
pub any-default : (xs : List Slot) (k : ℕ) (d e : Slot) → k < length xs → get_or xs k d ≡ get_or xs k e
any-default [] k d e h = absurd (omega arith)
any-default (x ∷ xs) zero d e h = refl
any-default (x ∷ xs) (suc k) d e h = any-default xs k d e (omega arith)

pub at-least : (least : ℕ) (xs : List Slot) (k : ℕ) (d : Slot) → AreOrdered least xs → k < length xs → least + k ≤ place_of (get_or xs k d)
at-least least [] k d o h = absurd (omega arith)
at-least least (x ∷ xs) zero d o h = omega (arith, o.0)
at-least least (x ∷ xs) (suc k) d o h = omega (arith, o.0, at-least (place_of x + 1) xs k d o.1 (omega arith))

pub among-at : (b : ℕ) (least : ℕ) (xs : List Slot) (k : ℕ) (d : Slot) (n : ℕ) → AreOrdered least xs → k < length xs → stands_at (n % 64) (get_or xs k d) ≡ true
    → packet_among b xs n ≡ Some (packet_in b n (get_or xs k d))
among-at b least [] k d n o h e = absurd (omega arith)
among-at b least (x ∷ xs) zero d n o h e = first-stands b x xs n e
among-at b least (x ∷ xs) (suc k) d n o h e =
    let far = at-least (place_of x + 1) xs k d o.1 (omega arith) in
    let there = place-there (n % 64) (get_or xs k d) e in
    first-passed b x xs n (elsewhere (n % 64) x (omega (arith, far, there))) ∙ among-at b (place_of x + 1) xs k d n o.1 (omega arith) e

pub among-nowhere : (b : ℕ) (xs : List Slot) (n : ℕ) → ((k : ℕ) (d : Slot) → k < length xs → stands_at (n % 64) (get_or xs k d) ≡ false) → packet_among b xs n ≡ None
among-nowhere b [] n h = refl
among-nowhere b (x ∷ xs) n h = first-passed b x xs n (h 0 x (omega arith)) ∙ among-nowhere b xs n (λ k d l. h (suc k) d (omega arith))

-- numbers with the same position
pub none-place : (b : ℕ) (xs : List Slot) (m n : ℕ) → n % 64 ≡ m % 64 → packet_among b xs m ≡ None → packet_among b xs n ≡ None
none-place b [] m n e h = refl
none-place b (x ∷ xs) m n e h = by_bool (stands_at (m % 64) x)
    (λ at. absurd (true≢false (ap is_some (sym (first-stands b x xs m at) ∙ h))))
    (λ at. first-passed b x xs n (ap (λ (place : ℕ). stands_at place x) e ∙ at) ∙ none-place b xs m n e (sym (first-passed b x xs m at) ∙ h))

pub some-filled : (xs : List Slot) (k : ℕ) (d : Slot) → k < length xs → is_filled (get_or xs k d) ≡ true → 1 ≤ filled_among xs
some-filled [] k d h e = absurd (omega arith)
some-filled (x ∷ xs) zero d h e = omega (arith, ap one_if e)
some-filled (x ∷ xs) (suc k) d h e = omega (arith, some-filled xs k d (omega arith) e)

pub take-whole : (k : ℕ) (xs : List Slot) → length xs ≤ k → take k xs ≡ xs
take-whole zero [] h = refl
take-whole zero (x ∷ xs) h = absurd (omega arith)
take-whole (suc k) [] h = refl
take-whole (suc k) (x ∷ xs) h = ap (λ (l : List Slot). x ∷ l) (take-whole k xs (omega arith))

-- ---- a slot is emptied
pub ordered-set : (least : ℕ) (xs : List Slot) (k : ℕ) (d s : Slot) → AreOrdered least xs → k < length xs → place_of s ≡ place_of (get_or xs k d) → AreOrdered least (set xs k s)
ordered-set least [] k d s o h e = absurd (omega arith)
ordered-set least (x ∷ xs) zero d s o h e = (omega (arith, o.0, e), ordered-from (place_of s + 1) (place_of x + 1) xs (omega (arith, e)) o.1)
ordered-set least (x ∷ xs) (suc k) d s o h e = (o.0, ordered-set (place_of x + 1) xs k d s o.1 (omega arith) e)

pub filled-emptied : (xs : List Slot) (k : ℕ) (d s : Slot) → k < length xs → is_filled s ≡ false → is_filled (get_or xs k d) ≡ true → filled_among (set xs k s) + 1 ≡ filled_among xs
filled-emptied [] k d s h e f = absurd (omega arith)
filled-emptied (x ∷ xs) zero d s h e f =
    omega (arith, ap one_if e, ap one_if f)
filled-emptied (x ∷ xs) (suc k) d s h e f = omega (arith, filled-emptied xs k d s (omega arith) e f)

pub among-emptied : (b : ℕ) (least : ℕ) (xs : List Slot) (k : ℕ) (d s : Slot) (m n : ℕ) → AreOrdered least xs → k < length xs → is_filled s ≡ false → stands_at (m % 64) (get_or xs k d) ≡ true
    → packet_among b (set xs k s) n ≡ (if n % 64 == m % 64 then None else packet_among b xs n)
among-emptied b least [] k d s m n o h e at = absurd (omega arith)
among-emptied b least (x ∷ xs) zero d s m n o h e at =
    let there = place-there (m % 64) x at in
    first-passed b s xs n (unfilled (n % 64) s e) ∙ split (n % 64) (m % 64)
    (λ same. among-before b (place_of x + 1) xs n o.1 (omega (arith, there, same)) ∙ sym (if_same (n % 64) (m % 64) None (packet_among b (x ∷ xs) n) same))
    (λ other. sym (first-passed b x xs n (elsewhere (n % 64) x (λ r. other (sym r ∙ there)))) ∙ sym (if_other (n % 64) (m % 64) None (packet_among b (x ∷ xs) n) other))
among-emptied b least (x ∷ xs) (suc k) d s m n o h e at =
    let far = at-least (place_of x + 1) xs k d o.1 (omega arith) in
    let there = place-there (m % 64) (get_or xs k d) at in
    let rest = among-emptied b (place_of x + 1) xs k d s m n o.1 (omega arith) e at in
    split (n % 64) (m % 64)
    (λ same. first-passed b x (set xs k s) n (elsewhere (n % 64) x (omega (arith, far, there, same))) ∙ rest ∙ if_same (n % 64) (m % 64) None (packet_among b xs n) same ∙ sym (if_same (n % 64) (m % 64) None (packet_among b (x ∷ xs) n) same))
    (λ other. ap (λ (t : Option Packet). if stands_at (n % 64) x then Some (packet_in b n x) else t) (rest ∙ if_other (n % 64) (m % 64) None (packet_among b xs n) other) ∙ sym (if_other (n % 64) (m % 64) None (packet_among b (x ∷ xs) n) other))

-- ---- the filled slots alone
abbrev pub filled_of : List Slot → List Slot
filled_of [] = []
filled_of (x ∷ xs) = if is_filled x then x ∷ filled_of xs else filled_of xs

pub kept-filled : (x : Slot) (xs : List Slot) → is_filled x ≡ true → filled_of (x ∷ xs) ≡ x ∷ filled_of xs
kept-filled x xs e = ap (λ (t : Bool). if t then x ∷ filled_of xs else filled_of xs) e

pub kept-empty : (x : Slot) (xs : List Slot) → is_filled x ≡ false → filled_of (x ∷ xs) ≡ filled_of xs
kept-empty x xs e = ap (λ (t : Bool). if t then x ∷ filled_of xs else filled_of xs) e

pub kept-next_filled : (xs : List Slot) (k : ℕ) (d : Slot) → k < length xs → is_filled (get_or xs k d) ≡ true → filled_of (take (suc k) xs) ≡ filled_of (take k xs) ++ get_or xs k d ∷ []
kept-next_filled [] k d h e = absurd (omega arith)
kept-next_filled (x ∷ xs) zero d h e = kept-filled x [] e
kept-next_filled (x ∷ xs) (suc k) d h e = let rest = kept-next_filled xs k d (omega arith) e in by_bool (is_filled x)
    (λ f. kept-filled x (take (suc k) xs) f ∙ ap (λ (l : List Slot). x ∷ l) rest ∙ sym (ap (λ (l : List Slot). l ++ get_or xs k d ∷ []) (kept-filled x (take k xs) f)))
    (λ f. kept-empty x (take (suc k) xs) f ∙ rest ∙ sym (ap (λ (l : List Slot). l ++ get_or xs k d ∷ []) (kept-empty x (take k xs) f)))

pub kept-next_empty : (xs : List Slot) (k : ℕ) (d : Slot) → k < length xs → is_filled (get_or xs k d) ≡ false → filled_of (take (suc k) xs) ≡ filled_of (take k xs)
kept-next_empty [] k d h e = absurd (omega arith)
kept-next_empty (x ∷ xs) zero d h e = kept-empty x [] e
kept-next_empty (x ∷ xs) (suc k) d h e = let rest = kept-next_empty xs k d (omega arith) e in by_bool (is_filled x)
    (λ f. kept-filled x (take (suc k) xs) f ∙ ap (λ (l : List Slot). x ∷ l) rest ∙ sym (kept-filled x (take k xs) f))
    (λ f. kept-empty x (take (suc k) xs) f ∙ rest ∙ sym (kept-empty x (take k xs) f))

pub kept-push : (xs kept new : List Slot) (k : ℕ) (d : Slot) → k < length xs → is_filled (get_or xs k d) ≡ true → kept ≡ filled_of (take k xs) → new ≡ kept ++ get_or xs k d ∷ [] → new ≡ filled_of (take (k + 1) xs)
kept-push xs kept new k d h f e g =
    g ∙ ap (λ (l : List Slot). l ++ get_or xs k d ∷ []) e ∙ sym (kept-next_filled xs k d h f) ∙ sym (ap (λ (z : ℕ). filled_of (take z xs)) (add-one k))

pub kept-skip : (xs kept : List Slot) (k : ℕ) (d : Slot) → k < length xs → is_filled (get_or xs k d) ≡ false → kept ≡ filled_of (take k xs) → kept ≡ filled_of (take (k + 1) xs)
kept-skip xs kept k d h f e = e ∙ sym (kept-next_empty xs k d h f) ∙ sym (ap (λ (z : ℕ). filled_of (take z xs)) (add-one k))

pub among-kept : (b : ℕ) (xs : List Slot) (n : ℕ) → packet_among b (filled_of xs) n ≡ packet_among b xs n
among-kept b [] n = refl
among-kept b (x ∷ xs) n = by_bool (is_filled x)
    (λ f. ap (λ (l : List Slot). packet_among b l n) (kept-filled x xs f) ∙ ap (λ (t : Option Packet). if stands_at (n % 64) x then Some (packet_in b n x) else t) (among-kept b xs n))
    (λ e. ap (λ (l : List Slot). packet_among b l n) (kept-empty x xs e) ∙ among-kept b xs n ∙ sym (first-passed b x xs n (unfilled (n % 64) x e)))

pub ordered-kept : (least : ℕ) (xs : List Slot) → AreOrdered least xs → AreOrdered least (filled_of xs)
ordered-kept least [] o = tt
ordered-kept least (x ∷ xs) o = by_bool (is_filled x)
    (λ f. subst (AreOrdered least) (sym (kept-filled x xs f)) (o.0, ordered-kept (place_of x + 1) xs o.1))
    (λ e. subst (AreOrdered least) (sym (kept-empty x xs e)) (ordered-from least (place_of x + 1) (filled_of xs) (omega (arith, o.0)) (ordered-kept (place_of x + 1) xs o.1)))

pub count-kept : (xs : List Slot) → filled_among (filled_of xs) ≡ filled_among xs
count-kept [] = refl
count-kept (x ∷ xs) = by_bool (is_filled x)
    (λ f. ap filled_among (kept-filled x xs f) ∙ ap (λ (k : ℕ). one_if (is_filled x) + k) (count-kept xs))
    (λ e. ap filled_among (kept-empty x xs e) ∙ count-kept xs ∙ omega (arith, ap one_if e))

-- ---- how many are filled
at_most_one : (b : Bool) → one_if b ≤ 1
at_most_one true = omega arith
at_most_one false = omega arith

pub filled-le : (xs : List Slot) → filled_among xs ≤ length xs
filled-le [] = omega arith
filled-le (x ∷ xs) = omega (arith, at_most_one (is_filled x), filled-le xs)

pub among-none : (b : ℕ) (xs : List Slot) (n : ℕ) → filled_among xs ≡ 0 → packet_among b xs n ≡ None
among-none b [] n e = refl
among-none b (x ∷ xs) n e = by_bool (is_filled x)
    (λ f. absurd (omega (arith, ap one_if f)))
    (λ h. first-passed b x xs n (unfilled (n % 64) x h) ∙ among-none b xs n (omega (arith, ap one_if h)))

-- ---- a packet that is found has the number
pub named : (b : ℕ) (xs : List Slot) (n : ℕ) → IfSome (packet_among b xs n) (λ p. p.number ≡ n)
named b [] n = tt
named b (x ∷ xs) n = by_bool (stands_at (n % 64) x)
    (λ e. subst (λ (o : Option Packet). IfSome o (λ p. p.number ≡ n)) (sym (first-stands b x xs n e)) refl)
    (λ e. subst (λ (o : Option Packet). IfSome o (λ p. p.number ≡ n)) (sym (first-passed b x xs n e)) (named b xs n))
