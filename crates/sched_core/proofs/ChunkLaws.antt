-- The packets in chunks, as they arrive and depart.
use Rattle.sched_core.proofs.Prelude.{arith, ◌≡◌, ap, ◌∙◌, sym, ℕ, List, length, subst, Some, ◌<◌, [], refl, ◌∷◌, Option, None, ◌+◌, ◌≤◌, get_or, suc, zero, ◌++◌, if◌then◌else◌, ◌==◌, Bool, false, drop, set, true, ◌%◌, ◌&&◌, ◌≢◌, IfSome, ◌/◌, ◌-◌, ◌^◌, nat_lt, ltb-true, ltb-false, Packet, packet_within, packet_of, Chunk}
use Rattle.sched_core.proofs.SlotLaws.{if_same, if_other, split, by_bool, named}

pub here : (first : ℕ) (c : Chunk) (cs : List Chunk) (n : ℕ) → n / 64 ≡ first → packet_within first (c ∷ cs) n ≡ packet_of c n
here first c cs n e = if_same (n / 64) first (packet_of c n) (packet_within (first + 1) cs n) e

pub later : (first : ℕ) (c : Chunk) (cs : List Chunk) (n : ℕ) → n / 64 ≢ first → packet_within first (c ∷ cs) n ≡ packet_within (first + 1) cs n
later first c cs n e = if_other (n / 64) first (packet_of c n) (packet_within (first + 1) cs n) e

pub within-before : (first : ℕ) (cs : List Chunk) (n : ℕ) → n / 64 < first → packet_within first cs n ≡ None
within-before first [] n h = refl
within-before first (c ∷ cs) n h = later first c cs n (omega arith) ∙ within-before (first + 1) cs n (omega arith)

pub within-behind : (first : ℕ) (cs : List Chunk) (n : ℕ) → first + length cs ≤ n / 64 → packet_within first cs n ≡ None
within-behind first [] n h = refl
within-behind first (c ∷ cs) n h = later first c cs n (omega arith) ∙ within-behind (first + 1) cs n (omega arith)

pub within-at : (first : ℕ) (cs : List Chunk) (k : ℕ) (d : Chunk) (n : ℕ) → k < length cs → n / 64 ≡ first + k → packet_within first cs n ≡ packet_of (get_or cs k d) n
within-at first [] k d n h e = absurd (omega arith)
within-at first (c ∷ cs) zero d n h e = here first c cs n (omega arith)
within-at first (c ∷ cs) (suc k) d n h e = later first c cs n (omega arith) ∙ within-at (first + 1) cs k d n (omega arith) (omega arith)

-- ---- one more chunk
pub within-push : (first : ℕ) (cs : List Chunk) (c : Chunk) (n : ℕ) → packet_of c n ≡ None → packet_within first (cs ++ c ∷ []) n ≡ packet_within first cs n
within-push first [] c n h = split (n / 64) first (λ same. here first c [] n same ∙ h) (λ other. later first c [] n other)
within-push first (x ∷ cs) c n h = ap (λ (t : Option Packet). if n / 64 == first then packet_of x n else t) (within-push (first + 1) cs c n h)

pub within-maybe : (first : ℕ) (cs : List Chunk) (c : Chunk) (b : Bool) (n : ℕ) → packet_of c n ≡ None → packet_within first (if b then cs ++ c ∷ [] else cs) n ≡ packet_within first cs n
within-maybe first cs c true n h = within-push first cs c n h
within-maybe first cs c false n h = refl

pub one-more : (b : Bool) (k : ℕ) → (if b then k + 1 else k) ≤ k + 1
one-more true k = omega arith
one-more false k = omega arith

-- ---- one chunk is replaced
pub within-set_here : (first : ℕ) (cs : List Chunk) (k : ℕ) (c : Chunk) (n : ℕ) → k < length cs → n / 64 ≡ first + k → packet_within first (set cs k c) n ≡ packet_of c n
within-set_here first [] k c n h e = absurd (omega arith)
within-set_here first (x ∷ cs) zero c n h e = here first c cs n (omega arith)
within-set_here first (x ∷ cs) (suc k) c n h e = later first x (set cs k c) n (omega arith) ∙ within-set_here (first + 1) cs k c n (omega arith) (omega arith)

pub within-set_other : (first : ℕ) (cs : List Chunk) (k : ℕ) (c : Chunk) (n : ℕ) → k < length cs → n / 64 ≢ first + k → packet_within first (set cs k c) n ≡ packet_within first cs n
within-set_other first [] k c n h e = absurd (omega arith)
within-set_other first (x ∷ cs) zero c n h e = later first c cs n (omega arith) ∙ sym (later first x cs n (omega arith))
within-set_other first (x ∷ cs) (suc k) c n h e = ap (λ (t : Option Packet). if n / 64 == first then packet_of x n else t) (within-set_other (first + 1) cs k c n (omega arith) (omega arith))

-- the new chunk has the same packets
pub within-same : (first : ℕ) (cs : List Chunk) (k : ℕ) (d c : Chunk) (n : ℕ) → k < length cs → packet_of c n ≡ packet_of (get_or cs k d) n → packet_within first (set cs k c) n ≡ packet_within first cs n
within-same first cs k d c n h e = split (n / 64) (first + k)
    (λ same. within-set_here first cs k c n h same ∙ e ∙ sym (within-at first cs k d n h same))
    (λ other. within-set_other first cs k c n h other)

-- a number's chunk and its position there determine it
pub same-number : (n m : ℕ) → n / 64 ≡ m / 64 → n % 64 ≡ m % 64 → n ≡ m
same-number n m e f = omega (arith, e, f)

-- the packet under one number changes, or is removed
pub within-changed : (first : ℕ) (cs : List Chunk) (k : ℕ) (d c : Chunk) (m n : ℕ) (now : Option Packet) → k < length cs → m / 64 ≡ first + k
    → packet_of c n ≡ (if n % 64 == m % 64 then now else packet_of (get_or cs k d) n)
    → packet_within first (set cs k c) n ≡ (if n == m then now else packet_within first cs n)
within-changed first cs k d c m n now h e f = split (n / 64) (first + k)
    (λ same. within-set_here first cs k c n h same ∙ f ∙ split (n % 64) (m % 64)
    (λ one. if_same (n % 64) (m % 64) now (packet_of (get_or cs k d) n) one ∙ sym (if_same n m now (packet_within first cs n) (same-number n m (same ∙ sym e) one)))
    (λ two. if_other (n % 64) (m % 64) now (packet_of (get_or cs k d) n) two ∙ sym (within-at first cs k d n h same) ∙ sym (if_other n m now (packet_within first cs n) (λ r. two (ap (λ (z : ℕ). z % 64) r)))))
    (λ other. within-set_other first cs k c n h other ∙ sym (if_other n m now (packet_within first cs n) (λ r. other (ap (λ (z : ℕ). z / 64) r ∙ e))))

-- ---- the first chunk is removed
pub within-rest : (first : ℕ) (c : Chunk) (cs : List Chunk) (n : ℕ) → packet_of c n ≡ None → packet_within (first + 1) cs n ≡ packet_within first (c ∷ cs) n
within-rest first c cs n h = split (n / 64) first
    (λ same. within-before (first + 1) cs n (omega arith) ∙ sym h ∙ sym (here first c cs n same))
    (λ other. sym (later first c cs n other))

-- ---- a packet that is found has the number
pub found-named : (first : ℕ) (cs : List Chunk) (n : ℕ) → IfSome (packet_within first cs n) (λ p. p.number ≡ n)
found-named first [] n = tt
found-named first (c ∷ cs) n = split (n / 64) first
    (λ same. subst (λ (o : Option Packet). IfSome o (λ p. p.number ≡ n)) (sym (here first c cs n same)) (named c.base c.slots.items n))
    (λ other. subst (λ (o : Option Packet). IfSome o (λ p. p.number ≡ n)) (sym (later first c cs n other)) (found-named (first + 1) cs n))

self-named : (f : ℕ → Option Packet) (n : ℕ) (o : Option Packet) → f n ≡ o → IfSome o (λ p. p.number ≡ n) → IfSome o (λ p. f p.number ≡ Some p)
self-named f n (Some p) e h = ap f h ∙ e
self-named f n None e h = tt

pub found-self : (first : ℕ) (cs : List Chunk) (n : ℕ) → IfSome (packet_within first cs n) (λ p. packet_within first cs p.number ≡ Some p)
found-self first cs n = self-named (packet_within first cs) n (packet_within first cs n) refl (found-named first cs n)

-- ---- a packet is added to a chunk, or not
unchanged : (b : Bool) (n m : ℕ) (a o : Option Packet) → n ≢ m → (if b && (n == m) then a else o) ≡ o
unchanged true n m a o ne = if_other n m a o ne
unchanged false n m a o ne = refl

pub within-added : (first : ℕ) (cs : List Chunk) (k : ℕ) (d c : Chunk) (p : Packet) (b : Bool) (n : ℕ) → k < length cs → p.number / 64 ≡ first + k → d ≡ get_or cs k d
    → (n / 64 ≡ p.number / 64 → packet_of c n ≡ (if b && (n == p.number) then Some p else packet_of d n))
    → packet_within first (set cs k c) n ≡ (if b && (n == p.number) then Some p else packet_within first cs n)
within-added first cs k d c p b n h e at f = split (n / 64) (first + k)
    (λ same. within-set_here first cs k c n h same ∙ f (same ∙ sym e)
    ∙ ap (λ (o : Option Packet). if b && (n == p.number) then Some p else o) (ap (λ (x : Chunk). packet_of x n) at ∙ sym (within-at first cs k d n h same)))
    (λ other. within-set_other first cs k c n h other ∙ sym (unchanged b n p.number (Some p) (packet_within first cs n) (λ r. other (ap (λ (z : ℕ). z / 64) r ∙ e))))

-- ---- the index of a number's chunk; for a chunk before the first the difference wraps
abbrev pub index_from : ℕ → ℕ → ℕ
index_from first chunk = (chunk + (2 ^ 64 - first)) % 2 ^ 64

pub index-is : (first k n : ℕ) → first + k ≤ 2 ^ 57 → n < 2 ^ 64 → index_from first (n / 64) < k → n / 64 ≡ first + index_from first (n / 64)
index-is first k n low small within = omega (arith, low, small, within)

pub index-past : (first : ℕ) (cs : List Chunk) (n : ℕ) → first + length cs ≤ 2 ^ 57 → n < 2 ^ 64 → length cs ≤ index_from first (n / 64) → packet_within first cs n ≡ None
index-past first cs n low small past = by_bool (nat_lt (n / 64) first)
    (λ before. within-before first cs n (ltb-true (n / 64) first before))
    (λ behind. within-behind first cs n (omega (arith, ltb-false (n / 64) first behind, low, small, past)))

-- ---- a packet is removed from a chunk
pub taken : (first : ℕ) (cs : List Chunk) (k : ℕ) (d c : Chunk) (m n : ℕ) → k < length cs → m / 64 ≡ first + k → d ≡ get_or cs k d
    → packet_of c n ≡ (if n % 64 == m % 64 then None else packet_of d n) → packet_within first (set cs k c) n ≡ (if n == m then None else packet_within first cs n)
taken first cs k d c m n h e at f = within-changed first cs k d c m n None h e (f ∙ ap (λ (x : Chunk). if n % 64 == m % 64 then None else packet_of x n) at)

pub told : (first : ℕ) (cs : List Chunk) (k : ℕ) (d : Chunk) (m : ℕ) → k < length cs → m / 64 ≡ first + k → d ≡ get_or cs k d → packet_of d m ≡ packet_within first cs m
told first cs k d m h e at = ap (λ (x : Chunk). packet_of x m) at ∙ sym (within-at first cs k d m h e)

-- ---- the first chunk is removed
pub within-drop : (first : ℕ) (cs : List Chunk) (d : Chunk) (n : ℕ) → 0 < length cs → packet_of (get_or cs 0 d) n ≡ None → packet_within (first + 1) (drop 1 cs) n ≡ packet_within first cs n
within-drop first [] d n h e = absurd (omega arith)
within-drop first (c ∷ cs) d n h e = within-rest first c cs n e

pub drop-length : (cs : List Chunk) → 0 < length cs → length (drop 1 cs) + 1 ≡ length cs
drop-length [] h = absurd (omega arith)
drop-length (c ∷ cs) h = omega arith
