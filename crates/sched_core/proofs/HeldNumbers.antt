-- The packets in slots and among the strays.
use Rattle.sched_core.proofs.Prelude.{◌≡◌, ap, ◌∙◌, sym, ℕ, Some, refl, Option, None, is_some, if◌then◌else◌, ◌==◌, Bool, false, true≢false, ap₂, true, ◌&&◌, ◌≢◌, ◌||◌, Err, IfOk, Ok, Result, OnErr, Packet, or_stray}
use Rattle.sched_core.proofs.SlotLaws.{if_same, if_other, split}

pub is_some-or_stray : (p s : Option Packet) → is_some (or_stray p s) ≡ (is_some p || is_some s)
is_some-or_stray (Some p) s = refl
is_some-or_stray None s = refl

pub neither : (p s : Option Packet) → or_stray p s ≡ None → (p ≡ None) × (s ≡ None)
neither (Some p) s e = absurd (true≢false (ap is_some e))
neither None s e = (refl, e)

-- ---- if a packet is found, the answer is that one was written
pub was-given : (b : Bool) (p : Packet) (o : Option Packet) → o ≡ (if b then Some p else None) → is_some o ≡ true → b ≡ true
was-given true p o e some = refl
was-given false p o e some = absurd (true≢false (sym some ∙ ap is_some e))

-- ---- a number m is emptied
pub taken-some : (n m : ℕ) (at new : Option Packet) → new ≡ (if n == m then None else at) → is_some new ≡ true → (n ≢ m) × (is_some at ≡ true)
taken-some n m at new e s = split n m
    (λ (same : n ≡ m). absurd (true≢false (sym s ∙ ap is_some (e ∙ if_same n m None at same))))
    (λ (other : n ≢ m). (other, sym (ap is_some (e ∙ if_other n m None at other)) ∙ s))

pub was_empty : (n m : ℕ) (at new : Option Packet) → new ≡ (if n == m then None else at) → (n ≡ m → at ≡ None) → new ≡ at
was_empty n m at new e h = split n m
    (λ (same : n ≡ m). e ∙ if_same n m None at same ∙ sym (h same))
    (λ (other : n ≢ m). e ∙ if_other n m None at other)

pub stray-other : (n k : ℕ) (p : Packet) (old new : Option Packet) → new ≡ (if k == n then Some p else old) → k ≢ n → old ≡ None → new ≡ None
stray-other n k p old new e ne h = e ∙ if_other k n (Some p) old ne ∙ h

-- ---- the packet of a slot becomes a stray
pub moved : (n m k : ℕ) (p : Packet) (at new stray after : Option Packet) → k ≡ m → new ≡ (if n == m then None else at) → (n ≡ m → at ≡ Some p) → after ≡ (if k == n then Some p else stray) → or_stray new after ≡ or_stray at stray
moved n m k p at new stray after q e h f = split n m
    (λ (same : n ≡ m). ap₂ or_stray (e ∙ if_same n m None at same) (f ∙ if_same k n (Some p) stray (q ∙ sym same)) ∙ sym (ap (λ (o : Option Packet). or_stray o stray) (h same)))
    (λ (other : n ≢ m). ap₂ or_stray (e ∙ if_other n m None at other) (f ∙ if_other k n (Some p) stray (λ (r : k ≡ n). other (sym r ∙ q))))

-- ---- a packet is added
pub put-beside : (n k : ℕ) (p : Packet) (at new stray after : Option Packet) → new ≡ (if n == k then None else at) → after ≡ (if k == n then Some p else stray) → or_stray new after ≡ (if n == k then Some p else or_stray at stray)
put-beside n k p at new stray after e f = split n k
    (λ (same : n ≡ k). ap₂ or_stray (e ∙ if_same n k None at same) (f ∙ if_same k n (Some p) stray (sym same)) ∙ sym (if_same n k (Some p) (or_stray at stray) same))
    (λ (other : n ≢ k). ap₂ or_stray (e ∙ if_other n k None at other) (f ∙ if_other k n (Some p) stray (λ (r : k ≡ n). other (sym r))) ∙ sym (if_other n k (Some p) (or_stray at stray) other))

pub put-slot : (n m k : ℕ) (p : Packet) (here at new stray : Option Packet) → m ≡ k → new ≡ (if n == m then here else at) → (n ≡ k → here ≡ Some p) → or_stray new stray ≡ (if n == k then Some p else or_stray at stray)
put-slot n m k p here at new stray q e h = split n k
    (λ (same : n ≡ k). ap (λ (o : Option Packet). or_stray o stray) (e ∙ if_same n m here at (same ∙ sym q) ∙ h same) ∙ sym (if_same n k (Some p) (or_stray at stray) same))
    (λ (other : n ≢ k). ap (λ (o : Option Packet). or_stray o stray) (e ∙ if_other n m here at (λ (r : n ≡ m). other (r ∙ q))) ∙ sym (if_other n k (Some p) (or_stray at stray) other))

-- ---- a packet is removed
pub take-slot : (n k : ℕ) (at new stray : Option Packet) → new ≡ (if n == k then None else at) → (n ≡ k → stray ≡ None) → or_stray new stray ≡ (if n == k then None else or_stray at stray)
take-slot n k at new stray e h = split n k
    (λ (same : n ≡ k). ap₂ or_stray (e ∙ if_same n k None at same) (h same) ∙ sym (if_same n k None (or_stray at stray) same))
    (λ (other : n ≢ k). ap (λ (o : Option Packet). or_stray o stray) (e ∙ if_other n k None at other) ∙ sym (if_other n k None (or_stray at stray) other))

pub take-both : (n k : ℕ) (at new stray after : Option Packet) → new ≡ (if n == k then None else at) → after ≡ (if k == n then None else stray) → or_stray new after ≡ (if n == k then None else or_stray at stray)
take-both n k at new stray after e f = split n k
    (λ (same : n ≡ k). ap₂ or_stray (e ∙ if_same n k None at same) (f ∙ if_same k n None stray (sym same)) ∙ sym (if_same n k None (or_stray at stray) same))
    (λ (other : n ≢ k). ap₂ or_stray (e ∙ if_other n k None at other) (f ∙ if_other k n None stray (λ (r : k ≡ n). other (sym r))) ∙ sym (if_other n k None (or_stray at stray) other))

-- ---- a packet is added to the window, or not
pub came-other : {E : Type 0} (r : Result Bool E) (old new : ℕ → Option Packet) (k n : ℕ) (p : Packet) → IfOk r (λ stands. (m : ℕ) → new m ≡ (if stands && (m == k) then Some p else old m)) → OnErr r ((m : ℕ) → new m ≡ old m) → n ≢ k → new n ≡ old n
came-other (Ok true) old new k n p ok err other = ok n ∙ if_other n k (Some p) (old n) other
came-other (Ok false) old new k n p ok err other = ok n
came-other (Err e) old new k n p ok err other = err n
