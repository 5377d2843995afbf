-- The least line at fault in a list, from those in its parts.
use Rattle.rank_defs.proofs.Prelude.{refl, ℕ, arith, ◌≡◌, [], ◌∷◌, List, ◌≤◌, subst, ◌++◌, None, Option, Some, inl, inr, map, min, entry, Entry, SomeAt, IsLeastLine, lesser_line, Program, Assignment, assignments}
use Rattle.std.proofs.lemmas.Bool.{cases_lt}
use Rattle.rank_defs.proofs.Faults.{SomeAt-left, SomeAt-right, SomeAt-append}

-- an empty list has no fault
pub least-empty : (Fault : Entry → Type 0) → IsLeastLine Fault [] None
least-empty Fault line h = h

-- an entry that isn't at fault
pub least-clear : (Fault : Entry → Type 0) (e : Entry) → (Fault e → ⊥) → IsLeastLine Fault (e ∷ []) None
least-clear Fault e n line (inl h) = n h.1
least-clear Fault e n line (inr h) = h

-- an entry at fault
pub least-fault : (Fault : Entry → Type 0) (e : Entry) → Fault e → IsLeastLine Fault (e ∷ []) (Some e.assignment.line)
least-fault Fault e f = record { here = inl (refl, f); least = least-only Fault e }
  where
    least-only : (Fault : Entry → Type 0) (e : Entry) (other : ℕ) → SomeAt Fault (e ∷ []) other → e.assignment.line ≤ other
    least-only Fault e other (inl h) = let same : e.assignment.line ≡ other = h.0 in omega (arith, same)
    least-only Fault e other (inr h) = absurd h

lesser-here : (Fault : Entry → Type 0) (xs ys : List Entry) (m n : ℕ) → SomeAt Fault xs m → SomeAt Fault ys n → SomeAt Fault (xs ++ ys) (min m n)
lesser-here Fault xs ys m n h k =
    elim (cases_lt m n) [
      | inl l ↦ (let is : min m n ≡ m = omega (arith, l) in rw is (SomeAt-left Fault xs ys m h))
      | inr l ↦ (let is : min m n ≡ n = omega (arith, l) in rw is (SomeAt-right Fault xs ys n k))
    ]

-- two lists, appended
pub least-append : (Fault : Entry → Type 0) (xs ys : List Entry) (a b : Option ℕ) → IsLeastLine Fault xs a → IsLeastLine Fault ys b → IsLeastLine Fault (xs ++ ys) (lesser_line a b)
least-append Fault xs ys None None h k = λ line f. elim (SomeAt-append Fault xs ys line f) [ inl l ↦ h line l | inr l ↦ k line l ]
least-append Fault xs ys None (Some n) h k =
    record { here = SomeAt-right Fault xs ys n k.here; least = λ other f. elim (SomeAt-append Fault xs ys other f) [ inl l ↦ absurd (h other l) | inr l ↦ k.least other l ] }
least-append Fault xs ys (Some m) None h k =
    record { here = SomeAt-left Fault xs ys m h.here; least = λ other f. elim (SomeAt-append Fault xs ys other f) [ inl l ↦ h.least other l | inr l ↦ absurd (k other l) ] }
least-append Fault xs ys (Some m) (Some n) h k =
    record { here = lesser-here Fault xs ys m n h.here k.here; least = λ other f. elim (SomeAt-append Fault xs ys other f) [ inl l ↦ (let e : m ≤ other = h.least other l in omega (arith, e)) | inr l ↦ (let e : n ≤ other = k.least other l in omega (arith, e)) ] }

-- the assignments of one transaction, push assignments first
pub least-program : (Fault : Entry → Type 0) (p : Program) (a b : Option ℕ) → IsLeastLine Fault (map (entry p) p.push) a → IsLeastLine Fault (map (entry p) p.pop) b → IsLeastLine Fault (map (entry p) (assignments p)) (lesser_line a b)
least-program Fault p a b h k =
    subst (λ (es : List Entry). IsLeastLine Fault es (lesser_line a b)) (map-entries p p.push p.pop) (least-append Fault (map (entry p) p.push) (map (entry p) p.pop) a b h k)
  where
    map-entries : (p : Program) (xs ys : List Assignment) → map (entry p) xs ++ map (entry p) ys ≡ map (entry p) (xs ++ ys)
    map-entries p [] ys = refl
    map-entries p (x ∷ xs) ys = rw (map-entries p xs ys) refl
