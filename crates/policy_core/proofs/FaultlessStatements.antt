-- Statements without an error are accepted.
use Rattle.policy_core.proofs.Prelude.{List, ◌≡◌, ℕ, arith, length, ◌<◌, refl, get_or, suc, true, zero, inl, inr, false, Bool, cases_lt, get_or_default, AreAcyclic, HaveRoot, AreKnown, IsFault, AreFew, AreShallow, AreComputable, AreNew, ArePlaced, HaveCatchAll, HaveParents, NoLine, IsRepeated, IsUnknown, IsLeastLine, IsNotListedOnce, IsOrphan, has_catch_all, has_root, IsOneTooMany, IsMisplaced, NeedsVersion2, IsCyclic, IsTooDeep, programs, PolicyFault, NoMemory, ClassLeaf, Cycle, Deep, DivZero, Misplaced, NoCatchAll, NoRoot, OldVersion, Parents, TooMany, Twice, TypeClash, Unknown, Wide, Entry}
use Rattle.rank_defs.specs.Checks.{Entry as Assigning, SomeAt, NoneAt, IsLeastAt, Clashes, IsWide, MayDivideByZero, entries as assignments_of}
use Rattle.rank_defs.proofs.Faults.{faultless-checked}
use Rattle.policy_rules.specs.Accepted.{HaveLeaves}
use Rattle.policy_core.specs.TextLaws.{FaultlessAreAccepted}

-- ---- if no line is the first in error, none is in error
module _ (Fails : Entry → Type 0) (es : List Entry) (none : (n : ℕ) → IsLeastLine Fails es n → ⊥) where
  none-below : (m k : ℕ) (d : Entry) → (get_or es k d).0 < m → k < length es → Fails (get_or es k d) → ⊥
  none-below zero k d low within fails = omega arith
  none-below (suc m) k d low within fails = none (get_or es k d).0 (record {
    there = (k, get_or es k d, within, get_or_default es k (get_or es k d) d within, (fails, refl));
    least = λ j e inside wrong. elim (cases_lt (get_or es j e).0 (get_or es k d).0) [
      | inl lower ↦ absurd (none-below m j e (omega arith) inside wrong)
      | inr least ↦ least
    ];
  })

  no-line : NoLine Fails es
  no-line k d within = none-below (suc (get_or es k d).0) k d (omega arith) within

module _ (Fails : Assigning → Type 0) (es : List Assigning) (none : (n : ℕ) → IsLeastAt Fails es n → ⊥) where
  none-under : (m n : ℕ) → n < m → SomeAt Fails es n → ⊥
  none-under zero n low some = omega arith
  none-under (suc m) n low some = none n (record {
    here = some;
    least = λ other wrong. elim (cases_lt other n) [
      | inl lower ↦ absurd (none-under m other (omega arith) wrong)
      | inr least ↦ least
    ];
  })

  none-at : NoneAt Fails es
  none-at n = none-under (suc n) n (omega arith)

true-unless : (b : Bool) → (b ≡ false → ⊥) → b ≡ true
true-unless true h = refl
true-unless false h = absurd (h refl)

-- ---- clause by clause
module _ (es : List Entry) (none : (f : PolicyFault) → (f ≡ NoMemory → ⊥) → IsFault es f → ⊥) where
  placed : ArePlaced es
  placed = no-line (IsMisplaced es) es (λ n h. none (Misplaced n) (λ e. cc) h)

  new : AreNew es
  new = (placed, no-line (IsRepeated es) es (λ n h. none (Twice n) (λ e. cc) (placed, h)))

  known : AreKnown es
  known = (new, no-line (IsUnknown es) es (λ n h. none (Unknown n) (λ e. cc) (new, h)))

  few : AreFew es
  few = (known, no-line (IsOneTooMany es) es (λ n h. none (TooMany n) (λ e. cc) (known, h)))

  typed : NoneAt Clashes (assignments_of (programs es))
  typed = none-at Clashes (assignments_of (programs es)) (λ n h. none (TypeClash n) (λ e. cc) (few, h))

  narrow : NoneAt IsWide (assignments_of (programs es))
  narrow = none-at IsWide (assignments_of (programs es)) (λ n h. none (Wide n) (λ e. cc) (few, record { typed = typed; wide = h }))

  divides : NoneAt MayDivideByZero (assignments_of (programs es))
  divides = none-at MayDivideByZero (assignments_of (programs es)) (λ n h. none (DivZero n) (λ e. cc) (few, record { typed = typed; narrow = narrow; zero = h }))

  computable : AreComputable es
  computable = (few, faultless-checked (programs es) (record { typed = typed; narrow = narrow; divides = divides }))

  parents : HaveParents es
  parents = (computable, no-line (IsOrphan es) es (λ n h. none (Parents n) (λ e. cc) (computable, h)))

  rooted : HaveRoot es
  rooted = (parents, true-unless (has_root es) (λ h. none NoRoot (λ e. cc) (parents, h)))

  acyclic : AreAcyclic es
  acyclic = (rooted, no-line (IsCyclic es) es (λ n h. none (Cycle n) (λ e. cc) (rooted, h)))

  shallow : AreShallow es
  shallow = (acyclic, no-line (IsTooDeep es) es (λ n h. none (Deep n) (λ e. cc) (acyclic, h)))

  leaves : HaveLeaves es
  leaves = (shallow, no-line (IsNotListedOnce es) es (λ n h. none (ClassLeaf n) (λ e. cc) (shallow, h)))

  caught : HaveCatchAll es
  caught = (leaves, true-unless (has_catch_all es) (λ h. none NoCatchAll (λ e. cc) (leaves, h)))

pub accepted : FaultlessAreAccepted
accepted es none = (caught es none, no-line (NeedsVersion2 es) es (λ n h. none (OldVersion n) (λ e. cc) (caught es none, h)))
