-- Statements have at most one error, and accepted statements none.
use Rattle.policy_rules.proofs.Prelude.{◌∙◌, ap, List, ◌≡◌, sym, ℕ, refl, false, Bool, subst, true, arith, inl, inr, ◌≤◌, ◌≢◌, ◌⊎◌, Any, All, Entry, checked-faultless, least-unique, AreChecked, Clashes, ClashesFirstAt, DividesByZeroFirstAt, IsWide, IsWideFirstAt, MayDivideByZero, Program, IsFault, IsLeastLine, IsNotListedOnce, IsOrphan, NoLine, NeedsVersion2, has_catch_all, IsOneTooMany, IsRepeated, has_root, IsMisplaced, IsUnknown, programs, PolicyFault}
use Rattle.rank_defs.specs.Checks.{entries as assignments_of}
use Rattle.policy_rules.specs.Families.{IsCyclic, IsTooDeep}
use Rattle.policy_rules.specs.Laws.{HaveOneFault, AcceptedHaveNoFault}
use Rattle.policy_rules.specs.declared.fault.PolicyFault.TheVariants.{Misplaced, Twice, Unknown, TooMany, TypeClash, Wide, DivZero, Parents, NoRoot, Cycle, Deep, ClassLeaf, NoCatchAll, OldVersion, NoMemory}

-- ---- clauses in order: what each requires, and how it fails

-- a clause fails in one way at most, and doesn't fail if it holds
record IsSharp (Says : Type 0) (Fails : PolicyFault → Type 0) : Type 0 where
  one : (f g : PolicyFault) → Fails f → Fails g → f ≡ g
  none : (f : PolicyFault) → Fails f → Says → ⊥

data Clauses : Type 1 where
  first : (Says : Type 0) (Fails : PolicyFault → Type 0) → IsSharp Says Fails → Clauses
  next : Clauses → (Says : Type 0) (Fails : PolicyFault → Type 0) → IsSharp Says Fails → Clauses

-- all of them hold
abbrev Hold : Clauses → Type 0
Hold (first Says Fails sharp) = Says
Hold (next earlier Says Fails sharp) = Hold earlier × Says

-- the first clause to fail gives this error
abbrev FailFirst : Clauses → PolicyFault → Type 0
FailFirst (first Says Fails sharp) f = Fails f
FailFirst (next earlier Says Fails sharp) f = FailFirst earlier f ⊎ (Hold earlier × Fails f)

none-fails : (clauses : Clauses) (f : PolicyFault) → FailFirst clauses f → Hold clauses → ⊥
none-fails (first Says Fails sharp) f h hold = sharp.none f h hold
none-fails (next earlier Says Fails sharp) f (inl h) hold = none-fails earlier f h hold.0
none-fails (next earlier Says Fails sharp) f (inr h) hold = sharp.none f h.1 hold.1

one-fails : (clauses : Clauses) (f g : PolicyFault) → FailFirst clauses f → FailFirst clauses g → f ≡ g
one-fails (first Says Fails sharp) f g h k = sharp.one f g h k
one-fails (next earlier Says Fails sharp) f g (inl h) (inl k) = one-fails earlier f g h k
one-fails (next earlier Says Fails sharp) f g (inl h) (inr k) = absurd (none-fails earlier f h k.0)
one-fails (next earlier Says Fails sharp) f g (inr h) (inl k) = absurd (none-fails earlier g k h.0)
one-fails (next earlier Says Fails sharp) f g (inr h) (inr k) = sharp.one f g h.1 k.1

-- ---- a clause that a line fails

abbrev AtLine : (Entry → Type 0) → List Entry → (ℕ → PolicyFault) → PolicyFault → Type 0
AtLine Fails entries fault f = (n : ℕ) × IsLeastLine Fails entries n × (f ≡ fault n)

-- a property of each line is one of some line
at-some : (P Q : Entry → Type 0) (entries : List Entry) → Any P entries → All Q entries → (e : Entry) × P e × Q e
at-some P Q entries (k, e, within, is, p) all = (e, p, subst Q is (all k e within))

no_line : (Fails : Entry → Type 0) (entries : List Entry) (n : ℕ) → IsLeastLine Fails entries n → NoLine Fails entries → ⊥
no_line Fails entries n h none =
    let found = at-some (λ e. Fails e × (e.0 ≡ n)) (λ e. ¬ Fails e) entries h.there none in
    found.2 found.1.0

least-below : (Fails : Entry → Type 0) (entries : List Entry) (n m : ℕ) → IsLeastLine Fails entries n → IsLeastLine Fails entries m → n ≤ m
least-below Fails entries n m h k =
    let found = at-some (λ e. Fails e × (e.0 ≡ m)) (λ e. Fails e → n ≤ e.0) entries k.there h.least in
    let below : n ≤ found.0.0 = found.2 found.1.0 in
    let is : found.0.0 ≡ m = found.1.1 in
    omega (arith, below, is)

one-line : (Fails : Entry → Type 0) (entries : List Entry) (n m : ℕ) → IsLeastLine Fails entries n → IsLeastLine Fails entries m → n ≡ m
one-line Fails entries n m h k =
    let below : n ≤ m = least-below Fails entries n m h k in
    let above : m ≤ n = least-below Fails entries m n k h in
    omega arith

line-sharp : (Fails : Entry → Type 0) (entries : List Entry) (fault : ℕ → PolicyFault) → IsSharp (NoLine Fails entries) (AtLine Fails entries fault)
line-sharp Fails entries fault = record {
  one = λ f g h k. h.2 ∙ ap fault (one-line Fails entries h.0 k.0 h.1 k.1) ∙ sym k.2;
  none = λ f h none. no_line Fails entries h.0 h.1 none;
}

-- ---- a clause that the statements fail as a whole

abbrev AsWhole : Bool → PolicyFault → PolicyFault → Type 0
AsWhole holds fault f = (holds ≡ false) × (f ≡ fault)

whole-sharp : (holds : Bool) (fault : PolicyFault) → IsSharp (holds ≡ true) (AsWhole holds fault)
whole-sharp holds fault = record {
  one = λ f g h k. h.1 ∙ sym k.1;
  none = λ f h is. let not = h.0 in cc;
}

-- ---- the clauses that transactions fail

abbrev ProgramsFail : List Program → PolicyFault → Type 0
ProgramsFail ps (TypeClash n) = ClashesFirstAt ps n
ProgramsFail ps (Wide n) = IsWideFirstAt ps n
ProgramsFail ps (DivZero n) = DividesByZeroFirstAt ps n
ProgramsFail ps f = ⊥

programs-one : (ps : List Program) (f g : PolicyFault) → ProgramsFail ps f → ProgramsFail ps g → f ≡ g
programs-one ps (TypeClash n) (TypeClash m) h k = ap TypeClash (least-unique Clashes (assignments_of ps) n m h k)
programs-one ps (TypeClash n) (Wide m) h k = absurd (k.typed n h.here)
programs-one ps (TypeClash n) (DivZero m) h k = absurd (k.typed n h.here)
programs-one ps (Wide n) (TypeClash m) h k = absurd (h.typed m k.here)
programs-one ps (Wide n) (Wide m) h k = ap Wide (least-unique IsWide (assignments_of ps) n m h.wide k.wide)
programs-one ps (Wide n) (DivZero m) h k = absurd (k.narrow n h.wide.here)
programs-one ps (DivZero n) (TypeClash m) h k = absurd (h.typed m k.here)
programs-one ps (DivZero n) (Wide m) h k = absurd (h.narrow m k.wide.here)
programs-one ps (DivZero n) (DivZero m) h k = ap DivZero (least-unique MayDivideByZero (assignments_of ps) n m h.zero k.zero)
programs-one ps (TypeClash n) g h k = absurd k
programs-one ps (Wide n) g h k = absurd k
programs-one ps (DivZero n) g h k = absurd k
programs-one ps f g h k = absurd h

programs-none : (ps : List Program) (f : PolicyFault) → ProgramsFail ps f → AreChecked ps → ⊥
programs-none ps (TypeClash n) h checked = (checked-faultless ps checked).typed n h.here
programs-none ps (Wide n) h checked = (checked-faultless ps checked).narrow n h.wide.here
programs-none ps (DivZero n) h checked = (checked-faultless ps checked).divides n h.zero.here
programs-none ps f h checked = h

programs-sharp : (ps : List Program) → IsSharp (AreChecked ps) (ProgramsFail ps)
programs-sharp ps = record { one = programs-one ps; none = programs-none ps }

-- ---- the clauses of a policy

-- one clause more, which some line may fail
abbrev more : Clauses → (Entry → Type 0) → List Entry → (ℕ → PolicyFault) → Clauses
more earlier Fails entries fault = next earlier (NoLine Fails entries) (AtLine Fails entries fault) (line-sharp Fails entries fault)

abbrev more_whole : Clauses → Bool → PolicyFault → Clauses
more_whole earlier holds fault = next earlier (holds ≡ true) (AsWhole holds fault) (whole-sharp holds fault)

abbrev clauses : List Entry → Clauses
clauses entries =
    let placed = first (NoLine (IsMisplaced entries) entries) (AtLine (IsMisplaced entries) entries Misplaced) (line-sharp (IsMisplaced entries) entries Misplaced) in
    let known = more (more placed (IsRepeated entries) entries Twice) (IsUnknown entries) entries Unknown in
    let few = more known (IsOneTooMany entries) entries TooMany in
    let computable = next few (AreChecked (programs entries)) (ProgramsFail (programs entries)) (programs-sharp (programs entries)) in
    let with_root = more_whole (more computable (IsOrphan entries) entries Parents) (has_root entries) NoRoot in
    let shallow = more (more with_root (IsCyclic entries) entries Cycle) (IsTooDeep entries) entries Deep in
    let caught = more_whole (more shallow (IsNotListedOnce entries) entries ClassLeaf) (has_catch_all entries) NoCatchAll in
    more caught (NeedsVersion2 entries) entries OldVersion

-- an error is that of the first clause to fail
fault-first : (entries : List Entry) (f : PolicyFault) → f ≢ NoMemory → IsFault entries f → FailFirst (clauses entries) f
fault-first entries NoMemory some h = absurd (some refl)
fault-first entries (OldVersion n) some h = inr (h.0, (n, h.1, refl))
fault-first entries NoCatchAll some h = inl (inr (h.0, (h.1, refl)))
fault-first entries (ClassLeaf n) some h = inl (inl (inr (h.0, (n, h.1, refl))))
fault-first entries (Deep n) some h = inl (inl (inl (inr (h.0, (n, h.1, refl)))))
fault-first entries (Cycle n) some h = inl (inl (inl (inl (inr (h.0, (n, h.1, refl))))))
fault-first entries NoRoot some h = inl (inl (inl (inl (inl (inr (h.0, (h.1, refl)))))))
fault-first entries (Parents n) some h = inl (inl (inl (inl (inl (inl (inr (h.0, (n, h.1, refl))))))))
fault-first entries (TypeClash n) some h = inl (inl (inl (inl (inl (inl (inl (inr h)))))))
fault-first entries (Wide n) some h = inl (inl (inl (inl (inl (inl (inl (inr h)))))))
fault-first entries (DivZero n) some h = inl (inl (inl (inl (inl (inl (inl (inr h)))))))
fault-first entries (TooMany n) some h = inl (inl (inl (inl (inl (inl (inl (inl (inr (h.0, (n, h.1, refl))))))))))
fault-first entries (Unknown n) some h = inl (inl (inl (inl (inl (inl (inl (inl (inl (inr (h.0, (n, h.1, refl)))))))))))
fault-first entries (Twice n) some h = inl (inl (inl (inl (inl (inl (inl (inl (inl (inl (inr (h.0, (n, h.1, refl))))))))))))
fault-first entries (Misplaced n) some h = inl (inl (inl (inl (inl (inl (inl (inl (inl (inl (inl (n, h, refl)))))))))))

pub one-fault : HaveOneFault
one-fault entries f g some other h k = one-fails (clauses entries) f g (fault-first entries f some h) (fault-first entries g other k)

pub accepted-fault : AcceptedHaveNoFault
accepted-fault entries f some h accepted = none-fails (clauses entries) f (fault-first entries f some h) accepted
