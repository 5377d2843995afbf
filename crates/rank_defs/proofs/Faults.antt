-- Transactions are checked exactly if no assignment is at fault.
use Rattle.rank_defs.proofs.Prelude.{refl, ℕ, arith, ◌≡◌, false, true, [], ◌∷◌, List, ◌≤◌, Bool, ◌≢◌, ◌++◌, ◌^◌, inl, inr, map, ◌⊎◌, by_lt_z, clash_ℤ, AllByRecursion, pos, ℤ, ◌≤ℤ◌, neg_ℤ, IsCheckedAssignment, entry, AreChecked, Clashes, Entry, IsWide, MayDivideByZero, SomeAt, IsLeastAt, NoneAt, entries, Formula, two, choice, number, variable, negation, Program, Assignment, ArePartsNarrow, declared, IsNarrow, counts, range_of, sort_of, parts_divide, tells, Sort, clash, Range}
use Rattle.rank_defs.specs.declared.expression.Var.{Var as Name}
use Rattle.rank_defs.specs.Laws.{IsFaultless}

-- a fault in one of two lists
pub SomeAt-left : (Fault : Entry → Type 0) (xs ys : List Entry) (line : ℕ) → SomeAt Fault xs line → SomeAt Fault (xs ++ ys) line
SomeAt-left Fault [] ys line h = absurd h
SomeAt-left Fault (x ∷ xs) ys line (inl h) = inl h
SomeAt-left Fault (x ∷ xs) ys line (inr h) = inr (SomeAt-left Fault xs ys line h)

pub SomeAt-right : (Fault : Entry → Type 0) (xs ys : List Entry) (line : ℕ) → SomeAt Fault ys line → SomeAt Fault (xs ++ ys) line
SomeAt-right Fault [] ys line h = h
SomeAt-right Fault (x ∷ xs) ys line h = inr (SomeAt-right Fault xs ys line h)

pub SomeAt-append : (Fault : Entry → Type 0) (xs ys : List Entry) (line : ℕ) → SomeAt Fault (xs ++ ys) line → SomeAt Fault xs line ⊎ SomeAt Fault ys line
SomeAt-append Fault [] ys line h = inr h
SomeAt-append Fault (x ∷ xs) ys line (inl h) = inl (inl h)
SomeAt-append Fault (x ∷ xs) ys line (inr h) =
    elim (SomeAt-append Fault xs ys line h) [ inl k ↦ inl (inr k) | inr k ↦ inr k ]

-- if a list has no fault, no entry has one
pub NoneAt-all : (Fault : Entry → Type 0) (es : List Entry) → NoneAt Fault es → AllByRecursion (λ e. Fault e → ⊥) es
NoneAt-all Fault [] h = tt
NoneAt-all Fault (e ∷ es) h =
    (λ f. h e.assignment.line (inl (refl, f)), NoneAt-all Fault es (λ line k. h line (inr k)))

pub all-NoneAt : (Fault : Entry → Type 0) (es : List Entry) → AllByRecursion (λ e. Fault e → ⊥) es → NoneAt Fault es
all-NoneAt Fault [] h line k = k
all-NoneAt Fault (e ∷ es) h line (inl k) = h.0 k.1
all-NoneAt Fault (e ∷ es) h line (inr k) = all-NoneAt Fault es h.1 line k

pub least-unique : (Fault : Entry → Type 0) (es : List Entry) (line other : ℕ) → IsLeastAt Fault es line → IsLeastAt Fault es other → line ≡ other
least-unique Fault es line other h k =
    let a : line ≤ other = h.least other k.here in let b : other ≤ line = k.least line h.here in omega (arith, a, b)

int_leb : (x y : ℤ) → (x ≤ℤ y) ⊎ (x ≤ℤ y → ⊥)
int_leb x y = by_lt_z y x (λ h. inr (λ k. clash_ℤ h k)) (λ h. inl h)

-- an interval's narrowness is decidable
narrow_or_wide : (r : Range) → IsNarrow r ⊎ (IsNarrow r → ⊥)
narrow_or_wide r =
    elim (int_leb (neg_ℤ (pos (2 ^ 100))) r.low) [
      | inl l ↦ elim (int_leb r.high (pos (2 ^ 100))) [
        | inl h ↦ inl (record { low = l; high = h })
        | inr h ↦ inr (λ n. h n.high)
      ]
      | inr l ↦ inr (λ n. l n.low)
    ]

both_or_not : {P Q : Type 0} → P ⊎ (P → ⊥) → Q ⊎ (Q → ⊥) → (P × Q) ⊎ (P × Q → ⊥)
both_or_not (inl p) (inl q) = inl (p, q)
both_or_not (inl p) (inr q) = inr (λ h. q h.1)
both_or_not (inr p) q = inr (λ h. p h.0)

three_or_not : {P Q R : Type 0} → P ⊎ (P → ⊥) → Q ⊎ (Q → ⊥) → R ⊎ (R → ⊥) → (P × Q × R) ⊎ (P × Q × R → ⊥)
three_or_not (inl p) (inl q) (inl r) = inl (p, q, r)
three_or_not (inl p) (inl q) (inr r) = inr (λ h. r h.2)
three_or_not (inl p) (inr q) r = inr (λ h. q h.1)
three_or_not (inr p) q r = inr (λ h. p h.0)

four_or_not : {P Q R S : Type 0} → P ⊎ (P → ⊥) → Q ⊎ (Q → ⊥) → R ⊎ (R → ⊥) → S ⊎ (S → ⊥) → (P × Q × R × S) ⊎ (P × Q × R × S → ⊥)
four_or_not (inl p) (inl q) (inl r) (inl s) = inl (p, q, r, s)
four_or_not (inl p) (inl q) (inl r) (inr s) = inr (λ h. s h.3)
four_or_not (inl p) (inl q) (inr r) s = inr (λ h. r h.2)
four_or_not (inl p) (inr q) r s = inr (λ h. q h.1)
four_or_not (inr p) q r s = inr (λ h. p h.0)

-- so it is decidable whether all parts' intervals are narrow
pub parts_narrow_or_wide : (ranges : Name → Range) (f : Formula) → ArePartsNarrow ranges f ⊎ (ArePartsNarrow ranges f → ⊥)
parts_narrow_or_wide ranges (number n) = narrow_or_wide (range_of ranges (number n))
parts_narrow_or_wide ranges (variable v) = narrow_or_wide (range_of ranges (variable v))
parts_narrow_or_wide ranges (two op a b) =
    three_or_not (parts_narrow_or_wide ranges a) (parts_narrow_or_wide ranges b) (narrow_or_wide (range_of ranges (two op a b)))
parts_narrow_or_wide ranges (negation a) = parts_narrow_or_wide ranges a
parts_narrow_or_wide ranges (choice c a b) =
    four_or_not (parts_narrow_or_wide ranges c) (parts_narrow_or_wide ranges a) (parts_narrow_or_wide ranges b) (narrow_or_wide (range_of ranges (choice c a b)))

typed : (s : Sort) → (s ≢ counts → ⊥) → s ≡ counts
typed counts h = refl
typed tells h = absurd (h (λ e. cc))
typed clash h = absurd (h (λ e. cc))

narrow : {P : Type 0} → P ⊎ (P → ⊥) → ((P → ⊥) → ⊥) → P
narrow (inl p) h = p
narrow (inr n) h = absurd (h n)

divides : (b : Bool) → (b ≡ false → ⊥) → b ≡ true
divides true h = refl
divides false h = absurd (h refl)

-- an entry without a fault is checked
pub entry-checked : (e : Entry) → (Clashes e → ⊥) → (IsWide e → ⊥) → (MayDivideByZero e → ⊥) → IsCheckedAssignment e.program e.assignment
entry-checked e c w z =
    record { typed = typed (sort_of e.assignment.formula) c; narrow = narrow (parts_narrow_or_wide (declared e.program) e.assignment.formula) w; divides = divides (parts_divide (declared e.program) e.assignment.formula) z }

-- and conversely
pub checked-typed : (e : Entry) → IsCheckedAssignment e.program e.assignment → Clashes e → ⊥
checked-typed e c n = n c.typed

pub checked-narrow : (e : Entry) → IsCheckedAssignment e.program e.assignment → IsWide e → ⊥
checked-narrow e c n = n c.narrow

pub checked-divides : (e : Entry) → IsCheckedAssignment e.program e.assignment → MayDivideByZero e → ⊥
checked-divides e c n = let d = c.divides in cc

-- the assignment of an entry is checked
abbrev pub IsCheckedEntry : Entry → Type 0
IsCheckedEntry e = IsCheckedAssignment e.program e.assignment

all-append : (P : Entry → Type 0) (xs ys : List Entry) → AllByRecursion P xs → AllByRecursion P ys → AllByRecursion P (xs ++ ys)
all-append P [] ys h k = k
all-append P (x ∷ xs) ys h k = (h.0, all-append P xs ys h.1 k)

all-left : (P : Entry → Type 0) (xs ys : List Entry) → AllByRecursion P (xs ++ ys) → AllByRecursion P xs
all-left P [] ys h = tt
all-left P (x ∷ xs) ys h = (h.0, all-left P xs ys h.1)

all-right : (P : Entry → Type 0) (xs ys : List Entry) → AllByRecursion P (xs ++ ys) → AllByRecursion P ys
all-right P [] ys h = h
all-right P (x ∷ xs) ys h = all-right P xs ys h.1

-- the assignments of one transaction, as entries
entries-of : (p : Program) (xs ys : List Assignment) → AllByRecursion (IsCheckedAssignment p) xs → AllByRecursion (IsCheckedAssignment p) ys → AllByRecursion IsCheckedEntry (map (entry p) (xs ++ ys))
entries-of p [] [] h k = tt
entries-of p [] (y ∷ ys) h k = (k.0, entries-of p [] ys h k.1)
entries-of p (x ∷ xs) ys h k = (h.0, entries-of p xs ys h.1 k)

entries-first : (p : Program) (xs ys : List Assignment) → AllByRecursion IsCheckedEntry (map (entry p) (xs ++ ys)) → AllByRecursion (IsCheckedAssignment p) xs
entries-first p [] ys h = tt
entries-first p (x ∷ xs) ys h = (h.0, entries-first p xs ys h.1)

entries-second : (p : Program) (xs ys : List Assignment) → AllByRecursion IsCheckedEntry (map (entry p) (xs ++ ys)) → AllByRecursion (IsCheckedAssignment p) ys
entries-second p [] [] h = tt
entries-second p [] (y ∷ ys) h = (h.0, entries-second p [] ys h.1)
entries-second p (x ∷ xs) ys h = entries-second p xs ys h.1

-- checked transactions are those whose entries are all checked
pub checked-entries : (ps : List Program) → AreChecked ps → AllByRecursion IsCheckedEntry (entries ps)
checked-entries [] h = tt
checked-entries (p ∷ ps) h =
    all-append IsCheckedEntry (map (entry p) (p.push ++ p.pop)) (entries ps) (entries-of p p.push p.pop h.0.push h.0.pop) (checked-entries ps h.1)

pub entries-checked : (ps : List Program) → AllByRecursion IsCheckedEntry (entries ps) → AreChecked ps
entries-checked [] h = tt
entries-checked (p ∷ ps) h =
    let here = all-left IsCheckedEntry (map (entry p) (p.push ++ p.pop)) (entries ps) h
    in (record { push = entries-first p p.push p.pop here; pop = entries-second p p.push p.pop here }, entries-checked ps (all-right IsCheckedEntry (map (entry p) (p.push ++ p.pop)) (entries ps) h))

all-map : (P Q : Entry → Type 0) (es : List Entry) → ((e : Entry) → P e → Q e) → AllByRecursion P es → AllByRecursion Q es
all-map P Q [] f h = tt
all-map P Q (e ∷ es) f h = (f e h.0, all-map P Q es f h.1)

all-checked : (es : List Entry) → AllByRecursion (λ e. Clashes e → ⊥) es → AllByRecursion (λ e. IsWide e → ⊥) es → AllByRecursion (λ e. MayDivideByZero e → ⊥) es → AllByRecursion IsCheckedEntry es
all-checked [] c w z = tt
all-checked (e ∷ es) c w z = (entry-checked e c.0 w.0 z.0, all-checked es c.1 w.1 z.1)

pub checked-faultless : (ps : List Program) → AreChecked ps → IsFaultless ps
checked-faultless ps h =
    let all = checked-entries ps h
    in record { typed = all-NoneAt Clashes (entries ps) (all-map _ _ (entries ps) checked-typed all); narrow = all-NoneAt IsWide (entries ps) (all-map _ _ (entries ps) checked-narrow all); divides = all-NoneAt MayDivideByZero (entries ps) (all-map _ _ (entries ps) checked-divides all) }

pub faultless-checked : (ps : List Program) → IsFaultless ps → AreChecked ps
faultless-checked ps h =
    entries-checked ps (all-checked (entries ps) (NoneAt-all Clashes (entries ps) h.typed) (NoneAt-all IsWide (entries ps) h.narrow) (NoneAt-all MayDivideByZero (entries ps) h.divides))
