-- Transactions whose types agree and whose arithmetic is safe.
use Rattle.std.specs.Prelude.{◌≡◌, ◌≢◌, ◌≤◌, ◌⊎◌, ℕ, true, false, List, [], ◌∷◌, ◌++◌, map, min, Option, Some, None}
use Rattle.std.specs.List.{AllByRecursion}
use Rattle.rank_defs.specs.declared.expression.Var.{Var as Name}
use Rattle.rank_defs.specs.declared.range.Range.{Range}
use Rattle.rank_defs.specs.Formulas.{Formula}
use Rattle.rank_defs.specs.Programs.{Assignment, Program, assignments}
use Rattle.rank_defs.specs.Ranges.{counts, sort_of, declared, ArePartsNarrow, parts_divide}

-- the interval of each numeric part is narrow, and no divisor's interval contains 0
pub record IsSafe (ranges : Name → Range) (f : Formula) : Type 0 where
  pub narrow : ArePartsNarrow ranges f
  pub divides : parts_divide ranges f ≡ true

-- the value is a number, types agree, each part's interval is narrow, and no divisor's interval
-- contains 0
pub record IsCheckedAssignment (p : Program) (a : Assignment) : Type 0 where
  pub typed : sort_of a.formula ≡ counts
  pub narrow : ArePartsNarrow (declared p) a.formula
  pub divides : parts_divide (declared p) a.formula ≡ true

-- each assignment of the transaction is checked
pub record IsChecked (p : Program) : Type 0 where
  pub push : AllByRecursion (IsCheckedAssignment p) p.push
  pub pop : AllByRecursion (IsCheckedAssignment p) p.pop

-- each transaction is checked
abbrev pub AreChecked : List Program → Type 0
AreChecked = AllByRecursion IsChecked

-- an assignment, with its transaction
pub record Entry : Type 0 where
  pub program : Program
  pub assignment : Assignment

abbrev pub entry : Program → Assignment → Entry
entry p a = record { program = p; assignment = a }

-- all assignments of a list of transactions
abbrev pub entries : List Program → List Entry
entries [] = []
entries (p ∷ rest) = map (entry p) (assignments p) ++ entries rest

-- types don't agree in the assignment, or its value isn't a number
abbrev pub Clashes : Entry → Type 0
Clashes e = sort_of e.assignment.formula ≢ counts

-- the interval of some numeric part is too wide
abbrev pub IsWide : Entry → Type 0
IsWide e = ArePartsNarrow (declared e.program) e.assignment.formula → ⊥

-- some divisor's interval contains 0
abbrev pub MayDivideByZero : Entry → Type 0
MayDivideByZero e = parts_divide (declared e.program) e.assignment.formula ≡ false

-- some assignment on this line is at fault
abbrev pub SomeAt : (Entry → Type 0) → List Entry → ℕ → Type 0
SomeAt Fault [] line = ⊥
SomeAt Fault (e ∷ rest) line = ((e.assignment.line ≡ line) × Fault e) ⊎ SomeAt Fault rest line

-- this is the least line with an assignment at fault
pub record IsLeastAt (Fault : Entry → Type 0) (es : List Entry) (line : ℕ) : Type 0 where
  pub here : SomeAt Fault es line
  pub least : (other : ℕ) → SomeAt Fault es other → line ≤ other

-- no assignment is at fault
abbrev pub NoneAt : (Entry → Type 0) → List Entry → Type 0
NoneAt Fault es = (line : ℕ) → SomeAt Fault es line → ⊥

-- the least line with an assignment at fault, if there is one
abbrev pub IsLeastLine : (Entry → Type 0) → List Entry → Option ℕ → Type 0
IsLeastLine Fault es None = NoneAt Fault es
IsLeastLine Fault es (Some line) = IsLeastAt Fault es line

-- the lesser of two lines, each of which may be absent
abbrev pub lesser_line : Option ℕ → Option ℕ → Option ℕ
lesser_line None b = b
lesser_line (Some m) None = Some m
lesser_line (Some m) (Some n) = Some (min m n)

-- this is the least line with a type clash
abbrev pub ClashesFirstAt : List Program → ℕ → Type 0
ClashesFirstAt ps line = IsLeastAt Clashes (entries ps) line

-- types agree, and this is the least line with an interval that is too wide
pub record IsWideFirstAt (ps : List Program) (line : ℕ) : Type 0 where
  pub typed : NoneAt Clashes (entries ps)
  pub wide : IsLeastAt IsWide (entries ps) line

-- types agree, intervals are narrow, and this is the least line with a divisor that may be 0
pub record DividesByZeroFirstAt (ps : List Program) (line : ℕ) : Type 0 where
  pub typed : NoneAt Clashes (entries ps)
  pub narrow : NoneAt IsWide (entries ps)
  pub zero : IsLeastAt MayDivideByZero (entries ps) line
