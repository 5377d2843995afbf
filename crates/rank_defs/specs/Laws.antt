-- Laws of all transactions.
use Rattle.std.specs.Prelude.{◌≡◌, ◌≢◌, ◌≤◌, ◌↔◌, ℕ, List}
use Rattle.std.specs.List.{AllByRecursion}
use Rattle.rank_defs.specs.declared.environment.Env.{Env}
use Rattle.rank_defs.specs.declared.environment.Who.{Who}
use Rattle.rank_defs.specs.declared.expression.Var.{Var as Name}
use Rattle.rank_defs.specs.declared.range.Range.{Range}
use Rattle.rank_defs.specs.Formulas.{Formula}
use Rattle.rank_defs.specs.Programs.{Program, max_rank}
use Rattle.rank_defs.specs.Values.{value_of, FitsWide}
use Rattle.rank_defs.specs.States.{State, SameState, Memory, first_state, put_back}
use Rattle.rank_defs.specs.Steps.{push_step, pop_step, after_push, after_pop}
use Rattle.rank_defs.specs.Shapes.{IsShaped, IsStateInRange, IsEnvInRange}
use Rattle.rank_defs.specs.Ranges.{counts, sort_of, range_of, widest}
use Rattle.rank_defs.specs.Checks.{IsSafe, IsChecked, AreChecked, Clashes, IsWide, MayDivideByZero, entries, NoneAt, ClashesFirstAt, IsWideFirstAt, DividesByZeroFirstAt}
use Rattle.rank_defs.specs.Tame.{AreInside, ArePartsIn, IsAlwaysTame, IsSafePush, IsSafePop}
use Rattle.rank_defs.specs.Builtins.{builtins}

-- if no divisor's interval contains 0, each numeric part has a value inside its interval, for all
-- values of the variables in their intervals
abbrev pub SafePartsAreInside : Type 0
SafePartsAreInside =
    (ranges : Name → Range) (values : Name → ℕ) → AreInside ranges values → (f : Formula) → IsSafe ranges f → ArePartsIn (range_of ranges) values f

-- if, in addition, the parts' intervals are narrow, each value is between -2^100 and 2^100
abbrev pub SafePartsAreNarrow : Type 0
SafePartsAreNarrow =
    (ranges : Name → Range) (values : Name → ℕ) → AreInside ranges values → (f : Formula) → IsSafe ranges f → ArePartsIn (λ part. widest) values f

-- the value of the whole expression fits in 128 bits
abbrev pub SafeValuesFit : Type 0
SafeValuesFit =
    (ranges : Name → Range) (values : Name → ℕ) → AreInside ranges values → (f : Formula) → IsSafe ranges f → sort_of f ≡ counts → FitsWide (value_of values f)

-- a checked transaction is tame from every state and in every environment in range
abbrev pub CheckedAreTame : Type 0
CheckedAreTame = (p : Program) → IsChecked p → IsAlwaysTame p

-- every push step of a checked transaction is safe, from every state and in every environment in
-- range
abbrev pub CheckedPushesAreSafe : Type 0
CheckedPushesAreSafe =
    (p : Program) → IsShaped p → IsChecked p → (s : State) → IsStateInRange p s → (env : Env) → IsEnvInRange env → (who : Who) → IsSafePush p who env s

-- every pop step is safe too, for every rank
abbrev pub CheckedPopsAreSafe : Type 0
CheckedPopsAreSafe =
    (p : Program) → IsShaped p → IsChecked p → (s : State) → IsStateInRange p s → (env : Env) → IsEnvInRange env → (who : Who) → (taken : ℕ) → taken ≤ max_rank → IsSafePop p who env taken s

-- the initial state is in range
abbrev pub FirstStatesAreInRange : Type 0
FirstStatesAreInRange = (p : Program) → IsShaped p → IsStateInRange p (first_state p)

-- a pop step doesn't change the rank
abbrev pub PopsKeepRanks : Type 0
PopsKeepRanks =
    (p : Program) → IsShaped p → (who : Who) (env : Env) (taken : ℕ) (s : State) → (pop_step p who env taken s).rank ≡ taken

-- a step for a child or flow sets the variables of that child or flow
abbrev pub StepsChangeOne : Type 0
StepsChangeOne = (who : Who) (m : Memory) (s : State) → (put_back who m s).eaches who ≡ m.eaches

-- the variables of every other child or flow are unchanged
abbrev pub StepsLeaveOthers : Type 0
StepsLeaveOthers =
    (who other : Who) (m : Memory) (s : State) → other ≢ who → (put_back who m s).eaches other ≡ s.eaches other

-- steps from equal states give equal ranks and equal states
pub record StepsRespectStates : Type 0 where
  pub push : (p : Program) (who : Who) (env : Env) (s t : State) → SameState s t → push_step p who env s ≡ push_step p who env t
  pub pop : (p : Program) (who : Who) (env : Env) (taken : ℕ) (s t : State) → SameState s t → pop_step p who env taken s ≡ pop_step p who env taken t
  pub after_push : (p : Program) (who : Who) (env : Env) (s t : State) → SameState s t → SameState (after_push p who env s) (after_push p who env t)
  pub after_pop : (p : Program) (who : Who) (env : Env) (taken : ℕ) (s t : State) → SameState s t → SameState (after_pop p who env taken s) (after_pop p who env taken t)

-- no assignment is at fault
pub record IsFaultless (ps : List Program) : Type 0 where
  pub typed : NoneAt Clashes (entries ps)
  pub narrow : NoneAt IsWide (entries ps)
  pub divides : NoneAt MayDivideByZero (entries ps)

-- transactions are checked exactly if no assignment is at fault
abbrev pub ChecksFindAllFaults : Type 0
ChecksFindAllFaults = (ps : List Program) → AreChecked ps ↔ IsFaultless ps

-- each error names exactly one line
pub record RefusalsNameOneLine : Type 0 where
  pub clash : (ps : List Program) (line other : ℕ) → ClashesFirstAt ps line → ClashesFirstAt ps other → line ≡ other
  pub wide : (ps : List Program) (line other : ℕ) → IsWideFirstAt ps line → IsWideFirstAt ps other → line ≡ other
  pub zero : (ps : List Program) (line other : ℕ) → DividesByZeroFirstAt ps line → DividesByZeroFirstAt ps other → line ≡ other

-- each built-in transaction is shaped and checked
abbrev pub BuiltinsAreChecked : Type 0
BuiltinsAreChecked = AllByRecursion (λ b. IsShaped b.program × IsChecked b.program) builtins
