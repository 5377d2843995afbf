-- Steps of a known form.
use Rattle.std.specs.Prelude.{◌≡◌, ◌<◌, ℕ, List, [], ◌∷◌, length, refl}
use Rattle.std.specs.Coded.{Coded, Coded-set, code_by, coded×, coded_ℕ, coded_list, Unit-prop, le_prop}
use Rattle.rank_defs.specs.declared.environment.Env.{Env}
use Rattle.rank_defs.specs.declared.expression.Op.TheVariants.{Add, Mul, Div, Max}
use Rattle.rank_defs.specs.declared.expression.Var.TheVariants.{Len, Weight, Rank, Keep, Each}
use Rattle.rank_defs.specs.declared.transaction.Aim.{Aim}
use Rattle.rank_defs.specs.declared.transaction.Aim.TheVariants.{Rank as AimRank, Keep as AimKeep, Each as AimEach}
use Rattle.rank_defs.specs.contracts.transaction.Span as span_row
use Rattle.rank_defs.specs.Formulas.{Formula, number, variable, two}
use Rattle.rank_defs.specs.Programs.{Assignment, Program, span_at}
use Rattle.rank_defs.specs.States.{Memory}
use Rattle.rank_defs.specs.Steps.{run}
use Rattle.rank_core.specs.declared.form.Fair.{Fair}
use Rattle.rank_core.specs.declared.form.Form.{Form}
use Rattle.rank_core.specs.declared.form.Form.TheVariants.{Empty, Kept as KeptForm, Fair as FairForm, Lines}
use Rattle.rank_core.specs.declared.form.Kept.{Kept}

-- the maximum of a variable of the node and one of the child or flow
abbrev pub latest : ℕ → ℕ → Formula
latest keep each = two Max (variable (Keep keep)) (variable (Each each))

-- the service time of a packet
abbrev pub service : ℕ → Formula
service scale = two Div (two Mul (variable Len) (number scale)) (variable Weight)

-- the rank plus that time
abbrev pub next : ℕ → Formula
next scale = two Add (variable Rank) (service scale)

-- an assignment, on any line
abbrev pub line : Aim → Formula → Assignment
line aim formula = record { line = 0; aim = aim; formula = formula }

abbrev pub kept_lines : Kept → List Assignment
kept_lines k = line (AimKeep k.keep) (variable Rank) ∷ []

abbrev pub fair_lines : Fair → List Assignment
fair_lines f = line AimRank (latest f.keep f.each) ∷ line (AimEach f.each) (next f.scale) ∷ []

-- the two lists of assignments have the same effect
abbrev pub RunAs : Program → List Assignment → List Assignment → Type 0
RunAs p lines known = (env : Env) (m : Memory) → run p env lines m ≡ run p env known m

-- the assignments write the rank to a variable of the node
pub record AreKept (p : Program) (lines : List Assignment) (k : Kept) : Type 0 where
  pub same : RunAs p lines (kept_lines k)
  pub keep : k.keep < length p.keeps
  pub span : k.span ≡ span_at p.keeps k.keep

-- the assignments of start-time fair queueing
pub record AreFair (p : Program) (lines : List Assignment) (f : Fair) : Type 0 where
  pub same : RunAs p lines (fair_lines f)
  pub keep : f.keep < length p.keeps
  pub each : f.each < length p.eaches
  pub span : f.span ≡ span_at p.eaches f.each

-- the meaning of a form for the assignments of a step
abbrev pub IsForm : Program → List Assignment → Form → Type 0
IsForm p lines Empty = RunAs p lines []
IsForm p lines (KeptForm k) = AreKept p lines k
IsForm p lines (FairForm f) = AreFair p lines f
IsForm p lines Lines = Unit {0}

abbrev pub memory_code : Coded Memory
memory_code = code_by (ℕ × (List ℕ × List ℕ)) (coded× coded_ℕ (coded× (coded_list coded_ℕ) (coded_list coded_ℕ))) (λ m. (m.rank, (m.keeps, m.eaches))) (λ t. record { rank = t.0; keeps = t.1.0; eaches = t.1.1 }) (λ _. refl)

RunAs-prop : (p : Program) (lines known : List Assignment) → IsProp (RunAs p lines known)
RunAs-prop p lines known a b i = λ env m. Coded-set memory_code _ _ (a env m) (b env m) i

-- all proofs of it are equal
pub IsForm-prop : (p : Program) (lines : List Assignment) (form : Form) → IsProp (IsForm p lines form)
IsForm-prop p lines Empty = RunAs-prop p lines []
IsForm-prop p lines (KeptForm k) = λ a b i. record {
  same = RunAs-prop p lines (kept_lines k) a.same b.same i;
  keep = le_prop a.keep b.keep i;
  span = Coded-set span_row.the_row.coded _ _ a.span b.span i;
}
IsForm-prop p lines (FairForm f) = λ a b i. record {
  same = RunAs-prop p lines (fair_lines f) a.same b.same i;
  keep = le_prop a.keep b.keep i;
  each = le_prop a.each b.each i;
  span = Coded-set span_row.the_row.coded _ _ a.span b.span i;
}
IsForm-prop p lines Lines = Unit-prop
