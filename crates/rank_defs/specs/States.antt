-- The variables of a node.
use Rattle.std.specs.Prelude.{◌≡◌, ℕ, Bool, false, ◌&&◌, ◌==◌, if◌then◌else◌, List, map, slice_index}
use Rattle.rank_defs.specs.declared.environment.Env.{Env}
use Rattle.rank_defs.specs.declared.environment.FlowKey.{FlowKey}
use Rattle.rank_defs.specs.declared.environment.Who.{Who}
use Rattle.rank_defs.specs.declared.environment.Who.TheVariants.{Child, Flow}
use Rattle.rank_defs.specs.declared.expression.Var.{Var as Name}
use Rattle.rank_defs.specs.declared.expression.Var.TheVariants.{Len, Now, Prio, Weight, Slack, Rank, Keep, Each}
use Rattle.rank_defs.specs.declared.transaction.Span.{Span}
use Rattle.rank_defs.specs.Programs.{Program}

-- the values of a node's own variables, and of those of each child or flow
pub record State : Type 0 where
  pub keeps : List ℕ
  pub eaches : Who → List ℕ

-- the two states agree for the node and for every child and flow
pub record SameState (s t : State) : Type 0 where
  pub keeps : s.keeps ≡ t.keeps
  pub eaches : (who : Who) → s.eaches who ≡ t.eaches who

-- the first values of variables with these spans
abbrev pub firsts : List Span → List ℕ
firsts = map (λ s. s.first)

-- the initial state
abbrev pub first_state : Program → State
first_state p = record { keeps = firsts p.keeps; eaches = λ who. firsts p.eaches }

-- whether two flow keys are equal
abbrev pub same_flow : FlowKey → FlowKey → Bool
same_flow f g =
    f.version == g.version && f.source == g.source && f.target == g.target && f.proto == g.proto && f.sport == g.sport && f.dport == g.dport

-- whether both are the same child or the same flow
abbrev pub same_who : Who → Who → Bool
same_who (Child i) (Child j) = i == j
same_who (Flow f) (Flow g) = same_flow f g
same_who v w = false

-- the memory of one step: the rank, the node's own variables, and those of one child or flow
pub record Memory : Type 0 where
  pub rank : ℕ
  pub keeps : List ℕ
  pub eaches : List ℕ

-- the memory at the start of a step for this child or flow
abbrev pub memory_for : Who → ℕ → State → Memory
memory_for who r s = record { rank = r; keeps = s.keeps; eaches = s.eaches who }

-- the state after a step; the variables of all others are unchanged
abbrev pub put_back : Who → Memory → State → State
put_back who m s =
    record { keeps = m.keeps; eaches = λ w. if same_who w who then m.eaches else s.eaches w }

-- the value of a variable during a step
abbrev pub variable_in : Env → Memory → Name → ℕ
variable_in env m Len = env.len
variable_in env m Now = env.now
variable_in env m Prio = env.prio
variable_in env m Weight = env.weight
variable_in env m Slack = env.slack
variable_in env m Rank = m.rank
variable_in env m (Keep i) = slice_index m.keeps i
variable_in env m (Each i) = slice_index m.eaches i
