-- The steps of a transaction (Sivaraman et al., SIGCOMM 2016, in this project's form).
use Rattle.std.specs.Prelude.{ℕ, pos, unsigned_abs, List, [], ◌∷◌, slice_set}
use Rattle.std.specs.Int.{int_min, int_max}
use Rattle.rank_defs.specs.declared.environment.Env.{Env}
use Rattle.rank_defs.specs.declared.environment.Who.{Who}
use Rattle.rank_defs.specs.declared.transaction.Aim.{Aim}
use Rattle.rank_defs.specs.declared.transaction.Aim.TheVariants.{Rank, Keep, Each}
use Rattle.rank_defs.specs.declared.transaction.Span.{Span}
use Rattle.rank_defs.specs.Programs.{Assignment, Program, target}
use Rattle.rank_defs.specs.Values.{Value, num, value_of}
use Rattle.rank_defs.specs.States.{State, Memory, memory_for, put_back, variable_in}

-- a number clamped to a span; the span's low end if the value isn't a number
abbrev pub clamped : Span → Value → ℕ
clamped s (num v) = unsigned_abs (int_max (pos s.low) (int_min v (pos s.high)))
clamped s v = s.low

-- writes a number to a target
abbrev pub write : Aim → ℕ → Memory → Memory
write Rank v m = record m { rank = v }
write (Keep i) v m = record m { keeps = slice_set m.keeps i v }
write (Each i) v m = record m { eaches = slice_set m.eaches i v }

-- the number that an assignment writes
abbrev pub written : Program → Env → Memory → Assignment → ℕ
written p env m a = clamped (target p a.aim) (value_of (variable_in env m) a.formula)

-- the memory after an assignment
abbrev pub assigned : Program → Env → Memory → Assignment → Memory
assigned p env m a = write a.aim (written p env m a) m

-- the memory after a sequence of assignments
abbrev pub run : Program → Env → List Assignment → Memory → Memory
run p env [] m = m
run p env (a ∷ rest) m = run p env rest (assigned p env m a)

-- the memory at the end of a push step, which begins with rank 0
abbrev pub push_step : Program → Who → Env → State → Memory
push_step p who env s = run p env p.push (memory_for who 0 s)

-- the rank of a push step
abbrev pub push_rank : Program → Who → Env → State → ℕ
push_rank p who env s = (push_step p who env s).rank

-- the state after a push step
abbrev pub after_push : Program → Who → Env → State → State
after_push p who env s = put_back who (push_step p who env s) s

-- the memory at the end of a pop step, which begins with the rank taken
abbrev pub pop_step : Program → Who → Env → ℕ → State → Memory
pop_step p who env taken s = run p env p.pop (memory_for who taken s)

-- the state after a pop step
abbrev pub after_pop : Program → Who → Env → ℕ → State → State
after_pop p who env taken s = put_back who (pop_step p who env taken s) s
