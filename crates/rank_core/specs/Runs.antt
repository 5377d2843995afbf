-- What running the assignments of a step asks.
use Rattle.std.specs.Prelude.{List, map}
use Rattle.rank_defs.specs.declared.environment.Env.{Env}
use Rattle.rank_defs.specs.declared.transaction.Assign.{Assign}
use Rattle.rank_defs.specs.declared.transaction.Transaction.{Transaction}
use Rattle.rank_defs.specs.Programs.{program_of, assignment_of}
use Rattle.rank_defs.specs.States.{Memory}
use Rattle.rank_defs.specs.Shapes.{IsEnvInRange, IsMemoryInRange, IsShaped}
use Rattle.rank_core.specs.Forms.{IsForm}
use Rattle.rank_core.specs.Scope.{AreCheckedIn, AreShapedIn}
use Rattle.rank_core.specs.declared.form.Form.{Form}

-- assignments of a checked transaction have this form, and the environment and the memory are in
-- range
pub record CanRun (t : Transaction) (assigns : List Assign) (f : Form) (env : Env) (m : Memory) : Type 0 where
  pub shaped : IsShaped (program_of t)
  pub checked : AreCheckedIn t assigns
  pub fits : AreShapedIn t assigns
  pub form : IsForm (program_of t) (map assignment_of assigns) f
  pub told : IsEnvInRange env
  pub range : IsMemoryInRange (program_of t) m
