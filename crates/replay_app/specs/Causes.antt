-- Why a command stops with an error.
use Rattle.std.specs.Prelude.{◌≤◌, ℕ, Result, IsErrOf}
use Rattle.outside_core.specs.Faults.{Rose}
use Rattle.outside_core.specs.declared.stop.Stop.{Stop}
use Rattle.outside_core.specs.declared.stop.Stop.TheVariants.{Source, Sink}

-- A command stops at the source only if the source's fault count rose, and at the sink only if the
-- sink's did. The sink's count doesn't fall.
pub record HasCauses {X : Type 0} (result : Result X Stop) (source_before source_after sink_before sink_after : ℕ) : Type 0 where
  pub source : IsErrOf result Source → Rose source_before source_after
  pub sink : IsErrOf result Sink → Rose sink_before sink_after
  pub sink_later : sink_before ≤ sink_after
