use Rattle.block_replay.proofs.NeverSpills.{runs_never_spill as holds}
use Rattle.block_replay.proofs.calm_laws.calm_runs_never_spill.Goals as goal

pub returns : goal.returns
returns c = record { law = holds }
