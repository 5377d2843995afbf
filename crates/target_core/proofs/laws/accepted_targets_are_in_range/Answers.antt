use Rattle.target_core.proofs.ArityRanges.{in_range-holds}
use Rattle.target_core.proofs.laws.accepted_targets_are_in_range.Goals as goal

pub returns : goal.returns
returns c = record { law = in_range-holds }
