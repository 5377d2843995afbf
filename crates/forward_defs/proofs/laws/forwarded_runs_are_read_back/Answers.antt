use Rattle.forward_defs.proofs.ReadBack.{forwarded_runs-read_back}
use Rattle.forward_defs.proofs.laws.forwarded_runs_are_read_back.Goals as goal

pub returns : goal.returns
returns c = record { law = forwarded_runs-read_back }
