use Rattle.sched_capture.proofs.FilesReadBack.{forwards_read_back}
use Rattle.sched_capture.proofs.laws.forwards_are_read_back.Goals as goal

pub returns : goal.returns
returns c = record { law = forwards_read_back }
