use Rattle.std.proofs.Common.{refl}
use Rattle.summary_core.proofs.recorder.SummaryRecorder.dropped.Goals as goal

pub returns-clause-ok : goal.returns-clause-ok
returns-clause-ok g c bytes policy a name = record { sums = c.count_drop.ensures.ok a; unwritten = refl }
