use Rattle.sched_defs.proofs.SendTimes.{send_time-least}
use Rattle.sched_defs.proofs.link.send_time_is_least.Goals as goal

pub returns : goal.returns
returns c = send_time-least
