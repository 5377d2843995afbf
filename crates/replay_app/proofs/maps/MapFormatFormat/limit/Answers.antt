use Rattle.mapcheck_core.specs.declared.fault.MapFault.TheVariants.{TooLong}
use Rattle.mapcheck_core.specs.MapTexts.{too_long}
use Rattle.replay_app.specs.Via.{unread}
use Rattle.replay_app.proofs.maps.MapFormatFormat.limit.Goals as goal

pub returns-clause-long : goal.returns-clause-long
returns-clause-long c = λ text long. rw c.code.ensures (unread TooLong (too_long long))
