use Rattle.sched_defs.proofs.Links.{link_can, link_leaves}
use Rattle.sched_defs.proofs.laws.links_send_all.Goals as goal

pub returns-clause-made : goal.returns-clause-made
returns-clause-made c = link_can

pub returns-clause-sent : goal.returns-clause-sent
returns-clause-sent c = λ policy rate accepted. link_leaves policy rate accepted
