use Rattle.sched_defs.proofs.Links.{due_sent, due_sent_each}
use Rattle.sched_defs.proofs.laws.links_send_what_is_due.Goals as goal

pub returns-clause-due : goal.returns-clause-due
returns-clause-due c = λ policy rate moment s free accepted sound. due_sent policy rate accepted moment s free sound

pub returns-clause-each : goal.returns-clause-each
returns-clause-each c = λ policy rate packets first s free accepted sound. due_sent_each policy rate accepted packets first s free sound
