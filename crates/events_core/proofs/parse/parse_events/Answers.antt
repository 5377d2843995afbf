use Rattle.events_core.proofs.ScriptLaws.{told, accepted, refused}
use Rattle.events_core.specs.declared.fault.ScriptFault.TheVariants.{TooMany}
use Rattle.events_core.proofs.parse.parse_events.Goals as goal

pub returns-clause-too_many : goal.returns-clause-too_many
returns-clause-too_many c n e = told c.args.text.now c.read_lines.result (TooMany n) c.read_lines.ensures e (λ memory. absurd cc)

pub returns-clause-accepted : goal.returns-clause-accepted
returns-clause-accepted c steps script = accepted c.args.text.now c.read_lines.result steps c.read_lines.ensures script

pub returns-clause-refused : goal.returns-clause-refused
returns-clause-refused c fault found = refused c.args.text.now c.read_lines.result fault c.read_lines.ensures found
