use Rattle.sched_defs.proofs.Courses.{course_can, course_short}
use Rattle.sched_defs.proofs.laws.courses_can_be_made.Goals as goal

pub returns-clause-made : goal.returns-clause-made
returns-clause-made c = course_can

pub returns-clause-short : goal.returns-clause-short
returns-clause-short c = course_short
