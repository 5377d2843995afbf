use Rattle.study.proofs.views.view_sizes_in.Goals as goal

pub returns-in-Own-clause-answer : goal.returns-in-Own-clause-answer
returns-in-Own-clause-answer g c = rw c.in-Own.is c.view_report.ensures.answer

pub returns-in-Laid-clause-answer : goal.returns-in-Laid-clause-answer
returns-in-Laid-clause-answer g c = rw c.in-Laid.is c.view_sizes.ensures.answer
