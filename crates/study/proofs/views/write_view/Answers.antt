use Rattle.study.proofs.SumLaws.{only_told}
use Rattle.study.proofs.views.write_view.Goals as goal

pub returns-in-Report-clause-answer : goal.returns-in-Report-clause-answer
returns-in-Report-clause-answer g c = λ names. rw c.in-Report.is (only_told _ _ _ _ _ _ c.view_report.ensures.answer)

pub returns-in-Json-clause-answer : goal.returns-in-Json-clause-answer
returns-in-Json-clause-answer g c = λ names. rw c.in-Json.is (only_told _ _ _ _ _ _ c.view_json.ensures.answer)

pub returns-in-Summary-clause-answer : goal.returns-in-Summary-clause-answer
returns-in-Summary-clause-answer g c = rw c.in-Summary.is c.view_sums.ensures.answer

pub returns-in-JsonSummary-clause-answer : goal.returns-in-JsonSummary-clause-answer
returns-in-JsonSummary-clause-answer g c = rw c.in-JsonSummary.is c.view_sums-in-JsonSummary.ensures.answer

pub returns-in-Size-clause-answer : goal.returns-in-Size-clause-answer
returns-in-Size-clause-answer g c = λ names. rw c.in-Size.is (only_told _ _ _ _ _ _ c.view_sizes_in.ensures.answer)

pub returns-in-JsonSize-clause-answer : goal.returns-in-JsonSize-clause-answer
returns-in-JsonSize-clause-answer g c = λ names. rw c.in-JsonSize.is (only_told _ _ _ _ _ _ c.view_sizes_in-in-JsonSize.ensures.answer)
