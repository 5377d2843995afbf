use Rattle.sched_capture.proofs.Prelude.{ap, answer_over}
use Rattle.pcapng_defs.proofs.AlikeFiles.{alike_files}
use Rattle.sched_capture.proofs.laws.alike_files_have_equal_answers.Goals as goal

pub returns : goal.returns
returns c = record { law = λ policy pace file ng_file alike. ap (answer_over policy pace) (alike_files file ng_file alike) }
