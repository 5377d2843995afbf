use Rattle.text_core.proofs.SaysLaws.{Says-one}
use Rattle.text_core.proofs.law.bytes_say_one_list.Goals as goal

pub returns : goal.returns
returns c = Says-one
