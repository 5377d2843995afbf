use Rattle.text_core.proofs.DecimalLemmas.{number_of-decimal}
use Rattle.text_core.proofs.law.printed_number_reads_back.Goals as goal

pub returns : goal.returns
returns c = number_of-decimal
