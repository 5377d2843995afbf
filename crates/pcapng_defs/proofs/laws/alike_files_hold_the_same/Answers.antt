use Rattle.pcapng_defs.proofs.AlikeFiles.{alike_files}
use Rattle.pcapng_defs.proofs.laws.alike_files_hold_the_same.Goals as goal

pub returns : goal.returns
returns c = record { law = alike_files }
