use Rattle.packet_defs.proofs.TestLaws.{classic-kept}
use Rattle.packet_defs.proofs.laws.classic_classes_are_kept.Goals as goal

pub returns : goal.returns
returns c = classic-kept
