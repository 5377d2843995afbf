use Rattle.packet_core.proofs.ClassicLaws.{classic-kept}
use Rattle.packet_core.proofs.laws.classic_classes_are_kept.Goals as goal

pub returns : goal.returns
returns c = classic-kept
