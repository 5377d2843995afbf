use Rattle.packet_core.proofs.Prelude.{refl}
use Rattle.packet_core.proofs.classifier.Classifier.put.Goals as goal

pub returns : goal.returns
returns c = λ extra. record {
  class = c.class_met-packet.ensures.class extra;
  there = c.class_met-packet.ensures.there;
  flow = c.flow-packet.ensures;
  number = refl;
  len = refl;
  moment = refl;
}
