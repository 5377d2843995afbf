use Rattle.packet_core.proofs.Prelude.{◌∙◌, sym, ap, refl, Fields}
use Rattle.packet_defs.specs.Flow.{flow_of}
use Rattle.packet_core.proofs.classifier.Classifier.put_passed.Goals as goal

pub returns : goal.returns
returns c = record {
  class = sym (c.read_header-header.ensures.class c.args.packet.now.len) ∙ c.class_passed-packet.ensures.class;
  there = c.class_passed-packet.ensures.there;
  flow = c.flow-packet.ensures ∙ ap (λ (f : Fields). flow_of f) c.read_header-header.ensures.fields;
  number = refl;
  len = refl;
  moment = refl;
}
