use Rattle.packet_core.proofs.Prelude.{◌∙◌, ℕ, ap, subst, Fields, IsSortedByFields, policy_of, extra_of}
use Rattle.packet_defs.specs.Headers.{fields_in}
use Rattle.packet_core.proofs.classifier.Classifier.put_other.Goals as goal

pub returns : goal.returns
returns c =
    (subst (λ (f : Fields). IsSortedByFields (policy_of c.args.self.now) f c.args.packet.now c.put.new.packet)
    (c.read_fields_in.ensures ∙ ap (λ (v : ℕ). fields_in v c.args.link c.args.bytes.now) c.version.ensures.version) c.put.ensures) (extra_of c.args.link c.args.bytes.now)
