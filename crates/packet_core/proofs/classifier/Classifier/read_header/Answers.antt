use Rattle.packet_core.proofs.Prelude.{◌∙◌, ℕ, ap}
use Rattle.packet_defs.specs.Headers.{fields_in}
use Rattle.packet_core.proofs.AskLaws.{has-class-unasked, has-class-asked}
use Rattle.packet_core.proofs.classifier.Classifier.read_header.Goals as goal

pub returns-then-not-self : goal.returns-then-not-self
returns-then-not-self c =
    has-class-unasked c.args.self.now.policy.now c.read_fields_in-fields.result c.no_extra.result c.args.link c.args.bytes.now
    (c.read_fields_in-fields.ensures ∙ ap (λ (v : ℕ). fields_in v c.args.link c.args.bytes.now) c.version.ensures.version) (c.args.self.now.asked c.if-not-self.true)

pub returns : goal.returns
returns c =
    has-class-asked c.args.self.now.policy.now c.read_fields_in-fields.result c.read_extra.result c.args.link c.args.bytes.now
    (c.read_fields_in-fields.ensures ∙ ap (λ (v : ℕ). fields_in v c.args.link c.args.bytes.now) c.version.ensures.version) c.read_extra.ensures
