use Rattle.std.proofs.Common.{◌∙◌, ap, List}
use Rattle.std.proofs.lemmas.Result.{IfOk-weaker}
use Rattle.policy_text_defs.specs.declared.test.Range.{Range}
use Rattle.packet_defs.specs.Test.{is_among}
use Rattle.packet_core.specs.Ranges.{values}
use Rattle.packet_core.proofs.RangeLaws.{among-permuted}
use Rattle.packet_core.proofs.ranges.Ranges.new.Goals as goal

pub returns : goal.returns
returns c = IfOk-weaker c.lengthened.result _ _ (λ prepared same v. same v ∙ ap (λ (l : List Range). is_among (values l) v) c.deref.ensures.value ∙ among-permuted c.args.ranges.now c.in_ok-sorted.field-0.items v c.in_ok-sorted.ensures.0) c.lengthened.ensures
