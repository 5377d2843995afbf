use Rattle.policy_text.specs.declared.fault.TextFault.TheVariants.{TooLong}
use Rattle.replay_app.specs.Policies.{text_refused, at_fault}
use Rattle.replay_app.proofs.policies.PolicyFormatFormat.limit.Goals as goal

pub returns-clause-long : goal.returns-clause-long
returns-clause-long c = λ text long. rw c.code.ensures (text_refused _ _ (at_fault TooLong long))
