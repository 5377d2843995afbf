use Rattle.embed_plan.proofs.OnePlan.{one_plan}
use Rattle.embed_plan.proofs.laws.policies_have_one_plan.Goals as goal

pub returns : goal.returns
returns c = record { law = one_plan }
