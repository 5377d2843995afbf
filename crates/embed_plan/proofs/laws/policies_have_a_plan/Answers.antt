use Rattle.embed_plan.proofs.PlanExists.{a_plan}
use Rattle.embed_plan.proofs.laws.policies_have_a_plan.Goals as goal

pub returns : goal.returns
returns c = record { law = a_plan }
