use Rattle.policy_core.proofs.LeafClasses.{classes-of}
use Rattle.policy_core.proofs.place_laws.homes_give_the_classes.Goals as goal

pub returns : goal.returns
returns c = record { law = classes-of }
