use Rattle.forward_defs.proofs.OneLinkLaws.{one_link-whole}
use Rattle.forward_defs.proofs.laws.captures_of_one_link_are_whole.Goals as goal

pub returns : goal.returns
returns c = record { law = one_link-whole }
