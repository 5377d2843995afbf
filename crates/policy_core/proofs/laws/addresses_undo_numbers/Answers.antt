use Rattle.policy_core.proofs.NumberedAddresses.{IsNumber, number-undone}
use Rattle.policy_defs.specs.Numbers.{number_at}
use Rattle.policy_core.proofs.laws.addresses_undo_numbers.Goals as goal

pub returns : goal.returns
returns c = record { law = λ tree a there. (let n : IsNumber tree a (number_at tree a) = number-undone tree a there.0 there.1 in record { within = n.within; address = n.address }) }
