use Rattle.policy_core.specs.Numbering.{address_at}
use Rattle.policy_core.proofs.NumberedAddresses.{IsAddress, address-undone}
use Rattle.policy_core.proofs.laws.numbers_undo_addresses.Goals as goal

pub returns : goal.returns
returns c = record { law = λ tree n within. (let a : IsAddress tree n (address_at tree n) = address-undone tree n within in record { there = a.there; number = a.number }) }
