use Rattle.pcapng_defs.proofs.OptionSteps.{units_go_option_by_option}
use Rattle.pcapng_defs.proofs.laws.units_go_option_by_option.Goals as goal

pub returns : goal.returns
returns c = record { law = units_go_option_by_option }
