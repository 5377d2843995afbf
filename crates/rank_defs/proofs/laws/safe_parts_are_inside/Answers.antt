use Rattle.rank_defs.proofs.ValueIntervals.{parts_in, parts_narrow, value_fits}
use Rattle.rank_defs.proofs.laws.safe_parts_are_inside.Goals as goal

pub returns-clause-inside : goal.returns-clause-inside
returns-clause-inside c = λ ranges values inside f safe. parts_in ranges values inside f safe.divides

pub returns-clause-narrow : goal.returns-clause-narrow
returns-clause-narrow c =
    λ ranges values inside f safe. parts_narrow ranges values f safe.narrow (parts_in ranges values inside f safe.divides)

pub returns-clause-fits : goal.returns-clause-fits
returns-clause-fits c =
    λ ranges values inside f safe is. value_fits ranges values inside f safe.narrow safe.divides is
