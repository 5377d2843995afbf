use Rattle.mapcheck_core.proofs.Prelude.{◌≡◌, length, ◌++◌, option_map, glyphs_of, joined}
use Rattle.mapcheck_core.proofs.entry.joined.Given as goal

abbrev pub invariant-loop-rest : goal.invariant-loop-rest
invariant-loop-rest l = option_map (λ a. l.digits ++ a) (joined (glyphs_of l.rest)) ≡ joined (glyphs_of l.items)

abbrev pub decreases-loop-rest : goal.decreases-loop-rest
decreases-loop-rest l = length l.rest
