use Rattle.text_core.proofs.Prelude.{take, glyphs_of, AreSaid}
use Rattle.text_core.proofs.item.items_in.Given as goal

abbrev pub invariant-loop-token : goal.invariant-loop-token
invariant-loop-token l = AreSaid l.line (take l.token-index l.token-items) (glyphs_of l.found)
