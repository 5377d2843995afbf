use Rattle.embed_plan.proofs.Prelude.{◌++◌, ◌≡◌, take, ◌∷◌, address_text}
use Rattle.embed_plan.proofs.lines.put_digits.Given as goal

abbrev pub invariant-loop-digit : goal.invariant-loop-digit
invariant-loop-digit l = record { text : l.into.items ≡ l.fn.into.items ++ address_text (l.first ∷ take l.digit-index l.rest) }
