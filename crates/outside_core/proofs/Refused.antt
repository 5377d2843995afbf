-- Counterexamples: changes that no growing text makes, and texts that are no prefix.
use Rattle.std.proofs.Common.{None, Some, [], ◌∷◌, take, subst}
use Rattle.std.specs.Prelude.{T}
use Rattle.std.specs.Str.{bytes_eq}
use Rattle.outside_core.specs.Kept.{Begins}
use Rattle.outside_core.specs.Text.{IsCut}

-- a text that is observable begins with the text that was observable before
another_text : Begins (Some (1 ∷ [])) (Some (2 ∷ [])) → ⊥
another_text front = subst (λ xs. T (bytes_eq (take 1 xs) (2 ∷ []))) front.joined tt

shorter_text : Begins (Some (1 ∷ 2 ∷ [])) (Some (1 ∷ [])) → ⊥
shorter_text front = subst (λ xs. T (bytes_eq (take 2 xs) (1 ∷ []))) front.joined tt

-- a text that isn't observable doesn't become observable later
told_again : Begins None (Some []) → ⊥
told_again h = h

cut_told_again : IsCut None [] (Some []) → ⊥
cut_told_again h = h

-- the bytes that follow aren't written before the text
other_order : IsCut (Some (1 ∷ [])) (2 ∷ []) (Some (2 ∷ [])) → ⊥
other_order front = subst (λ xs. T (bytes_eq (take 1 xs) (1 ∷ []))) front.joined tt
