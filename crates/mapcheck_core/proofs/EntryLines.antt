-- The entries of lines that are read one by one.
use Rattle.mapcheck_core.proofs.Prelude.{Edition, ◌≡◌, sym, List, ℕ, subst, map, inr, ◌+◌, ◌<◌, length, inl, take, get_or, ◌⊎◌, statements_of, line_text, Line, MapGives, MapLine, IsInNoForm, Give, IsFirstAtFault, InNoForm, MapFault}
use Rattle.mapcheck_core.specs.declared.fault.MapFault.TheVariants as fault
use Rattle.mapcheck_core.proofs.LineLaws.{fault_here}

-- the error of the line at an index
pub told_fault : (ed : Edition) (text : List ℕ) (ls : List Line) (i : ℕ) (d : Line) (ms : List MapLine) (number : ℕ) (f : MapFault) → map (line_text text) ls ≡ statements_of text → i < length ls → Give (MapGives ed) 1 (map (line_text text) (take i ls)) ms → number ≡ i + 1 → (f ≡ fault.NoMemory) ⊎ ((f ≡ fault.Line number) × InNoForm (MapGives ed) number (line_text text (get_or ls i d))) → (f ≡ fault.NoMemory) ⊎ ((n : ℕ) × (f ≡ fault.Line n) × IsFirstAtFault (MapGives ed) (IsInNoForm ed) (statements_of text) n)
told_fault ed text ls i d ms number f texts inside give place (inl e) = inl e
told_fault ed text ls i d ms number f texts inside give place (inr wrong) =
    let here = fault_here (MapGives ed) (IsInNoForm ed) text ls i d ms texts inside give (subst (λ n. InNoForm (MapGives ed) n (line_text text (get_or ls i d))) place wrong.1) in
    inr (number, wrong.0, subst (IsFirstAtFault (MapGives ed) (IsInNoForm ed) (statements_of text)) (sym place) here)
