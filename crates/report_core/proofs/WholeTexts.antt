-- The text of a report that one call begins and finishes.
use Rattle.std.proofs.Common.{◌≡◌, ℕ, Option, None, Some, List, [], ◌++◌, subst, append-nil}
use Rattle.std.specs.Prelude.{IfSome}
use Rattle.outside_core.specs.Written.{Appended, AppendedPrefix}
use Rattle.outside_core.proofs.WrittenLaws.{appended_in_turn, appended_nothing, prefix_of_nothing}
use Rattle.outside_core.specs.Kept.{Begins}
use Rattle.outside_core.specs.Text.{appended, IsCut}
use Rattle.outside_core.proofs.KeptLaws.{Begins-trans}
use Rattle.report_core.proofs.TextLaws.{IsCut-append, Appended-from_start, AppendedPrefix-from_cut}

-- a write failed within the text of a report that was empty
pub cut_part : (before written : Option (List ℕ)) (held text : List ℕ) → held ≡ [] → Begins before written → IsCut (appended before held) text written → AppendedPrefix before written text
cut_part before written held text none begins cut =
    AppendedPrefix-from_cut before written text begins (subst (λ (h : List ℕ). IsCut (appended before h) text written) none cut)

-- a write failed at the end of the text
pub cut_end : (before mid written : Option (List ℕ)) (held last text : List ℕ) → held ≡ [] → Begins before mid → Begins mid written
    → Appended (appended before held) (appended mid last) text → IsCut (appended mid last) [] written → AppendedPrefix before written text
cut_end before mid written held last text none first second ok cut =
    let all : IsCut (appended before held) (text ++ []) written = IsCut-append (appended before held) (appended mid last) written text [] ok cut in
    cut_part before written held text none (Begins-trans before mid written first second)
    (subst (λ (t : List ℕ). IsCut (appended before held) t written) (append-nil text) all)

-- the text of a report that was empty is written completely
pub whole_text : (before written : Option (List ℕ)) (held text : List ℕ) → held ≡ [] → Appended (appended before held) written text → Appended before written text
whole_text before written held text none ok =
    Appended-from_start before written text (subst (λ (h : List ℕ). Appended (appended before h) written text) none ok)

-- also if the end adds nothing
pub whole_end : (before mid written : Option (List ℕ)) (held last text : List ℕ) → held ≡ []
    → Appended (appended before held) (appended mid last) text → Appended (appended mid last) written [] → Appended before written text
whole_end before mid written held last text none ok done =
    let all : Appended (appended before held) written (text ++ []) = appended_in_turn (appended before held) (appended mid last) written text [] ok done in
    whole_text before written held text none (subst (λ (t : List ℕ). Appended (appended before held) written t) (append-nil text) all)

-- nothing is written
pub nothing_written : {X : Type 0} (o : Option X) (w : Option (List ℕ)) (text : X → List ℕ) → IfSome o (λ x. AppendedPrefix w w (text x))
nothing_written None w text = tt
nothing_written (Some x) w text = prefix_of_nothing w w (text x) (appended_nothing w)
