-- Growths and cuts of a text in sequence.
use Rattle.std.proofs.Common.{ℕ, Option, None, Some, List, [], ◌++◌, refl, sym, ap, ◌∙◌, append_assoc, append-nil}
use Rattle.std.proofs.lemmas.List.{append_cancel_left}
use Rattle.outside_core.specs.Written.{Appended, AppendedPrefix}
use Rattle.outside_core.specs.Kept.{Begins}
use Rattle.outside_core.specs.Text.{appended, IsCut}

-- a cut after a growth is a cut of both
pub IsCut-append : (a b written : Option (List ℕ)) (first second : List ℕ) → Appended a b first → IsCut b second written → IsCut a (first ++ second) written
IsCut-append a b None first second p q = tt
IsCut-append a None (Some written) first second p q = absurd q
IsCut-append None (Some mid) (Some written) first second p q = absurd p
IsCut-append (Some before) (Some mid) (Some written) first second p q = record {
  rest = q.rest;
  joined = sym (append_assoc before first second) ∙ ap (λ s. s ++ second) (sym p) ∙ q.joined;
}

-- a cut of a prefix is a cut of the whole
pub IsCut-longer : (a written : Option (List ℕ)) (first second : List ℕ) → IsCut a first written → IsCut a (first ++ second) written
IsCut-longer a None first second p = tt
IsCut-longer None (Some written) first second p = absurd p
IsCut-longer (Some before) (Some written) first second p = record {
  rest = p.rest ++ second;
  joined = sym (append_assoc before first second) ∙ ap (λ s. s ++ second) p.joined ∙ append_assoc written p.rest second;
}

-- if nothing was held at first, a growth of the text that is fully written is a growth of the
-- written bytes
pub Appended-from_start : (before written : Option (List ℕ)) (text : List ℕ) → Appended (appended before []) written text → Appended before written text
Appended-from_start before None text p = tt
Appended-from_start None (Some written) text p = absurd p
Appended-from_start (Some before) (Some written) text p = p ∙ ap (λ s. s ++ text) (append-nil before)

-- and a cut of the text is an append of a prefix
pub AppendedPrefix-from_cut : (before written : Option (List ℕ)) (text : List ℕ) → Begins before written → IsCut (appended before []) text written → AppendedPrefix before written text
AppendedPrefix-from_cut before None text p q = record { front = []; back = text; whole = refl; grew = tt }
AppendedPrefix-from_cut None (Some written) text p q = absurd p
AppendedPrefix-from_cut (Some before) (Some written) text p q = record {
  front = p.rest;
  back = q.rest;
  whole = append_cancel_left before (p.rest ++ q.rest) text
      (sym (append_assoc before p.rest q.rest) ∙ ap (λ s. s ++ q.rest) (sym p.joined) ∙ sym q.joined ∙ ap (λ s. s ++ text) (append-nil before));
  grew = p.joined;
}
