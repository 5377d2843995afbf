-- The program at the index of a name.
use Rattle.policy_core.proofs.Prelude.{List, ◌≡◌, ℕ, sym, [], ◌∙◌, arith, length, ◌<◌, ◌∷◌, suc, true, Some, zero, None, Option, true≢false, is_some, unwrap_or, slice_index_or, option_and_then, slice_get, is_transaction_known, known_programs, Name, program_named, Entry, fifo, IsPlaceOf, no_program}
use Rattle.policy_core.proofs.PlacePrograms.{program-there}

-- the value found is at the index
record IsGot {X : Type 0} (xs : List X) (i : ℕ) (d x : X) : Type 0 where
  within : i < length xs
  there : slice_index_or xs i d ≡ x

got : {X : Type 0} (xs : List X) (i : ℕ) (d x : X) → slice_get xs i ≡ Some x → IsGot xs i d x
got [] i d x h = absurd cc
got (y ∷ ys) zero d x h = record { within = omega arith; there = (let e : y ≡ x = cc in e) }
got (y ∷ ys) (suc i) d x h = (let rest : IsGot ys i d x = got ys i d x h in record { within = omega (arith, rest.within); there = rest.there })

-- an index that is found gives the program of a known name
pub place-of : (es : List Entry) (used : Name) (r : Option ℕ) → option_and_then (λ place. slice_get (known_programs es) place) r ≡ program_named es used → is_some r ≡ true → is_transaction_known es used ≡ true
    → IsPlaceOf es used (unwrap_or r 0)
place-of es used None at some known = absurd (true≢false (sym some))
place-of es used (Some place) at some known =
    let here : IsGot (known_programs es) place no_program (unwrap_or (program_named es used) fifo) = got (known_programs es) place no_program (unwrap_or (program_named es used) fifo) (at ∙ program-there es used known) in
    record { within = here.within; program_is = here.there }
