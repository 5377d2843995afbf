-- A text that isn't too long can't lack both steps and a first error.
use Rattle.events_core.proofs.Prelude.{sym, ◌∙◌, ◌≡◌, arith, refl, subst, ◌++◌, List, [], length, ℕ, ◌+◌, ◌∷◌, ◌≤◌, append_assoc, inl, inr, append-nil, statements_of, Carries, IsFirstFault, IsScript, Carry, most_bytes, most_count, over, counts_of, ScriptFault, TooMany, Step}
use Rattle.std.proofs.lemmas.Bool.{cases_lt}
use Rattle.events_core.specs.declared.fault.ScriptFault.TheVariants.{Line}
use Rattle.events_core.specs.Laws.{ScriptsHaveAnAnswer}
use Rattle.events_core.proofs.ScriptLaws.{counts-append, Carry-push}

-- assume that neither steps nor a first error of the text can be found
module _ (text : List ℕ) (short : length text ≤ most_bytes) (no_steps : (steps : List Step) → IsScript text steps → ⊥) (no_fault : (f : ScriptFault) → IsFirstFault text f → ⊥) where
  -- after well-formed lines within the count limit, the next line is malformed, exceeds the limit,
  -- or is one more such line
  past : (before after : List (List ℕ)) (line : List ℕ) (steps : List Step) → statements_of text ≡ before ++ line ∷ after → Carry before steps → counts_of steps ≤ most_count
      → ((more : List Step) → statements_of text ≡ (before ++ line ∷ []) ++ after → Carry (before ++ line ∷ []) more → counts_of more ≤ most_count → ⊥)
      → (more : List Step) → Carries line more → ⊥
  past before after line steps split carry few go more carries = elim (cases_lt most_count (counts_of steps + counts_of more)) [
    | inl many ↦ no_fault (TooMany (length before + 1)) (record {
      short = short;
      before = before;
      line = line;
      after = after;
      split = split;
      steps = steps;
      carry = carry;
      few = few;
      at_fault = (refl, record { steps = more; carries = carries; many = many });
    })
    | inr still ↦ go (steps ++ more) (split ∙ sym (append_assoc before (line ∷ []) after)) (Carry-push before steps line more carry carries) (omega (arith, still, counts-append steps more))
  ]

  behind : (after before : List (List ℕ)) (steps : List Step) → statements_of text ≡ before ++ after → Carry before steps → counts_of steps ≤ most_count → ⊥
  behind [] before steps split carry few =
      no_steps steps (record { short = short; lines = subst (λ (ls : List (List ℕ)). Carry ls steps) (sym (split ∙ append-nil before)) carry; few = few })
  behind (line ∷ after) before steps split carry few =
      no_fault (Line (length before + 1)) (record {
        short = short;
        before = before;
        line = line;
        after = after;
        split = split;
        steps = steps;
        carry = carry;
        few = few;
        at_fault = (refl, past before after line steps split carry few (behind after (before ++ line ∷ [])));
      })

pub an_answer : ScriptsHaveAnAnswer
an_answer text short no_steps no_fault = behind text short no_steps no_fault (statements_of text) [] [] refl over (omega arith)
