-- Examples of scripts.
use Rattle.std.specs.Prelude.{◌≡◌, refl, [], ◌∷◌, map, Some, None, codes}
use Rattle.std.proofs.Common.{arith}
use Rattle.text_core.specs.declared.token.TokenKind.TheVariants.{Word, Number}
use Rattle.text_core.specs.Glyphs.{text, figure}
use Rattle.text_core.specs.Lines.{statements_of}
use Rattle.events_core.specs.declared.step.Step.TheVariants.{Arrive, Depart, Rest, Drain}
use Rattle.events_core.specs.declared.fault.ScriptFault.TheVariants.{Line, TooMany, TooLong}
use Rattle.events_core.specs.Steps.{word_step, counted_step, line_steps, counts_of}
use Rattle.events_core.specs.Script.{Carries, Carry, over, next, IsFirstFault, code_of, place_of}

-- the default count is 1, and words are in lower case
words : map word_step (codes "a" ∷ codes "d" ∷ codes "rest" ∷ codes "drain" ∷ codes "A" ∷ codes "drained" ∷ codes "" ∷ []) ≡ Some (Arrive 1) ∷ Some (Depart 1) ∷ Some Rest ∷ Some Drain ∷ None ∷ None ∷ None ∷ []
words = refl

counted_words : map (λ w. counted_step w 7) (codes "a" ∷ codes "d" ∷ codes "rest" ∷ codes "drain" ∷ []) ≡ Some (Arrive 7) ∷ Some (Depart 7) ∷ None ∷ None ∷ []
counted_words = refl

the_count_stands_last : map line_steps ((figure 2 ∷ text (codes "a") ∷ []) ∷ (text (codes "a") ∷ figure 2 ∷ figure 2 ∷ []) ∷ (text (codes "a") ∷ text (codes "d") ∷ []) ∷ []) ≡ None ∷ None ∷ None ∷ []
the_count_stands_last = refl

a_count_may_be_zero : line_steps (text (codes "d") ∷ figure 0 ∷ []) ≡ Some (Depart 0 ∷ [])
a_count_may_be_zero = refl

rest_takes_no_count : line_steps (text (codes "rest") ∷ figure 1 ∷ []) ≡ None
rest_takes_no_count = refl

rest_and_drain_count_nothing : counts_of (Arrive 3 ∷ Rest ∷ Depart 2 ∷ Drain ∷ []) ≡ 5
rest_and_drain_count_nothing = refl

two_arrivals : Carries (codes "a 2") (Arrive 2 ∷ [])
two_arrivals = record { clean = refl; glyphs = text (codes "a") ∷ figure 2 ∷ []; says = (Word, 1, refl, refl, (Number, 1, refl, refl, refl)); form = refl }

nothing_asked : Carries [] []
nothing_asked = record { clean = refl; glyphs = []; says = refl; form = refl }

a_comment_behind : Carries (codes "drain ") (Drain ∷ [])
a_comment_behind = record { clean = refl; glyphs = text (codes "drain") ∷ []; says = (Word, 5, refl, refl, refl); form = refl }

three_lines : Carry (statements_of (codes "a 2\n\r\ndrain # all")) (Arrive 2 ∷ Drain ∷ [])
three_lines = next (codes "a 2") ([] ∷ codes "drain " ∷ []) (Arrive 2 ∷ []) (Drain ∷ []) two_arrivals (next [] (codes "drain " ∷ []) [] (Drain ∷ []) nothing_asked (next (codes "drain ") [] (Drain ∷ []) [] a_comment_behind over))

-- ---- errors
-- 4,194,304 is allowed, one more is too many, and lines are counted from 1; lines after the error
-- don't matter
one_too_many : IsFirstFault (codes "a 4194304\nd 1\nb") (TooMany 2)
one_too_many = record {
  short = omega arith;
  before = codes "a 4194304" ∷ [];
  line = codes "d 1";
  after = codes "b" ∷ [];
  split = refl;
  steps = Arrive 4194304 ∷ [];
  carry = next (codes "a 4194304") [] (Arrive 4194304 ∷ []) [] (record { clean = refl; glyphs = text (codes "a") ∷ figure 4194304 ∷ []; says = (Word, 1, refl, refl, (Number, 7, refl, refl, refl)); form = refl }) over;
  few = omega arith;
  at_fault = (
    refl,
    record {
      steps = Depart 1 ∷ [];
      carries = record { clean = refl; glyphs = text (codes "d") ∷ figure 1 ∷ []; says = (Word, 1, refl, refl, (Number, 1, refl, refl, refl)); form = refl };
      many = omega arith;
    },
  );
}

-- a byte that isn't allowed
an_unclean_line : IsFirstFault (codes "\na\rb") (Line 2)
an_unclean_line = record {
  short = omega arith;
  before = [] ∷ [];
  line = codes "a\rb";
  after = [];
  split = refl;
  steps = [];
  carry = next [] [] [] [] nothing_asked over;
  few = omega arith;
  at_fault = (refl, λ steps carries. (let clean = carries.clean in cc));
}

fault_codes : map code_of (Line 7 ∷ TooMany 7 ∷ TooLong ∷ []) ≡ 1 ∷ 2 ∷ 4 ∷ []
fault_codes = refl

fault_lines : map place_of (Line 7 ∷ TooMany 7 ∷ TooLong ∷ []) ≡ 7 ∷ 7 ∷ 0 ∷ []
fault_lines = refl
