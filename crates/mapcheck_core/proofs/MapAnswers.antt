-- A line of a map has only one list of entries, and a text has only one answer as a map.
use Rattle.mapcheck_core.proofs.Prelude.{Edition, ◌≡◌, sym, List, ℕ, subst, ◌∙◌, ap, [], refl, arith, None, inr, Some, length, ◌≤◌, inl, Option, ◌⊎◌, Err, Result, Ok, length-map, IfOk, SaysIn-one, dialect_of, statements_of, MapGives, MapLine, map_line, IsInNoForm, line_for, AreMapLines, IsMapAnswer, answer_of, missing_node, most_map_bytes, repeated_line, unknown_line, Fits, in_form, map_given, name_answer, node_answer, repeat_answer, IsFirstAtFault, MapFault, Given}
use Rattle.mapcheck_core.specs.declared.fault.MapFault.TheVariants as fault
use Rattle.mapcheck_core.specs.MapTexts.{too_long, no_form}
use Rattle.mapcheck_core.proofs.GiveLaws.{Give-one, Tells, IsFirstAtFault-one, Give-right}

abbrev Any : List MapLine → Type 0
Any ms = Unit {0}

module _ (ed : Edition) where
  pub MapGives-one : (n : ℕ) (l : List ℕ) (s t : List MapLine) → MapGives ed n l s → MapGives ed n l t → s ≡ t
  MapGives-one n l s t a b =
      let glyphs : a.glyphs ≡ b.glyphs = SaysIn-one (dialect_of ed) l a.glyphs b.glyphs a.says b.says in
      let same : Some s ≡ Some t = sym a.form ∙ ap (map_line ed n) glyphs ∙ b.form in
      cc

  MapGives-tells : Tells (MapGives ed) (IsInNoForm ed) Any
  MapGives-tells = record { one = MapGives-one; right = λ before n l f. tt; wrong = λ before n l s after f g r. f s g }

  -- a text has only one answer
  pub IsMapAnswer-one : (text : List ℕ) (names : List (List ℕ)) (r q : Result Given MapFault) → IsMapAnswer ed text names r → IsMapAnswer ed text names q → r ≡ q
  IsMapAnswer-one text names _ _ (too_long long) (too_long also) = refl
  IsMapAnswer-one text names _ _ (too_long long) (no_form n short f) = absurd (omega arith)
  IsMapAnswer-one text names _ _ (too_long long) (in_form ms m) = let short : length text ≤ most_map_bytes = m.short in absurd (omega arith)
  IsMapAnswer-one text names _ _ (no_form n short f) (too_long long) = absurd (omega arith)
  IsMapAnswer-one text names _ _ (no_form n short f) (no_form k low g) = ap (λ i. Err (fault.Line i)) (IsFirstAtFault-one (MapGives ed) (IsInNoForm ed) Any MapGives-tells (statements_of text) n k f g)
  IsMapAnswer-one text names _ _ (no_form n short f) (in_form ms m) = absurd (Give-right (MapGives ed) (IsInNoForm ed) Any MapGives-tells (statements_of text) ms n m.give tt f)
  IsMapAnswer-one text names _ _ (in_form ms m) (too_long long) = let short : length text ≤ most_map_bytes = m.short in absurd (omega arith)
  IsMapAnswer-one text names _ _ (in_form ms m) (no_form n short f) = absurd (Give-right (MapGives ed) (IsInNoForm ed) Any MapGives-tells (statements_of text) ms n m.give tt f)
  IsMapAnswer-one text names _ _ (in_form ms m) (in_form ns k) = ap (answer_of names) (Give-one (MapGives ed) MapGives-one 1 (statements_of text) ms ns m.give k.give)

-- ---- the answer of well-formed lines for the names

node_short : (names : List (List ℕ)) (ms : List MapLine) (o : Option ℕ) → node_answer names ms o ≡ Err fault.TooLong → ⊥
node_short names ms (Some n) e = cc
node_short names ms None e = cc

repeat_short : (names : List (List ℕ)) (ms : List MapLine) (o : Option ℕ) → repeat_answer names ms o ≡ Err fault.TooLong → ⊥
repeat_short names ms (Some n) e = cc
repeat_short names ms None e = node_short names ms (missing_node names ms) e

name_short : (names : List (List ℕ)) (ms : List MapLine) (o : Option ℕ) → name_answer names ms o ≡ Err fault.TooLong → ⊥
name_short names ms (Some n) e = cc
name_short names ms None e = repeat_short names ms (repeated_line [] ms) e

-- the answer of lines that were read is never that the text is too long
pub answer_short : (names : List (List ℕ)) (ms : List MapLine) → answer_of names ms ≡ Err fault.TooLong → ⊥
answer_short names ms e = name_short names ms (unknown_line names ms) e

node_fits : (names : List (List ℕ)) (ms : List MapLine) (o : Option ℕ) (g : Given) → node_answer names ms o ≡ Ok g → Fits names g
node_fits names ms (Some n) g e = absurd cc
node_fits names ms None g e = subst (Fits names) (let same : map_given names ms ≡ g = cc in same) (record { images = length-map names (λ name. (line_for ms name).image); lines = length-map names (λ name. (line_for ms name).line) })

repeat_fits : (names : List (List ℕ)) (ms : List MapLine) (o : Option ℕ) (g : Given) → repeat_answer names ms o ≡ Ok g → Fits names g
repeat_fits names ms (Some n) g e = absurd cc
repeat_fits names ms None g e = node_fits names ms (missing_node names ms) g e

name_fits : (names : List (List ℕ)) (ms : List MapLine) (o : Option ℕ) (g : Given) → name_answer names ms o ≡ Ok g → Fits names g
name_fits names ms (Some n) g e = absurd cc
name_fits names ms None g e = repeat_fits names ms (repeated_line [] ms) g e

-- a map has one image and one line number for each name
pub answer_fits : (names : List (List ℕ)) (ms : List MapLine) (g : Given) → answer_of names ms ≡ Ok g → Fits names g
answer_fits names ms g e = name_fits names ms (unknown_line names ms) g e

-- ---- consequences of an answer

module _ (ed : Edition) where
  -- out of memory, or the answer to the text
  abbrev pub IsRight : List ℕ → List (List ℕ) → Result Given MapFault → Type 0
  IsRight text names r = (r ≡ Err fault.NoMemory) ⊎ IsMapAnswer ed text names r

  pub lines_answer : (text : List ℕ) (names : List (List ℕ)) (ms : List MapLine) (r : Result Given MapFault) → AreMapLines ed text ms → (r ≡ answer_of names ms) ⊎ (r ≡ Err fault.NoMemory) → IsRight text names r
  lines_answer text names ms r m (inl e) = inr (subst (IsMapAnswer ed text names) (sym e) (in_form ms m))
  lines_answer text names ms r m (inr e) = inl e

  pub only_answer : (text : List ℕ) (names : List (List ℕ)) (r : Result Given MapFault) → IsRight text names r → (answer : Result Given MapFault) → IsMapAnswer ed text names answer → (r ≡ answer) ⊎ (r ≡ Err fault.NoMemory)
  only_answer text names r (inl e) answer is = inr e
  only_answer text names r (inr h) answer is = inl (IsMapAnswer-one ed text names r answer h is)

  map_fits : (text : List ℕ) (names : List (List ℕ)) (r : Result Given MapFault) → IsMapAnswer ed text names r → (g : Given) → r ≡ Ok g → Fits names g
  map_fits text names _ (too_long long) g e = absurd cc
  map_fits text names _ (no_form n short f) g e = absurd cc
  map_fits text names _ (in_form ms m) g e = answer_fits names ms g e

  pub fits_answer : (text : List ℕ) (names : List (List ℕ)) (r : Result Given MapFault) → IsRight text names r → IfOk r (λ g. Fits names g)
  fits_answer text names (Err f) right = tt
  fits_answer text names (Ok g) (inl e) = absurd cc
  fits_answer text names (Ok g) (inr h) = map_fits text names (Ok g) h g refl

  short_map : (text : List ℕ) (names : List (List ℕ)) (r : Result Given MapFault) → IsMapAnswer ed text names r → length text ≤ most_map_bytes → r ≡ Err fault.TooLong → ⊥
  short_map text names _ (too_long long) short e = omega arith
  short_map text names _ (no_form n low f) short e = cc
  short_map text names _ (in_form ms m) short e = answer_short names ms e

  pub short_answer : (text : List ℕ) (names : List (List ℕ)) (r : Result Given MapFault) → IsRight text names r → length text ≤ most_map_bytes → r ≡ Err fault.TooLong → ⊥
  short_answer text names r (inl e) short long = cc
  short_answer text names r (inr h) short long = short_map text names r h short long

  -- the error of a line that was read, as an answer
  pub line_answer : (text : List ℕ) (names : List (List ℕ)) (f : MapFault) → length text ≤ most_map_bytes → (f ≡ fault.NoMemory) ⊎ ((n : ℕ) × (f ≡ fault.Line n) × IsFirstAtFault (MapGives ed) (IsInNoForm ed) (statements_of text) n) → IsRight text names (Err f)
  line_answer text names f short (inl e) = inl (ap (λ (g : MapFault). Err g) e)
  line_answer text names f short (inr t) = inr (subst (λ (g : MapFault). IsMapAnswer ed text names (Err g)) (sym t.1) (no_form t.0 short t.2))
