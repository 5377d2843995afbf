-- The texts that are maps of the nodes with these names, and the error of any other text. A text is
-- read in the edition of the nodes' policy. The codes are checked in order.
use Rattle.std.specs.Prelude.{◌≡◌, refl, ℕ, ◌<◌, ◌≤◌, Bool, not, if◌then◌else◌, List, [], ◌∷◌, ◌++◌, length, map, position, Option, Some, None, Result, Ok, Err, codes}
use Rattle.std.specs.List.{list_any}
use Rattle.std.specs.Str.{bytes_eq}
use Rattle.text_core.specs.Lines.{statements_of}
use Rattle.policy_text_defs.specs.declared.edition.Edition.{Edition}
use Rattle.mapcheck_core.specs.declared.given.Given.{Given}
use Rattle.mapcheck_core.specs.declared.fault.MapFault.{MapFault}
use Rattle.mapcheck_core.specs.declared.fault.MapFault.TheVariants as fault
use Rattle.mapcheck_core.specs.NumberedLines.{Give, InNoForm, IsFirstAtFault}
use Rattle.mapcheck_core.specs.MapLines.{MapLine, MapGives, one_line}

-- the greatest length of a map's text, in bytes
abbrev pub most_map_bytes : ℕ
most_map_bytes = 1048576

abbrev pub has : List (List ℕ) → List ℕ → Bool
has names name = list_any (bytes_eq name) names

-- the names that lines give
abbrev pub named : List MapLine → List (List ℕ)
named ms = map (λ m. m.name) ms

-- the least line number whose name isn't among the names; the lines are in order of their numbers
abbrev pub unknown_line : List (List ℕ) → List MapLine → Option ℕ
unknown_line names [] = None
unknown_line names (m ∷ ms) = if has names m.name then unknown_line names ms else Some m.line

-- the least line number whose name is on an earlier line, or among the names given before
abbrev pub repeated_line : List (List ℕ) → List MapLine → Option ℕ
repeated_line earlier [] = None
repeated_line earlier (m ∷ ms) = if has earlier m.name then Some m.line else repeated_line (earlier ++ m.name ∷ []) ms

-- the least number of a node that no line names
abbrev pub missing_node : List (List ℕ) → List MapLine → Option ℕ
missing_node names ms = position (λ name. not (has (named ms) name)) names

-- the entry of the first line that gives a name
abbrev pub line_for : List MapLine → List ℕ → MapLine
line_for [] name = record { name = name; image = []; line = 0 }
line_for (m ∷ ms) name = if bytes_eq name m.name then m else line_for ms name

-- for each node, the image and the line number of its name
abbrev pub map_given : List (List ℕ) → List MapLine → Given
map_given names ms = record { images = map (λ name. (line_for ms name).image) names; lines = map (λ name. (line_for ms name).line) names }

abbrev pub node_answer : List (List ℕ) → List MapLine → Option ℕ → Result Given MapFault
node_answer names ms (Some n) = Err (fault.Missing n)
node_answer names ms None = Ok (map_given names ms)

abbrev pub repeat_answer : List (List ℕ) → List MapLine → Option ℕ → Result Given MapFault
repeat_answer names ms (Some n) = Err (fault.Twice n)
repeat_answer names ms None = node_answer names ms (missing_node names ms)

abbrev pub name_answer : List (List ℕ) → List MapLine → Option ℕ → Result Given MapFault
name_answer names ms (Some n) = Err (fault.Unknown n)
name_answer names ms None = repeat_answer names ms (repeated_line [] ms)

-- The map of well-formed lines, or their error. Errors are checked in this order: a name that isn't
-- a node's, a repeated name, a node that isn't named.
abbrev pub answer_of : List (List ℕ) → List MapLine → Result Given MapFault
answer_of names ms = name_answer names ms (unknown_line names ms)

-- a text of this edition that isn't too long and has only well-formed lines, with their entries
pub record AreMapLines (e : Edition) (text : List ℕ) (ms : List MapLine) : Type 0 where
  pub short : length text ≤ most_map_bytes
  pub give : Give (MapGives e) 1 (statements_of text) ms

-- whether a line is malformed doesn't depend on the lines before it
abbrev pub IsInNoForm : Edition → List MapLine → ℕ → List ℕ → Type 0
IsInNoForm e before n line = InNoForm (MapGives e) n line

-- the answer to a text of this edition: too long, else the first malformed line, else the answer for
-- the lines and the names
pub data IsMapAnswer (e : Edition) (text : List ℕ) (names : List (List ℕ)) : Result Given MapFault → Type 0 where
  too_long : most_map_bytes < length text → IsMapAnswer e text names (Err fault.TooLong)
  no_form : (n : ℕ) → length text ≤ most_map_bytes → IsFirstAtFault (MapGives e) (IsInNoForm e) (statements_of text) n → IsMapAnswer e text names (Err (fault.Line n))
  in_form : (ms : List MapLine) → AreMapLines e text ms → IsMapAnswer e text names (answer_of names ms)

-- the answer to a text has the property P
abbrev pub ForMapAnswer : Edition → List ℕ → List (List ℕ) → (Result Given MapFault → Type 0) → Type 0
ForMapAnswer e text names P = (answer : Result Given MapFault) → IsMapAnswer e text names answer → P answer

-- one image and one line number for each name
pub record Fits (names : List (List ℕ)) (g : Given) : Type 0 where
  pub images : length g.images ≡ length names
  pub lines : length g.lines ≡ length names

abbrev a_and_b : List (List ℕ)
a_and_b = codes "a" ∷ codes "b" ∷ []

b_before_a : answer_of a_and_b (one_line 2 (codes "b") (1 ∷ []) ++ one_line 5 (codes "a") []) ≡ Ok (record { images = [] ∷ (1 ∷ []) ∷ []; lines = 5 ∷ 2 ∷ [] })
b_before_a = refl

c_is_unknown : answer_of a_and_b (one_line 2 (codes "b") [] ++ one_line 3 (codes "b") [] ++ one_line 5 (codes "c") []) ≡ Err (fault.Unknown 5)
c_is_unknown = refl

b_stands_twice : answer_of a_and_b (one_line 2 (codes "b") [] ++ one_line 3 (codes "b") []) ≡ Err (fault.Twice 3)
b_stands_twice = refl

a_is_missing : answer_of a_and_b (one_line 2 (codes "b") []) ≡ Err (fault.Missing 0)
a_is_missing = refl
