-- The line of a report that a JSON line of an outcome means, read from its bytes. Its values are at
-- the same colons in each line of a kind, and no value has a colon.
use Rattle.std.specs.Prelude.{◌≡◌, refl, ℕ, zero, suc, ◌==◌, Bool, not, if◌then◌else◌, List, [], ◌∷◌, map, drop, codes}
use Rattle.std.specs.Char.{is_ascii_digit}
use Rattle.std.specs.Str.{bytes_eq}
use Rattle.outside_core.specs.Report.{line_of}

-- the bytes before the first one that fails a test
abbrev pub leading : (ℕ → Bool) → List ℕ → List ℕ
leading test [] = []
leading test (b ∷ bs) = if test b then b ∷ leading test bs else []

-- the bytes after the first colon
abbrev pub past_colon : List ℕ → List ℕ
past_colon [] = []
past_colon (b ∷ bs) = if b == 58 then bs else past_colon bs

-- the bytes after this many colons
abbrev pub after_colons : ℕ → List ℕ → List ℕ
after_colons zero line = line
after_colons (suc n) line = past_colon (after_colons n line)

-- a number, a text and an array after this many colons; ranks are joined by `/` in a report
abbrev pub number_at : ℕ → List ℕ → List ℕ
number_at n line = leading is_ascii_digit (after_colons n line)

abbrev pub is_no_quote : ℕ → Bool
is_no_quote b = not (b == 34)

abbrev pub text_at : ℕ → List ℕ → List ℕ
text_at n line = leading is_no_quote (drop 1 (after_colons n line))

abbrev pub is_no_bracket : ℕ → Bool
is_no_bracket b = not (b == 93)

abbrev pub slash_for_comma : ℕ → ℕ
slash_for_comma b = if b == 44 then 47 else b

abbrev pub ranks_at : ℕ → List ℕ → List ℕ
ranks_at n line = map slash_for_comma (leading is_no_bracket (drop 1 (after_colons n line)))

-- a word, if there is one
abbrev pub word_of : List ℕ → List (List ℕ)
word_of [] = []
word_of (b ∷ bs) = (b ∷ bs) ∷ []

abbrev pub report_line_by : List ℕ → List ℕ → List ℕ
report_line_by kind line =
    if bytes_eq kind (codes "arrive") then line_of (codes "a" ∷ number_at 2 line ∷ number_at 3 line ∷ text_at 4 line ∷ ranks_at 8 line ∷ [])
    else (if bytes_eq kind (codes "depart") then line_of (codes "d" ∷ number_at 2 line ∷ number_at 3 line ∷ text_at 4 line ∷ ranks_at 7 line ∷ word_of (number_at 8 line))
    else (if bytes_eq kind (codes "drop") then line_of (codes "x" ∷ number_at 2 line ∷ number_at 3 line ∷ text_at 4 line ∷ [])
    else line_of (codes "e" ∷ number_at 2 line ∷ [])))

abbrev pub report_line_of : List ℕ → List ℕ
report_line_of line = report_line_by (text_at 1 line) line

report_line_of-arrive : report_line_of (codes "{\"kind\":\"arrive\",\"event\":1,\"packet\":1,\"leaf\":\"web\",\"class\":1,\"bytes\":100,\"timestamp\":123,\"ranks\":[0,3]}\n") ≡ codes "a 1 1 web 0/3\n"
report_line_of-arrive = refl

report_line_of-depart : report_line_of (codes "{\"kind\":\"depart\",\"event\":2,\"packet\":1,\"leaf\":\"web\",\"class\":1,\"bytes\":100,\"ranks\":[0,3]}\n") ≡ codes "d 2 1 web 0/3\n"
report_line_of-depart = refl

report_line_of-paced : report_line_of (codes "{\"kind\":\"depart\",\"event\":2,\"packet\":1,\"leaf\":\"web\",\"class\":1,\"bytes\":100,\"ranks\":[0,3],\"start\":500,\"finish\":700}\n") ≡ codes "d 2 1 web 0/3 500\n"
report_line_of-paced = refl

report_line_of-drop : report_line_of (codes "{\"kind\":\"drop\",\"event\":3,\"packet\":2,\"leaf\":\"mail\",\"class\":2,\"bytes\":60,\"timestamp\":130}\n") ≡ codes "x 3 2 mail\n"
report_line_of-drop = refl

report_line_of-empty : report_line_of (codes "{\"kind\":\"empty\",\"event\":4}\n") ≡ codes "e 4\n"
report_line_of-empty = refl
