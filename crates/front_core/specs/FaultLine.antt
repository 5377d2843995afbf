-- The `fault` line, which is held back.
use Rattle.std.specs.Prelude.{◌≡◌, refl, ℕ, ◌==◌, nat_le, Bool, true, false, ◌&&◌, ◌||◌, List, [], ◌∷◌, ◌++◌, length, take, min, codes}
use Rattle.std.specs.List.{prefix_len}
use Rattle.std.specs.Str.{bytes_eq}
use Rattle.text_core.specs.Lines.{is_text}

-- the most bytes of a `fault` line
abbrev pub most_held : ℕ
most_held = 64

-- one line with its line end
abbrev pub is_one_line : List ℕ → Bool
is_one_line [] = false
is_one_line (b ∷ bs) = prefix_len is_text (b ∷ bs) == length bs

abbrev pub begins_fault : List ℕ → Bool
begins_fault w = bytes_eq (take (min (length w) 6) w) (codes "fault ")

-- one line with its line end, of at most `most_held` bytes, that begins as a `fault` line does
abbrev pub is_fault_line : List ℕ → Bool
is_fault_line w = nat_le (length w) most_held && is_one_line w && begins_fault w

-- nothing, or a `fault` line
abbrev pub is_caught : List ℕ → Bool
is_caught w = is_fault_line w || length w == 0

a_policys_fault_is_caught : is_fault_line (codes "fault policy 23 4" ++ 10 ∷ []) ≡ true
a_policys_fault_is_caught = refl

an_event_is_not : is_fault_line (codes "a 1 1 root 0" ++ 10 ∷ []) ≡ false
an_event_is_not = refl

a_line_without_its_end_is_not : is_fault_line (codes "fault policy 23 4") ≡ false
a_line_without_its_end_is_not = refl

two_lines_are_not : is_fault_line (codes "fault size 1 0" ++ 10 ∷ codes "fault size 1 0" ++ 10 ∷ []) ≡ false
two_lines_are_not = refl
