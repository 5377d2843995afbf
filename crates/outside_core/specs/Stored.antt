-- Files in memory, as pairs of a name and a content, and the contents of a name.
use Rattle.std.specs.Prelude.{◌≡◌, refl, ℕ, Option, None, Some, List, [], ◌∷◌, map, find, unwrap_or, Vec, String, string_bytes}
use Rattle.std.specs.Option.{option_map}
use Rattle.std.specs.Str.{bytes_eq}
use Rattle.std.specs.declared.alloc.Global.{Global}

-- a name and a content
abbrev pub File : Type 0
File = List ℕ × List ℕ

-- the file that a `String` and a `Vec` represent
abbrev pub file_of : String Global × Vec ℕ Global → File
file_of pair = (string_bytes pair.0, pair.1.items)

-- the files that pairs of a `String` and a `Vec` represent
abbrev pub files_of : List (String Global × Vec ℕ Global) → List File
files_of pairs = map file_of pairs

-- the content of the first file with this name
abbrev pub first_content : List File → List ℕ → Option (List ℕ)
first_content files name = option_map (λ (file : File). file.1) (find (λ (file : File). bytes_eq file.0 name) files)

-- the same, but an unknown name is an empty file
abbrev pub content_or_empty : List File → List ℕ → List ℕ
content_or_empty files name = unwrap_or (first_content files name) []

first_content-given_twice : first_content ((7 ∷ [], 1 ∷ []) ∷ (8 ∷ [], 2 ∷ []) ∷ (8 ∷ [], 3 ∷ []) ∷ []) (8 ∷ []) ≡ Some (2 ∷ [])
first_content-given_twice = refl

first_content-not_held : first_content ((7 ∷ [], 1 ∷ []) ∷ []) (8 ∷ []) ≡ None
first_content-not_held = refl

content_or_empty-not_held : content_or_empty ((7 ∷ [], 1 ∷ []) ∷ []) (8 ∷ []) ≡ []
content_or_empty-not_held = refl
