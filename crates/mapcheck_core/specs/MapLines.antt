-- The lines of a given map: `map NAME IMAGE`. They are read in the edition of the map's policy.
use Rattle.std.specs.Prelude.{◌≡◌, refl, ℕ, nat_le, Bool, true, ◌&&◌, if◌then◌else◌, List, [], ◌∷◌, Option, Some, None, option_map, codes}
use Rattle.std.specs.Str.{bytes_eq}
use Rattle.text_core.specs.declared.mark.Mark.TheVariants as m
use Rattle.text_core.specs.Glyphs.{Glyph, text, figure, sign}
use Rattle.text_core.specs.Lines.{is_clean_text}
use Rattle.text_core.specs.Says.{SaysIn}
use Rattle.policy_text_defs.specs.Editions.{dialect_of}
use Rattle.policy_text_defs.specs.Words.{is_name_in}
use Rattle.policy_text_defs.specs.declared.edition.Edition.{Edition}
use Rattle.policy_text_defs.specs.declared.edition.Edition.TheVariants.{Classic, Third}
use Rattle.tree_defs.specs.Tree.{Address}
use Rattle.mapcheck_core.specs.declared.entry.Entry.{Entry}

-- a node's name, its image, and the number of the line that gives it
pub record MapLine : Type 0 where
  pub name : List ℕ
  pub image : Address
  pub line : ℕ

-- the greatest number in an image
abbrev pub most_digit : ℕ
most_digit = 4294967295

-- numbers joined by `.`
abbrev pub joined : List Glyph → Option Address
joined (figure n ∷ []) = if nat_le n most_digit then Some (n ∷ []) else None
joined (figure n ∷ sign m.Dot ∷ gs) = if nat_le n most_digit then option_map (λ a. n ∷ a) (joined gs) else None
joined _ = None

-- an image: `-` for the root, or numbers joined by `.`
abbrev pub image_said : List Glyph → Option Address
image_said (sign m.Minus ∷ []) = Some []
image_said gs = joined gs

abbrev pub one_line : ℕ → List ℕ → Address → List MapLine
one_line n w a = record { name = w; image = a; line = n } ∷ []

-- The entries of the line of a number, parsed from its glyphs, if it is well formed and its name
-- passes a test. An empty line gives none.
abbrev pub line_with : (List ℕ → Bool) → ℕ → List Glyph → Option (List MapLine)
line_with test n [] = Some []
line_with test n (text k ∷ text w ∷ gs) = if bytes_eq k (codes "map") && test w then option_map (one_line n w) (image_said gs) else None
line_with test n _ = None

-- the same for a line of this edition, whose names are those of the edition
abbrev pub map_line : Edition → ℕ → List Glyph → Option (List MapLine)
map_line e n gs = line_with (is_name_in e) n gs

-- the line of a number has clean bytes, is well formed in this edition, and gives these entries
pub record MapGives (e : Edition) (n : ℕ) (line : List ℕ) (given : List MapLine) : Type 0 where
  pub clean : is_clean_text line ≡ true
  pub glyphs : List Glyph
  pub says : SaysIn (dialect_of e) line glyphs
  pub form : map_line e n glyphs ≡ Some given

-- the entry of a line, independent of its location in memory
abbrev pub line_of_entry : Entry → MapLine
line_of_entry e = record { name = e.name.now; image = e.image; line = e.line }

two_numbers : map_line Classic 4 (text (codes "map") ∷ text (codes "c") ∷ figure 2 ∷ sign m.Dot ∷ figure 0 ∷ []) ≡ Some (one_line 4 (codes "c") (2 ∷ 0 ∷ []))
two_numbers = refl

the_roots_image : map_line Third 1 (text (codes "map") ∷ text (codes "root") ∷ sign m.Minus ∷ []) ≡ Some (one_line 1 (codes "root") [])
the_roots_image = refl

a_reserved_word_names_nothing : map_line Classic 1 (text (codes "map") ∷ text (codes "leaf") ∷ figure 0 ∷ []) ≡ None
a_reserved_word_names_nothing = refl

a_number_follows_the_dot : map_line Third 1 (text (codes "map") ∷ text (codes "a") ∷ figure 0 ∷ sign m.Dot ∷ []) ≡ None
a_number_follows_the_dot = refl

a_number_that_is_too_great : image_said (figure 4294967295 ∷ sign m.Dot ∷ figure 4294967296 ∷ []) ≡ None
a_number_that_is_too_great = refl
