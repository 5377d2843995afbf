-- The meaning of a line's tokens, without their location in memory.
use Rattle.std.specs.Prelude.{ℕ, List, map}
use Rattle.text_core.specs.declared.mark.Mark.{Mark}
use Rattle.text_core.specs.declared.item.Item.{Item}
use Rattle.text_core.specs.declared.item.Item.TheVariants as item

-- a word by its bytes, a number by its value, a mark
pub data Glyph : Type 0 where
  text : List ℕ → Glyph
  figure : ℕ → Glyph
  sign : Mark → Glyph

abbrev pub glyph_of : Item → Glyph
glyph_of (item.Word w) = text w.now
glyph_of (item.Number n) = figure n
glyph_of (item.Mark m) = sign m

abbrev pub glyphs_of : List Item → List Glyph
glyphs_of items = map glyph_of items
