-- The entry of a map's line that begins with two words.
use Rattle.mapcheck_core.proofs.Prelude.{Edition, ◌≡◌, sym, List, ℕ, ◌∙◌, ap, refl, ◌∷◌, None, Some, false, true, Option, Bool, option_map, if◌then◌else◌, ◌&&◌, and_from, codes, bytes_eq, SaysIn-one, dialect_of, Glyph, text, SaysIn, Address, MapGives, map_line, image_said, one_line, InNoForm}
use Rattle.policy_text_defs.specs.Words.{is_name, is_name_in, has_name, passing, some_if}

-- the name is accepted, and is the word
passed : (b : Bool) (w v : List ℕ) → some_if b w ≡ Some v → (b ≡ true) × (w ≡ v)
passed true w v e = (refl, cc)
passed false w v e = absurd cc

failed : (b : Bool) (w : List ℕ) → some_if b w ≡ None → b ≡ false
failed true w e = absurd cc
failed false w e = refl

neither : (a b : Bool) → b ≡ false → (a && b) ≡ false
neither true b e = e
neither false b e = refl

given : (b : Bool) (n : ℕ) (w : List ℕ) (o : Option Address) (a : Address) → b ≡ true → o ≡ Some a → (if b then option_map (one_line n w) o else None) ≡ Some (one_line n w a)
given b n w o a e f = ap (λ b. if b then option_map (one_line n w) o else None) e ∙ ap (option_map (one_line n w)) f

none_given : (b : Bool) (n : ℕ) (w : List ℕ) (o : Option Address) → o ≡ None → (if b then option_map (one_line n w) o else None) ≡ None
none_given true n w o e = ap (option_map (one_line n w)) e
none_given false n w o e = refl

-- a word is a name of the edition exactly if it is a name that the edition allows
pub not_named : (e : Edition) (w : List ℕ) → has_name e w ≡ false → None ≡ passing (is_name_in e) w
not_named e w missing = ap (λ b. some_if b w) (sym (neither (is_name w) (has_name e w) missing))

also : (a b : Bool) → b ≡ true → a ≡ (a && b)
also true b is = sym is
also false b is = refl

pub still_named : (e : Edition) (w : List ℕ) → has_name e w ≡ true → passing is_name w ≡ passing (is_name_in e) w
still_named e w is = ap (λ b. some_if b w) (also (is_name w) (has_name e w) is)

pub named_line : (e : Edition) (n : ℕ) (k w v : List ℕ) (gs : List Glyph) (a : Address) → bytes_eq k (codes "map") ≡ true → passing (is_name_in e) w ≡ Some v → image_said gs ≡ Some a → map_line e n (text k ∷ text w ∷ gs) ≡ Some (one_line n v a)
named_line e n k w v gs a key is said =
    let name = passed (is_name_in e w) w v is in
    given (bytes_eq k (codes "map") && is_name_in e w) n w (image_said gs) a (and_from (bytes_eq k (codes "map")) (is_name_in e w) key name.0) said ∙ ap (λ (z : List ℕ). Some (one_line n z a)) name.1

pub nameless_line : (e : Edition) (n : ℕ) (k w : List ℕ) (gs : List Glyph) → passing (is_name_in e) w ≡ None → map_line e n (text k ∷ text w ∷ gs) ≡ None
nameless_line e n k w gs none = ap (λ b. if b then option_map (one_line n w) (image_said gs) else None) (neither (bytes_eq k (codes "map")) (is_name_in e w) (failed (is_name_in e w) w none))

pub imageless_line : (e : Edition) (n : ℕ) (k w : List ℕ) (gs : List Glyph) → image_said gs ≡ None → map_line e n (text k ∷ text w ∷ gs) ≡ None
imageless_line e n k w gs none = none_given (bytes_eq k (codes "map") && is_name_in e w) n w (image_said gs) none

-- malformed glyphs make a malformed line
pub formless_line : (e : Edition) (n : ℕ) (l : List ℕ) (gs : List Glyph) → SaysIn (dialect_of e) l gs → map_line e n gs ≡ None → InNoForm (MapGives e) n l
formless_line e n l gs says none s g =
    let wrong : None ≡ Some s = sym none ∙ ap (map_line e n) (SaysIn-one (dialect_of e) l gs g.glyphs says g.says) ∙ g.form in
    cc
