use Rattle.std.proofs.Common.{◌≡◌, ◌<◌, ◌≤◌, ℕ, Bool, true, false, List, [], ◌∷◌, length, map, find, Option, None, Some, IfSome, IfNone, refl, sym, ap, ◌∙◌, arith, position, unwrap_or, slice_get, nat_lt, cond, inl, inr, Vec, String, string_bytes}
use Rattle.std.proofs.lemmas.Bool.Decides.{nat_tests}
use Rattle.std.specs.List.{position_or_len}
use Rattle.std.specs.Option.{option_map, option_map_or}
use Rattle.std.specs.Str.{bytes_eq}
use Rattle.std.specs.declared.alloc.Global.{Global}
use Rattle.std.proofs.lemmas.List.Folds.{find_at}
use Rattle.std.proofs.lemmas.Option.{slice_get_cases, slice_get_past}
use Rattle.outside_core.specs.Stored.{File, file_of, files_of, first_content, content_or_empty}
use Rattle.outside_core.specs.Reading.{content_at}

-- a stored file
abbrev Held : Type 0
Held = String Global × Vec ℕ Global

abbrev is_named : List ℕ → Held → Bool
is_named name file = bytes_eq (string_bytes file.0) name

-- finding an element by its image gives the image of the first match
find-map : {X Y : Type 0} (p : Y → Bool) (f : X → Y) (xs : List X) → option_map f (find (λ x. p (f x)) xs) ≡ find p (map f xs)
find-map p f [] = refl
find-map p f (x ∷ xs) = go (p (f x)) (find-map p f xs)
  where
    go : (b : Bool) → option_map f (find (λ y. p (f y)) xs) ≡ find p (map f xs) → option_map f (cond b (Some x) (find (λ y. p (f y)) xs)) ≡ cond b (Some (f x)) (find p (map f xs))
    go true e = refl
    go false e = e

content-file_of : (o : Option Held) → option_map (λ (file : Held). file.1.items) o ≡ option_map (λ (file : File). file.1) (option_map file_of o)
content-file_of None = refl
content-file_of (Some file) = refl

-- the first content of a name, by the index of its file
first_content-at : (files : List Held) (name : List ℕ) → first_content (files_of files) name ≡ option_map (λ (file : Held). file.1.items) (slice_get files (position_or_len (is_named name) files))
first_content-at files name =
    ap (option_map (λ (file : File). file.1)) (sym (find-map (λ (file : File). bytes_eq file.0 name) file_of files))
    ∙ sym (content-file_of (find (is_named name) files))
    ∙ ap (option_map (λ (file : Held). file.1.items)) (find_at (is_named name) files)

found : (b : Bool) (n m place : ℕ) → nat_lt n m ≡ b → Some place ≡ cond b (Some n) None → (n ≡ place) × (n < m)
found true n m place t e = (cc, grind (arith, nat_tests))
found false n m place t e = cc

not_found : (b : Bool) (n m : ℕ) → nat_lt n m ≡ b → cond b (Some n) None ≡ None → m ≤ n
not_found true n m t e = cc
not_found false n m t e = grind (arith, nat_tests)

inside : (files : List Held) (o : Option Held) (place : ℕ) → slice_get files place ≡ o → place < length files → option_map (λ (file : Held). file.1.items) o ≡ Some (option_map_or (λ file. file.1.items) o [])
inside files None place e h = elim (slice_get_cases files place).1 [ inl x ↦ cc (x.2, e) | inr x ↦ absurd (omega (arith, x.0, h)) ]
inside files (Some file) place e h = refl

-- the file at the index found for a name has the name's first content
pub content_where_found : (files : List Held) (name : List ℕ) (place : Option ℕ) → place ≡ position (is_named name) files → IfSome place (λ at. first_content (files_of files) name ≡ Some (content_at files at))
content_where_found files name None e = tt
content_where_found files name (Some place) e =
    let p = is_named name in
    let at = found _ (position_or_len p files) (length files) place refl e in
    let h : place < length files = rw (← at.0) at.1 in
    first_content-at files name ∙ ap (λ n. option_map (λ (file : Held). file.1.items) (slice_get files n)) at.0 ∙ inside files _ place refl h

-- a name that isn't found has no content
pub no_content_where_not_found : (files : List Held) (name : List ℕ) (place : Option ℕ) → place ≡ position (is_named name) files → IfNone place (first_content (files_of files) name ≡ None)
no_content_where_not_found files name (Some place) e = tt
no_content_where_not_found files name None e =
    let p = is_named name in
    let past = not_found _ (position_or_len p files) (length files) refl (sym e) in
    first_content-at files name ∙ ap (option_map (λ (file : Held). file.1.items)) (slice_get_past files (position_or_len p files) past)

-- the index of the first content, or the index past the last file
pub content_at_place_or_end : (files : List Held) (name : List ℕ) (place : Option ℕ) → IfSome place (λ at. first_content (files_of files) name ≡ Some (content_at files at)) → IfNone place (first_content (files_of files) name ≡ None) → content_at files (unwrap_or place (length files)) ≡ content_or_empty (files_of files) name
content_at_place_or_end files name (Some place) found none = rw found refl
content_at_place_or_end files name None found none = rw (none, slice_get_past files (length files) (omega arith)) refl
