-- The contents of a line: a tree of some size, or no tree.
use Rattle.mapcheck_core.proofs.Prelude.{◌≡◌, sym, List, ℕ, subst, ◌∙◌, ap, [], refl, ◌∷◌, None, inr, Some, ◌<◌, false, true, ◌≤◌, inl, Option, ◌⊎◌, option_map, both_ways, Says-one, glyphs_of, Glyph, is_clean_text, Says, Item, Topology, nodes, depth, most_levels, most_nodes, InNoForm, read_on, measured, nothing, IsLarge, TreeGives, TreeLine, one_tree, tree, written, IsSmall, Nest}
use Rattle.mapcheck_core.proofs.ReadLaws.{read-written, read-is_written}
use Rattle.mapcheck_core.proofs.SizeLaws.{size_of, measured-is}

-- the glyphs read as a tree of this size
pub record HasSize (gs : List Glyph) (s : Nest) : Type 0 where
  pub shape : Topology
  pub reads : read_on gs [] [] ≡ Some shape
  pub many : s.nodes ≡ nodes shape
  pub deep : s.levels ≡ depth shape

pub sized : (gs : List Glyph) (s : Nest) → measured gs ≡ Some s → HasSize gs s
sized gs s e = from (read_on gs [] []) s (sym (measured-is gs) ∙ e) refl
  where
    from : (o : Option Topology) (s : Nest) → option_map size_of o ≡ Some s → read_on gs [] [] ≡ o → HasSize gs s
    from None s e is = absurd cc
    from (Some t) s e is = let same : size_of t ≡ s = cc in record { shape = t; reads = is; many = ap (λ (n : Nest). n.nodes) (sym same); deep = ap (λ (n : Nest). n.levels) (sym same) }

pub unsized : (gs : List Glyph) → measured gs ≡ None → read_on gs [] [] ≡ None
unsized gs e = from (read_on gs [] []) (sym (measured-is gs) ∙ e)
  where
    from : (o : Option Topology) → option_map size_of o ≡ None → o ≡ None
    from None e = refl
    from (Some t) e = absurd cc

pub tree_line : (line : List ℕ) (gs : List Glyph) (t : Topology) → is_clean_text line ≡ true → Says line gs → read_on gs [] [] ≡ Some t → (n : ℕ) → TreeGives n line (one_tree n t)
tree_line line gs t clean says e n =
    let w = read-is_written gs t e in
    tree t clean (subst (Says line) w.0 says) w.1

pub no_tree_line : (line : List ℕ) (gs : List Glyph) → Says line gs → (gs ≡ [] → ⊥) → read_on gs [] [] ≡ None → (n : ℕ) → InNoForm TreeGives n line
no_tree_line line gs says some none n s g = formless n s g
  where
    formless : (n : ℕ) (s : List TreeLine) → TreeGives n line s → ⊥
    formless n _ (nothing clean say) = some (Says-one line gs [] says say)
    formless n _ (tree t clean say b) =
        let wrong : None ≡ Some t = sym none ∙ ap (λ (hs : List Glyph). read_on hs [] []) (Says-one line gs (written t) says say) ∙ read-written t b in
        cc

pub unclean_line : (line : List ℕ) → is_clean_text line ≡ false → (n : ℕ) → InNoForm TreeGives n line
unclean_line line unclean n s g = formless n s g
  where
    formless : (n : ℕ) (s : List TreeLine) → TreeGives n line s → ⊥
    formless n _ (nothing clean say) = both_ways (is_clean_text line) unclean clean
    formless n _ (tree t clean say b) = both_ways (is_clean_text line) unclean clean

pub silent_line : (line : List ℕ) → ((gs : List Glyph) → Says line gs → ⊥) → (n : ℕ) → InNoForm TreeGives n line
silent_line line silent n s g = formless n s g
  where
    formless : (n : ℕ) (s : List TreeLine) → TreeGives n line s → ⊥
    formless n _ (nothing clean say) = silent [] say
    formless n _ (tree t clean say b) = silent (written t) say

pub large_from : (gs : List Glyph) (s : Nest) (h : HasSize gs s) → (most_nodes < s.nodes) ⊎ (most_levels < s.levels) → IsLarge h.shape
large_from gs s h (inl many) = inl (subst (λ n. most_nodes < n) h.many many)
large_from gs s h (inr deep) = inr (subst (λ n. most_levels < n) h.deep deep)

pub small_from : (gs : List Glyph) (s : Nest) (t : Topology) → HasSize gs s → read_on gs [] [] ≡ Some t → s.nodes ≤ most_nodes → s.levels ≤ most_levels → IsSmall t
small_from gs s t h e few low =
    let both : Some h.shape ≡ Some t = sym h.reads ∙ e in
    let same : h.shape ≡ t = cc in
    (subst (λ n. n ≤ most_nodes) (h.many ∙ ap nodes same) few, subst (λ n. n ≤ most_levels) (h.deep ∙ ap depth same) low)

pub no_items : (items : List Item) → glyphs_of items ≡ [] → items ≡ []
no_items [] e = refl
no_items (i ∷ items) e = absurd cc
