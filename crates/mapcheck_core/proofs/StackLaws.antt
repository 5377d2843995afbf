-- Reading a tree with a stack of lists. The last list has the trees around the open node.
use Rattle.mapcheck_core.proofs.Prelude.{◌≡◌, sym, List, ℕ, ◌∙◌, ap, [], refl, arith, ◌∷◌, None, ◌+◌, Some, ◌<◌, false, length, true, ◌++◌, Option, get_or, Bool, drop, suc, if◌then◌else◌, ◌&&◌, drop-cons, codes, bytes_eq, glyphs_of, Glyph, text, figure, sign, glyph_of, Item, Topology, inner, trees_of, read_on, may_stand}
use Rattle.text_core.specs.declared.mark.Mark.TheVariants as m
use Rattle.tree_defs.specs.Tree.{leaf}

-- the lists of a stack, the last first, followed by the lists below it
abbrev pub turned : List (List Topology) → List (List Topology) → List (List Topology)
turned [] below = below
turned (ts ∷ stack) below = turned stack (ts ∷ below)

pub turned-push : (stack : List (List Topology)) (ts : List Topology) (below : List (List Topology)) → turned (stack ++ ts ∷ []) below ≡ ts ∷ turned stack below
turned-push [] ts below = refl
turned-push (us ∷ stack) ts below = turned-push stack ts (us ∷ below)

then_some : (b : Bool) (o : Option Topology) (t : Topology) → (if b then o else None) ≡ Some t → o ≡ Some t
then_some true o t e = e
then_some false o t e = absurd cc

pub open_step : (gs : List Glyph) (ts : List Topology) (outer : List (List Topology)) (t : Topology) → read_on (sign m.Open ∷ gs) ts outer ≡ Some t → read_on gs [] (ts ∷ outer) ≡ Some t
open_step gs ts outer t e = then_some (may_stand ts outer) (read_on gs [] (ts ∷ outer)) t e

-- a node is closed only if one is open
pub record IsClosed (gs : List Glyph) (ts : List Topology) (outer : List (List Topology)) (t : Topology) : Type 0 where
  pub around : List Topology
  pub further : List (List Topology)
  pub is_open : outer ≡ around ∷ further
  pub rest : read_on gs (around ++ inner tt (trees_of ts) ∷ []) further ≡ Some t

pub close_step : (gs : List Glyph) (ts : List Topology) (outer : List (List Topology)) (t : Topology) → read_on (sign m.Close ∷ gs) ts outer ≡ Some t → IsClosed gs ts outer t
close_step gs [] outer t e = absurd cc
close_step gs (u ∷ us) [] t e = absurd cc
close_step gs (u ∷ us) (around ∷ further) t e = record { around = around; further = further; is_open = refl; rest = e }

-- a glyph that neither opens nor closes a node is a leaf
pub leaf_step : (g : Glyph) (gs : List Glyph) (ts : List Topology) (outer : List (List Topology)) (t : Topology) → (g ≡ sign m.Open → ⊥) → (g ≡ sign m.Close → ⊥) → read_on (g ∷ gs) ts outer ≡ Some t → read_on gs (ts ++ leaf tt ∷ []) outer ≡ Some t
leaf_step (text w) gs ts outer t no_open no_close e = then_some (bytes_eq w (codes "leaf") && may_stand ts outer) (read_on gs (ts ++ leaf tt ∷ []) outer) t e
leaf_step (figure n) gs ts outer t no_open no_close e = absurd cc
leaf_step (sign m.Open) gs ts outer t no_open no_close e = absurd (no_open refl)
leaf_step (sign m.Close) gs ts outer t no_open no_close e = absurd (no_close refl)
leaf_step (sign m.DotDot) gs ts outer t no_open no_close e = absurd cc
leaf_step (sign m.Dot) gs ts outer t no_open no_close e = absurd cc
leaf_step (sign m.Slash) gs ts outer t no_open no_close e = absurd cc
leaf_step (sign m.Plus) gs ts outer t no_open no_close e = absurd cc
leaf_step (sign m.Minus) gs ts outer t no_open no_close e = absurd cc
leaf_step (sign m.Star) gs ts outer t no_open no_close e = absurd cc
leaf_step (sign m.Comma) gs ts outer t no_open no_close e = absurd cc
leaf_step (sign m.Is) gs ts outer t no_open no_close e = absurd cc
leaf_step (sign m.Equal) gs ts outer t no_open no_close e = absurd cc
leaf_step (sign m.NotEqual) gs ts outer t no_open no_close e = absurd cc
leaf_step (sign m.Less) gs ts outer t no_open no_close e = absurd cc
leaf_step (sign m.LessEq) gs ts outer t no_open no_close e = absurd cc
leaf_step (sign m.More) gs ts outer t no_open no_close e = absurd cc
leaf_step (sign m.MoreEq) gs ts outer t no_open no_close e = absurd cc
leaf_step (sign m.OpenBrace) gs ts outer t no_open no_close e = absurd cc
leaf_step (sign m.CloseBrace) gs ts outer t no_open no_close e = absurd cc

-- the glyph at an index, followed by the remaining ones
glyphs_from : (items : List Item) (i : ℕ) (d : Item) → i < length items → glyphs_of (drop i items) ≡ glyph_of (get_or items i d) ∷ glyphs_of (drop (i + 1) items)
glyphs_from items i d low =
    let one : suc i ≡ i + 1 = omega arith in
    ap glyphs_of (drop-cons items i d low) ∙ ap (λ n. glyph_of (get_or items i d) ∷ glyphs_of (drop n items)) one

-- One item read: `ts` are the trees so far, `stack` has the lists around them, and the remaining
-- items follow.
module _ (items : List Item) (i : ℕ) (d : Item) (ts us : List Topology) (stack rest : List (List Topology)) (t : Topology) (low : i < length items) (reads : read_on (glyphs_of items) [] [] ≡ Some t) (so_far : read_on (glyphs_of (drop i items)) ts (turned stack []) ≡ read_on (glyphs_of items) [] []) where
  here : read_on (glyph_of (get_or items i d) ∷ glyphs_of (drop (i + 1) items)) ts (turned stack []) ≡ Some t
  here = ap (λ (gs : List Glyph). read_on gs ts (turned stack [])) (sym (glyphs_from items i d low)) ∙ so_far ∙ reads

  pub after_open : glyph_of (get_or items i d) ≡ sign m.Open → us ≡ [] → rest ≡ stack ++ ts ∷ [] → read_on (glyphs_of (drop (i + 1) items)) us (turned rest []) ≡ read_on (glyphs_of items) [] []
  after_open mark trees around =
      let open_here = ap (λ (g : Glyph). read_on (g ∷ glyphs_of (drop (i + 1) items)) ts (turned stack [])) (sym mark) ∙ here in
      ap (λ (vs : List Topology). read_on (glyphs_of (drop (i + 1) items)) vs (turned rest [])) trees
      ∙ ap (λ (vs : List (List Topology)). read_on (glyphs_of (drop (i + 1) items)) [] vs) (ap (λ (vs : List (List Topology)). turned vs []) around ∙ turned-push stack ts [])
      ∙ open_step (glyphs_of (drop (i + 1) items)) ts (turned stack []) t open_here
      ∙ sym reads

  is_closed : glyph_of (get_or items i d) ≡ sign m.Close → IsClosed (glyphs_of (drop (i + 1) items)) ts (turned stack []) t
  is_closed mark = close_step (glyphs_of (drop (i + 1) items)) ts (turned stack []) t (ap (λ (g : Glyph). read_on (g ∷ glyphs_of (drop (i + 1) items)) ts (turned stack [])) (sym mark) ∙ here)

  -- when a node is closed, the stack isn't empty
  pub never_empty : glyph_of (get_or items i d) ≡ sign m.Close → stack ≡ [] → ⊥
  never_empty mark empty =
      let closed = is_closed mark in
      let none : [] ≡ closed.around ∷ closed.further = ap (λ (vs : List (List Topology)). turned vs []) (sym empty) ∙ closed.is_open in
      cc

  pub after_close : (outer : List Topology) → glyph_of (get_or items i d) ≡ sign m.Close → stack ≡ rest ++ outer ∷ [] → us ≡ outer ++ inner tt (trees_of ts) ∷ [] → read_on (glyphs_of (drop (i + 1) items)) us (turned rest []) ≡ read_on (glyphs_of items) [] []
  after_close outer mark around trees =
      let closed = is_closed mark in
      let both : outer ∷ turned rest [] ≡ closed.around ∷ closed.further = sym (turned-push rest outer []) ∙ ap (λ (vs : List (List Topology)). turned vs []) (sym around) ∙ closed.is_open in
      let first : outer ≡ closed.around = cc in
      let others : turned rest [] ≡ closed.further = cc in
      ap (λ (vs : List Topology). read_on (glyphs_of (drop (i + 1) items)) vs (turned rest [])) (trees ∙ ap (λ (vs : List Topology). vs ++ inner tt (trees_of ts) ∷ []) first)
      ∙ ap (λ (vs : List (List Topology)). read_on (glyphs_of (drop (i + 1) items)) (closed.around ++ inner tt (trees_of ts) ∷ []) vs) others
      ∙ closed.rest
      ∙ sym reads

  pub after_leaf : (glyph_of (get_or items i d) ≡ sign m.Open → ⊥) → (glyph_of (get_or items i d) ≡ sign m.Close → ⊥) → us ≡ ts ++ leaf tt ∷ [] → rest ≡ stack → read_on (glyphs_of (drop (i + 1) items)) us (turned rest []) ≡ read_on (glyphs_of items) [] []
  after_leaf no_open no_close trees around =
      ap (λ (vs : List Topology). read_on (glyphs_of (drop (i + 1) items)) vs (turned rest [])) trees
      ∙ ap (λ (vs : List (List Topology)). read_on (glyphs_of (drop (i + 1) items)) (ts ++ leaf tt ∷ []) (turned vs [])) around
      ∙ leaf_step (glyph_of (get_or items i d)) (glyphs_of (drop (i + 1) items)) ts (turned stack []) t no_open no_close here
      ∙ sym reads
