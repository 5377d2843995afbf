-- The written form of a tree reads as that tree, and nothing else reads as it.
use Rattle.mapcheck_core.proofs.Prelude.{◌≡◌, sym, List, ℕ, subst, ◌∙◌, ap, [], refl, ◌∷◌, None, Some, false, true, ◌++◌, Option, Bool, append_assoc, if◌then◌else◌, ◌&&◌, and_parts, append-nil, bytes_eq-Decides, codes, bytes_eq, Glyph, text, figure, sign, Topology, IsBranched, AreBranched, inner, trees_of, more, none, Trees, read_on, may_stand, written, written_all}
use Rattle.text_core.specs.declared.mark.Mark.TheVariants as m
use Rattle.tree_defs.specs.Tree.{leaf}
use Rattle.mapcheck_core.proofs.TreeLists.{list_of, trees_of-list_of, written-push, branched-push}

mutual
  pub read-tree : (t : Topology) → IsBranched t → (gs : List Glyph) (ts : List Topology) (outer : List (List Topology)) → may_stand ts outer ≡ true → read_on (written t ++ gs) ts outer ≡ read_on gs (ts ++ t ∷ []) outer
  read-tree (leaf u) b gs ts outer fits = rw fits refl
  read-tree (inner u none) b gs ts outer fits = absurd b
  read-tree (inner u (more t us)) b gs ts outer fits =
      let all = written t ++ written_all us in
      let behind : read_on ((all ++ sign m.Close ∷ []) ++ gs) [] (ts ∷ outer) ≡ read_on (all ++ sign m.Close ∷ gs) [] (ts ∷ outer) = ap (λ (hs : List Glyph). read_on hs [] (ts ∷ outer)) (append_assoc all (sign m.Close ∷ []) gs) in
      let children = read-trees (more t us) b (sign m.Close ∷ gs) [] ts outer in
      let node = ap (λ (vs : Trees (Unit {0})). read_on gs (ts ++ inner u vs ∷ []) outer) (trees_of-list_of (more t us)) in
      rw fits (behind ∙ children ∙ node)

  pub read-trees : (us : Trees (Unit {0})) → AreBranched us → (gs : List Glyph) (ts around : List Topology) (outer : List (List Topology)) → read_on (written_all us ++ gs) ts (around ∷ outer) ≡ read_on gs (ts ++ list_of us) (around ∷ outer)
  read-trees none b gs ts around outer = ap (λ (vs : List Topology). read_on gs vs (around ∷ outer)) (sym (append-nil ts))
  read-trees (more t us) b gs ts around outer =
      ap (λ (hs : List Glyph). read_on hs ts (around ∷ outer)) (append_assoc (written t) (written_all us) gs)
      ∙ read-tree t b.0 (written_all us ++ gs) ts (around ∷ outer) refl
      ∙ read-trees us b.1 gs (ts ++ t ∷ []) around outer
      ∙ ap (λ (vs : List Topology). read_on gs vs (around ∷ outer)) (append_assoc ts (t ∷ []) (list_of us))

-- the written form of a tree reads as the tree
pub read-written : (t : Topology) → IsBranched t → read_on (written t) [] [] ≡ Some t
read-written t b = ap (λ (gs : List Glyph). read_on gs [] []) (sym (append-nil (written t))) ∙ read-tree t b [] [] [] refl

-- the glyphs written before the rest, given the trees read so far
abbrev pub before : List Topology → List (List Topology) → List Glyph → List Glyph
before ts [] rest = written_all (trees_of ts) ++ rest
before ts (around ∷ outer) rest = before around outer (sign m.Open ∷ (written_all (trees_of ts) ++ rest))

abbrev pub AreBranchedAll : List (List Topology) → Type 0
AreBranchedAll [] = Unit {0}
AreBranchedAll (ts ∷ outer) = AreBranched (trees_of ts) × AreBranchedAll outer

before-push : (ts : List Topology) (u : Topology) (outer : List (List Topology)) (rest : List Glyph) → before (ts ++ u ∷ []) outer rest ≡ before ts outer (written u ++ rest)
before-push ts u [] rest = written-push ts u rest
before-push ts u (around ∷ outer) rest = ap (λ (gs : List Glyph). before around outer (sign m.Open ∷ gs)) (written-push ts u rest)

-- the glyphs are the written form of the tree, whose inner nodes have children
abbrev IsWhole : List Topology → List (List Topology) → List Glyph → Topology → Type 0
IsWhole ts outer gs t = (before ts outer gs ≡ written t) × IsBranched t

when_true : (b : Bool) (o : Option Topology) (t : Topology) → (if b then o else None) ≡ Some t → (b ≡ true) × (o ≡ Some t)
when_true true o t e = (refl, e)
when_true false o t e = absurd cc

read-whole : (gs : List Glyph) (ts : List Topology) (outer : List (List Topology)) (t : Topology) → AreBranched (trees_of ts) → AreBranchedAll outer → read_on gs ts outer ≡ Some t → IsWhole ts outer gs t
read-whole [] [] outer t b c e = absurd cc
read-whole [] (u ∷ []) [] t b c e =
    let same : u ≡ t = cc in
    (append-nil (written u ++ []) ∙ append-nil (written u) ∙ ap written same, subst IsBranched same b.0)
read-whole [] (u ∷ []) (around ∷ outer) t b c e = absurd cc
read-whole [] (u ∷ v ∷ ts) outer t b c e = absurd cc
read-whole (text w ∷ gs) ts outer t b c e =
    let both = when_true (bytes_eq w (codes "leaf") && may_stand ts outer) (read_on gs (ts ++ leaf tt ∷ []) outer) t e in
    let tests = and_parts (bytes_eq w (codes "leaf")) (may_stand ts outer) both.0 in
    let word : w ≡ codes "leaf" = (bytes_eq-Decides w (codes "leaf")).0 tests.0 in
    let rest = read-whole gs (ts ++ leaf tt ∷ []) outer t (branched-push ts (leaf tt) b tt) c both.1 in
    (ap (λ (v : List ℕ). before ts outer (text v ∷ gs)) word ∙ sym (before-push ts (leaf tt) outer gs) ∙ rest.0, rest.1)
read-whole (figure n ∷ gs) ts outer t b c e = absurd cc
read-whole (sign m.Open ∷ gs) ts outer t b c e =
    let both = when_true (may_stand ts outer) (read_on gs [] (ts ∷ outer)) t e in
    read-whole gs [] (ts ∷ outer) t tt (b, c) both.1
read-whole (sign m.Close ∷ gs) [] outer t b c e = absurd cc
read-whole (sign m.Close ∷ gs) (u ∷ us) [] t b c e = absurd cc
read-whole (sign m.Close ∷ gs) (u ∷ us) (around ∷ outer) t b c e =
    let node : Topology = inner tt (trees_of (u ∷ us)) in
    let rest = read-whole gs (around ++ node ∷ []) outer t (branched-push around node c.0 b) c.1 e in
    (ap (λ (hs : List Glyph). before around outer (sign m.Open ∷ hs)) (sym (append_assoc (written_all (trees_of (u ∷ us))) (sign m.Close ∷ []) gs)) ∙ sym (before-push around node outer gs) ∙ rest.0, rest.1)
read-whole (sign m.DotDot ∷ gs) ts outer t b c e = absurd cc
read-whole (sign m.Dot ∷ gs) ts outer t b c e = absurd cc
read-whole (sign m.Slash ∷ gs) ts outer t b c e = absurd cc
read-whole (sign m.Plus ∷ gs) ts outer t b c e = absurd cc
read-whole (sign m.Minus ∷ gs) ts outer t b c e = absurd cc
read-whole (sign m.Star ∷ gs) ts outer t b c e = absurd cc
read-whole (sign m.Comma ∷ gs) ts outer t b c e = absurd cc
read-whole (sign m.Is ∷ gs) ts outer t b c e = absurd cc
read-whole (sign m.Equal ∷ gs) ts outer t b c e = absurd cc
read-whole (sign m.NotEqual ∷ gs) ts outer t b c e = absurd cc
read-whole (sign m.Less ∷ gs) ts outer t b c e = absurd cc
read-whole (sign m.LessEq ∷ gs) ts outer t b c e = absurd cc
read-whole (sign m.More ∷ gs) ts outer t b c e = absurd cc
read-whole (sign m.MoreEq ∷ gs) ts outer t b c e = absurd cc
read-whole (sign m.OpenBrace ∷ gs) ts outer t b c e = absurd cc
read-whole (sign m.CloseBrace ∷ gs) ts outer t b c e = absurd cc

-- glyphs that read as a tree are its written form
pub read-is_written : (gs : List Glyph) (t : Topology) → read_on gs [] [] ≡ Some t → (gs ≡ written t) × IsBranched t
read-is_written gs t e = read-whole gs [] [] t tt tt e
