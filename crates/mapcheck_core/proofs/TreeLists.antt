-- One more tree in a list of trees.
use Rattle.mapcheck_core.proofs.Prelude.{◌≡◌, sym, List, ℕ, ◌∙◌, ap, [], refl, arith, ◌∷◌, ◌+◌, ◌++◌, append_assoc, max, append-nil, Glyph, Topology, IsBranched, AreBranched, nodes, trees_of, more, nodes_below, none, Trees, depth, depth_below, written, written_all}

-- the children in order
abbrev pub list_of : Trees (Unit {0}) → List Topology
list_of none = []
list_of (more t ts) = t ∷ list_of ts

pub trees_of-list_of : (ts : Trees (Unit {0})) → trees_of (list_of ts) ≡ ts
trees_of-list_of none = refl
trees_of-list_of (more t ts) = ap (more t) (trees_of-list_of ts)

-- the written form of trees, with one more tree
pub written-push : (ts : List Topology) (u : Topology) (rest : List Glyph) → written_all (trees_of (ts ++ u ∷ [])) ++ rest ≡ written_all (trees_of ts) ++ (written u ++ rest)
written-push [] u rest = ap (λ (gs : List Glyph). gs ++ rest) (append-nil (written u))
written-push (t ∷ ts) u rest =
    append_assoc (written t) (written_all (trees_of (ts ++ u ∷ []))) rest
    ∙ ap (λ (gs : List Glyph). written t ++ gs) (written-push ts u rest)
    ∙ sym (append_assoc (written t) (written_all (trees_of ts)) (written u ++ rest))

pub branched-push : (ts : List Topology) (u : Topology) → AreBranched (trees_of ts) → IsBranched u → AreBranched (trees_of (ts ++ u ∷ []))
branched-push [] u b c = (c, tt)
branched-push (t ∷ ts) u b c = (b.0, branched-push ts u b.1 c)

pub nodes-push : (ts : List Topology) (u : Topology) → nodes_below (trees_of (ts ++ u ∷ [])) ≡ nodes_below (trees_of ts) + nodes u
nodes-push [] u = omega arith
nodes-push (t ∷ ts) u = let ih = nodes-push ts u in omega arith

-- the greatest depth of trees whose roots are at a level
abbrev pub lowest : ℕ → List Topology → ℕ
lowest k [] = 0
lowest k (t ∷ ts) = max (k + depth t) (lowest k ts)

pub lowest-push : (k : ℕ) (ts : List Topology) (u : Topology) → lowest k (ts ++ u ∷ []) ≡ max (lowest k ts) (k + depth u)
lowest-push k [] u = omega arith
lowest-push k (t ∷ ts) u = let ih = lowest-push k ts u in omega arith

pub lowest-below : (k : ℕ) (t : Topology) (ts : List Topology) → lowest (k + 1) (t ∷ ts) ≡ k + depth_below (trees_of (t ∷ ts))
lowest-below k t [] = omega arith
lowest-below k t (u ∷ ts) = let ih = lowest-below k u ts in omega arith
