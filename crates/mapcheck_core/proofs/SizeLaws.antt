-- The counts kept for the open nodes give the size of the tree that is read.
use Rattle.mapcheck_core.proofs.Prelude.{◌≡◌, sym, List, ℕ, subst, ◌∙◌, ap, [], refl, arith, ◌∷◌, None, ◌+◌, Some, false, length, true, ◌≤◌, ◌++◌, Option, Bool, suc, option_map, if◌then◌else◌, ◌&&◌, max, not, ◌||◌, nat_eq, nat_lt, and_parts, lt-ltb, eqb-true, false_from_ne_true, codes, bytes_eq, Glyph, text, figure, sign, Topology, nodes, inner, trees_of, nodes_below, depth, option_bind, read_on, may_stand, measured, walk, closed, may_begin, opened, stands, when, whole, with_leaf, Nest}
use Rattle.text_core.specs.declared.mark.Mark.TheVariants as m
use Rattle.tree_defs.specs.Tree.{leaf}
use Rattle.mapcheck_core.proofs.TreeLists.{nodes-push, lowest, lowest-push, lowest-below}

-- the state after one whole tree
abbrev pub size_of : Topology → Nest
size_of t = record { unclosed = 0; filled = true; nodes = nodes t; levels = depth t }

abbrev nodes_in : List Topology → List (List Topology) → ℕ
nodes_in ts [] = nodes_below (trees_of ts)
nodes_in ts (around ∷ outer) = nodes_below (trees_of ts) + 1 + nodes_in around outer

abbrev levels_in : List Topology → List (List Topology) → ℕ
levels_in ts [] = lowest 0 ts
levels_in ts (around ∷ outer) = max (lowest (length outer + 1) ts) (levels_in around outer)

-- the counts, given the trees read so far
abbrev nest_of : List Topology → List (List Topology) → Nest
nest_of ts outer = record { unclosed = length outer; filled = stands ts; nodes = nodes_in ts outer; levels = levels_in ts outer }

nodes_in-push : (ts : List Topology) (u : Topology) (outer : List (List Topology)) → nodes_in (ts ++ u ∷ []) outer ≡ nodes_in ts outer + nodes u
nodes_in-push ts u [] = nodes-push ts u
nodes_in-push ts u (around ∷ outer) = let push = nodes-push ts u in omega arith

levels_in-push : (ts : List Topology) (u : Topology) (outer : List (List Topology)) → levels_in (ts ++ u ∷ []) outer ≡ max (levels_in ts outer) (length outer + depth u)
levels_in-push ts u [] = lowest-push 0 ts u
levels_in-push ts u (around ∷ outer) = let push = lowest-push (length outer + 1) ts u in omega arith

stands-push : (ts : List Topology) (u : Topology) → stands (ts ++ u ∷ []) ≡ true
stands-push [] u = refl
stands-push (t ∷ ts) u = refl

abbrev nest : ℕ → Bool → ℕ → ℕ → Nest
nest u f n l = record { unclosed = u; filled = f; nodes = n; levels = l }

same_nest : (s t : Nest) → s.unclosed ≡ t.unclosed → s.filled ≡ t.filled → s.nodes ≡ t.nodes → s.levels ≡ t.levels → s ≡ t
same_nest s t a b c d =
    ap (λ (u : ℕ). nest u s.filled s.nodes s.levels) a
    ∙ ap (λ (f : Bool). nest t.unclosed f s.nodes s.levels) b
    ∙ ap (λ (n : ℕ). nest t.unclosed t.filled n s.levels) c
    ∙ ap (λ (l : ℕ). nest t.unclosed t.filled t.nodes l) d

some_open : (n : ℕ) → nat_lt 0 (suc n) ≡ true
some_open n = lt-ltb 0 (suc n) (omega arith)

not_none_open : (n : ℕ) → nat_eq (suc n) 0 ≡ false
not_none_open n = false_from_ne_true (nat_eq (suc n) 0) (λ e. let wrong : suc n ≡ 0 = eqb-true (suc n) 0 e in omega arith)

leaf_nest : (ts : List Topology) (outer : List (List Topology)) → with_leaf (nest_of ts outer) ≡ nest_of (ts ++ leaf tt ∷ []) outer
leaf_nest ts outer =
    let node = nodes_in-push ts (leaf tt) outer in
    let level = levels_in-push ts (leaf tt) outer in
    same_nest (with_leaf (nest_of ts outer)) (nest_of (ts ++ leaf tt ∷ []) outer) refl (sym (stands-push ts (leaf tt))) (omega arith) (omega arith)

open_nest : (ts : List Topology) (outer : List (List Topology)) → opened (nest_of ts outer) ≡ nest_of [] (ts ∷ outer)
open_nest ts outer = same_nest (opened (nest_of ts outer)) (nest_of [] (ts ∷ outer)) (omega arith) refl (omega arith) (omega arith)

close_nest : (t : Topology) (ts around : List Topology) (outer : List (List Topology)) → closed (nest_of (t ∷ ts) (around ∷ outer)) ≡ nest_of (around ++ inner tt (trees_of (t ∷ ts)) ∷ []) outer
close_nest t ts around outer =
    let node = nodes_in-push around (inner tt (trees_of (t ∷ ts))) outer in
    let level = levels_in-push around (inner tt (trees_of (t ∷ ts))) outer in
    let below = lowest-below (length outer) t ts in
    same_nest (closed (nest_of (t ∷ ts) (around ∷ outer))) (nest_of (around ++ inner tt (trees_of (t ∷ ts)) ∷ []) outer) (omega arith) (sym (stands-push around (inner tt (trees_of (t ∷ ts))))) (omega arith) (omega arith)

-- no tree has been read outside the open nodes; if none is open, at most one tree has been read
abbrev IsBare : List Topology → List (List Topology) → Type 0
IsBare ts [] = ts ≡ []
IsBare ts (around ∷ outer) = IsBare around outer

abbrev IsOne : List Topology → List (List Topology) → Type 0
IsOne ts [] = length ts ≤ 1
IsOne ts (around ∷ outer) = IsBare around outer

one_leaf : (ts : List Topology) (u : Topology) (outer : List (List Topology)) → may_stand ts outer ≡ true → IsOne ts outer → IsOne (ts ++ u ∷ []) outer
one_leaf [] u [] fits one = omega arith
one_leaf (t ∷ ts) u [] fits one = absurd cc
one_leaf ts u (around ∷ outer) fits one = one

one_open : (ts : List Topology) (outer : List (List Topology)) → may_stand ts outer ≡ true → IsOne ts outer → IsBare ts outer
one_open [] [] fits one = refl
one_open (t ∷ ts) [] fits one = absurd cc
one_open ts (around ∷ outer) fits one = one

one_close : (around : List Topology) (u : Topology) (outer : List (List Topology)) → IsBare around outer → IsOne (around ++ u ∷ []) outer
one_close around u [] bare = subst (λ (ts : List Topology). length (ts ++ u ∷ []) ≤ 1) (sym bare) (omega arith)
one_close around u (further ∷ outer) bare = bare

may_same : (ts : List Topology) (outer : List (List Topology)) → may_begin (nest_of ts outer) ≡ may_stand ts outer
may_same ts [] = refl
may_same ts (around ∷ outer) = ap (λ b. b || not (stands ts)) (some_open (length outer))

-- the counts from here on are the sizes of the tree that is read
abbrev Counts : Nest → List Glyph → Option Topology → Type 0
Counts s gs o = option_bind (walk s gs) whole ≡ option_map size_of o

stepped : (b c : Bool) (s : Nest) (gs : List Glyph) (o : Option Topology) → b ≡ c → (c ≡ true → Counts s gs o) → option_bind (option_bind (when b s) (λ n. walk n gs)) whole ≡ option_map size_of (if c then o else None)
stepped true true s gs o e h = h refl
stepped false false s gs o e h = refl
stepped true false s gs o e h = absurd cc
stepped false true s gs o e h = absurd cc

unfinished : (ts around : List Topology) (outer : List (List Topology)) → whole (nest_of ts (around ∷ outer)) ≡ None
unfinished ts around outer = ap (λ b. when (b && stands ts) (nest_of ts (around ∷ outer))) (not_none_open (length outer))

counts : (gs : List Glyph) (ts : List Topology) (outer : List (List Topology)) → IsOne ts outer → Counts (nest_of ts outer) gs (read_on gs ts outer)
counts [] [] [] one = refl
counts [] (t ∷ []) [] one = ap (λ (s : Nest). Some s) (same_nest (nest_of (t ∷ []) []) (size_of t) refl refl (omega arith) (omega arith))
counts [] (t ∷ u ∷ ts) [] one = absurd (omega arith)
counts [] [] (around ∷ outer) one = unfinished [] around outer
counts [] (t ∷ []) (around ∷ outer) one = unfinished (t ∷ []) around outer
counts [] (t ∷ u ∷ ts) (around ∷ outer) one = unfinished (t ∷ u ∷ ts) around outer
counts (text w ∷ gs) ts outer one =
    stepped (bytes_eq w (codes "leaf") && may_begin (nest_of ts outer)) (bytes_eq w (codes "leaf") && may_stand ts outer) (with_leaf (nest_of ts outer)) gs (read_on gs (ts ++ leaf tt ∷ []) outer)
    (ap (λ b. bytes_eq w (codes "leaf") && b) (may_same ts outer))
    (λ e. ap (λ (s : Nest). option_bind (walk s gs) whole) (leaf_nest ts outer) ∙ counts gs (ts ++ leaf tt ∷ []) outer (one_leaf ts (leaf tt) outer (and_parts (bytes_eq w (codes "leaf")) (may_stand ts outer) e).1 one))
counts (figure n ∷ gs) ts outer one = refl
counts (sign m.Open ∷ gs) ts outer one =
    stepped (may_begin (nest_of ts outer)) (may_stand ts outer) (opened (nest_of ts outer)) gs (read_on gs [] (ts ∷ outer)) (may_same ts outer)
    (λ e. ap (λ (s : Nest). option_bind (walk s gs) whole) (open_nest ts outer) ∙ counts gs [] (ts ∷ outer) (one_open ts outer e one))
counts (sign m.Close ∷ gs) [] [] one = refl
counts (sign m.Close ∷ gs) [] (around ∷ outer) one = ap (λ b. option_bind (option_bind (when (b && false) (closed (nest_of [] (around ∷ outer)))) (λ n. walk n gs)) whole) (some_open (length outer))
counts (sign m.Close ∷ gs) (t ∷ ts) [] one = refl
counts (sign m.Close ∷ gs) (t ∷ ts) (around ∷ outer) one =
    ap (λ b. option_bind (option_bind (when (b && true) (closed (nest_of (t ∷ ts) (around ∷ outer)))) (λ n. walk n gs)) whole) (some_open (length outer))
    ∙ ap (λ (s : Nest). option_bind (walk s gs) whole) (close_nest t ts around outer) ∙ counts gs (around ++ inner tt (trees_of (t ∷ ts)) ∷ []) outer (one_close around (inner tt (trees_of (t ∷ ts))) outer one)
counts (sign m.DotDot ∷ gs) ts outer one = refl
counts (sign m.Dot ∷ gs) ts outer one = refl
counts (sign m.Slash ∷ gs) ts outer one = refl
counts (sign m.Plus ∷ gs) ts outer one = refl
counts (sign m.Minus ∷ gs) ts outer one = refl
counts (sign m.Star ∷ gs) ts outer one = refl
counts (sign m.Comma ∷ gs) ts outer one = refl
counts (sign m.Is ∷ gs) ts outer one = refl
counts (sign m.Equal ∷ gs) ts outer one = refl
counts (sign m.NotEqual ∷ gs) ts outer one = refl
counts (sign m.Less ∷ gs) ts outer one = refl
counts (sign m.LessEq ∷ gs) ts outer one = refl
counts (sign m.More ∷ gs) ts outer one = refl
counts (sign m.MoreEq ∷ gs) ts outer one = refl
counts (sign m.OpenBrace ∷ gs) ts outer one = refl
counts (sign m.CloseBrace ∷ gs) ts outer one = refl

-- the measured size is that of the tree that is read, and there is none if no tree is read
pub measured-is : (gs : List Glyph) → measured gs ≡ option_map size_of (read_on gs [] [])
measured-is gs = counts gs [] [] (omega arith)
