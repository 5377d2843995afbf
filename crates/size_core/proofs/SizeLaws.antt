-- The sizes of nodes, one by one.
use Rattle.size_core.proofs.Prelude.{◌≡◌, ◌∙◌, ℕ, length, sym, ap, List, arith, subst, ◌+◌, ◌<◌, ◌≤◌, IfSome, [], refl, ◌∷◌, Option, ◌++◌, suc, zero, get_or, nat_lt, ◌≢◌, set, slice_get, Uses, Keys, figures_of, lines_of, line_with, line_if, Line, Has, HaveUses}
use Rattle.size_core.specs.declared.node.Node.{Node}
use Rattle.size_core.specs.declared.node.Figures.{Figures}

-- the items from an index on are those of another list
abbrev pub IsSameFrom : ℕ → List Node → List Node → Type 0
IsSameFrom k xs ys = (j : ℕ) → k ≤ j → slice_get xs j ≡ slice_get ys j

pub same_from-set : (xs ys : List Node) (k : ℕ) (x : Node) → IsSameFrom k xs ys → IsSameFrom (k + 1) (set xs k x) ys
same_from-set xs ys k x same j l = other xs k j x (λ e. omega (arith, l, e)) ∙ same j (omega (arith, l))
  where
    other : (xs : List Node) (k j : ℕ) (x : Node) → j ≢ k → slice_get (set xs k x) j ≡ slice_get xs j
    other [] k j x ne = refl
    other (y ∷ xs) zero zero x ne = absurd (ne refl)
    other (y ∷ xs) zero (suc j) x ne = refl
    other (y ∷ xs) (suc k) zero x ne = refl
    other (y ∷ xs) (suc k) (suc j) x ne = other xs k j x (λ e. ne (ap suc e))

at_index : (nodes : List Node) (i : ℕ) (n : Node) (P : Node → Type 0) → i < length nodes → n ≡ get_or nodes i n → IfSome (slice_get nodes i) P → P n
at_index [] i n P l e h = absurd (omega (arith, l))
at_index (m ∷ nodes) zero n P l e h = subst P (sym e) h
at_index (m ∷ nodes) (suc i) n P l e h = at_index nodes i n P (omega (arith, l)) e h

pub has_use : (xs ys : List Node) (k : ℕ) (n : Node) (uses : Uses) → IsSameFrom k xs ys → HaveUses ys uses → k < length xs → n ≡ get_or xs k n → Has n (uses k)
has_use xs ys k n uses same have l e = at_index xs k n (λ n. Has n (uses k)) l e (subst (λ o. IfSome o (λ n. Has n (uses k))) (sym (same k (omega arith))) (have k))

pub one_more : (known : Keys) (names : List (Option (List ℕ))) (uses : Uses) (i : ℕ) (before after : List Line) (f : Figures) → before ≡ lines_of known names uses i → f ≡ figures_of (uses i)
    → after ≡ before ++ line_if (nat_lt 0 f.pushes) (line_with known names i f) → after ≡ lines_of known names uses (i + 1)
one_more known names uses i before after f are is e =
    subst (λ (k : ℕ). after ≡ lines_of known names uses k) (let n : suc i ≡ i + 1 = omega arith in n)
    (e ∙ ap (λ (z : List Line). z ++ line_if (nat_lt 0 f.pushes) (line_with known names i f)) are
    ∙ ap (λ (g : Figures). lines_of known names uses i ++ line_if (nat_lt 0 g.pushes) (line_with known names i g)) is)
