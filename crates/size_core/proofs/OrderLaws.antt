-- The order of the nodes that have a push.
use Rattle.size_core.proofs.Prelude.{◌≡◌, ◌∙◌, ℕ, length, sym, ap, List, arith, ◌<◌, ◌≤◌, Some, [], refl, ◌∷◌, Option, ◌++◌, suc, zero, map, Bool, false, true, nat_lt, take, cond, unwrap_or, Address, Uses, address_in, Keys, addresses, figures_of, lines_of, line_with, line_if, Line, with_pushes, Use}

-- uses by index are those by address
abbrev pub ArePushesAt : Keys → Uses → (Address → Use) → Type 0
ArePushesAt known uses at = (i : ℕ) (b : Address) → address_in known i ≡ Some b → (uses i).pushes ≡ (at b).pushes

-- the address at an index
abbrev address_or : Keys → ℕ → Address
address_or known i = unwrap_or (address_in known i) []

there : (known : Keys) (i : ℕ) → i < length known → address_in known i ≡ Some (address_or known i)
there [] i l = absurd (omega (arith, l))
there (x ∷ known) zero l = refl
there (x ∷ known) (suc i) l = there known i (omega (arith, l))

next : (known : Keys) (i : ℕ) → i < length known → take (suc i) (addresses known) ≡ take i (addresses known) ++ address_or known i ∷ []
next [] i l = absurd (omega (arith, l))
next (x ∷ known) zero l = refl
next (x ∷ known) (suc i) l = ap (λ (z : List Address). x.items ∷ z) (next known i (omega (arith, l)))

whole : (known : Keys) → take (length known) (addresses known) ≡ addresses known
whole [] = refl
whole (x ∷ known) = ap (λ (z : List Address). x.items ∷ z) (whole known)

with_pushes-more : (at : Address → Use) (bs : List Address) (b : Address) → with_pushes at (bs ++ b ∷ []) ≡ with_pushes at bs ++ cond (nat_lt 0 (at b).pushes) (b ∷ []) []
with_pushes-more at [] b = refl
with_pushes-more at (c ∷ bs) b = ap (λ (z : List Address). cond (nat_lt 0 (at c).pushes) (c ∷ z) z) (with_pushes-more at bs b) ∙ either (nat_lt 0 (at c).pushes)
  where
    either : (t : Bool) → cond t (c ∷ with_pushes at bs ++ cond (nat_lt 0 (at b).pushes) (b ∷ []) []) (with_pushes at bs ++ cond (nat_lt 0 (at b).pushes) (b ∷ []) [])
        ≡ cond t (c ∷ with_pushes at bs) (with_pushes at bs) ++ cond (nat_lt 0 (at b).pushes) (b ∷ []) []
    either true = refl
    either false = refl

append-lines : (ns ms : List Line) → map (λ (n : Line). n.address) (ns ++ ms) ≡ map (λ (n : Line). n.address) ns ++ map (λ (n : Line). n.address) ms
append-lines [] ms = refl
append-lines (n ∷ ns) ms = ap (λ (z : List Address). n.address ∷ z) (append-lines ns ms)

address_if : (t : Bool) (n : Line) → map (λ (m : Line). m.address) (line_if t n) ≡ cond t (n.address ∷ []) []
address_if true n = refl
address_if false n = refl

first_lines : (known : Keys) (names : List (Option (List ℕ))) (uses : Uses) (at : Address → Use) → ArePushesAt known uses at → (i : ℕ) → i ≤ length known
    → map (λ (n : Line). n.address) (lines_of known names uses i) ≡ with_pushes at (take i (addresses known))
first_lines known names uses at same zero l = refl
first_lines known names uses at same (suc i) l =
    let b = address_or known i in
    let less : i < length known = omega (arith, l) in
    let pushes : (uses i).pushes ≡ (at b).pushes = same i b (there known i less) in
    append-lines (lines_of known names uses i) (line_if (nat_lt 0 (uses i).pushes) (line_with known names i (figures_of (uses i))))
    ∙ ap (λ (z : List Address). z ++ map (λ (n : Line). n.address) (line_if (nat_lt 0 (uses i).pushes) (line_with known names i (figures_of (uses i))))) (first_lines known names uses at same i (omega (arith, less)))
    ∙ ap (λ (z : List Address). with_pushes at (take i (addresses known)) ++ z) (address_if (nat_lt 0 (uses i).pushes) (line_with known names i (figures_of (uses i))) ∙ ap (λ (k : ℕ). cond (nat_lt 0 k) (b ∷ []) []) pushes)
    ∙ sym (with_pushes-more at (take i (addresses known)) b)
    ∙ ap (with_pushes at) (sym (next known i less))

-- the lines have the addresses with a push, in their order
pub lines-in-order : (known : Keys) (names : List (Option (List ℕ))) (uses : Uses) (at : Address → Use) (count : ℕ) → ArePushesAt known uses at → count ≡ length known
    → map (λ (n : Line). n.address) (lines_of known names uses count) ≡ with_pushes at (addresses known)
lines-in-order known names uses at count same e =
    ap (λ (k : ℕ). map (λ (n : Line). n.address) (lines_of known names uses k)) e
    ∙ first_lines known names uses at same (length known) (let l : length known ≤ length known = omega arith in l)
    ∙ ap (with_pushes at) (whole known)
