-- The pushes that spill at a node of a fabric.
use Rattle.block_core.proofs.Prelude.{arith, ◌≡◌, sym, length, subst, ℕ, ◌∙◌, ap, [], refl, List, ◌<◌, ◌∷◌, suc, zero, inl, inr, ◌-◌, eqb, ltb, ◌&&◌, Bool, ◌||◌, cases_lt, le-ltb, lt-ltb, IsLeafAddress, nodes, NamesBelow, Queue, spills_in, flow_of}
use Rattle.embed_defs.specs.Spills.{spills_for, spills_at_leaf}

-- a value below the number of flows has its own
own_flow : (flows value : ℕ) → value < flows → flow_of flows value ≡ value
own_flow flows value l =
    elim (cases_lt value (flows - 1)) [
      | inl k ↦ rw (lt-ltb value (flows - 1) k) refl
      | inr k ↦ rw (le-ltb value (flows - 1) k) (omega (arith, l, k))
    ]

one_flow : (value : ℕ) → flow_of 1 value ≡ 0
one_flow value = rw (le-ltb value 0 (omega arith)) refl

pub spills_at_inner_node : (flows rank value : ℕ) (q : Queue) → NamesBelow flows q → value < flows → spills_in flows rank value q ≡ spills_for rank value q
spills_at_inner_node flows rank value [] n l = refl
spills_at_inner_node flows rank value (e ∷ q) n l =
    ap (λ (z : ℕ). (eqb z (flow_of flows value) && ltb rank e.0) || spills_in flows rank value q) (own_flow flows e.1 n.0)
    ∙ ap (λ (z : ℕ). (eqb e.1 z && ltb rank e.0) || spills_in flows rank value q) (own_flow flows value l)
    ∙ ap (λ (b : Bool). (eqb e.1 value && ltb rank e.0) || b) (spills_at_inner_node flows rank value q n.1 l)

spills_of_one : (rank value : ℕ) (q : Queue) → spills_in 1 rank value q ≡ spills_at_leaf rank q
spills_of_one rank value [] = refl
spills_of_one rank value (e ∷ q) =
    ap (λ (z : ℕ). (eqb z (flow_of 1 value) && ltb rank e.0) || spills_in 1 rank value q) (one_flow e.1)
    ∙ ap (λ (z : ℕ). (eqb 0 z && ltb rank e.0) || spills_in 1 rank value q) (one_flow value)
    ∙ ap (λ (b : Bool). ltb rank e.0 || b) (spills_of_one rank value q)

pub spills_at_one_flow : (flows rank value : ℕ) (q : Queue) → flows ≡ 1 → spills_in flows rank value q ≡ spills_at_leaf rank q
spills_at_one_flow flows rank value q e = subst (λ (z : ℕ). spills_in z rank value q ≡ spills_at_leaf rank q) (sym e) (spills_of_one rank value q)

-- ---- the greatest number of spills
pub fewer_levels : (arities : List ℕ) (digits : List ℕ) → IsLeafAddress arities digits → length digits < nodes arities
fewer_levels [] [] l = omega arith
fewer_levels [] (x ∷ a) l = absurd l
fewer_levels (d ∷ arities) [] l = absurd l
fewer_levels (zero ∷ arities) (x ∷ a) l = absurd (omega (arith, l.0))
fewer_levels (suc d ∷ arities) (x ∷ a) l = omega (arith, fewer_levels arities a l.1)
