-- How the first children of a level continue those of the levels above it.
use Rattle.fabric_core.proofs.Prelude.{ℕ, arith, ◌≡◌, List, ◌+◌, [], length, sym, ap, get_or, ◌∙◌, ◌<◌, ◌∷◌, ◌*◌, ◌≤◌, refl, drop, ◌-◌, drop_more, drop_all, lt-ltb, le-ltb, inl, inr, cases_lt}
use Rattle.fabric_core.specs.Children.{inner_nodes, first_child, AreFirstChildren}

-- the level that begins at an index and has a width
pub record IsLevel (arities : List ℕ) (level begin width : ℕ) : Type 0 where
  pub inner : inner_nodes arities 0 1 ≡ inner_nodes (drop level arities) begin width
  pub first : (n : ℕ) → begin ≤ n → first_child arities 0 1 n ≡ first_child (drop level arities) begin width n

pub first_level : (arities : List ℕ) → IsLevel arities 0 0 1
first_level arities = record { inner = refl; first = λ n l. refl }

inner_behind : (ar : List ℕ) (begin width : ℕ) → begin ≤ inner_nodes ar begin width
inner_behind [] begin width = omega arith
inner_behind (d ∷ ar) begin width = omega (arith, inner_behind ar (begin + width) (width * d))

child_behind : (d : ℕ) (ar : List ℕ) (begin width n : ℕ) → begin + width ≤ n → first_child (d ∷ ar) begin width n ≡ first_child ar (begin + width) (width * d) n
child_behind d ar begin width n l = rw (le-ltb n (begin + width) l) refl

child_here : (d : ℕ) (ar : List ℕ) (begin width n : ℕ) → n < begin + width → first_child (d ∷ ar) begin width n ≡ (begin + width) + (n - begin) * d
child_here d ar begin width n l = rw (lt-ltb n (begin + width) l) refl

module _ (arities : List ℕ) (level begin width : ℕ) (l : level < length arities) (s : IsLevel arities level begin width) where
  pub next_level : IsLevel arities (level + 1) (begin + width) (width * get_or arities level 0)
  next_level = record {
    inner = s.inner ∙ ap (λ (z : List ℕ). inner_nodes z begin width) (drop_more arities level 0 l);
    first = λ n m. s.first n (omega (arith, m)) ∙ ap (λ (z : List ℕ). first_child z begin width n) (drop_more arities level 0 l) ∙ child_behind (get_or arities level 0) (drop (level + 1) arities) begin width n m;
  }

  pub inner_here : begin + width ≤ inner_nodes arities 0 1
  inner_here = omega (arith, next_level.inner, inner_behind (drop (level + 1) arities) (begin + width) (width * get_or arities level 0))

  pub first_here : (n : ℕ) → begin ≤ n → n < begin + width → first_child arities 0 1 n ≡ (begin + width) + (n - begin) * get_or arities level 0
  first_here n b m = s.first n b ∙ ap (λ (z : List ℕ). first_child z begin width n) (drop_more arities level 0 l) ∙ child_here (get_or arities level 0) (drop (level + 1) arities) begin width n m

  -- the children of this level's nodes are added to those of the levels above
  pub more_children : (old new : List ℕ) → begin ≡ length old → ((n : ℕ) → n < begin → get_or old n 0 ≡ first_child arities 0 1 n)
      → ((n : ℕ) → n < length old → get_or new n 0 ≡ get_or old n 0) → ((place : ℕ) → place < width → get_or new (length old + place) 0 ≡ length old + width + place * get_or arities level 0)
      → (n : ℕ) → n < begin + width → get_or new n 0 ≡ first_child arities 0 1 n
  more_children old new e before kept added n m =
      elim (cases_lt n begin) [
        | inl k ↦ kept n (omega (arith, e, k)) ∙ before n k
        | inr k ↦
            let same : length old + (n - begin) ≡ n = omega (arith, e, k) in
            let gap : length old + width + (n - begin) * get_or arities level 0 ≡ (begin + width) + (n - begin) * get_or arities level 0 = omega (arith, e) in
            ap (λ (z : ℕ). get_or new z 0) (sym same) ∙ added (n - begin) (omega (arith, k, m)) ∙ gap ∙ sym (first_here n k m)
      ]

pub all_children : (arities children : List ℕ) (level begin width : ℕ) → length arities ≤ level → IsLevel arities level begin width → begin ≡ length children
    → ((n : ℕ) → n < begin → get_or children n 0 ≡ first_child arities 0 1 n) → AreFirstChildren arities children
all_children arities children level begin width l s e before = record {
  long = sym (s.inner ∙ ap (λ (z : List ℕ). inner_nodes z begin width) (drop_all level arities l) ∙ e);
  first = λ n m. before n (omega (arith, m, e));
}
