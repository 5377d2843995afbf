-- How a walk from the root to a leaf goes down the levels.
use Rattle.fabric_core.proofs.Prelude.{ℕ, arith, ◌≡◌, List, ◌+◌, [], length, sym, ap, get_or, ◌∙◌, subst, ◌<◌, ◌∷◌, ◌*◌, ◌≤◌, refl, drop, ◌-◌, suc, zero, mul-le-mul_left, drop_more, IsLeafAddress, nodes}
use Rattle.fabric_core.specs.Children.{inner_nodes, first_child}
use Rattle.fabric_core.proofs.ArrayReads.{child_place, next_nodes, place_within, some_nodes}
use Rattle.fabric_core.proofs.ChildSteps.{IsLevel, next_level, inner_here, first_here}

-- the node that the walk has reached, in an array of `count` nodes
pub record IsAt (arities : List ℕ) (count level begin width place : ℕ) : Type 0 where
  pub within : place < width
  pub counted : begin + width * nodes (drop level arities) ≡ count
  pub children : IsLevel arities level begin width

pub at_index : (arities : List ℕ) (count level begin width place : ℕ) → IsAt arities count level begin width place → begin + place < count
at_index arities count level begin width place s = place_within (drop level arities) begin width place count s.within (omega (arith, s.counted))

pub at_width : (arities : List ℕ) (count level begin width place : ℕ) → IsAt arities count level begin width place → begin + width ≤ count
at_width arities count level begin width place s = omega (arith, s.counted, mul-le-mul_left width (some_nodes (drop level arities)))

pub at_next : (arities : List ℕ) (count level begin width place : ℕ) → level < length arities → IsAt arities count level begin width place
    → (begin + width) + (width * get_or arities level 0) * nodes (drop (level + 1) arities) ≡ count
at_next arities count level begin width place l s =
    sym (next_nodes (drop (level + 1) arities) (get_or arities level 0) begin width)
    ∙ subst (λ (z : List ℕ). begin + width * nodes z ≡ count) (drop_more arities level 0 l) s.counted

pub at_child_width : (arities : List ℕ) (count level begin width place : ℕ) → level < length arities → IsAt arities count level begin width place → begin + width + width * get_or arities level 0 ≤ count
at_child_width arities count level begin width place l s =
    omega (arith, at_next arities count level begin width place l s, mul-le-mul_left (width * get_or arities level 0) (some_nodes (drop (level + 1) arities)))

pub at_child_place : (arities : List ℕ) (count level begin width place x : ℕ) → level < length arities → x < get_or arities level 0 → IsAt arities count level begin width place → place * get_or arities level 0 + x < count
at_child_place arities count level begin width place x l m s =
    omega (arith, at_child_width arities count level begin width place l s, child_place place (get_or arities level 0) x width s.within m)

pub at_child : (arities : List ℕ) (count level begin width place x : ℕ) → level < length arities → x < get_or arities level 0 → IsAt arities count level begin width place
    → IsAt arities count (level + 1) (begin + width) (width * get_or arities level 0) (place * get_or arities level 0 + x)
at_child arities count level begin width place x l m s = record {
  within = child_place place (get_or arities level 0) x width s.within m;
  counted = at_next arities count level begin width place l s;
  children = next_level arities level begin width l s.children;
}

pub at_inner : (arities : List ℕ) (count level begin width place : ℕ) → level < length arities → IsAt arities count level begin width place → begin + place < inner_nodes arities 0 1
at_inner arities count level begin width place l s = omega (arith, s.within, inner_here arities level begin width l s.children)

pub at_next_node : (arities : List ℕ) (count level begin width place x node child : ℕ) → level < length arities → IsAt arities count level begin width place → node ≡ begin + place
    → child ≡ first_child arities 0 1 node + x → child ≡ (begin + width) + (place * get_or arities level 0 + x)
at_next_node arities count level begin width place x node child l s at made =
    let first : first_child arities 0 1 node ≡ (begin + width) + (node - begin) * get_or arities level 0
    = first_here arities level begin width l s.children node (omega (arith, at)) (omega (arith, at, s.within)) in
    let back : node - begin ≡ place = omega (arith, at) in
    made ∙ ap (λ (z : ℕ). z + x) (first ∙ ap (λ (z : ℕ). (begin + width) + z * get_or arities level 0) back) ∙ omega arith

-- ---- the address of a leaf, from a level on
pub leaf_length : (arities digits : List ℕ) → IsLeafAddress arities digits → length digits ≡ length arities
leaf_length [] [] l = refl
leaf_length [] (x ∷ a) l = absurd l
leaf_length (d ∷ arities) [] l = absurd l
leaf_length (d ∷ arities) (x ∷ a) l = ap (λ (n : ℕ). suc n) (leaf_length arities a l.1)

pub leaf_from : (level : ℕ) (arities digits : List ℕ) → IsLeafAddress arities digits → IsLeafAddress (drop level arities) (drop level digits)
leaf_from zero arities digits l = l
leaf_from (suc n) [] [] l = tt
leaf_from (suc n) [] (x ∷ a) l = absurd l
leaf_from (suc n) (d ∷ arities) [] l = absurd l
leaf_from (suc n) (d ∷ arities) (x ∷ a) l = leaf_from n arities a l.1

pub digit_below : (level : ℕ) (arities digits : List ℕ) → IsLeafAddress arities digits → level < length digits → get_or digits level 0 < get_or arities level 0
digit_below level [] [] l m = absurd (omega arith)
digit_below level [] (x ∷ a) l m = absurd l
digit_below level (d ∷ arities) [] l m = absurd l
digit_below zero (d ∷ arities) (x ∷ a) l m = l.0
digit_below (suc n) (d ∷ arities) (x ∷ a) l m = digit_below n arities a l.1 (omega arith)
