-- Facts about the arities of a target in range, by height.
use Rattle.embed_core.proofs.Prelude.{◌≡◌, length, arith, sym, ◌∙◌, List, subst, ℕ, refl, ◌≤◌, ◌-◌, wide-positive, ArePositive, HasEmbedding, AreWide, down_from, IsLeast, Topology, complete, levels_of}
use Rattle.embed_defs.specs.Target.{lowest}
use Rattle.embed_defs.proofs.LevelLaws.{heights_give-holds, heights_in_range-holds}
use Rattle.target_core.specs.declared.target.Target.{Target}
use Rattle.embed_defs.specs.Target.{IsInRange}

pub wide : (t : Target) → IsInRange t.arities t.above → AreWide (levels_of t)
wide t r h = (heights_in_range-holds t.arities t.above r h).0

pub narrow : (t : Target) → IsInRange t.arities t.above → (h : ℕ) → levels_of t h ≤ 64
narrow t r h = (heights_in_range-holds t.arities t.above r h).1

pub positive : (t : Target) → IsInRange t.arities t.above → ArePositive (levels_of t)
positive t r = wide-positive (levels_of t) (wide t r)

pub own_levels : (t : Target) → down_from (levels_of t) (length t.arities) ≡ t.arities
own_levels t =
    let all : length t.arities - length t.arities ≡ 0 = omega arith in
    heights_give-holds t.arities t.above (length t.arities) ∙ rw all refl

-- the least height in the target's levels, stated for the lists of its lowest levels
pub least_of_levels : (s : Topology) (t : Target) (n : ℕ) → IsLeast (λ h. HasEmbedding s (complete (down_from (levels_of t) h))) n → IsLeast (λ h. HasEmbedding s (complete (lowest t.arities t.above h))) n
least_of_levels s t n l = record {
  holds = subst (λ (ds : List ℕ). HasEmbedding s (complete ds)) (heights_give-holds t.arities t.above n) l.holds;
  least = λ h e. l.least h (subst (λ (ds : List ℕ). HasEmbedding s (complete ds)) (sym (heights_give-holds t.arities t.above h)) e);
}
