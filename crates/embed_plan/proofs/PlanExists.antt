-- A policy and a target have a plan.
use Rattle.embed_plan.proofs.Prelude.{◌++◌, ◌∙◌, ◌≡◌, List, sym, ℕ, length, refl, arith, false, inl, inr, subst, true, ◌-◌, topologies_have_one_need-holds, HasEmbedding, image_map, levels, down_from, complete, topology_of, least_line, map_lines, no_room, placed}
use Rattle.embed_defs.specs.Laws.{AreWide}
use Rattle.embed_defs.proofs.RoomOrNone.{there_or_none}
use Rattle.embed_defs.proofs.LevelLaws.{heights_give-holds, heights_in_range-holds}
use Rattle.embed_plan.specs.Laws.{PoliciesHaveAPlan}

-- counted by height, all levels are the target
pub all_levels : (arities : List ℕ) (above : ℕ) → down_from (levels arities above) (length arities) ≡ arities
all_levels arities above =
    let none : length arities - length arities ≡ 0 = omega arith in
    heights_give-holds arities above (length arities) ∙ rw none refl

pub a_plan : PoliciesHaveAPlan
a_plan policy arities above range =
    let wide : AreWide (levels arities above) = λ h. (heights_in_range-holds arities above range h).0 in
    let need = topologies_have_one_need-holds.some (levels arities above) (topology_of policy.tree) wide in
    elim (there_or_none (levels arities above) (length arities) (topology_of policy.tree) wide) [
      | inl (images, canonical, embeds) ↦ (
        true,
        (
          least_line need.0 ++ map_lines policy images,
          placed need.0 images need.1
              (subst (λ (ds : List ℕ). HasEmbedding (topology_of policy.tree) (complete ds)) (all_levels arities above) (image_map images, embeds)) canonical,
        ),
      )
      | inr none ↦ (
        false,
        (
          least_line need.0,
          no_room need.0 need.1
              (λ has. none (subst (λ (ds : List ℕ). HasEmbedding (topology_of policy.tree) (complete ds)) (sym (all_levels arities above)) has)),
        ),
      )
    ]
