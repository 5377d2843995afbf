-- There is only one plan: one least height, one canonical placement, and either room or no room.
use Rattle.embed_plan.proofs.Prelude.{◌++◌, ◌∙◌, ◌≡◌, List, ap, ℕ, length, refl, Bool, topologies_have_one_need-holds, canonical_placements_are_one-holds, levels, Policy, topology_of, least_line, map_lines, no_room, placed, IsPlan}

pub one_plan : (policy : Policy) (arities : List ℕ) (above : ℕ) (fits others : Bool) (text other : List ℕ)
    → IsPlan policy arities above fits text → IsPlan policy arities above others other → (fits ≡ others) × (text ≡ other)
one_plan policy arities above _ _ _ _ (placed h images n e c) (placed k others m f d) =
    let heights : h ≡ k = topologies_have_one_need-holds.one (levels arities above) (topology_of policy.tree) h k n m in
    let same : images ≡ others = canonical_placements_are_one-holds (levels arities above) (length arities) (topology_of policy.tree) images others c d in
    (refl, ap (λ (j : ℕ). least_line j ++ map_lines policy images) heights ∙ ap (λ t. least_line k ++ map_lines policy t) same)
one_plan policy arities above _ _ _ _ (placed h images n e c) (no_room k m f) = absurd (f e)
one_plan policy arities above _ _ _ _ (no_room h n e) (placed k others m f d) = absurd (e f)
one_plan policy arities above _ _ _ _ (no_room h n e) (no_room k m f) =
    (refl, ap least_line (topologies_have_one_need-holds.one (levels arities above) (topology_of policy.tree) h k n m))
