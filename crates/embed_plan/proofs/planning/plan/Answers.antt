use Rattle.embed_plan.proofs.Prelude.{◌++◌, ◌∙◌, List, ap, sym, ℕ, length, false, subst, true, HasEmbedding, image_map, levels, complete, Topology, least_line, map_lines, no_room, placed, IsPlan}
use Rattle.std.specs.Prelude.{Err}
use Rattle.embed_defs.specs.Need.{IsNeed}
use Rattle.embed_defs.specs.Canonical.{IsCanonical}
use Rattle.embed_plan.proofs.planning.plan.Goals as goal

pub returns-in_ok-put_maps-in-Ok : goal.returns-in_ok-put_maps-in-Ok
returns-in_ok-put_maps-in-Ok c =
    let policy = c.args.policy.now.policy in
    let t = c.args.target.now in
    let by_height = levels t.arities t.above in
    let images = c.in-Ok.map in
    let height = c.in_ok-least_height.field-0 in
    let need = subst (λ (s : Topology). IsNeed by_height s height) c.topo.ensures.topology c.in_ok-least_height.ensures.need in
    let has = subst (λ (s : Topology). HasEmbedding s (complete t.arities)) c.topo-2.ensures.topology (image_map images, c.in-Ok.ensures.embedding) in
    let canonical = subst (λ (s : Topology). IsCanonical by_height (length t.arities) s images) c.topo-2.ensures.topology c.in-Ok.ensures.canonical in
    let least = c.in_ok-put_least.ensures ∙ ap (λ (s : List ℕ). s ++ least_line height) c.new-text.ensures.items in
    let text = c.in_ok-put_maps-in-Ok.ensures ∙ ap (λ (s : List ℕ). s ++ map_lines policy images) least in
    record { plan = subst (λ (s : List ℕ). IsPlan policy t.arities t.above true s) (sym text) (placed height images need has canonical) }

pub returns-in-Err-NoEmbedding : goal.returns-in-Err-NoEmbedding
returns-in-Err-NoEmbedding c =
    let policy = c.args.policy.now.policy in
    let t = c.args.target.now in
    let height = c.in_ok-least_height.field-0 in
    let need = subst (λ (s : Topology). IsNeed (levels t.arities t.above) s height) c.topo.ensures.topology c.in_ok-least_height.ensures.need in
    let none = subst (λ (s : Topology). HasEmbedding s (complete t.arities) → ⊥) c.topo-2.ensures.topology (c.embed.ensures.none (c.in-Err-NoEmbedding.is ∙ ap Err c.in-Err-NoEmbedding.field-0-is)) in
    let least = c.in_ok-put_least.ensures ∙ ap (λ (s : List ℕ). s ++ least_line height) c.new-text.ensures.items in
    record { plan = subst (λ (s : List ℕ). IsPlan policy t.arities t.above false s) (sym least) (no_room height need none) }
