use Rattle.embed_core.proofs.Prelude.{arith, sym, ◌∙◌, ap, List, ◌+◌, ℕ, [], refl, ◌∷◌, drop, ◌++◌, rules, append_assoc, image_depths}
use Rattle.embed_core.proofs.LiftSteps.{step-within}
use Rattle.embed_core.proofs.DepthSteps.{IsDepthStep, depth-down}
use Rattle.embed_core.proofs.map.Map.+depths_from.Goals as goal

pub index-child-requires : goal.index-child-requires
index-child-requires t c =
    omega (
      arith,
      step-within c.self.inside.image.items c.self.inside.children.items c.args.self.now c.args.step c.args.address.now c.self.view_is (omega (arith, c.if-step-address.true)) c.requires.leaf,
      c.self.inside.children.ok.0,
    )

pub depths_from-requires : goal.depths_from-requires
depths_from-requires t c =
    let s : IsDepthStep c.args.self.now c.args.step c.args.address.now c.index-child.result.now
    = depth-down c.self.inside.image.items c.self.inside.children.items c.args.self.now c.args.step c.args.address.now c.self.view_is (omega (arith, c.if-step-address.true)) c.requires.leaf _ c.index-child.result.now refl c.index-child.ensures in
    (search rules, (s.leaf_below, omega (arith, c.if-step-address.true)))

pub returns-in_ok-depths_from : goal.returns-in_ok-depths_from
returns-in_ok-depths_from t c =
    let s : IsDepthStep c.args.self.now c.args.step c.args.address.now c.index-child.result.now
    = depth-down c.self.inside.image.items c.self.inside.children.items c.args.self.now c.args.step c.args.address.now c.self.view_is (omega (arith, c.if-step-address.true)) c.requires.leaf _ c.index-child.result.now refl c.index-child.ensures in
    let below : List ℕ = image_depths c.index-child.result.now (drop (c.args.step + 1) c.args.address.now) in
    record {
      depths = c.in_ok-depths_from.ensures.depths
          ∙ ap (λ (z : List ℕ). z ++ below) c.in_ok-push.ensures.items
          ∙ append_assoc c.args.depths.now.items (c.depth.result ∷ []) below
          ∙ ap (λ (n : ℕ). c.args.depths.now.items ++ n ∷ below) c.depth.ensures.depth
          ∙ ap (λ (z : List ℕ). c.args.depths.now.items ++ z) (sym s.depths);
    }
